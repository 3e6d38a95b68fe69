-- The place that a search for a byte finds.
use Rattle.std.proofs.Common.{◌≡◌, ℕ, ◌<◌, Bool, true, false, cond, ltb, List, length, Option, Some, None, position}
use Rattle.std.proofs.Common.{arith}
use Rattle.std.specs.List.{position_or_len}
use Rattle.std.proofs.lemmas.Bool.{false_from_ne_true}
use Rattle.std.proofs.lemmas.List.Sums.{position_or_len_is}
use Rattle.memchr.specs.Find.{IsFirstByte}

placed : (test : ℕ → Bool) (bytes : List ℕ) (i : ℕ) (found : Bool) → position_or_len test bytes ≡ i
    → ltb i (length bytes) ≡ found → cond found (Some i) None ≡ position test bytes
placed test bytes i found at is = rw (at, is)

-- the first place that a search finds is the position
pub position_is : (test : ℕ → Bool) (bytes : List ℕ) (r : Option ℕ) → IsFirstByte test bytes r
    → r ≡ position test bytes
position_is test bytes None h =
    let fails = λ (k : ℕ) (l : k < length bytes). false_from_ne_true _ (h k (omega arith) l) in
    let at = position_or_len_is test bytes (length bytes) 0 (omega arith) fails (λ l. absurd (omega arith)) in
    placed test bytes (length bytes) false at (grind arith)
position_is test bytes (Some i) h =
    let fails = λ (k : ℕ) (l : k < i). false_from_ne_true _ (h.0.before k (omega arith) l) in
    placed test bytes i true (position_or_len_is test bytes i 0 (omega arith) fails (λ l. h.1)) (grind arith)
