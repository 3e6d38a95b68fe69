-- What lies outside of what is put stays.
use Rattle.std.specs.Prelude.{ℕ, zero, suc, ◌≡◌, ◌≤◌, ◌+◌, List, [], ◌∷◌, ◌++◌, length, drop, slice_get}
use Rattle.std.proofs.Common.{refl, arith, inl, inr}
use Rattle.embed_flat.specs.Memory.{put, IsOutside}

front_kept : (bytes memory : List ℕ) (k : ℕ) → length bytes ≤ length memory → length bytes ≤ k → slice_get (bytes ++ drop (length bytes) memory) k ≡ slice_get memory k
front_kept [] memory k h o = refl
front_kept (b ∷ bytes) [] k h o = absurd (omega arith)
front_kept (b ∷ bytes) (x ∷ memory) zero h o = absurd (omega arith)
front_kept (b ∷ bytes) (x ∷ memory) (suc k) h o = let fits : length bytes ≤ length memory = omega arith in let behind : length bytes ≤ k = omega arith in front_kept bytes memory k fits behind

shifted : (at len k : ℕ) → IsOutside (suc at) len (suc k) → IsOutside at len k
shifted at len k (inl h) = inl (omega arith)
shifted at len k (inr h) = inr (omega arith)

pub put-kept : (at : ℕ) (memory bytes : List ℕ) (k : ℕ) → at + length bytes ≤ length memory → IsOutside at (length bytes) k → slice_get (put memory at bytes) k ≡ slice_get memory k
put-kept zero memory bytes k h (inl o) = absurd (omega arith)
put-kept zero memory bytes k h (inr o) = let fits : length bytes ≤ length memory = omega arith in let behind : length bytes ≤ k = omega arith in front_kept bytes memory k fits behind
put-kept (suc at) [] bytes k h o = absurd (omega arith)
put-kept (suc at) (x ∷ memory) bytes zero h o = refl
put-kept (suc at) (x ∷ memory) bytes (suc k) h o = let fits : at + length bytes ≤ length memory = omega arith in put-kept at memory bytes k fits (shifted at (length bytes) k o)
