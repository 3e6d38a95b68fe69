-- A source in memory gives a piece.
use Rattle.std.proofs.Common.{◌≡◌, ◌∙◌, ap, sym, refl, ℕ, ◌<◌, ◌≤◌, Bool, true, false, min, List, ◌++◌, length, take, drop, Some, arith}
use Rattle.std.proofs.lemmas.List.{take_at, take-append-drop, length-take-le, drop_all}
use Rattle.std.proofs.lemmas.Bool.Decides.{nat_tests}
use Rattle.world_io.specs.Io.{GaveSome}
use Rattle.world_io.specs.Memory.{ended_after}

ends : (ended : Bool) (count size : ℕ) → 0 < size → count ≡ 0 → ended_after ended count size ≡ true
ends true count size s z = refl
ends false count size s z = grind (arith, nat_tests)

goes_on : (ended : Bool) (count size : ℕ) → 0 < count → ended_after ended count size ≡ ended
goes_on true count size s = refl
goes_on false count size s = grind (arith, nat_tests)

unasked_goes_on : (ended : Bool) (count size : ℕ) → size ≡ 0 → ended_after ended count size ≡ ended
unasked_goes_on true count size z = refl
unasked_goes_on false count size z = grind (arith, nat_tests)

-- a piece at the front of the buffer, and what is left, are all
front_and_rest : (left before : List ℕ) (count : ℕ) → count ≤ length left → left ≡ take count (take count left ++ drop count before) ++ drop count left
front_and_rest left before count h =
    sym (ap (λ front. front ++ drop count left) (take_at (take count left) (drop count before) count (length-take-le count left h)) ∙ take-append-drop count left)

module _ (most count faults : ℕ) (left before piece rest : List ℕ) (old_ended new_ended : Bool) where
  pub gives_piece : 1 ≤ most → count ≡ min (min most (length before)) (length left) → piece ≡ take count left → rest ≡ drop count left → new_ended ≡ ended_after old_ended count (length before) → GaveSome (record { left = Some left; ended = old_ended; faults = faults }) (record { left = Some rest; ended = new_ended; faults = faults }) (length before) (piece ++ drop count before) count
  gives_piece some is_count is_piece is_rest is_ended = record {
    fits = omega arith;
    gave = record { left = ap Some (rw (is_piece, is_rest) (front_and_rest left before count (omega arith))) };
    faults = refl;
    nothing = λ asked none. record { ended = is_ended ∙ ends old_ended count (length before) asked none; nothing = is_rest ∙ drop_all count left (omega arith) };
    more = λ given. is_ended ∙ goes_on old_ended count (length before) given;
    unasked = λ unasked. is_ended ∙ unasked_goes_on old_ended count (length before) unasked;
  }
