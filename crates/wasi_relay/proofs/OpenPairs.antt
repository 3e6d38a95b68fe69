-- Where the pairs stand that aren't over.
use Rattle.std.proofs.Common.{◌≡◌, ◌∙◌, ℕ, suc, ◌+◌, refl, sym, ap, List, [], ◌∷◌, ◌++◌, length, filter, Bool, true, false, not, append_assoc, length-append, arith}
use Rattle.std.proofs.lemmas.List.Sums.{length-filter}
use Rattle.wasi_relay.specs.declared.pair.Pair.{Pair}
use Rattle.wasi_relay.specs.Pair.{is_over, open_pairs}
use Rattle.wasi_relay.specs.OpenPairs.{open_from, open_places, is_open_at}

pub one_more : (done : List Pair) (pair : Pair) → length (done ++ pair ∷ []) ≡ length done + 1
one_more done pair = length-append done (pair ∷ [])

-- as many as there are
open_count_from : (place : ℕ) (pairs : List Pair) → length (open_from place pairs) ≡ length (filter (λ pair. not (is_over pair)) pairs)
open_count_from place [] = refl
open_count_from place (pair ∷ pairs) = by_test (is_over pair) refl (open_count_from (place + 1) pairs)
  where
    by_test : (b : Bool) → is_over pair ≡ b → length (open_from (place + 1) pairs) ≡ length (filter (λ pair. not (is_over pair)) pairs) → length (open_from place (pair ∷ pairs)) ≡ length (filter (λ pair. not (is_over pair)) (pair ∷ pairs))
    by_test true over h = rw over h
    by_test false still h = rw still (ap suc h)

pub open_count : (pairs : List Pair) → length (open_places pairs) ≡ open_pairs pairs
open_count pairs = open_count_from 0 pairs ∙ length-filter (λ pair. not (is_over pair)) pairs

-- one more behind the others
more_from : (place : ℕ) (pairs : List Pair) (pair : Pair) → is_over pair ≡ false → open_from place (pairs ++ pair ∷ []) ≡ open_from place pairs ++ (place + length pairs) ∷ []
more_from place [] pair still = rw still (ap (λ n. n ∷ []) (omega arith))
more_from place (x ∷ pairs) pair still = by_test (is_over x) refl (more_from (place + 1) pairs pair still ∙ ap (λ n. open_from (place + 1) pairs ++ n ∷ []) (omega arith))
  where
    by_test : (b : Bool) → is_over x ≡ b → open_from (place + 1) (pairs ++ pair ∷ []) ≡ open_from (place + 1) pairs ++ (place + length (x ∷ pairs)) ∷ [] → open_from place (x ∷ pairs ++ pair ∷ []) ≡ open_from place (x ∷ pairs) ++ (place + length (x ∷ pairs)) ∷ []
    by_test true over h = rw over h
    by_test false stays h = rw stays (ap (λ (places : List ℕ). place ∷ places) h)

pub open_more : (pairs : List Pair) (pair : Pair) → is_over pair ≡ false → open_places (pairs ++ pair ∷ []) ≡ open_places pairs ++ length pairs ∷ []
open_more pairs pair still = more_from 0 pairs pair still ∙ ap (λ n. open_places pairs ++ n ∷ []) (omega arith)

-- == what is kept of the places
-- A pair that was over still is.
abbrev pub StayOver : List Pair → List Pair → Type 0
StayOver [] [] = Unit {0}
StayOver (pair ∷ pairs) (now ∷ nows) = (is_over pair ≡ true → is_over now ≡ true) × StayOver pairs nows
StayOver _ _ = ⊥

stay_over : (pairs : List Pair) → StayOver pairs pairs
stay_over [] = tt
stay_over (pair ∷ pairs) = (λ over. over, stay_over pairs)

pub over_more : (front now : List Pair) (pair after : Pair) → is_over pair ≡ false → StayOver front now → StayOver (front ++ pair ∷ []) (now ++ after ∷ [])
over_more [] [] pair after still h = (λ over. absurd (cc), tt)
over_more (x ∷ front) (y ∷ now) pair after still h = (h.0, over_more front now pair after still h.1)
over_more [] (y ∷ now) pair after still h = absurd h
over_more (x ∷ front) [] pair after still h = absurd h

pub over_join : (front now later : List Pair) → StayOver front now → StayOver (front ++ later) (now ++ later)
over_join [] [] later h = stay_over later
over_join (x ∷ front) (y ∷ now) later h = (h.0, over_join front now later h.1)
over_join [] (y ∷ now) later h = absurd h
over_join (x ∷ front) [] later h = absurd h

at_length : (front : List Pair) (pair : Pair) (later : List Pair) → is_open_at (front ++ pair ∷ later) (length front) ≡ not (is_over pair)
at_length [] pair later = refl
at_length (x ∷ front) pair later = at_length front pair later

keeps_from : (front pairs now : List Pair) → StayOver pairs now → filter (is_open_at (front ++ now)) (open_from (length front) pairs) ≡ open_from (length front) now
keeps_from front [] [] h = refl
keeps_from front (pair ∷ pairs) (after ∷ now) h = by_test (is_over pair) refl (rw (← append_assoc front (after ∷ []) now, ← one_more front after) (keeps_from (front ++ after ∷ []) pairs now h.1))
  where
    by_after : (b : Bool) → is_over after ≡ b → is_over pair ≡ false → filter (is_open_at (front ++ after ∷ now)) (open_from (length front + 1) pairs) ≡ open_from (length front + 1) now → filter (is_open_at (front ++ after ∷ now)) (open_from (length front) (pair ∷ pairs)) ≡ open_from (length front) (after ∷ now)
    by_after true over still rest = rw (still, at_length front after now, over) rest
    by_after false stays still rest = rw (still, at_length front after now, stays) (ap (λ (ps : List ℕ). length front ∷ ps) rest)

    by_test : (b : Bool) → is_over pair ≡ b → filter (is_open_at (front ++ after ∷ now)) (open_from (length front + 1) pairs) ≡ open_from (length front + 1) now → filter (is_open_at (front ++ after ∷ now)) (open_from (length front) (pair ∷ pairs)) ≡ open_from (length front) (after ∷ now)
    by_test true over rest = let too : is_over after ≡ true = h.0 over in rw (over, too) rest
    by_test false still rest = by_after (is_over after) refl still rest
keeps_from front [] (after ∷ now) h = absurd h
keeps_from front (pair ∷ pairs) [] h = absurd h

pub keeps : (pairs now : List Pair) → StayOver pairs now → filter (is_open_at now) (open_places pairs) ≡ open_places now
keeps pairs now h = keeps_from [] pairs now h
