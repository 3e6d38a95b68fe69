-- Newlines end lines.
use Rattle.wasi_run.proofs.Words.{◌==◌, if◌then◌else◌, count_by, ◌≡◌, ℕ, ◌+◌, Bool, true, false, List, [], ◌∷◌, ◌++◌, length, refl, arith, lines_from, lines_of}
use Rattle.std.proofs.lemmas.List.Recursion.{is_count_by}

-- whatever the first line has so far, there are as many
ends_same : (t : Bool) (a b : List ℕ) (lines first second : List (List ℕ)) → length first ≡ length second → length (if t then a ∷ lines else first) ≡ length (if t then b ∷ lines else second)
ends_same true a b lines first second h = refl
ends_same false a b lines first second h = h

same_count : (a b text : List ℕ) → length (lines_from a text) ≡ length (lines_from b text)
same_count a b [] = refl
same_count a b (c ∷ text) = ends_same (c == 10) a b (lines_from [] text) (lines_from (a ++ c ∷ []) text) (lines_from (b ++ c ∷ []) text) (same_count (a ++ c ∷ []) (b ++ c ∷ []) text)

one_more : (t : Bool) (front : List ℕ) (lines next : List (List ℕ)) → length next ≡ length lines → length (if t then front ∷ lines else next) ≡ (if t then 1 + length lines else length lines)
one_more true front lines next h = grind arith
one_more false front lines next h = h

-- there are as many lines as newlines
pub newlines : (text : List ℕ) → length (lines_of text) ≡ count_by (λ b. b == 10) text
newlines text = is_count_by (λ text. length (lines_of text)) (λ b. b == 10) refl (λ b text. one_more (b == 10) [] (lines_of text) (lines_from ([] ++ b ∷ []) text) (same_count ([] ++ b ∷ []) [] text)) text
