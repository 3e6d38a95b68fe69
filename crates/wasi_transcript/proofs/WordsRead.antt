-- The words of `check`.
use Rattle.std.proofs.Common.{arith, ◌≡◌, ◌≢◌, ◌∙◌, ◌==◌, ap, refl, ℕ, Bool, true, false, not, List, [], ◌∷◌, map, length, bytes_eq, codes}
use Rattle.std.proofs.lemmas.Bool.{false≢true}
use Rattle.std.proofs.lemmas.Slice.Eq.{bytes_eq-Decides}
use Rattle.wasi_transcript.specs.Words.{IsCheck}

not_false : (b : Bool) → false ≡ not b → b ≡ true
not_false true e = refl
not_false false e = absurd (false≢true e)

same_bytes : (xs ys : List ℕ) → false ≡ not (bytes_eq xs ys) → xs ≡ ys
same_bytes xs ys e = (bytes_eq-Decides xs ys).0 (not_false (bytes_eq xs ys) e)

some_file : {A : Type 0} (f : A → List ℕ) (files : List A) → false ≡ (length files == 0) → map f files ≢ []
some_file f [] e = absurd (false≢true e)
some_file f (x ∷ files) e = λ none. let l = ap length none in omega (arith, l)

pub is_check : {A : Type 0} (f : A → List ℕ) (words files : List A) (first : A) → words ≡ first ∷ files → false ≡ not (bytes_eq (f first) (codes "check")) → false ≡ (length files == 0) → IsCheck (map f words) (map f files)
is_check f words files first e same some = (ap (map f) e ∙ ap (λ w. w ∷ map f files) (same_bytes (f first) (codes "check") same), some_file f files some)
