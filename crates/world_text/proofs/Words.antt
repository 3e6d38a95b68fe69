-- Laws of tables of words.
use Rattle.std.proofs.Common.{◌≡◌, ℕ, Bool, true, false, cond, List, [], ◌∷◌, bytes_eq, None, sym, refl}
use Rattle.std.specs.List.{AllByRecursion}
use Rattle.std.proofs.lemmas.Bool.{false_from_ne_true}
use Rattle.std.proofs.lemmas.Slice.Eq.{bytes_eq-Decides}
use Rattle.world_text.specs.Fields.{Row, after_word, give_some}
use Rattle.world_text.proofs.Exactly.{Only, only_some}

other_word : (text word : List ℕ) → (word ≡ text → ⊥) → bytes_eq text word ≡ false
other_word text word other = false_from_ne_true _ (λ same. other (sym ((bytes_eq-Decides text word).0 same)))

-- nothing reads what follows a word that no row has
pub no_word : {A : Type 0} (rows : List (Row A)) (word : List ℕ) (fields : List (List ℕ)) → AllByRecursion (λ r. word ≡ r.word → ⊥) rows → after_word rows word fields ≡ None
unfolding give_some
no_word [] word fields others = refl
no_word (r ∷ rows) word fields others = rw (other_word r.word word others.0) (no_word rows word fields others.1)

-- what holds of each row's word and of what it reads holds of any word and of what follows it
module _ {A : Type 0} (Q : List ℕ → List (List ℕ) → A → Type 0) where
  this_or : (r : Row A) (rows : List (Row A)) (word : List ℕ) (same : Bool) → bytes_eq r.word word ≡ same → Only r.reads (Q r.word) → Only (after_word rows word) (Q word) → Only (cond same r.reads (after_word rows word)) (Q word)
  this_or r rows word true e this others = let same = (bytes_eq-Decides r.word word).0 e in rw same at this
  this_or r rows word false e this others = others

  pub only_word : (rows : List (Row A)) (word : List ℕ) → AllByRecursion (λ r. Only r.reads (Q r.word)) rows → Only (after_word rows word) (Q word)
  only_word [] word all = only_some None (λ value h. cc)
  only_word (r ∷ rows) word all = this_or r rows word (bytes_eq r.word word) refl all.0 (only_word rows word all.1)
