-- A word that the first of two tables hasn't is looked for in the second.
use Rattle.std.proofs.Common.{◌≡◌, ℕ, true, false, if◌then◌else◌, List, [], ◌∷◌, ◌++◌, None, bytes_eq, refl, sym, ◌∙◌}
use Rattle.std.specs.List.{AllByRecursion}
use Rattle.std.proofs.lemmas.Bool.{false_from_ne_true}
use Rattle.std.proofs.lemmas.Slice.Eq.{bytes_eq-Decides}
use Rattle.world_text.specs.Fields.{Row, after_word, give_some}

other_row : {A : Type 0} (r : Row A) (rows : List (Row A)) (word : List ℕ) (fields : List (List ℕ)) → (word ≡ r.word → ⊥) → after_word (r ∷ rows) word fields ≡ after_word rows word fields
other_row r rows word fields other = rw (false_from_ne_true (bytes_eq r.word word) (λ same. other (sym ((bytes_eq-Decides r.word word).0 same))))

pub past_words : {A : Type 0} (rows more : List (Row A)) (word : List ℕ) (fields : List (List ℕ)) → AllByRecursion (λ r. word ≡ r.word → ⊥) rows → after_word (rows ++ more) word fields ≡ after_word more word fields
past_words [] more word fields others = refl
past_words (r ∷ rows) more word fields others = other_row r (rows ++ more) word fields others.0 ∙ past_words rows more word fields others.1

-- where no row reads the fields, nothing does, whatever the word is
pub none_reads : {A : Type 0} (rows : List (Row A)) (word : List ℕ) (fields : List (List ℕ)) → AllByRecursion (λ r. r.reads fields ≡ None) rows → after_word rows word fields ≡ None
unfolding give_some
none_reads [] word fields all = refl
none_reads (r ∷ rows) word fields all =
    elim (bytes_eq r.word word) as (λ same. (if same then r.reads else after_word rows word) fields ≡ None) [ true ↦ all.0 | false ↦ none_reads rows word fields all.1 ]
