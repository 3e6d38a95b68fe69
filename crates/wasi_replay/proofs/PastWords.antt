-- A word that the first of two tables hasn't is looked for in the second.
use Rattle.std.proofs.Common.{Option, Some, None, ◌≡◌, ℕ, List, [], ◌∷◌, ◌++◌, bytes_eq, refl, sym, ◌∙◌}
use Rattle.std.specs.List.{AllByRecursion}
use Rattle.std.proofs.lemmas.Bool.{false_from_ne_true}
use Rattle.std.proofs.lemmas.Slice.Eq.{bytes_eq-Decides}
use Rattle.world_text.specs.Fields.{Row, Reads, read_then, word_at, after_word}

past_one : {A : Type 0} (r : Row A) (rows : List (Row A)) (word : List ℕ) (fields : List (List ℕ)) → (word ≡ r.word → ⊥) → after_word (r ∷ rows) word fields ≡ after_word rows word fields
past_one r rows word fields other = rw (false_from_ne_true (bytes_eq r.word word) (λ same. other (sym ((bytes_eq-Decides r.word word).0 same))))

pub past_words : {A : Type 0} (rows more : List (Row A)) (word : List ℕ) (fields : List (List ℕ)) → AllByRecursion (λ r. word ≡ r.word → ⊥) rows → after_word (rows ++ more) word fields ≡ after_word more word fields
past_words [] more word fields others = refl
past_words (r ∷ rows) more word fields others = past_one r (rows ++ more) word fields others.0 ∙ past_words rows more word fields others.1

-- what such a table reads where a word was taken first
pub past_word : {A : Type 0} (rows more : List (Row A)) (old fields new : List (List ℕ)) (word : List ℕ) (result : Option A) → word_at old ≡ Some (word, fields) → AllByRecursion (λ r. word ≡ r.word → ⊥) rows → Reads (after_word more word) fields result new → Reads (read_then word_at (λ w. after_word (rows ++ more) w)) old result new
unfolding read_then
past_word rows more old fields new word None h others read = rw (h, past_words rows more word fields others) read
past_word rows more old fields new word (Some value) h others read = rw (h, past_words rows more word fields others) read
