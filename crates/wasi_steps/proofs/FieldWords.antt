-- A word is looked for as bytes: one that is no text is the word of no row.
use Rattle.std.proofs.Common.{◌≡◌, ℕ, Bool, true, false, List, [], ◌∷◌, None, IsUtf8, refl, sym, arith}
use Rattle.std.specs.List.{AllByRecursion, list_all}
use Rattle.std.specs.Str.{is_utf8}
use Rattle.std.proofs.lemmas.Bool.{and_parts}
use Rattle.std.proofs.lemmas.Str.{IsUtf8-from_is_utf8, is_utf8-from_IsUtf8}
use Rattle.world_text.specs.Fields.{Reader, Row, read_then, field_at, word_at, after_word, number_in}
use Rattle.world_text.specs.Written.{is_visible}
use Rattle.world_text.proofs.Reading.{word_found, word_none}
use Rattle.world_text.proofs.Visible.{visible_utf8}
use Rattle.world_text.proofs.Words.{no_word}
use Rattle.world_text.proofs.Numbers.{no_text}
use Rattle.wasi_steps.specs.Steps.{bare_rows, after_first, step_reader}

abbrev pub are_visible : {A : Type 0} → List (Row A) → Bool
are_visible rows = list_all (λ r. list_all is_visible r.word) rows

others : {A : Type 0} (rows : List (Row A)) (field : List ℕ) → are_visible rows ≡ true → (IsUtf8 field → ⊥) → AllByRecursion (λ r. field ≡ r.word → ⊥) rows
others [] field all other = tt
others (r ∷ rows) field all other =
    let both = and_parts (list_all is_visible r.word) _ all in
    ((λ same. other (rw same (visible_utf8 r.word both.0))), others rows field both.1 other)

-- nothing reads what follows a field that is no text
pub no_text_word : {A : Type 0} (rows : List (Row A)) (field : List ℕ) (rest : List (List ℕ)) → are_visible rows ≡ true → (IsUtf8 field → ⊥) → after_word rows field rest ≡ None
no_text_word rows field rest all other = no_word rows field rest (others rows field all other)

no_both : (b : Bool) → b ≡ true → b ≡ false → ⊥
no_both b t f = cc

either : {A : Type 0} (next : List ℕ → Reader A) (field : List ℕ) (rest : List (List ℕ)) → ((IsUtf8 field → ⊥) → next field rest ≡ None) → (b : Bool) → is_utf8 field ≡ b → read_then word_at next (field ∷ rest) ≡ next field rest
unfolding read_then
either next field rest none true e = rw (word_found (field ∷ rest) rest field field refl refl (IsUtf8-from_is_utf8 field e)) refl
either next field rest none false e =
    let other : IsUtf8 field → ⊥ = λ utf8. no_both (is_utf8 field) (is_utf8-from_IsUtf8 field utf8) e in
    rw (word_none (field ∷ rest) rest field refl other) (sym (none other))

-- a field may be read in place of a word, where what follows reads nothing after a field that is no text
pub by_field : {A : Type 0} (next : List ℕ → Reader A) (field : List ℕ) (rest : List (List ℕ)) → ((IsUtf8 field → ⊥) → next field rest ≡ None) → read_then word_at next (field ∷ rest) ≡ next field rest
by_field next field rest none = either next field rest none (is_utf8 field) refl

-- and where no field is left, nothing does
pub no_field : {A : Type 0} (next : List ℕ → Reader A) (fields : List (List ℕ)) → fields ≡ [] → read_then word_at next fields ≡ None
unfolding read_then word_at field_at
no_field next fields none = rw none refl

-- a table reads after a field what it reads after a word
pub by_word : {A : Type 0} (rows : List (Row A)) (old rest : List (List ℕ)) (field : List ℕ) → are_visible rows ≡ true → old ≡ field ∷ rest → read_then word_at (after_word rows) old ≡ after_word rows field rest
by_word rows old rest field all e = rw e (by_field (after_word rows) field rest (no_text_word rows field rest all))

-- and so does a step, whose first field may be a context's number
no_first : (contexts : ℕ) (field : List ℕ) (rest : List (List ℕ)) → (IsUtf8 field → ⊥) → after_first contexts field (number_in field 4294967295) rest ≡ None
no_first contexts field rest other = rw (no_text field 4294967295 (omega arith) other) (no_text_word bare_rows field rest refl other)

pub by_first : (contexts : ℕ) (old rest : List (List ℕ)) (field : List ℕ) → old ≡ field ∷ rest → step_reader contexts old ≡ after_first contexts field (number_in field 4294967295) rest
unfolding step_reader
by_first contexts old rest field e = rw e (by_field (λ first. after_first contexts first (number_in first 4294967295)) field rest (no_first contexts field rest))
