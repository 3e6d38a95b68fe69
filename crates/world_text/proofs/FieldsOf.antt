-- Laws of the fields of a line.
use Rattle.std.proofs.Common.{◌≡◌, ℕ, suc, ◌+◌, ◌≤◌, Bool, true, false, not, cond, List, [], ◌∷◌, Option, Some, None, length, take, drop, position, arith, ap, refl, ◌++◌, append_assoc, sym, ◌∙◌}
use Rattle.std.specs.List.{onto_first, position_or_len}
use Rattle.std.proofs.lemmas.List.Splits.{length-slice_split, slice_split_first}
use borrow.Author.Tests.{ltb-true, ltb-false}
use Rattle.std.specs.List.{list_all}
use Rattle.std.proofs.lemmas.Bool.{and_parts}
use Rattle.std.proofs.lemmas.List.Splits.{join_with_byte-slice_split}
use Rattle.world_text.specs.Fields.{is_space, has_no_space, fields_of, line_with, joined, rest_at}

-- a line has a field, even if it is empty
pub fields_of_some : (line : List ℕ) → fields_of line ≡ [] → ⊥
fields_of_some line none = omega (arith, length-slice_split is_space line, ap length none)

chosen : (b : Bool) (n at : ℕ) → cond b (Some n) None ≡ Some at → (b ≡ true) × (n ≡ at)
chosen true n at h = (refl, cc)
chosen false n at h = (cc, cc)

not_chosen : (b : Bool) (n : ℕ) → cond b (Some n) None ≡ None → b ≡ false
not_chosen true n h = cc
not_chosen false n h = refl

-- the first field ends at the first space
pub fields_of_at : (line : List ℕ) (at : ℕ) → position is_space line ≡ Some at → fields_of line ≡ take at line ∷ fields_of (drop (at + 1) line)
fields_of_at line at found =
    let there = chosen _ _ _ found in
    let first = slice_split_first is_space line 0 (ltb-true _ _ there.0) in
    rw there.1 at first

one_more : (b : Bool) (x : ℕ) (xs : List ℕ) → suc (length xs) ≤ cond (not b) (1 + position_or_len is_space xs) 0 → (length xs ≤ position_or_len is_space xs → fields_of xs ≡ xs ∷ []) → cond b ([] ∷ fields_of xs) (onto_first x (fields_of xs)) ≡ (x ∷ xs) ∷ []
one_more true x xs h more = absurd (omega arith)
one_more false x xs h more = rw (more (omega arith))

whole : (line : List ℕ) → length line ≤ position_or_len is_space line → fields_of line ≡ line ∷ []
whole [] h = refl
whole (x ∷ xs) h = one_more (is_space x) x xs h (whole xs)

-- a line with no space is one field
pub fields_of_whole : (line : List ℕ) → position is_space line ≡ None → fields_of line ≡ line ∷ []
fields_of_whole line none = whole line (ltb-false _ _ (not_chosen _ _ none))

-- the line with one field more
pub line_with-push : (first : List ℕ) (fields : List (List ℕ)) (last : List ℕ) → line_with (first ∷ (fields ++ last ∷ [])) ≡ line_with (first ∷ fields) ++ (32 ∷ last)
line_with-push first [] last = refl
line_with-push first (field ∷ fields) last =
    ap (λ rest. first ++ (32 ∷ rest)) (line_with-push field fields last) ∙ sym (append_assoc first (32 ∷ line_with (field ∷ fields)) (32 ∷ last))

-- == fields and spaces
with_first : (b : Bool) (x : ℕ) (fields : List (List ℕ)) → is_space x ≡ b → list_all has_no_space fields ≡ true → list_all has_no_space (cond b ([] ∷ fields) (onto_first x fields)) ≡ true
with_first true x fields e h = h
with_first false x [] e h = rw e refl
with_first false x (field ∷ fields) e h = rw e h

-- no field of a line holds a space
pub no_spaces : (line : List ℕ) → list_all has_no_space (fields_of line) ≡ true
no_spaces [] = refl
no_spaces (x ∷ xs) = with_first (is_space x) x (fields_of xs) refl (no_spaces xs)

not_space : (b : Bool) → not b ≡ true → b ≡ false
not_space true h = cc
not_space false h = refl

split_first : (field rest : List ℕ) → has_no_space field ≡ true → fields_of (field ++ 32 ∷ rest) ≡ field ∷ fields_of rest
split_first [] rest h = refl
split_first (b ∷ field) rest h =
    let both = and_parts (not (is_space b)) _ h in
    rw (not_space (is_space b) both.0, split_first field rest both.1)

split_last : (field : List ℕ) → has_no_space field ≡ true → fields_of field ≡ field ∷ []
split_last [] h = refl
split_last (b ∷ field) h =
    let both = and_parts (not (is_space b)) _ h in
    rw (not_space (is_space b) both.0, split_last field both.1)

-- a line with such fields has these
pub fields_of_joined : (field : List ℕ) (more : List (List ℕ)) → list_all has_no_space (field ∷ more) ≡ true → fields_of (line_with (field ∷ more)) ≡ field ∷ more
fields_of_joined field [] h = split_last field (and_parts (has_no_space field) _ h).0
fields_of_joined field (next ∷ more) h =
    let both = and_parts (has_no_space field) _ h in
    split_first field (line_with (next ∷ more)) both.0 ∙ ap (λ fs. field ∷ fs) (fields_of_joined next more both.1)

-- == all that is left of a line
rest_of : (fields : List (List ℕ)) → (fields ≡ [] → ⊥) → rest_at fields ≡ joined fields
unfolding rest_at
rest_of [] some = absurd (some refl)
rest_of (field ∷ fields) some = refl

-- is the line itself
pub rest_all : (line : List ℕ) → rest_at (fields_of line) ≡ Some (line, [])
rest_all line = rw (rest_of (fields_of line) (fields_of_some line), no_spaces line, join_with_byte-slice_split 32 line)

joined_is : (b : Bool) (line text : List ℕ) (rest : List (List ℕ)) → ◌≡◌ {A = Option (List ℕ × List (List ℕ))} (cond b (Some (line, [])) None) (Some (text, rest)) → (b ≡ true) × (line ≡ text) × (rest ≡ [])
joined_is true line text rest h =
    let same : ◌≡◌ {A = List ℕ × List (List ℕ)} (line, []) (text, rest) = cc in
    (refl, ap (λ p. p.0) same, sym (ap (λ p. p.1) same))
joined_is false line text rest h = cc

-- and the fields are that line's
pub rest_only : (fields rest : List (List ℕ)) (text : List ℕ) → rest_at fields ≡ Some (text, rest) → (rest ≡ []) × (fields ≡ fields_of text)
unfolding rest_at
rest_only [] rest text h = cc
rest_only (field ∷ more) rest text h =
    let is = joined_is (list_all has_no_space (field ∷ more)) (line_with (field ∷ more)) text rest h in
    (is.2, sym (fields_of_joined field more is.0) ∙ ap fields_of is.1)
