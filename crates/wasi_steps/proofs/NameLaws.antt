-- A host name is read exactly, at the end of a line, and a line of text and of names is text.
use Rattle.std.proofs.Common.{◌≡◌, ℕ, ◌<◌, Bool, true, false, cond, ◌||◌, List, [], ◌∷◌, ◌++◌, Some, None, Result, Ok, Err, is_ok, MatchResult, slice_index, zero, suc, IsUtf8, append-nil, append_assoc, refl, ap, sym, ◌∙◌, arith}
use Rattle.std.specs.List.{list_all}
use Rattle.std.specs.Str.{is_utf8}
use Rattle.std.proofs.lemmas.Bool.{and_parts}
use Rattle.std.proofs.lemmas.Bool.Decides.{nat_tests}
use Rattle.std.proofs.lemmas.List.Folds.{list_all-append}
use Rattle.std.proofs.lemmas.List.Splits.{join_with_byte-slice_split}
use Rattle.std.proofs.lemmas.Str.{IsUtf8-append, IsUtf8-from_ascii, IsUtf8-from_is_utf8, is_utf8-from_IsUtf8}
use Rattle.world_text.specs.Fields.{is_space, fields_of, line_with, read_then, give_some, rest_at}
use Rattle.world_text.specs.Written.{is_visible, IsVisible}
use Rattle.world_text.proofs.Exactly.{only_some}
use Rattle.world_text.proofs.FieldsOf.{rest_all, rest_only}
use Rattle.wasi_steps.specs.Names.{ends_no_line, IsText, is_name, IsName, name_at}
use Rattle.wasi_steps.proofs.LineEnds.{ReadsLast, Last, lastly, only_next}

-- == the test of UTF-8
no_utf8 : (utf8 : Bool) (text : List ℕ) → is_utf8 text ≡ utf8 → (IsUtf8 text → ⊥) → utf8 ≡ false
no_utf8 true text h other = absurd (other (IsUtf8-from_is_utf8 text h))
no_utf8 false text h other = refl

pub utf8_is : {A E : Type 0} (text : List ℕ) (found : Result A E) (P : A → Type 0) (Q : E → Type 0) → MatchResult found (λ s. P s × IsUtf8 text) (λ e. (IsUtf8 text → ⊥) × Q e) → is_ok found ≡ is_utf8 text
utf8_is text (Ok s) P Q h = sym (is_utf8-from_IsUtf8 text h.1)
utf8_is text (Err e) P Q h = sym (no_utf8 (is_utf8 text) text refl h.0)

-- == names
rest_last : ReadsLast rest_at fields_of (λ text. Unit {0})
rest_last = record {
  only = λ text fields rest h. let is = rest_only fields rest text h in (tt, rw is.0 (is.1 ∙ sym (append-nil (fields_of text))));
  all = λ text u. rest_all text;
}

kept : (name : Bool) (text found : List ℕ) → cond name (Some text) None ≡ Some found → (name ≡ true) × (text ≡ found)
kept true text found h = (refl, cc)
kept false text found h = cc

name_all : (name : List ℕ) → IsName name → Last name_at name (fields_of name)
unfolding name_at read_then give_some
name_all name is = record { given = rw (rest_all name, is) refl }

pub name_last : ReadsLast name_at fields_of IsName
unfolding name_at
name_last = lastly
    (only_next _ rest_last (λ text u. only_some _ (λ name h.
    let is = kept (is_name text) text name h in
    (rw is.1 at is.0, append-nil (fields_of text) ∙ ap fields_of is.1))))
    name_all

-- == text
text_from : (text : List ℕ) → IsUtf8 text → list_all ends_no_line text ≡ true → IsText text
text_from text utf8 unbroken = rw (is_utf8-from_IsUtf8 text utf8, unbroken) refl

text_utf8 : (text : List ℕ) → IsText text → IsUtf8 text
text_utf8 text is = IsUtf8-from_is_utf8 text (and_parts (is_utf8 text) _ is).0

-- no line ends in text
pub text_unbroken : (text : List ℕ) → IsText text → list_all ends_no_line text ≡ true
text_unbroken text is = (and_parts (is_utf8 text) _ is).1

text_append : (front more : List ℕ) → IsText front → IsText more → IsText (front ++ more)
text_append front more h k =
    text_from (front ++ more) (IsUtf8-append front more (text_utf8 front h) (text_utf8 more k))
    (list_all-append ends_no_line front more ∙ rw (text_unbroken front h, text_unbroken more k) refl)

ascii : (b : ℕ) → (is_visible b || is_space b) ≡ true → b < 128
ascii b h = grind (arith, nat_tests)

unbroken : (b : ℕ) → (is_visible b || is_space b) ≡ true → ends_no_line b ≡ true
unbroken b h = grind (arith, nat_tests)

line_ascii : (line : List ℕ) → IsVisible line → (i : ℕ) → slice_index line i < 128
line_ascii [] h i = omega arith
line_ascii (b ∷ line) h zero = ascii b (and_parts (is_visible b || is_space b) _ h).0
line_ascii (b ∷ line) h (suc i) = line_ascii line (and_parts (is_visible b || is_space b) _ h).1 i

line_unbroken : (line : List ℕ) → IsVisible line → list_all ends_no_line line ≡ true
line_unbroken [] h = refl
line_unbroken (b ∷ line) h =
    let both = and_parts (is_visible b || is_space b) _ h in
    rw (unbroken b both.0) (line_unbroken line both.1)

-- visible characters and spaces are text
pub visible_text : (line : List ℕ) → IsVisible line → IsText line
visible_text line h = text_from line (IsUtf8-from_ascii line (line_ascii line h)) (line_unbroken line h)

-- and so is a name, put together from its fields
pub name_text : (name : List ℕ) → IsName name → IsText (line_with (fields_of name))
name_text name is = rw (join_with_byte-slice_split 32 name) is

line_both : (first : List ℕ) (fields : List (List ℕ)) (next : List ℕ) (more : List (List ℕ)) → line_with (first ∷ (fields ++ next ∷ more)) ≡ line_with (first ∷ fields) ++ (32 ∷ line_with (next ∷ more))
line_both first [] next more = refl
line_both first (field ∷ fields) next more =
    ap (λ rest. first ++ (32 ∷ rest)) (line_both field fields next more) ∙ sym (append_assoc first (32 ∷ line_with (field ∷ fields)) (32 ∷ line_with (next ∷ more)))

-- the line of the fields of two lines that are text
pub text_both : (fields more : List (List ℕ)) → IsText (line_with fields) → IsText (line_with more) → IsText (line_with (fields ++ more))
text_both [] more h k = k
text_both (field ∷ fields) [] h k = rw (append-nil fields) h
text_both (field ∷ fields) (next ∷ more) h k =
    rw (line_both field fields next more)
    (text_append (line_with (field ∷ fields)) (32 ∷ line_with (next ∷ more)) h (text_append (32 ∷ []) (line_with (next ∷ more)) (visible_text (32 ∷ []) refl) k))
