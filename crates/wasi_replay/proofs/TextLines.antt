-- A text of lines falls into these lines, and a text of whole lines is one.
use Rattle.std.proofs.Common.{◌≡◌, ℕ, ◌==◌, ◌||◌, Bool, true, false, cond, List, [], ◌∷◌, ◌++◌, append-nil, append_assoc, ap, sym, ◌∙◌, refl, arith}
use Rattle.std.specs.List.{AllByRecursion}
use Rattle.std.proofs.lemmas.Bool.{and_parts}
use Rattle.std.proofs.lemmas.Bool.Decides.{nat_tests}
use Rattle.world_text.specs.Fields.{is_space}
use Rattle.world_text.specs.Lines.{lines_from, rest_from, lines_of, rest_of}
use Rattle.world_text.specs.Written.{is_visible, IsVisible}
use Rattle.world_text.proofs.LinesOf.{lines-append, rest-append}
use Rattle.wasi_replay.specs.Log.{text_of_lines}

no_newline : (b : ℕ) → (is_visible b || is_space b) ≡ true → (b == 10) ≡ false
no_newline b h = grind (arith, nat_tests)

-- one line and its newline
line_from : (front text : List ℕ) → IsVisible text → (lines_from front (text ++ 10 ∷ []) ≡ (front ++ text) ∷ []) × (rest_from front (text ++ 10 ∷ []) ≡ [])
line_from front [] visible = (ap (λ l. l ∷ []) (sym (append-nil front)), refl)
line_from front (b ∷ text) visible =
    let parts = and_parts (is_visible b || is_space b) _ visible in
    let more = line_from (front ++ b ∷ []) text parts.1 in
    rw (no_newline b parts.0) (more.0 ∙ ap (λ l. l ∷ []) (append_assoc front (b ∷ []) text), more.1)

pub lines_are : (lines : List (List ℕ)) → AllByRecursion IsVisible lines → (lines_of (text_of_lines lines) ≡ lines) × (rest_of (text_of_lines lines) ≡ [])
lines_are [] visible = (refl, refl)
lines_are (text ∷ lines) visible =
    let one = line_from [] text visible.0 in
    let more = lines_are lines visible.1 in (
      lines-append [] (text ++ 10 ∷ []) (text_of_lines lines) ∙ rw (one.0, one.1, more.0) refl,
      rest-append [] (text ++ 10 ∷ []) (text_of_lines lines) ∙ rw one.1 more.1,
    )

byte_back : (front text : List ℕ) (x : ℕ) (newline : Bool) → (x == 10) ≡ newline → text_of_lines (lines_from [] text) ++ rest_from [] text ≡ text → text_of_lines (lines_from (front ++ x ∷ []) text) ++ rest_from (front ++ x ∷ []) text ≡ (front ++ x ∷ []) ++ text
    → text_of_lines (cond newline (front ∷ lines_from [] text) (lines_from (front ++ x ∷ []) text)) ++ cond newline (rest_from [] text) (rest_from (front ++ x ∷ []) text) ≡ front ++ x ∷ text
byte_back front text x true e whole more =
    let same : x ≡ 10 = grind (arith, nat_tests) in
    append_assoc (front ++ 10 ∷ []) (text_of_lines (lines_from [] text)) (rest_from [] text) ∙ (ap (λ t. (front ++ 10 ∷ []) ++ t) whole ∙ (append_assoc front (10 ∷ []) text ∙ ap (λ y. front ++ y ∷ text) (sym same)))
byte_back front text x false e whole more = more ∙ append_assoc front (x ∷ []) text

text_back : (front text : List ℕ) → text_of_lines (lines_from front text) ++ rest_from front text ≡ front ++ text
text_back front [] = sym (append-nil front)
text_back front (x ∷ text) = byte_back front text x (x == 10) refl (text_back [] text) (text_back (front ++ x ∷ []) text)

pub text_is : (text : List ℕ) → rest_of text ≡ [] → text ≡ text_of_lines (lines_of text)
text_is text h = sym (text_back [] text) ∙ (ap (λ rest. text_of_lines (lines_of text) ++ rest) h ∙ append-nil (text_of_lines (lines_of text)))
