-- Laws of the numbers that fields are.
use Rattle.std.proofs.Common.{◌≡◌, ℕ, zero, suc, [], ◌∷◌, ◌-◌, ◌^◌, ◌<◌, ◌≤◌, Bool, true, false, cond, ◌&&◌, nat_le, List, Option, Some, None, length, get_or, bytes_eq, decimal, arith, ap, sym, ◌∙◌, refl, inl, inr, Err, IsUtf8, ◌↔◌, IfSome}
use Rattle.std.specs.Bool.{then_some}
use Rattle.std.specs.Str.Parse.{AllDigits, IsNumeral, digits_value, ParsesUnsigned, without_leading_plus}
use Rattle.std.proofs.lemmas.Str.{IsUtf8-from_ascii}
use Rattle.std.proofs.lemmas.Str.Parse.{IsNumeralModel, numerals_by_value, tells_digits, digit_at, without_leading_plus_none}
use Rattle.std.proofs.lemmas.Fmt.{decimal_is_IsNumeral, digits_value-decimal, decimal-digits_value, decimal_digit, first_decimal, parse-decimal, IsAscii-decimal, decimal_injective}
use Rattle.std.proofs.lemmas.Slice.Eq.{bytes_eq-Decides}
use Rattle.std.proofs.lemmas.Bool.{leb-true, le-leb}
use Rattle.world_text.specs.Fields.{number_in, BeginsPlain}

digits : IsNumeralModel (AllDigits 10) (digits_value 10)
digits = numerals_by_value (AllDigits 10) tells_digits

-- what a test of two parts says
pub both : (a b : Bool) (n m : ℕ) → cond (a && b) (Some n) None ≡ Some m → (a ≡ true) × (b ≡ true) × (n ≡ m)
both true true n m h = (refl, refl, cc)
both true false n m h = cc
both false b n m h = cc

passes : (a b : Bool) (n : ℕ) → a ≡ true → b ≡ true → cond (a && b) (Some n) None ≡ Some n
passes a b n h k = rw (h, k)

fails : (a b : Bool) (n : ℕ) → (a ≡ true → b ≡ true → ⊥) → cond (a && b) (Some n) None ≡ None
fails true true n h = absurd (h refl refl)
fails true false n h = refl
fails false b n h = refl

-- a field that is a number is its decimal text
pub number_in_is : (field : List ℕ) (most n : ℕ) → number_in field most ≡ Some n → (field ≡ decimal n) × (n ≤ most)
unfolding number_in
number_in_is field most n h =
    let parts = both (bytes_eq field (decimal (digits_value 10 field))) (nat_le (digits_value 10 field) most) _ _ h in
    (rw (← parts.2) ((bytes_eq-Decides field (decimal (digits_value 10 field))).0 parts.0), rw (← parts.2) (leb-true _ _ parts.1))

-- and the decimal text of a number is that number
pub number_in_decimal : (field : List ℕ) (most n : ℕ) → most < 2 ^ 64 → field ≡ decimal n → n ≤ most → number_in field most ≡ Some n
unfolding number_in
number_in_decimal field most n room e fits =
    let value : digits_value 10 field ≡ n = ap (digits_value 10) e ∙ digits_value-decimal digits n (omega arith) in
    rw value (passes _ _ n ((bytes_eq-Decides field (decimal n)).1 e) (le-leb n most fits))

-- what is no number's decimal text is no number
pub number_in_none : (field : List ℕ) (most : ℕ) → ((n : ℕ) → n ≤ most → field ≡ decimal n → ⊥) → number_in field most ≡ None
unfolding number_in
number_in_none field most other =
    fails _ _ (digits_value 10 field) (λ same fits. other (digits_value 10 field) (leb-true _ _ fits) ((bytes_eq-Decides field (decimal (digits_value 10 field))).0 same))

pub number_exact : (field : List ℕ) (most : ℕ) (r : Option ℕ) → most < 2 ^ 64 → r ≡ number_in field most → (n : ℕ) → (r ≡ Some n) ↔ ((field ≡ decimal n) × (n ≤ most))
number_exact field most r room h n = (λ e. number_in_is field most n (sym h ∙ e), λ e. h ∙ number_in_decimal field most n room e.0 e.1)

-- of the text of a number: how it begins, that it is text, and what `parse` reads
decimal_begins : (n : ℕ) → n < 2 ^ 64 → BeginsPlain (decimal n)
decimal_begins zero small = inl (decimal_digit 0 (omega arith))
decimal_begins (suc n) small =
    let numeral = (decimal_is_IsNumeral (suc n) small).0 in
    let first = digit_at (decimal (suc n)) 0 numeral.1 numeral.0 in
    let high = first_decimal (suc n) (omega arith) small in
    inr (omega arith, first.1)

pub begins_otherwise : (field : List ℕ) (most : ℕ) → most < 2 ^ 64 → (BeginsPlain field → ⊥) → number_in field most ≡ None
begins_otherwise field most room other =
    number_in_none field most (λ n fits e. other (rw e (decimal_begins n (omega arith))))

pub no_text : (field : List ℕ) (most : ℕ) → most < 2 ^ 64 → (IsUtf8 field → ⊥) → number_in field most ≡ None
no_text field most room other =
    number_in_none field most (λ n fits e. other (rw e (IsUtf8-from_ascii _ (IsAscii-decimal n (omega arith)))))

pub not_parsed : {E : Type 0} (field : List ℕ) (most : ℕ) (e : E) → most < 2 ^ 64 → ParsesUnsigned 64 10 field (Err e) → number_in field most ≡ None
not_parsed field most err room parsed =
    number_in_none field most (λ n fits e. let ok = parse-decimal 64 n field (Err err) (omega arith) (omega arith) e parsed in cc)

begins_no_plus : (field : List ℕ) → BeginsPlain field → get_or field 0 0 ≡ 43 → ⊥
begins_no_plus field (inl e) h = let first : get_or field 0 0 ≡ 48 = ap (λ f. get_or f 0 0) e in absurd (omega arith)
begins_no_plus field (inr r) h = absurd (omega arith)

begins_no_zero : (field : List ℕ) → BeginsPlain field → get_or field 0 0 ≡ 48 → length field ≡ 1
begins_no_zero field (inl e) h = ap length e
begins_no_zero field (inr r) h = absurd (omega arith)

-- what `parse` reads of a text that begins plainly is its number
parsed_is : (field : List ℕ) (n : ℕ) → BeginsPlain field → IsNumeral 10 (without_leading_plus field) × (digits_value 10 (without_leading_plus field) < 2 ^ 64) → n ≡ digits_value 10 (without_leading_plus field) → (decimal n ≡ field) × (n < 2 ^ 64)
parsed_is field n begins parsed value =
    let plain : without_leading_plus field ≡ field = without_leading_plus_none field (begins_no_plus field begins) in
    let numeral : IsNumeral 10 field = rw plain at parsed.0 in
    let small : digits_value 10 field < 2 ^ 64 = rw plain at parsed.1 in
    let same : n ≡ digits_value 10 field = rw plain at value in
    rw same (decimal-digits_value digits field numeral.1 numeral.0 (begins_no_zero field begins) small, small)

pub within : (field : List ℕ) (most n : ℕ) → most < 2 ^ 64 → n < 2 ^ 64 → field ≡ decimal n → (b : Bool) → nat_le n most ≡ b → then_some b n ≡ number_in field most
within field most n room small e true h = sym (number_in_decimal field most n room e (leb-true _ _ h))
within field most n room small e false h =
    sym (number_in_none field most (λ m fits k.
    let same = decimal_injective m n (omega arith) small (sym k ∙ e) in
    cc (le-leb m most fits)))

pub parsed_within : (field : List ℕ) (most n : ℕ) → most < 2 ^ 64 → BeginsPlain field → IsNumeral 10 (without_leading_plus field) × (digits_value 10 (without_leading_plus field) < 2 ^ 64) → n ≡ digits_value 10 (without_leading_plus field) → then_some (nat_le n most) n ≡ number_in field most
parsed_within field most n room begins parsed value =
    let e = parsed_is field n begins parsed value in
    within field most n room e.1 (sym e.0) (nat_le n most) refl

pub number_bound : (r : Option ℕ) (field : List ℕ) (most : ℕ) → r ≡ number_in field most → IfSome r (λ n. n ≤ most)
number_bound None field most h = tt
number_bound (Some n) field most h = (number_in_is field most n (sym h)).1

-- a field of one digit
pub one_digit_is : (field : List ℕ) → length field ≡ 1 → 48 ≤ get_or field 0 0 → get_or field 0 0 ≤ 57
    → field ≡ decimal (get_or field 0 0 - 48)
one_digit_is [] one low high = cc
one_digit_is (c ∷ d ∷ field) one low high = absurd (omega arith)
one_digit_is (c ∷ []) one low high =
    sym (decimal_digit (c - 48) (omega arith) ∙ ap (λ (x : ℕ). x ∷ []) (omega arith))
