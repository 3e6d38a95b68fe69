-- The text of bytes is read as these bytes, and no other text is.
use Rattle.std.proofs.Common.{◌≡◌, ℕ, zero, suc, ◌+◌, ◌*◌, ◌/◌, ◌%◌, ◌<◌, Bool, true, false, cond, not, ◌&&◌, ◌||◌, eqb, ltb, List, [], ◌∷◌, length, slice_index, bytes_eq, codes, Option, Some, None, Result, Ok, Err, unwrap_or, arith, ap, sym, ◌∙◌, refl, inl, inr, ◌⊎◌, ◌==◌}
use Rattle.std.specs.List.{list_all}
use Rattle.std.specs.Result.{result_ok}
use Rattle.std.proofs.lemmas.Bool.{cases_lt, eqb-true, ltb-true, and_parts, false_from_ne_true}
use Rattle.std.proofs.lemmas.Bool.Decides.{nat_tests}
use Rattle.std.proofs.lemmas.Slice.Eq.{bytes_eq-Decides}
use Rattle.hex.specs.declared.error.FromHexError.{FromHexError}
use Rattle.hex.specs.Hex.{◌>>=◌, lower_digits, encode_with, encode_lower, hex_digit_value, value_at, digit_or_error, pair_value, decode_pairs, decode_of, IsBytes}
use Rattle.hex.proofs.HexLemmas.{decode_of-encode_lower, decode_of-even, decode_of-ok, length-encode_with}
use Rattle.world_text.specs.Fields.{is_lower_digit, is_lower_hex, bytes_text, bytes_in}

-- whether each number below n passes a test, which computes
abbrev pub passes_below : (ℕ → Bool) → ℕ → Bool
passes_below test zero = true
passes_below test (suc n) = test n && passes_below test n

pub passes_at : (test : ℕ → Bool) (n k : ℕ) → passes_below test n ≡ true → k < n → test k ≡ true
passes_at test zero k h lt = absurd (omega arith)
passes_at test (suc n) k h lt =
    let both = and_parts (test n) (passes_below test n) h in
    elim (cases_lt k n) [
      | inl below ↦ passes_at test n k both.1 below
      | inr top ↦ let e : k ≡ n = omega arith in rw e both.0
    ]

-- a digit in lower case is the digit of its value
abbrev is_digit_of_value : ℕ → Bool
is_digit_of_value c =
    not (is_lower_digit c) || (eqb (slice_index lower_digits (unwrap_or (hex_digit_value c) 99)) c && ltb (unwrap_or (hex_digit_value c) 99) 16)

below_103 : (c : ℕ) → is_lower_digit c ≡ true → c < 103
below_103 c h = grind (arith, nat_tests)

tells : (lower : Bool) (o : Option ℕ) (c v : ℕ) → lower ≡ true → o ≡ Some v → (not lower || (eqb (slice_index lower_digits (unwrap_or o 99)) c && ltb (unwrap_or o 99) 16)) ≡ true → (slice_index lower_digits v ≡ c) × (v < 16)
tells lower o c v is some tested =
    let at : (eqb (slice_index lower_digits v) c && ltb v 16) ≡ true = rw (is, some) at tested in
    let both = and_parts _ _ at in
    (eqb-true _ _ both.0, ltb-true _ _ both.1)

digit_is : (c v : ℕ) → is_lower_digit c ≡ true → hex_digit_value c ≡ Some v → (slice_index lower_digits v ≡ c) × (v < 16)
digit_is c v lower value =
    tells (is_lower_digit c) (hex_digit_value c) c v lower value (passes_at is_digit_of_value 103 c refl (below_103 c lower))

-- what decodes, and is in lower case, is the text of its bytes
then_ok : {A B : Type 0} (r : Result A FromHexError) (next : A → Result B FromHexError) (result : B) → (r >>= next) ≡ Ok result → (value : A) × (r ≡ Ok value) × (next value ≡ Ok result)
then_ok (Ok value) next result h = (value, refl, h)
then_ok (Err e) next result h = cc

some_value : (c i v : ℕ) (o : Option ℕ) → digit_or_error c i o ≡ Ok v → o ≡ Some v
some_value c i v (Some w) h = cc
some_value c i v None h = cc

encoded : (i : ℕ) (field bytes : List ℕ) → list_all is_lower_digit field ≡ true → decode_pairs i field ≡ Ok bytes → field ≡ encode_lower bytes
unfolding decode_pairs encode_with
encoded i [] bytes lower h = let e : [] ≡ bytes = cc in rw (← e)
encoded i (a ∷ []) bytes lower h = cc
encoded i (a ∷ b ∷ field) bytes lower h =
    let lower_a = and_parts (is_lower_digit a) _ lower in
    let lower_b = and_parts (is_lower_digit b) _ lower_a.1 in
    let pair = then_ok (pair_value a b i) _ bytes h in
    let more = then_ok (decode_pairs (i + 2) field) _ bytes pair.2 in
    let high = then_ok (value_at a i) _ pair.0 pair.1 in
    let low = then_ok (value_at b (i + 1)) _ pair.0 high.2 in
    let digit_a = digit_is a high.0 lower_a.0 (some_value a i high.0 (hex_digit_value a) high.1) in
    let digit_b = digit_is b low.0 lower_b.0 (some_value b (i + 1) low.0 (hex_digit_value b) low.1) in
    let byte : high.0 * 16 + low.0 ≡ pair.0 = cc in
    let bytes_are : pair.0 ∷ more.0 ≡ bytes = cc in
    let first : pair.0 / 16 ≡ high.0 = omega arith in
    let second : pair.0 % 16 ≡ low.0 = omega arith in
    let rest = encoded (i + 2) field more.0 lower_b.1 more.1 in
    rw (← bytes_are, first, second, digit_a.0, digit_b.0, ← rest)

cases_of : (dash lower : Bool) (r : Result (List ℕ) FromHexError) (bytes : List ℕ) → cond dash (Some []) (cond lower (result_ok r) None) ≡ Some bytes → ((dash ≡ true) × ([] ≡ bytes)) ⊎ ((lower ≡ true) × (r ≡ Ok bytes))
cases_of true lower r bytes h = inl (refl, cc)
cases_of false true (Ok value) bytes h = inr (refl, cc)
cases_of false true (Err e) bytes h = cc
cases_of false false r bytes h = cc

some_text : (bytes : List ℕ) → 0 < length bytes → bytes_text bytes ≡ encode_lower bytes
some_text [] some = absurd (omega arith)
some_text (byte ∷ bytes) some = refl

not_zero : (n : ℕ) → not (n == 0) ≡ true → 0 < n
not_zero zero h = cc
not_zero (suc n) h = omega arith

-- a field that is bytes is their text
pub bytes_in_is : (field bytes : List ℕ) → bytes_in field ≡ Some bytes → IsBytes bytes × (field ≡ bytes_text bytes)
unfolding bytes_in
bytes_in_is field bytes h =
    elim (cases_of (bytes_eq field (codes "-")) (is_lower_hex field) (decode_of field) bytes h) [
      | inl dash ↦ rw (← dash.1) (λ i. omega arith, (bytes_eq-Decides field (codes "-")).0 dash.0)
      | inr digits ↦
          let lower = and_parts _ (list_all is_lower_digit field) digits.0 in
          let ok = decode_of-ok field bytes digits.1 in
          let text = encoded 0 field bytes lower.1 (sym (decode_of-even field ok.0) ∙ digits.1) in
          let some = not_zero (length field) lower.0 in
          (ok.3, text ∙ sym (some_text bytes (omega arith)))
    ]

lower_at : (d : ℕ) → d < 16 → is_lower_digit (slice_index lower_digits d) ≡ true
lower_at d small = passes_at (λ d. is_lower_digit (slice_index lower_digits d)) 16 d refl small

pub lower_encoded : (bytes : List ℕ) → IsBytes bytes → list_all is_lower_digit (encode_lower bytes) ≡ true
unfolding encode_with
lower_encoded [] are = refl
lower_encoded (byte ∷ bytes) are =
    let fits = are 0 in
    rw (lower_at (byte / 16) (omega arith), lower_at (byte % 16) (omega arith)) (lower_encoded bytes (λ i. are (suc i)))

no_dash : (field : List ℕ) → 1 < length field → bytes_eq field (codes "-") ≡ false
no_dash field long =
    false_from_ne_true _ (λ same. let e = ap length ((bytes_eq-Decides field (codes "-")).0 same) in omega arith)

zero_no : (n : ℕ) → 0 < n → not (n == 0) ≡ true
zero_no n some = grind (arith, nat_tests)

-- and the text of bytes is these bytes
pub bytes_in_text : (bytes : List ℕ) → IsBytes bytes → bytes_in (bytes_text bytes) ≡ Some bytes
unfolding bytes_in
bytes_in_text [] are = refl
bytes_in_text (byte ∷ bytes) are =
    let field = encode_lower (byte ∷ bytes) in
    let long : 1 < length field = omega (arith, length-encode_with lower_digits (byte ∷ bytes)) in
    rw (no_dash field long, zero_no (length field) (omega arith), lower_encoded (byte ∷ bytes) are, decode_of-encode_lower (byte ∷ bytes) are)
