-- The text of bytes, a byte at a time.
use Rattle.std.proofs.Common.{◌≡◌, ℕ, ◌+◌, ◌/◌, ◌%◌, ◌≤◌, ◌<◌, false, eqb, List, [], ◌∷◌, ◌++◌, length, take, slice_index, arith, ap, refl, ◌==◌, ◌^◌, ◌-◌}
use Rattle.std.specs.Fmt.{digit_glyph, digits, padded_integral, format_spec}
use Rattle.std.proofs.lemmas.Bool.{eqb-true}
use Rattle.std.proofs.lemmas.List.{take_more, take_all}
use Rattle.std.proofs.lemmas.Fmt.{hex_byte}
use Rattle.hex.specs.Hex.{lower_digits, encode_with, encode_lower}
use Rattle.world_text.specs.Fields.{bytes_text}
use Rattle.world_text.proofs.BytesBack.{passes_at}

pub encode-append : (front bytes : List ℕ) → encode_lower (front ++ bytes) ≡ encode_lower front ++ encode_lower bytes
unfolding encode_with
encode-append [] bytes = refl
encode-append (b ∷ front) bytes = rw (encode-append front bytes)

-- what a format writes of a byte
glyph_is : (d : ℕ) → d < 16 → digit_glyph false d ≡ slice_index lower_digits d
glyph_is d small =
    eqb-true _ _ (passes_at (λ d. eqb (digit_glyph false d) (slice_index lower_digits d)) 16 d refl small)

-- a byte that a format writes as two digits
pub byte_text : (byte : ℕ) → byte < 256 → padded_integral (format_spec 32 0 4 2 (2 ^ 64 - 1)) false [] (digits 16 false byte) ≡ encode_lower (byte ∷ [])
unfolding encode_with
byte_text byte small = rw (hex_byte false byte small, glyph_is (byte / 16) (omega arith), glyph_is (byte % 16) (omega arith))

-- one byte more
pub encode_next : (bytes : List ℕ) (i : ℕ) → i < length bytes → encode_lower (take (i + 1) bytes) ≡ encode_lower (take i bytes) ++ encode_lower (slice_index bytes i ∷ [])
encode_next bytes i at = rw (take_more bytes i 0 at, encode-append (take i bytes) (slice_index bytes i ∷ []))

-- after the last
pub encode_whole : (bytes : List ℕ) (i : ℕ) → (length bytes == 0) ≡ false → length bytes ≤ i → encode_lower (take i bytes) ≡ bytes_text bytes
encode_whole [] i some past = cc
encode_whole (byte ∷ bytes) i some past = ap encode_lower (take_all i (byte ∷ bytes) past)
