-- Pairs of digits in lower case, decoded.
use Rattle.std.proofs.Common.{◌≡◌, ℕ, ◌+◌, ◌*◌, Some, Ok, ap, refl}
use Rattle.hex.specs.Hex.{hex_digit_value, digit_or_error, value_at, pair_value}

-- the byte of two digits, by their values
pub pair_is : (a b high low : ℕ) → hex_digit_value a ≡ Some high → hex_digit_value b ≡ Some low
    → (place : ℕ) → pair_value a b place ≡ Ok (high * 16 + low)
pair_is a b high low is_high is_low place =
    let first : value_at a place ≡ Ok high = ap (digit_or_error a place) is_high in
    let second : value_at b (place + 1) ≡ Ok low = ap (digit_or_error b (place + 1)) is_low in
    rw (first, second) refl
