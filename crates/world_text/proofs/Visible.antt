-- Laws of lines whose fields are visible ASCII characters.
use Rattle.std.proofs.Common.{◌≡◌, ℕ, suc, ◌^◌, ◌<◌, ◌≤◌, true, false, List, [], ◌∷◌, ◌++◌, map, slice_index, decimal, arith, ap, sym, ◌∙◌, refl, IsUtf8, IsTrue, append-nil, zero}
use Rattle.std.specs.List.{list_all, AllByRecursion}
use Rattle.std.specs.Str.Parse.{AllDigits}
use Rattle.std.proofs.lemmas.Bool.{and_parts}
use Rattle.std.proofs.lemmas.Bool.Decides.{nat_tests}
use Rattle.std.proofs.lemmas.List.Splits.{join_with_byte-slice_split}
use Rattle.std.proofs.lemmas.Str.{IsUtf8-from_ascii}
use Rattle.std.proofs.lemmas.Str.Parse.{digit_from_value}
use Rattle.std.proofs.lemmas.Fmt.{decimal_is_IsNumeral}
use Rattle.wasi_addr.specs.declared.code.ErrorCode.{ErrorCode}
use Rattle.wasi_addr.specs.declared.code.ErrorCode.TheVariants as base
use Rattle.wasi_addr.specs.declared.address.SocketAddressFamily.{SocketAddressFamily}
use Rattle.wasi_addr.specs.declared.address.SocketAddressFamily.TheVariants as family
use Rattle.wasi_addr.specs.declared.address.IpSocketAddress.{IpSocketAddress}
use Rattle.wasi_addr.specs.declared.address.IpSocketAddress.TheVariants as socket
use Rattle.hex.specs.Hex.{encode_lower}
use Rattle.world_text.proofs.FieldsOf.{fields_of_joined}
use Rattle.world_text.specs.Fields.{is_space, has_no_space, fields_of, line_with, is_lower_digit}
use Rattle.world_text.proofs.BytesBack.{lower_encoded}
use Rattle.world_text.specs.Written.{AreBytes, is_visible, AreVisible, IsVisible, address_numbers, family_fields, address_fields, code_fields, bytes_fields, FitsAddress}

no_space : (b : ℕ) → is_visible b ≡ true → is_space b ≡ false
no_space b h = grind (arith, nat_tests)

visible_spaceless : (field : List ℕ) → list_all is_visible field ≡ true → has_no_space field ≡ true
visible_spaceless [] h = refl
visible_spaceless (b ∷ field) h =
    let both = and_parts (is_visible b) _ h in
    rw (no_space b both.0, visible_spaceless field both.1)

-- no space is in visible fields
pub visible_no_space : (fields : List (List ℕ)) → AreVisible fields → list_all has_no_space fields ≡ true
visible_no_space [] h = refl
visible_no_space (field ∷ fields) h = rw (visible_spaceless field h.0, visible_no_space fields h.1)

-- a line of visible fields has these fields
pub fields_of_line : (fields : List (List ℕ)) → (fields ≡ [] → ⊥) → AreVisible fields → fields_of (line_with fields) ≡ fields
fields_of_line [] some h = absurd (some refl)
fields_of_line (field ∷ more) some h = fields_of_joined field more (visible_no_space (field ∷ more) h)

-- and a line with these fields is that line
pub line_of_fields : (line : List ℕ) (fields : List (List ℕ)) → fields_of line ≡ fields → line ≡ line_with fields
line_of_fields line fields h = sym (join_with_byte-slice_split 32 line) ∙ ap line_with h

visible_append : (field rest : List ℕ) → list_all is_visible field ≡ true → IsVisible rest → IsVisible (field ++ rest)
visible_append [] rest h k = k
visible_append (b ∷ field) rest h k =
    let both = and_parts (is_visible b) _ h in
    rw both.0 (visible_append field rest both.1 k)

pub visible_line : (fields : List (List ℕ)) → AreVisible fields → IsVisible (line_with fields)
visible_line [] h = refl
visible_line (field ∷ []) h = rw append-nil at (visible_append field [] h.0 refl)
visible_line (field ∷ next ∷ more) h = visible_append field (32 ∷ line_with (next ∷ more)) h.0 (visible_line (next ∷ more) h.1)

-- visible characters are text
ascii : (b : ℕ) → is_visible b ≡ true → b < 128
ascii b h = grind (arith, nat_tests)

visible_ascii : (field : List ℕ) → list_all is_visible field ≡ true → (i : ℕ) → slice_index field i < 128
visible_ascii [] h i = omega arith
visible_ascii (b ∷ field) h zero = ascii b (and_parts (is_visible b) _ h).0
visible_ascii (b ∷ field) h (suc i) = visible_ascii field (and_parts (is_visible b) _ h).1 i

pub visible_utf8 : (field : List ℕ) → IsTrue (list_all is_visible field) → IsUtf8 field
visible_utf8 field h = IsUtf8-from_ascii field (visible_ascii field h)

-- what values are written as is visible
digit_visible : (c : ℕ) → (48 ≤ c) × (c ≤ 57) → is_visible c ≡ true
digit_visible c h = grind (arith, nat_tests)

digits_visible : (digits : List ℕ) → AllDigits 10 digits → list_all is_visible digits ≡ true
digits_visible [] h = refl
digits_visible (c ∷ digits) h = rw (digit_visible c (digit_from_value c h.0)) (digits_visible digits h.1)

pub number_visible : (n : ℕ) → n < 2 ^ 64 → IsTrue (list_all is_visible (decimal n))
number_visible n small = digits_visible (decimal n) (decimal_is_IsNumeral n small).0.1

numbers_visible : (ns : List ℕ) → AllByRecursion (λ n. n < 2 ^ 64) ns → AreVisible (map decimal ns)
numbers_visible [] small = tt
numbers_visible (n ∷ ns) small = (number_visible n small.0, numbers_visible ns small.1)

pub family_visible : (f : SocketAddressFamily) → AreVisible (family_fields f)
family_visible family.Ipv4 = (number_visible 4 (omega arith), tt)
family_visible family.Ipv6 = (number_visible 6 (omega arith), tt)

pub address_visible : (a : IpSocketAddress) → FitsAddress a → AreVisible (address_fields a)
address_visible (socket.Ipv4 a) fits =
    numbers_visible (address_numbers (socket.Ipv4 a))
    (omega arith, (omega arith, (omega arith, (omega arith, (omega arith, (omega arith, tt))))))
address_visible (socket.Ipv6 a) fits =
    numbers_visible (address_numbers (socket.Ipv6 a))
    (omega arith, (omega arith, (omega arith, (omega arith, (omega arith, (omega arith, (omega arith, (omega arith, (omega arith, (omega arith, (omega arith, (omega arith, tt))))))))))))

pub code_visible : (code : ErrorCode) → AreVisible (code_fields code)
code_visible base.AccessDenied = (refl, tt)
code_visible base.NotSupported = (refl, tt)
code_visible base.InvalidArgument = (refl, tt)
code_visible base.OutOfMemory = (refl, tt)
code_visible base.Timeout = (refl, tt)
code_visible base.InvalidState = (refl, tt)
code_visible base.AddressNotBindable = (refl, tt)
code_visible base.AddressInUse = (refl, tt)
code_visible base.RemoteUnreachable = (refl, tt)
code_visible base.ConnectionRefused = (refl, tt)
code_visible base.ConnectionBroken = (refl, tt)
code_visible base.ConnectionReset = (refl, tt)
code_visible base.ConnectionAborted = (refl, tt)
code_visible base.DatagramTooLarge = (refl, tt)
code_visible base.Other = (refl, tt)

lower_visible : (b : ℕ) → is_lower_digit b ≡ true → is_visible b ≡ true
lower_visible b h = grind (arith, nat_tests)

hex_visible : (field : List ℕ) → list_all is_lower_digit field ≡ true → list_all is_visible field ≡ true
hex_visible [] h = refl
hex_visible (b ∷ field) h =
    let both = and_parts (is_lower_digit b) _ h in
    rw (lower_visible b both.0) (hex_visible field both.1)

pub bytes_visible : (bytes : List ℕ) → AreBytes bytes → AreVisible (bytes_fields bytes)
bytes_visible [] are = (refl, tt)
bytes_visible (byte ∷ bytes) are = (hex_visible (encode_lower (byte ∷ bytes)) (lower_encoded (byte ∷ bytes) are), tt)
