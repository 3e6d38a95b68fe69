-- What was lowered to numbers is lifted again.
use Rattle.std.specs.Prelude.{ℕ, ◌≡◌, ◌≤◌, ◌%◌, false, nat_lt, Some, Ok}
use Rattle.std.proofs.Common.{refl, ap, ◌∙◌, arith}
use Rattle.std.proofs.lemmas.Bool.Decides.{nat_tests}
use Rattle.wasi_addr.specs.declared.address.IpSocketAddress.{IpSocketAddress}
use Rattle.wasi_addr.specs.declared.address.IpSocketAddress.TheVariants as socket
use Rattle.world_text.specs.Written.{FitsAddress}
use Rattle.embed_flat.specs.Abi.{flat}
use Rattle.embed_flat.specs.Flat.{and_then, u32_of, address_at, maybe_address_at}
use Rattle.embed_flat.specs.Values.{address_value, remote_value}
use Rattle.embed_flat.specs.Wit.{option, ip_socket_address}

not_above : (n : ℕ) → n ≤ 4294967295 → nat_lt 4294967295 n ≡ false
not_above n h = grind (arith, nat_tests)

u32_back : (n : ℕ) → n ≤ 4294967295 → u32_of n ≡ Ok n
u32_back n h = rw (not_above n h) refl

u16_back : (n : ℕ) → n ≤ 65535 → and_then (u32_of n) (λ m. Ok (m % 65536)) ≡ Ok n
u16_back n h =
    let within : n ≤ 4294967295 = omega arith in
    let low : n % 65536 ≡ n = omega arith in
    ap (λ r. and_then r (λ m. Ok (m % 65536))) (u32_back n within) ∙ ap (λ m. Ok m) low

u8_back : (n : ℕ) → n ≤ 255 → and_then (u32_of n) (λ m. Ok (m % 256)) ≡ Ok n
u8_back n h =
    let within : n ≤ 4294967295 = omega arith in
    let low : n % 256 ≡ n = omega arith in
    ap (λ r. and_then r (λ m. Ok (m % 256))) (u32_back n within) ∙ ap (λ m. Ok m) low

pub address_back : (a : IpSocketAddress) → FitsAddress a → address_at (flat ip_socket_address (address_value a)) 0 ≡ Ok a
address_back (socket.Ipv4 a) fits =
    rw (u16_back a.port fits.1, u8_back a.address.0 fits.0.0, u8_back a.address.1 fits.0.1, u8_back a.address.2 fits.0.2, u8_back a.address.3 fits.0.3) refl
address_back (socket.Ipv6 a) fits =
    rw (u16_back a.port fits.1, u32_back a.flow_info fits.2, u16_back a.address.0 fits.0.0, u16_back a.address.1 fits.0.1, u16_back a.address.2 fits.0.2, u16_back a.address.3 fits.0.3, u16_back a.address.4 fits.0.4, u16_back a.address.5 fits.0.5, u16_back a.address.6 fits.0.6, u16_back a.address.7 fits.0.7, u32_back a.scope_id fits.3) refl

pub remote_back : (a : IpSocketAddress) → FitsAddress a → maybe_address_at (flat (option ip_socket_address) (remote_value (Some a))) 0 ≡ Ok (Some a)
remote_back (socket.Ipv4 a) fits =
    rw (u16_back a.port fits.1, u8_back a.address.0 fits.0.0, u8_back a.address.1 fits.0.1, u8_back a.address.2 fits.0.2, u8_back a.address.3 fits.0.3) refl
remote_back (socket.Ipv6 a) fits =
    rw (u16_back a.port fits.1, u32_back a.flow_info fits.2, u16_back a.address.0 fits.0.0, u16_back a.address.1 fits.0.1, u16_back a.address.2 fits.0.2, u16_back a.address.3 fits.0.3, u16_back a.address.4 fits.0.4, u16_back a.address.5 fits.0.5, u16_back a.address.6 fits.0.6, u16_back a.address.7 fits.0.7, u32_back a.scope_id fits.3) refl
