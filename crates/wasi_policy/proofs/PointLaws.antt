-- Addresses and their numbers.
use Rattle.std.specs.Prelude.{nat_le, nat_lt, ◌&&◌, ◌==◌, ◌/◌, ◌%◌, ◌^◌}
use Rattle.std.proofs.Common.{◌≡◌, ℕ, ◌≤◌, ◌<◌, Bool, true, false, arith, ap, sym, ◌∙◌, refl}
use Rattle.std.proofs.lemmas.Bool.{false≢true, or_parts}
use Rattle.std.proofs.lemmas.Bool.Decides.{nat_tests}
use Rattle.wasi_addr.specs.declared.address.IpAddress.{IpAddress}
use Rattle.wasi_addr.specs.declared.address.IpAddress.TheVariants as ip
use Rattle.wasi_addr.specs.declared.address.IpSocketAddress.{IpSocketAddress}
use Rattle.wasi_addr.specs.declared.address.IpSocketAddress.TheVariants as socket
use Rattle.wasi_addr.specs.declared.address.SocketAddressFamily.{SocketAddressFamily}
use Rattle.wasi_addr.specs.declared.address.SocketAddressFamily.TheVariants as family
use Rattle.wasi_addr.specs.declared.address.SocketAddrUse.{SocketAddrUse}
use Rattle.wasi_addr.specs.Address.{canonical, ip_of, port_of, starts_zero}
use Rattle.world_text.specs.Written.{FitsIp, FitsIpv6, FitsAddress}
use Rattle.wasi_policy.specs.declared.rule.Rule.{Rule}
use Rattle.wasi_policy.specs.Decision.{ipv4_number, ipv6_number, is_about, matches}
use Rattle.wasi_policy.specs.Reach.{family_of, ip_number, range_of}
use Rattle.wasi_policy.specs.Points.{is_canonical, in_range, IsAt}
use Rattle.wasi_policy.proofs.ReachLaws.{range_is}

-- == IPv6 addresses that stand for IPv4 ones
zeros : (a b c d e f g h : ℕ) → b ≤ 65535 → c ≤ 65535 → d ≤ 65535 → e ≤ 65535 → f ≤ 65535 → g ≤ 65535 → h ≤ 65535 → 281470681743360 ≤ ipv6_number (a, b, c, d, e, f, g, h) → ipv6_number (a, b, c, d, e, f, g, h) < 281474976710656 → (a ≡ 0) × (b ≡ 0) × (c ≡ 0) × (d ≡ 0) × (e ≡ 0) × (f ≡ 65535)
zeros a b c d e f g h b' c' d' e' f' g' h' low high = (omega arith, omega arith, omega arith, omega arith, omega arith, omega arith)

outside : (a b c d e f g h : ℕ) → FitsIpv6 (a, b, c, d, e, f, g, h) → is_canonical family.Ipv6 (ipv6_number (a, b, c, d, e, f, g, h)) ≡ false → (starts_zero a b c d e && (f == 65535)) ≡ true
outside a b c d e f g h fits k =
    let parts = or_parts (nat_lt (ipv6_number (a, b, c, d, e, f, g, h)) 281470681743360) _ k in
    let low : 281470681743360 ≤ ipv6_number (a, b, c, d, e, f, g, h) = at_least (ipv6_number (a, b, c, d, e, f, g, h)) parts.0 in
    let high : ipv6_number (a, b, c, d, e, f, g, h) < 281474976710656 = at_most (ipv6_number (a, b, c, d, e, f, g, h)) parts.1 in
    let z = zeros a b c d e f g h (omega (arith, fits)) (omega (arith, fits)) (omega (arith, fits)) (omega (arith, fits)) (omega (arith, fits)) (omega (arith, fits)) (omega (arith, fits)) low high in
    rw (z.0, z.1, z.2, z.3, z.4, z.5) refl
  where
    at_least : (n : ℕ) → nat_lt n 281470681743360 ≡ false → 281470681743360 ≤ n
    at_least n e = grind (arith, nat_tests)

    at_most : (n : ℕ) → nat_le 281474976710656 n ≡ false → n < 281474976710656
    at_most n e = grind (arith, nat_tests)

-- == every address has a number
ipv4_below : (a b c d : ℕ) → a ≤ 255 → b ≤ 255 → c ≤ 255 → d ≤ 255 → ipv4_number (a, b, c, d) < 4294967296
ipv4_below a b c d h k l m = omega arith

halves : (g : ℕ) → g ≤ 65535 → (g / 256 ≤ 255) × (g % 256 ≤ 255)
halves g h = (omega arith, omega arith)

below_is : (n : ℕ) → n < 4294967296 → nat_lt n 4294967296 ≡ true
below_is n h = grind (arith, nat_tests)

pub record IsNumber (address : IpAddress) : Type 0 where
  pub canon : is_canonical (family_of address) (ip_number address) ≡ true
  pub small : ip_number address < 2 ^ 128

ipv4_is : (a b c d : ℕ) → a ≤ 255 → b ≤ 255 → c ≤ 255 → d ≤ 255 → IsNumber (ip.Ipv4 (a, b, c, d))
ipv4_is a b c d h k l m =
    let below = ipv4_below a b c d h k l m in
    record { canon = below_is (ipv4_number (a, b, c, d)) below; small = omega (arith, below) }

pub number_of : (address : IpAddress) → FitsIp address → IsNumber (canonical address)
number_of (ip.Ipv4 (a, b, c, d)) fits = ipv4_is a b c d fits.0 fits.1 fits.2 fits.3
number_of (ip.Ipv6 (a, b, c, d, e, f, g, h)) fits = by_test (starts_zero a b c d e && (f == 65535)) refl where
  small : ipv6_number (a, b, c, d, e, f, g, h) < 2 ^ 128
  small = omega (arith, fits)

  canon : (t : Bool) → is_canonical family.Ipv6 (ipv6_number (a, b, c, d, e, f, g, h)) ≡ t → (starts_zero a b c d e && (f == 65535)) ≡ false → is_canonical family.Ipv6 (ipv6_number (a, b, c, d, e, f, g, h)) ≡ true
  canon true k t = k
  canon false k t = absurd (false≢true (sym t ∙ outside a b c d e f g h fits k))

  by_test : (t : Bool) → (starts_zero a b c d e && (f == 65535)) ≡ t → IsNumber (canonical (ip.Ipv6 (a, b, c, d, e, f, g, h)))
  by_test true t =
      let high = halves g (omega (arith, fits)) in
      let low = halves h (omega (arith, fits)) in
      rw t (ipv4_is (g / 256) (g % 256) (h / 256) (h % 256) high.0 high.1 low.0 low.1)
  by_test false t = rw t (record { canon = canon _ refl t; small = small })

ip_fits : (address : IpSocketAddress) → FitsAddress address → FitsIp (ip_of address) × (port_of address ≤ 65535)
ip_fits (socket.Ipv4 a) fits = (fits.0, fits.1)
ip_fits (socket.Ipv6 a) fits = (fits.0, fits.1)

-- The number of an address that a socket can have, and its port.
pub record HasNumber (address : IpSocketAddress) : Type 0 where
  pub canon : is_canonical (family_of (canonical (ip_of address))) (ip_number (canonical (ip_of address))) ≡ true
  pub small : ip_number (canonical (ip_of address)) < 2 ^ 128
  pub port : port_of address ≤ 65535

pub has_number : (address : IpSocketAddress) → FitsAddress address → HasNumber address
has_number address fits =
    let parts = ip_fits address fits in
    let number = number_of (ip_of address) parts.0 in
    record { canon = number.canon; small = number.small; port = parts.1 }

-- == what rules say of an address, by its number
pub matches_at : (rule : Rule) (asked : SocketAddrUse) (f : SocketAddressFamily) (number port : ℕ) (address : IpSocketAddress) → IsAt f number port address → matches rule address asked ≡ (is_about rule.usage asked && nat_le rule.low port && nat_le port rule.high && in_range (range_of rule.net f) number)
matches_at rule asked f number port address at =
    let small = (has_number address at.fits).small in
    ap (λ b. is_about rule.usage asked && nat_le rule.low (port_of address) && nat_le (port_of address) rule.high && b) (range_is rule.net (canonical (ip_of address)) small)
    ∙ rw (at.family_is, at.number_is, at.port_is) refl
