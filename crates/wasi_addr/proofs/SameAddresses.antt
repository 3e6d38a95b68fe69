-- The tests on whole addresses are exact: one address is the wildcard of its family, and what the test takes for
-- the same is the same.
use Rattle.std.proofs.Common.{◌≡◌, ◌↔◌, true, refl, arith}
use Rattle.std.proofs.lemmas.Bool.Decides.{nat_tests}
use Rattle.wasi_addr.specs.declared.address.SocketAddressFamily.{SocketAddressFamily}
use Rattle.wasi_addr.specs.declared.address.SocketAddressFamily.TheVariants as family
use Rattle.wasi_addr.specs.declared.address.IpSocketAddress.{IpSocketAddress}
use Rattle.wasi_addr.specs.declared.address.IpSocketAddress.TheVariants as socket
use Rattle.wasi_addr.specs.Address.{is_wildcard, wildcard, same_address}

-- two addresses that the test takes for the same are the same
pub same_address_true : (a b : IpSocketAddress) → same_address a b ≡ true → a ≡ b
same_address_true (socket.Ipv4 a) (socket.Ipv4 b) h = grind (arith, nat_tests)
same_address_true (socket.Ipv6 a) (socket.Ipv6 b) h = grind (arith, nat_tests)
same_address_true (socket.Ipv4 a) (socket.Ipv6 b) h = cc
same_address_true (socket.Ipv6 a) (socket.Ipv4 b) h = cc

-- an address is the same as itself
pub same_address-self : (a : IpSocketAddress) → same_address a a ≡ true
same_address-self (socket.Ipv4 a) = grind (arith, nat_tests)
same_address-self (socket.Ipv6 a) = grind (arith, nat_tests)

-- an address that the test takes for the wildcard is the wildcard
pub is_wildcard_true : (f : SocketAddressFamily) (a : IpSocketAddress) → is_wildcard f a ≡ true → a ≡ wildcard f
is_wildcard_true family.Ipv4 (socket.Ipv4 a) h = grind (arith, nat_tests)
is_wildcard_true family.Ipv6 (socket.Ipv6 a) h = grind (arith, nat_tests)
is_wildcard_true family.Ipv4 (socket.Ipv6 a) h = cc
is_wildcard_true family.Ipv6 (socket.Ipv4 a) h = cc

-- the wildcard is taken for the wildcard
pub is_wildcard-wildcard : (f : SocketAddressFamily) → is_wildcard f (wildcard f) ≡ true
is_wildcard-wildcard family.Ipv4 = refl
is_wildcard-wildcard family.Ipv6 = refl

-- both directions at once
pub is_wildcard_exact : (f : SocketAddressFamily) (a : IpSocketAddress) → (is_wildcard f a ≡ true) ↔ (a ≡ wildcard f)
is_wildcard_exact f a = (is_wildcard_true f a, λ same. rw same (is_wildcard-wildcard f))

pub same_address_exact : (a b : IpSocketAddress) → (same_address a b ≡ true) ↔ (a ≡ b)
same_address_exact a b = (same_address_true a b, λ same. rw same (same_address-self b))
