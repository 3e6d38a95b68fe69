-- Addresses as numbers of their family.
use Rattle.std.specs.Prelude.{◌≡◌, ℕ, ◌&&◌, ◌||◌, nat_le, nat_lt, Bool, false, Option, Some, None}
use Rattle.wasi_addr.specs.declared.address.SocketAddressFamily.{SocketAddressFamily}
use Rattle.wasi_addr.specs.declared.address.SocketAddressFamily.TheVariants as family
use Rattle.wasi_addr.specs.declared.address.IpSocketAddress.{IpSocketAddress}
use Rattle.wasi_addr.specs.Address.{canonical, ip_of, port_of}
use Rattle.world_text.specs.Written.{FitsAddress}
use Rattle.wasi_policy.specs.Reach.{family_of, ip_number}

-- a canonical address of the family has this number; IPv6 addresses that stand for IPv4 ones aren't canonical
abbrev pub is_canonical : SocketAddressFamily → ℕ → Bool
is_canonical family.Ipv4 number = nat_lt number 4294967296
is_canonical family.Ipv6 number = nat_lt number 281470681743360 || nat_le 281474976710656 number

-- the number is one of a net's, if it has any
abbrev pub in_range : Option (ℕ × ℕ) → ℕ → Bool
in_range None number = false
in_range (Some (low, high)) number = nat_le low number && nat_le number high

-- The canonical form of the address has this family and this number; the address is at this port.
pub record IsAt (family : SocketAddressFamily) (number port : ℕ) (address : IpSocketAddress) : Type 0 where
  pub fits : FitsAddress address
  pub family_is : family_of (canonical (ip_of address)) ≡ family
  pub number_is : ip_number (canonical (ip_of address)) ≡ number
  pub port_is : port_of address ≡ port
