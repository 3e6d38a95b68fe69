-- What a rule matches, as ranges; and the least of the rules that match.
use Rattle.std.specs.Prelude.{ℕ, ◌+◌, ◌-◌, ◌%◌, ◌^◌, ◌&&◌, min, nat_le, Bool, false, if◌then◌else◌, List, [], ◌∷◌, Option, Some, None}
use Rattle.std.specs.List.{slice_get}
use Rattle.wasi_addr.specs.declared.address.IpAddress.{IpAddress}
use Rattle.wasi_addr.specs.declared.address.IpAddress.TheVariants as ip
use Rattle.wasi_addr.specs.declared.address.SocketAddressFamily.{SocketAddressFamily}
use Rattle.wasi_addr.specs.declared.address.SocketAddressFamily.TheVariants as family
use Rattle.wasi_addr.specs.declared.address.SocketAddrUse.{SocketAddrUse}
use Rattle.wasi_addr.specs.declared.address.IpSocketAddress.{IpSocketAddress}
use Rattle.wasi_addr.specs.Address.{canonical, ip_of, port_of}
use Rattle.wasi_policy.specs.declared.rule.Net.{Net}
use Rattle.wasi_policy.specs.declared.rule.Net.TheVariants as net
use Rattle.wasi_policy.specs.declared.rule.Rule.{Rule}
use Rattle.wasi_policy.specs.declared.reach.Reach.{Reach}
use Rattle.wasi_policy.specs.declared.rule.Decision.{Decision}
use Rattle.wasi_policy.specs.Decision.{ipv4_number, ipv6_number, is_about, allows}

abbrev pub family_of : IpAddress → SocketAddressFamily
family_of (ip.Ipv4 _) = family.Ipv4
family_of (ip.Ipv6 _) = family.Ipv6

abbrev pub ip_number : IpAddress → ℕ
ip_number (ip.Ipv4 address) = ipv4_number address
ip_number (ip.Ipv6 address) = ipv6_number address

-- the least and the greatest number that agree with this one but for so many bits at the end
abbrev pub block_low : ℕ → ℕ → ℕ
block_low bits number = number - number % 2 ^ bits

abbrev pub block_high : ℕ → ℕ → ℕ
block_high bits number = min (block_low bits number + (2 ^ bits - 1)) (2 ^ 128 - 1)

-- the addresses of a net that are of a family
abbrev pub range_of : Net → SocketAddressFamily → Option (ℕ × ℕ)
range_of net.Any family = Some (0, 2 ^ 128 - 1)
range_of (net.Ipv4 front len) family.Ipv4 = Some (block_low (32 - len) (ipv4_number front), block_high (32 - len) (ipv4_number front))
range_of (net.Ipv4 front len) family.Ipv6 = None
range_of (net.Ipv6 front len) family.Ipv4 = None
range_of (net.Ipv6 front len) family.Ipv6 = Some (block_low (128 - len) (ipv6_number front), block_high (128 - len) (ipv6_number front))

abbrev pub reach_over : Rule → ℕ → Option (ℕ × ℕ) → Option Reach
reach_over rule place None = None
reach_over rule place (Some (low, high)) = Some (record { place = place; low = low; high = high; least = rule.low; greatest = rule.high })

-- what a rule matches of a use and a family
abbrev pub reach_of : Rule → ℕ → SocketAddrUse → SocketAddressFamily → Option Reach
reach_of rule place asked family =
    if is_about rule.usage asked then reach_over rule place (range_of rule.net family) else None

abbrev pub with_reach : Option Reach → List Reach → List Reach
with_reach None reaches = reaches
with_reach (Some reach) reaches = reach ∷ reaches

-- what the rules match of a use and a family; the first of them has this place
abbrev pub reaches_from : ℕ → List Rule → SocketAddrUse → SocketAddressFamily → List Reach
reaches_from place [] asked family = []
reaches_from place (rule ∷ rules) asked family =
    with_reach (reach_of rule place asked family) (reaches_from (place + 1) rules asked family)

-- in place of a rule's place, where there is none
abbrev pub no_rule : ℕ
no_rule = 4294967295

abbrev pub has_port : Reach → ℕ → Bool
has_port reach port = nat_le reach.least port && nat_le port reach.greatest

-- the least place of those that have this port
abbrev pub first_by_port : List Reach → ℕ → ℕ
first_by_port [] port = no_rule
first_by_port (reach ∷ reaches) port =
    min (if has_port reach port then reach.place else no_rule) (first_by_port reaches port)

abbrev pub has : Reach → ℕ → ℕ → Bool
has reach number port = nat_le reach.low number && nat_le number reach.high && has_port reach port

-- the least place of those that have this address and this port
abbrev pub first_of : List Reach → ℕ → ℕ → ℕ
first_of [] number port = no_rule
first_of (reach ∷ reaches) number port =
    min (if has reach number port then reach.place else no_rule) (first_of reaches number port)

-- the least place of the rules that match a use of an address
abbrev pub first_match : List Rule → IpSocketAddress → SocketAddrUse → ℕ
first_match rules address asked =
    let ip = canonical (ip_of address) in
    first_of (reaches_from 0 rules asked (family_of ip)) (ip_number ip) (port_of address)

-- what the rule of a place decides; none where there is no such rule
abbrev pub by_rule : ℕ → Option Rule → Decision
by_rule place None = record { allow = false; rule = 0 }
by_rule place (Some rule) = record { allow = allows rule.action; rule = place + 1 }

abbrev pub by_place : List Rule → ℕ → Decision
by_place rules place = by_rule place (slice_get rules place)
