-- What rules decide: the first that matches.
use Rattle.std.specs.Prelude.{ℕ, ◌+◌, ◌-◌, ◌*◌, ◌/◌, ◌^◌, ◌==◌, ◌&&◌, nat_le, Bool, true, false, if◌then◌else◌, List, [], ◌∷◌, Option, Some, None}
use Rattle.wasi_addr.specs.declared.address.IpAddress.{IpAddress}
use Rattle.wasi_addr.specs.declared.address.IpAddress.TheVariants as ip
use Rattle.wasi_addr.specs.declared.address.IpSocketAddress.{IpSocketAddress}
use Rattle.wasi_addr.specs.declared.address.SocketAddrUse.{SocketAddrUse}
use Rattle.wasi_addr.specs.declared.address.SocketAddrUse.TheVariants as usage
use Rattle.wasi_addr.specs.Address.{canonical, ip_of, port_of}
use Rattle.wasi_policy.specs.declared.rule.Action.{Action}
use Rattle.wasi_policy.specs.declared.rule.Action.TheVariants.{Allow, Deny}
use Rattle.wasi_policy.specs.declared.rule.Net.{Net}
use Rattle.wasi_policy.specs.declared.rule.Net.TheVariants as net
use Rattle.wasi_policy.specs.declared.rule.Rule.{Rule}
use Rattle.wasi_policy.specs.declared.rule.Decision.{Decision}

-- == addresses as numbers
-- four bytes as one number, the first byte highest
abbrev pub ipv4_number : ℕ × ℕ × ℕ × ℕ → ℕ
ipv4_number (a, b, c, d) = ((a * 256 + b) * 256 + c) * 256 + d

-- eight segments as one number, the first segment highest
abbrev pub ipv6_number : ℕ × ℕ × ℕ × ℕ × ℕ × ℕ × ℕ × ℕ → ℕ
ipv6_number (a, b, c, d, e, f, g, h) =
    ((((((a * 65536 + b) * 65536 + c) * 65536 + d) * 65536 + e) * 65536 + f) * 65536 + g) * 65536 + h

-- two numbers of so many bits agree in their first len bits
abbrev pub agree : ℕ → ℕ → ℕ → ℕ → Bool
agree bits len m n = m / 2 ^ (bits - len) == n / 2 ^ (bits - len)

-- == what a rule matches
-- the address has the family of the net, and agrees with it in its first bits
abbrev pub is_in : Net → IpAddress → Bool
is_in net.Any address = true
is_in (net.Ipv4 front len) (ip.Ipv4 address) = agree 32 len (ipv4_number front) (ipv4_number address)
is_in (net.Ipv4 front len) (ip.Ipv6 address) = false
is_in (net.Ipv6 front len) (ip.Ipv4 address) = false
is_in (net.Ipv6 front len) (ip.Ipv6 address) = agree 128 len (ipv6_number front) (ipv6_number address)

-- a place of its own for each use
abbrev pub use_place : SocketAddrUse → ℕ
use_place usage.TcpBind = 0
use_place usage.TcpListen = 1
use_place usage.TcpAccept = 2
use_place usage.TcpConnect = 3
use_place usage.UdpBind = 4
use_place usage.UdpSend = 5
use_place usage.UdpReceive = 6

-- the rule's use is any, or this one
abbrev pub is_about : Option SocketAddrUse → SocketAddrUse → Bool
is_about None asked = true
is_about (Some u) asked = use_place u == use_place asked

-- the rule matches: by use, port, and the canonical address
abbrev pub matches : Rule → IpSocketAddress → SocketAddrUse → Bool
matches rule address asked =
    is_about rule.usage asked
    && nat_le rule.low (port_of address)
    && nat_le (port_of address) rule.high
    && is_in rule.net (canonical (ip_of address))

-- == the decision
abbrev pub allows : Action → Bool
allows Allow = true
allows Deny = false

-- of the rules from this line on, the first that matches decides; where none matches the use is denied, by no rule
abbrev pub decided_from : ℕ → List Rule → IpSocketAddress → SocketAddrUse → Decision
decided_from line [] address asked = record { allow = false; rule = 0 }
decided_from line (rule ∷ rules) address asked =
    if matches rule address asked
    then record { allow = allows rule.action; rule = line }
    else decided_from (line + 1) rules address asked

-- what the rules decide; a rule's line is counted from 1
abbrev pub decision : List Rule → IpSocketAddress → SocketAddrUse → Decision
decision rules address asked = decided_from 1 rules address asked
