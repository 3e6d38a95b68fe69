-- What a look at a rule says of the addresses behind it.
use Rattle.std.specs.Prelude.{◌≡◌, ℕ, ◌+◌, ◌≤◌, ◌<◌, ◌^◌, ◌&&◌, nat_le, nat_lt, Bool, true, false, if◌then◌else◌, List, Option, Some, None}
use Rattle.wasi_addr.specs.declared.address.IpSocketAddress.{IpSocketAddress}
use Rattle.wasi_addr.specs.declared.address.SocketAddressFamily.{SocketAddressFamily}
use Rattle.wasi_addr.specs.declared.address.SocketAddressFamily.TheVariants as family
use Rattle.wasi_addr.specs.declared.address.SocketAddrUse.{SocketAddrUse}
use Rattle.wasi_policy.specs.declared.rule.Rule.{Rule}
use Rattle.wasi_policy.specs.Decision.{decision, is_about}
use Rattle.wasi_policy.specs.Reach.{range_of}
use Rattle.wasi_policy.specs.Points.{in_range, IsAt}
use Rattle.wasi_policy.specs.Overlaps.{canonical_from}

-- the last number of a range; the other one, if there is no range
abbrev pub last_of : Option (ℕ × ℕ) → ℕ → ℕ
last_of None other = other
last_of (Some (low, high)) other = high

-- a rule matches the address of a family with this number, at a port
abbrev pub matches_there : Rule → SocketAddrUse → SocketAddressFamily → ℕ → ℕ → Bool
matches_there rule asked family number port =
    is_about rule.usage asked && nat_le rule.low port && nat_le port rule.high && in_range (range_of rule.net family) number

-- a rule of the first use is about all that one of the second is
abbrev pub holds_use : Option SocketAddrUse → Option SocketAddrUse → Bool
holds_use None None = true
holds_use (Some asked) None = false
holds_use one (Some asked) = is_about one asked

-- the first range has all numbers of the second
abbrev pub holds_range : Option (ℕ × ℕ) → Option (ℕ × ℕ) → Bool
holds_range one None = true
holds_range None (Some other) = false
holds_range (Some (low, high)) (Some (least, greatest)) = nat_le low least && nat_le greatest high

-- the first rule matches all that the second does
abbrev pub covers : Rule → Rule → Bool
covers one other =
    nat_le one.low other.low && nat_le other.high one.high && holds_use one.usage other.usage
    && holds_range (range_of one.net family.Ipv4) (range_of other.net family.Ipv4)
    && holds_range (range_of one.net family.Ipv6) (range_of other.net family.Ipv6)

-- the rule of a line decides none of the addresses from one number to another, at none of the ports from one to another
abbrev pub DecidesNone : List Rule → ℕ → SocketAddrUse → SocketAddressFamily → ℕ → ℕ → ℕ → ℕ → Type 0
DecidesNone rules line asked family low high least greatest =
    (number port : ℕ) (address : IpSocketAddress) → IsAt family number port address
    → low ≤ number → number ≤ high → least ≤ port → port ≤ greatest → (decision rules address asked).rule ≡ line → ⊥

-- the first number behind another that a canonical address of the family has; there is none behind the last of 128 bits
abbrev pub canonical_behind : SocketAddressFamily → ℕ → Option ℕ
canonical_behind family number =
    if nat_lt (number + 1) (2 ^ 128) then canonical_from family (number + 1) else None

-- the number is before the next one to look at, if there is one
abbrev pub IsBefore : Option ℕ → ℕ → Type 0
IsBefore None number = 0 ≤ number
IsBefore (Some next) number = number < next

-- the rule of a line decides none of the addresses before the next number to look at
abbrev pub NeverBefore : List Rule → ℕ → SocketAddrUse → SocketAddressFamily → Option ℕ → Type 0
NeverBefore rules line asked family next =
    (number port : ℕ) (address : IpSocketAddress) → IsAt family number port address
    → IsBefore next number → (decision rules address asked).rule ≡ line → ⊥

-- the rule of a line decides this use of no address of the family
abbrev pub NeverIn : List Rule → ℕ → SocketAddrUse → SocketAddressFamily → Type 0
NeverIn rules line asked family =
    (number port : ℕ) (address : IpSocketAddress) → IsAt family number port address → (decision rules address asked).rule ≡ line → ⊥

-- the rule of a line decides this use of no address
abbrev pub NeverOf : List Rule → ℕ → SocketAddrUse → Type 0
NeverOf rules line asked =
    (number port : ℕ) (family : SocketAddressFamily) (address : IpSocketAddress) → IsAt family number port address
    → (decision rules address asked).rule ≡ line → ⊥
