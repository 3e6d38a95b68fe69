-- Which addresses may be used, by their ports.
use Rattle.std.specs.Prelude.{ℕ, ◌==◌, Bool, true, ◌&&◌, ◌||◌, if◌then◌else◌, List, Option, Some, None, option_map}
use Rattle.std.specs.List.{list_any}
use Rattle.wasi_addr.specs.declared.address.IpAddress.{IpAddress}
use Rattle.wasi_addr.specs.declared.address.IpAddress.TheVariants as ip
use Rattle.wasi_addr.specs.declared.address.IpSocketAddress.{IpSocketAddress}
use Rattle.wasi_addr.specs.declared.address.SocketAddressFamily.TheVariants.{Ipv4, Ipv6}
use Rattle.wasi_addr.specs.declared.address.SocketAddrUse.{SocketAddrUse}
use Rattle.wasi_addr.specs.declared.address.SocketAddrUse.TheVariants.{TcpBind, TcpListen, TcpAccept, TcpConnect, UdpBind, UdpSend, UdpReceive}
use Rattle.wasi_addr.specs.Address.{ip_of, port_of, is_wildcard}
use Rattle.wasi_net.specs.declared.allowed.Allowed.{Allowed}
use Rattle.wasi_world.specs.declared.call.Told.{Told}
use Rattle.wasi_world.specs.declared.call.Told.TheVariants.{Yes, No}

-- an address of this machine alone: 127.0.0.0/8, or ::1
abbrev pub is_loopback : IpAddress → Bool
is_loopback (ip.Ipv4 (a, _, _, _)) = a == 127
is_loopback (ip.Ipv6 (a, b, c, d, e, f, g, h)) =
    (a == 0) && (b == 0) && (c == 0) && (d == 0) && (e == 0) && (f == 0) && (g == 0) && (h == 1)

-- the wildcard of either family, which leaves address and port to the system
abbrev pub is_any : IpSocketAddress → Bool
is_any addr = is_wildcard Ipv4 addr || is_wildcard Ipv6 addr

-- the port is among the ports, or every port is
abbrev pub has : Option (List ℕ) → ℕ → Bool
has (Some ports) port = list_any (λ it. it == port) ports
has None port = true

-- the address's port is
abbrev pub has_port : Option (List ℕ) → IpSocketAddress → Bool
has_port ports addr = has ports (port_of addr)

-- which ports may be used, or every port, and whether on every address or on this machine's own alone
pub record Policy : Type 0 where
  pub ports : Option (List ℕ)
  pub anywhere : Bool

abbrev pub policy_of : Allowed → Policy
policy_of allowed = record { ports = option_map (λ ports. ports.items) allowed.ports; anywhere = allowed.anywhere }

-- an address that may be used with the ports
abbrev pub is_near : Policy → IpSocketAddress → Bool
is_near policy addr = policy.anywhere || is_loopback (ip_of addr)

abbrev pub is_own : Policy → IpSocketAddress → Bool
is_own policy addr = is_near policy addr && has_port policy.ports addr

-- port 0 is allowed, which stands for any port that is free
abbrev pub has_free : Policy → Bool
has_free policy = has policy.ports 0

-- whether the address may be put to this use; the port of what arrives isn't looked at
abbrev pub allows : Policy → IpSocketAddress → SocketAddrUse → Bool
allows policy addr TcpBind = is_any addr || is_own policy addr
allows policy addr TcpListen = is_near policy addr && (has_port policy.ports addr || has_free policy)
allows policy addr TcpConnect = is_own policy addr
allows policy addr TcpAccept = is_near policy addr
allows policy addr UdpBind = is_any addr || is_own policy addr
allows policy addr UdpSend = is_own policy addr
allows policy addr UdpReceive = is_near policy addr

-- the answer to a check
abbrev pub verdict : Policy → IpSocketAddress → SocketAddrUse → Told
verdict policy addr usage = if allows policy addr usage then Yes else No
