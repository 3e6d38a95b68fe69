-- Addresses, options and halves as C has them.
use Rattle.std.specs.Prelude.{◌++◌, ℕ, ℤ, pos, List, Result, replicate, take}
use Rattle.std.specs.Int.{w32, to_le_bytes, from_le_bytes}
use Rattle.std.specs.Net.Addr.{HasPrefix}
use Rattle.std.specs.Net.SockAddr.{in_storage, sockaddr, sockaddr_len}
use Rattle.wasi_addr.specs.declared.address.IpSocketAddress.{IpSocketAddress}
use Rattle.wasi_addr.specs.declared.address.SocketAddressFamily.{SocketAddressFamily}
use Rattle.wasi_addr.specs.declared.address.SocketAddressFamily.TheVariants.{Ipv4, Ipv6}
use Rattle.wasi_addr.specs.declared.address.ShutdownType.{ShutdownType}
use Rattle.wasi_addr.specs.declared.address.ShutdownType.TheVariants.{Receive, Send, Both}
use Rattle.wasi_addr.specs.Conversion.{socket_to_std}
use Rattle.wasi_net.specs.declared.errno.Errno.{Errno}
use Rattle.wasi_net.specs.declared.setting.Setting.{Setting}
use Rattle.wasi_net.specs.declared.setting.Setting.TheVariants as setting
use Rattle.wasi_net.specs.declared.calls.Transport.{Transport}
use Rattle.wasi_net.specs.declared.calls.Transport.TheVariants.{Tcp, Udp}
use Rattle.wasi_net.specs.Acts.{Act, Status}
use Rattle.wasi_net.specs.Acts as act

-- AF_INET, AF_INET6
abbrev pub domain_of : SocketAddressFamily → ℤ
domain_of Ipv4 = pos 2
domain_of Ipv6 = pos 10

-- SOCK_STREAM and SOCK_DGRAM, with SOCK_NONBLOCK and SOCK_CLOEXEC
abbrev pub kind_of : Transport → ℤ
kind_of Tcp = pos 526337
kind_of Udp = pos 526338

-- the address's bytes, and zeros up to 128
abbrev pub storage : IpSocketAddress → List ℕ
storage addr = in_storage (sockaddr (socket_to_std addr))

-- how many of them are the address's
abbrev pub storage_len : IpSocketAddress → ℕ
storage_len addr = sockaddr_len (socket_to_std addr)

-- the bytes are those of this address
abbrev pub Holds : List ℕ → IpSocketAddress → Type 0
Holds raw addr = HasPrefix raw (sockaddr (socket_to_std addr))

-- AF_UNSPEC, which dissolves an association
abbrev pub no_address : List ℕ
no_address = replicate 128 0

-- SHUT_RD, SHUT_WR, SHUT_RDWR
abbrev pub shut_number : ShutdownType → ℤ
shut_number Receive = pos 0
shut_number Send = pos 1
shut_number Both = pos 2

-- SOL_SOCKET, IPPROTO_IP, IPPROTO_TCP, IPPROTO_IPV6
abbrev pub level_of : Setting → ℤ
level_of setting.KeepIdle = pos 6
level_of setting.KeepInterval = pos 6
level_of setting.KeepCount = pos 6
level_of setting.Ttl = pos 0
level_of setting.V6Only = pos 41
level_of _ = pos 1

-- SO_REUSEADDR, SO_ERROR, SO_SNDBUF, SO_RCVBUF, SO_KEEPALIVE, TCP_KEEPIDLE, TCP_KEEPINTVL, TCP_KEEPCNT, IP_TTL, IPV6_V6ONLY
abbrev pub name_of : Setting → ℤ
name_of setting.ReuseAddress = pos 2
name_of setting.Error = pos 4
name_of setting.SendBuffer = pos 7
name_of setting.ReceiveBuffer = pos 8
name_of setting.KeepAlive = pos 9
name_of setting.KeepIdle = pos 4
name_of setting.KeepInterval = pos 5
name_of setting.KeepCount = pos 6
name_of setting.Ttl = pos 2
name_of setting.V6Only = pos 26

-- an int in the first four bytes
abbrev pub int_value : ℕ → List ℕ
int_value n = to_le_bytes w32 n ++ replicate 12 0

-- the int in the first four bytes
abbrev pub int_in : List ℕ → ℕ
int_in value = from_le_bytes w32 (take 4 value)

-- == the calls, by what they mean
abbrev pub bind_to : ℤ → IpSocketAddress → Status → Act
bind_to fd addr r = act.Bind fd (storage addr) (storage_len addr) r

abbrev pub connect_to : ℤ → IpSocketAddress → Status → Act
connect_to fd addr r = act.Connect fd (storage addr) (storage_len addr) r

abbrev pub disconnect : ℤ → Status → Act
disconnect fd r = act.Connect fd no_address 16 r

abbrev pub send_to : ℤ → List ℕ → IpSocketAddress → Result ℕ Errno → Act
send_to fd bytes addr r = act.SendTo fd bytes (storage addr) (storage_len addr) r

abbrev pub shut : ℤ → ShutdownType → Status → Act
shut fd how r = act.Shutdown fd (shut_number how) r

abbrev pub set_to : ℤ → Setting → ℕ → Status → Act
set_to fd s n r = act.Set fd (level_of s) (name_of s) (int_value n) 4 r

abbrev pub get_of : ℤ → Setting → Result (List ℕ) Errno → Act
get_of fd s r = act.Get fd (level_of s) (name_of s) r
