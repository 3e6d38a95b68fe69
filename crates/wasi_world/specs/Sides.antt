-- What is known of each network socket from the calls that were answered done: what the defaults of `local`, `peer` and
-- `get-option` go by.
use Rattle.std.specs.Prelude.{ℕ, ◌==◌, Bool, true, false, ◌&&◌, if◌then◌else◌, Option, Some, None, unwrap_or}
use Rattle.std.specs.declared.cmp.Ordering.{Ordering}
use Rattle.std.specs.Ordering.{nat_cmp, ordering_then}
use Rattle.std.specs.BTreeMap.{BTreeMap, get}
use Rattle.wasi_addr.specs.declared.address.IpSocketAddress.{IpSocketAddress}
use Rattle.wasi_addr.specs.declared.address.IpSocketAddress.TheVariants as socket
use Rattle.wasi_addr.specs.declared.address.SocketAddressFamily.{SocketAddressFamily}
use Rattle.wasi_addr.specs.declared.address.SocketAddressFamily.TheVariants.{Ipv4}
use Rattle.wasi_addr.specs.Address.{wildcard}
use Rattle.wasi_world.specs.declared.ids.OpId.{OpId}
use Rattle.wasi_world.specs.declared.call.Call.{Call}
use Rattle.wasi_world.specs.declared.call.Call.TheVariants as call
use Rattle.wasi_world.specs.declared.call.Told.{Told}
use Rattle.wasi_world.specs.declared.call.Told.TheVariants as told
use Rattle.wasi_world.specs.declared.call.Opt.{Opt}
use Rattle.wasi_world.specs.declared.call.Opt.TheVariants.{KeepAliveEnabled, KeepAliveIdleTime, KeepAliveInterval, KeepAliveCount, HopLimit, ReceiveBufferSize, SendBufferSize}
use Rattle.wasi_world.specs.declared.sides.Options.{Options}
use Rattle.wasi_world.specs.declared.sides.Side.{Side}

-- each option is 64 until it is set
abbrev pub unset : Options
unset = record { keep_alive_enabled = 64; keep_alive_idle_time = 64; keep_alive_interval = 64; keep_alive_count = 64; hop_limit = 64; receive_buffer_size = 64; send_buffer_size = 64 }

abbrev pub value_of : Options → Opt → ℕ
value_of options KeepAliveEnabled = options.keep_alive_enabled
value_of options KeepAliveIdleTime = options.keep_alive_idle_time
value_of options KeepAliveInterval = options.keep_alive_interval
value_of options KeepAliveCount = options.keep_alive_count
value_of options HopLimit = options.hop_limit
value_of options ReceiveBufferSize = options.receive_buffer_size
value_of options SendBufferSize = options.send_buffer_size

abbrev pub with_value : Options → Opt → ℕ → Options
with_value options KeepAliveEnabled value = record options { keep_alive_enabled = value }
with_value options KeepAliveIdleTime value = record options { keep_alive_idle_time = value }
with_value options KeepAliveInterval value = record options { keep_alive_interval = value }
with_value options KeepAliveCount value = record options { keep_alive_count = value }
with_value options HopLimit value = record options { hop_limit = value }
with_value options ReceiveBufferSize value = record options { receive_buffer_size = value }
with_value options SendBufferSize value = record options { send_buffer_size = value }

-- nothing but its family is known of a network socket that was just made
abbrev pub new_side : SocketAddressFamily → Side
new_side family = record { family = family; local = None; peer = None; options = unset }

-- nothing is known of a network socket that wasn't made
abbrev pub unmade : Side
unmade = new_side Ipv4

-- port 50000 takes the place of port 0
abbrev pub chosen_port : ℕ → ℕ
chosen_port port = if port == 0 then 50000 else port

abbrev pub with_port : IpSocketAddress → IpSocketAddress
with_port (socket.Ipv4 addr) = socket.Ipv4 (record addr { port = chosen_port addr.port })
with_port (socket.Ipv6 addr) = socket.Ipv6 (record addr { port = chosen_port addr.port })

-- bound to an address
abbrev pub bound : Side → IpSocketAddress → Side
bound side addr = record side { local = Some (with_port addr) }

-- bound to the wildcard, unless it was bound before
abbrev pub bound_anyway : Side → Side
bound_anyway side = record side { local = Some (unwrap_or side.local (with_port (wildcard side.family))) }

abbrev pub connected : Side → IpSocketAddress → Side
connected side addr = record (bound_anyway side) { peer = Some addr }

abbrev pub disconnected : Side → Side
disconnected side = record side { peer = None }

-- the address that `local` reports by default
abbrev pub default_local : Side → IpSocketAddress
default_local side = unwrap_or side.local (wildcard side.family)

-- a connection from a peer at a listener
abbrev pub handed : Side → IpSocketAddress → Side
handed listener peer = record { family = listener.family; local = listener.local; peer = Some peer; options = unset }

abbrev pub with_option : Side → Opt → ℕ → Side
with_option side option value = record side { options = with_value side.options option value }

-- the network socket that a call changes once it is answered done, and what is known of that network socket then
abbrev pub change : (OpId → Side) → OpId → Call → Option (OpId × Side)
change sides op (call.TcpCreate _ family) = Some (op, new_side family)
change sides op (call.UdpCreate _ family) = Some (op, new_side family)
change sides op (call.Bind sock addr) = Some (sock, bound (sides sock) addr)
change sides op (call.UdpBind sock addr) = Some (sock, bound (sides sock) addr)
change sides op (call.Connect sock addr) = Some (sock, connected (sides sock) addr)
change sides op (call.UdpConnect sock addr) = Some (sock, connected (sides sock) addr)
change sides op (call.Send sock _ _) = Some (sock, bound_anyway (sides sock))
change sides op (call.Hand listener peer) = Some (op, handed (sides listener) peer)
change sides op (call.UdpDisconnect sock) = Some (sock, disconnected (sides sock))
change sides op (call.SetOption sock option value) = Some (sock, with_option (sides sock) option value)
change sides op _ = None

abbrev pub is_done : Told → Bool
is_done told.Done = true
is_done _ = false

abbrev pub is_same : OpId → OpId → Bool
is_same a b = (a.step == b.step) && (a.part == b.part)

-- what is known of each network socket after such a change
abbrev pub changed : (OpId → Side) → Option (OpId × Side) → OpId → Side
changed sides None sock = sides sock
changed sides (Some change) sock = if is_same change.0 sock then change.1 else sides sock

-- what is known of each network socket after a call was answered; only done changes any
abbrev pub sides_after : (OpId → Side) → OpId → Call → Told → OpId → Side
sides_after sides op c answer = changed sides (if is_done answer then change sides op c else None)

-- names in order: by step, then by part
abbrev pub name_cmp : OpId → OpId → Ordering
name_cmp a b = ordering_then (nat_cmp a.step b.step) (nat_cmp a.part b.part)

-- what a map of network sockets knows of each
abbrev pub known : BTreeMap OpId Side → OpId → Side
known sides sock = unwrap_or (get name_cmp sides sock) unmade
