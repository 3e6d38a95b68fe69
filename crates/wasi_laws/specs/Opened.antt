-- Which sockets are open as a log grows: a create that is done makes one, a hand hands one over, and a close ends it.
use Rattle.std.specs.Prelude.{◌≡◌, ⊤, ℕ, List, ◌∷◌, ◌++◌, Option, Some, None}
use Rattle.wasi_addr.specs.declared.address.IpSocketAddress.{IpSocketAddress}
use Rattle.wasi_addr.specs.declared.address.SocketAddressFamily.{SocketAddressFamily}
use Rattle.wasi_world.specs.declared.ids.OpId.{OpId}
use Rattle.wasi_world.specs.declared.call.Call.{Call}
use Rattle.wasi_world.specs.declared.call.Call.TheVariants.{Check, Lookup, TcpCreate, UdpCreate, UdpWritable, Local, Peer, Bind, UdpBind, UdpConnect, Listen, SetBacklog, Connect, Accept, Hand, Refuse, Read, ReadReady, WriteReady, Write, Shutdown, UdpDisconnect, Send, Recv, GetOption, SetOption, Close, Made}
use Rattle.wasi_world.specs.declared.call.Told.{Told}
use Rattle.wasi_world.specs.declared.call.Told.TheVariants.{Done}
use Rattle.wasi_world.specs.declared.call.Entry.{Entry}
use Rattle.wasi_walks.specs.Licence.{Has, entry}

-- the socket that is asked: none by a check, a lookup or a create, and none by a mark, which is about a handle
abbrev pub socket_of : Call → Option OpId
socket_of (Check ctx addr usage) = None
socket_of (Lookup host) = None
socket_of (TcpCreate ctx family) = None
socket_of (UdpCreate ctx family) = None
socket_of (UdpWritable sock) = Some sock
socket_of (Local sock) = Some sock
socket_of (Peer sock) = Some sock
socket_of (Bind sock addr) = Some sock
socket_of (UdpBind sock addr) = Some sock
socket_of (UdpConnect sock addr) = Some sock
socket_of (Listen sock backlog) = Some sock
socket_of (SetBacklog sock backlog) = Some sock
socket_of (Connect sock addr) = Some sock
socket_of (Accept sock) = Some sock
socket_of (Hand sock peer) = Some sock
socket_of (Refuse sock peer) = Some sock
socket_of (Read sock size) = Some sock
socket_of (ReadReady sock) = Some sock
socket_of (WriteReady sock) = Some sock
socket_of (Write sock offered) = Some sock
socket_of (Shutdown sock how) = Some sock
socket_of (UdpDisconnect sock) = Some sock
socket_of (Send sock addr bytes) = Some sock
socket_of (Recv sock) = Some sock
socket_of (GetOption sock option) = Some sock
socket_of (SetOption sock option value) = Some sock
socket_of (Close sock) = Some sock
socket_of (Made handle kind parent sock) = None

-- A create of it was answered done, or it was handed over.
pub data IsMade (before : List Entry) (side : OpId) : Type 0 where
  Created : (ctx : ℕ) (family : SocketAddressFamily) → Has before (entry side (TcpCreate ctx family) Done) → IsMade before side
  UdpCreated : (ctx : ℕ) (family : SocketAddressFamily) → Has before (entry side (UdpCreate ctx family) Done) → IsMade before side
  HandedOver : (listener : OpId) (peer : IpSocketAddress) (told : Told) → Has before (entry side (Hand listener peer) told) → IsMade before side

-- A close of it was asked.
pub record IsClosed (before : List Entry) (side : OpId) : Type 0 where
  pub op : OpId
  pub told : Told
  pub closed : Has before (entry op (Close side) told)

-- It was made, and wasn't closed.
pub record IsOpen (before : List Entry) (side : OpId) : Type 0 where
  pub made : IsMade before side
  pub unclosed : IsClosed before side → ⊥

-- the socket that is asked, where one is, is open
abbrev pub IsAskedOpen : List Entry → Option OpId → Type 0
IsAskedOpen before None = ⊤
IsAskedOpen before (Some side) = IsOpen before side

-- Each call on a socket, its close too, is asked while the socket is open.
pub record AsksOpenSockets (log : List Entry) : Type 0 where
  pub each : (before : List Entry) (e : Entry) (after : List Entry) → log ≡ before ++ e ∷ after → IsAskedOpen before (socket_of e.call)
