-- One call after another on one socket, and what they keep.
use Rattle.std.specs.Prelude.{◌≡◌, ℕ, List, [], ◌∷◌, Some}
use Rattle.wasi_addr.specs.declared.address.IpSocketAddress.{IpSocketAddress}
use Rattle.wasi_world.specs.declared.ids.OpId.{OpId}
use Rattle.wasi_world.specs.declared.call.Opt.{Opt}
use Rattle.wasi_world.specs.Asks.{Asks, Give, bind}
use Rattle.wasi_tcp.specs.declared.socket.Connection.{Connection}
use Rattle.wasi_tcp.specs.declared.socket.TcpState.TheVariants.{Connected}
use Rattle.wasi_tcp.specs.Shape.{Socket}
use Rattle.wasi_tcp.specs.Socket.{bound_asks, bind_asks}
use Rattle.wasi_tcp.specs.Connecting.{start_connect_asks, finish_connect_asks, in_socket}
use Rattle.wasi_tcp.specs.Listening.{listen_asks}
use Rattle.wasi_tcp.specs.Addresses.{local_asks, remote_asks}
use Rattle.wasi_tcp.specs.Halves.{take_receive, take_send}
use Rattle.wasi_tcp.specs.Options.{set_option_asks, set_backlog_asks}

-- the calls on a socket that may change it, but its close; a poll of a listen takes only one that has no network socket
pub data SocketCall : Type 0 where
  IsBound : OpId → SocketCall
  BindTo : OpId → IpSocketAddress → SocketCall
  StartConnect : OpId → IpSocketAddress → SocketCall
  FinishConnect : SocketCall
  StartListen : OpId → SocketCall
  LocalAddress : OpId → SocketCall
  RemoteAddress : OpId → SocketCall
  TakeReceive : SocketCall
  TakeSend : SocketCall
  SetOption : OpId → Opt → ℕ → SocketCall
  SetBacklog : OpId → ℕ → SocketCall

-- what is kept of what a call gives
abbrev pub socket_left : {T : Type 0} → Asks (T × Socket) → Asks Socket
socket_left asks = bind asks (λ done. Give done.1)

-- the socket after a call
abbrev pub after_call : SocketCall → Socket → Asks Socket
after_call (IsBound op) socket = socket_left (bound_asks op socket)
after_call (BindTo op a) socket = socket_left (bind_asks op socket a)
after_call (StartConnect op a) socket = socket_left (start_connect_asks op socket a)
after_call FinishConnect socket = socket_left (finish_connect_asks socket)
after_call (StartListen op) socket = socket_left (listen_asks op socket)
after_call (LocalAddress op) socket = socket_left (local_asks op socket)
after_call (RemoteAddress op) socket = socket_left (remote_asks op socket)
after_call TakeReceive socket = Give (in_socket socket (take_receive socket.state)).1
after_call TakeSend socket = Give (in_socket socket (take_send socket.state)).1
after_call (SetOption op option value) socket = socket_left (set_option_asks op socket option value)
after_call (SetBacklog op value) socket = socket_left (set_backlog_asks op socket value)

-- the socket after one call and another
abbrev pub after_calls : List SocketCall → Socket → Asks Socket
after_calls [] socket = Give socket
after_calls (call ∷ calls) socket = bind (after_call call socket) (λ s. after_calls calls s)

-- The socket is connected, and this remote address is kept.
pub record KnowsPeer (a : IpSocketAddress) (socket : Socket) : Type 0 where
  pub connection : Connection
  pub connected : socket.state ≡ Connected connection
  pub peer : connection.peer ≡ Some a
