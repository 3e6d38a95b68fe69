-- What it is that a socket is bound by a bind, connects by a connect, listens by a listen and accepts by an accept.
use Rattle.std.specs.Prelude.{◌≡◌, ℕ, List, [], ◌∷◌, Option, Some, None, ⊤}
use Rattle.wasi_world.specs.declared.ids.OpId.{OpId}
use Rattle.wasi_world.specs.Operation.{Operation, UdpWritable, CloseLast}
use Rattle.wasi_udp.specs.Bind.{IsBind as IsUdpBind}
use Rattle.wasi_udp.specs.Create.{Create}
use Rattle.udp_records.specs.declared.udp.OpenUdp.{OpenUdp}
use Rattle.udp_records.specs.declared.udp.UdpRecord.{UdpRecord}
use Rattle.udp_records.specs.declared.udp.UdpInProgress.{UdpInProgress}
use Rattle.wasi_tcp.specs.Connecting.{HoldsConnect}
use Rattle.wasi_tcp.specs.Listen.{IsListen}
use Rattle.wasi_tcp.specs.Listener.{HoldsAccept}
use Rattle.wasi_tcp.specs.declared.socket.TcpState.{TcpState}
use Rattle.wasi_records.specs.Records.{tcp2_at, udp2_at}
use Rattle.wasi_records.specs.declared.records.Record.{Record}
use Rattle.tcp_records.specs.declared.tcp_binding.InProgress.{InProgress}
use Rattle.tcp_records.specs.declared.tcp_listening.Listening.{Listening}
use Rattle.tcp_records.specs.declared.socket.TcpRecord.{TcpRecord}
use Rattle.host_store.specs.declared.store.StandingCall.{StandingCall}
use Rattle.wasi_udp.specs.Receive.{IsReceive}
use Rattle.wasi_udp.specs.Send.{IsSend}
use Rattle.wasi_walks.specs.Waiting.{IsRestOfBind, IsRestOfUdpConnect}
use Rattle.wasi_walks.proofs.walks.Moves.{HasBinding, HasListen, sending_in, receiving_in}

-- what it listens by is a listen, and what it accepts by an accept
abbrev pub FitListening : Listening → Type 0
FitListening (Listening.Begins op) = IsListen op
FitListening (Listening.Accepts l) = HoldsAccept l.side l.maker l.accept
FitListening _ = ⊤

-- what it is bound by is a bind, of its socket, which does nothing yet
abbrev pub FitProgress : TcpState → InProgress → Type 0
FitProgress s (InProgress.Binding op) = (s ≡ TcpState.Default op.who.side) × IsRestOfBind op
FitProgress s _ = ⊤

-- and what it connects by is a connect
abbrev pub FitRecord : TcpRecord → Type 0
FitRecord r = HoldsConnect r.inner.state × FitListening r.listening × FitProgress r.inner.state r.in_progress

-- A bind is in progress in the record at this place.
pub record BindGoesOn (records : List Record) (place : ℕ) : Type 0 where
  pub was : TcpRecord
  pub at : tcp2_at records place ≡ Some was
  pub goes : HasBinding was.in_progress

-- A listen is in progress in the record at this place.
pub record ListenGoesOn (records : List Record) (place : ℕ) : Type 0 where
  pub was : TcpRecord
  pub at : tcp2_at records place ≡ Some was
  pub goes : HasListen was.listening

-- A create is in progress in the record at this place.
pub record UdpCreateGoesOn (records : List Record) (place : ℕ) : Type 0 where
  pub was : Create
  pub at : udp2_at records place ≡ Some (UdpRecord.Creating was)

-- A bind is in progress in the UDP socket at this place.
pub record UdpBindGoesOn (records : List Record) (place : ℕ) : Type 0 where
  pub was : OpenUdp
  pub at : udp2_at records place ≡ Some (UdpRecord.Open was)
  pub op : Operation
  pub goes : was.in_progress ≡ UdpInProgress.Binding op

-- A connect is in progress in the UDP socket at this place.
pub record UdpConnectGoesOn (records : List Record) (place : ℕ) : Type 0 where
  pub was : OpenUdp
  pub at : udp2_at records place ≡ Some (UdpRecord.Open was)
  pub op : Operation
  pub goes : was.connecting ≡ Some op

-- What a UDP socket connects by is a connect, on its network socket.
pub record UdpConnectOn (side : OpId) (op : Operation) : Type 0 where
  pub connect : IsRestOfUdpConnect op
  pub of_side : op.who.side ≡ side

abbrev pub FitConnecting : OpId → Option Operation → Type 0
FitConnecting side (Some op) = UdpConnectOn side op
FitConnecting side None = ⊤

-- What it sends is a datagram, on its network socket.
pub record SendOn (side : OpId) (op : Operation) : Type 0 where
  pub send : IsSend op
  pub of_side : op.who.side ≡ side

-- And what it receives by is a receive.
pub record ReceiveOn (side : OpId) (op : Operation) : Type 0 where
  pub receive : IsReceive op
  pub of_side : op.who.side ≡ side

abbrev pub FitSending : OpId → Option Operation → Type 0
FitSending side (Some op) = SendOn side op
FitSending side None = ⊤

abbrev pub FitReceiving : OpId → Option Operation → Type 0
FitReceiving side (Some op) = ReceiveOn side op
FitReceiving side None = ⊤

-- What a UDP socket is bound by is a bind, on its network socket.
pub record UdpBindOn (side : OpId) (op : Operation) : Type 0 where
  pub bind : IsUdpBind op
  pub of_side : op.who.side ≡ side

-- what it is made by is a create that waits for its network socket
abbrev pub FitUdpProgress : OpId → UdpInProgress → Type 0
FitUdpProgress side (UdpInProgress.Binding op) = UdpBindOn side op
FitUdpProgress side _ = ⊤

abbrev pub FitUdp : UdpRecord → Type 0
FitUdp (UdpRecord.Creating create) = (create.operation.who.last ≡ CloseLast) × (create.operation.left ≡ UdpWritable ∷ [])
FitUdp (UdpRecord.Open o) = FitUdpProgress o.inner.side o.in_progress × FitConnecting o.inner.side o.connecting × FitSending o.inner.side (sending_in o.outgoing) × FitReceiving o.inner.side (receiving_in o.incoming)
FitUdp _ = ⊤

-- where a bind, a listen, a create or a connect is pending, it is in progress
abbrev pub FitCall : List Record → StandingCall → Type 0
FitCall records (StandingCall.Bind place face) = BindGoesOn records place
FitCall records (StandingCall.Listen place marks) = ListenGoesOn records place
FitCall records (StandingCall.DropOutput place) = ⊤
FitCall records (StandingCall.UdpCreate place face) = UdpCreateGoesOn records place
FitCall records (StandingCall.UdpBind place face) = UdpBindGoesOn records place
FitCall records (StandingCall.UdpConnect place handle) = UdpConnectGoesOn records place
FitCall records (StandingCall.UdpConnect3 place) = UdpConnectGoesOn records place
FitCall records (StandingCall.DropOutgoing place) = ⊤
FitCall records (StandingCall.Blocking call) = ⊤
