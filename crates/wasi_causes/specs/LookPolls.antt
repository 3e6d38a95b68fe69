-- What a look leaves of the operation that it polls: of a connect, of an accept, and of a receive.
use Rattle.std.specs.Prelude.{◌≡◌, ℕ, Bool, true, false, not, List, [], ◌++◌, None, Some}
use Rattle.wasi_addr.specs.declared.address.IpSocketAddress.{IpSocketAddress}
use Rattle.wasi_addr.specs.declared.code.ErrorCode.{ErrorCode}
use Rattle.wasi_world.specs.declared.call.Entry.{Entry}
use Rattle.wasi_world.specs.declared.ids.Ids.{Ids}
use Rattle.wasi_world.specs.declared.ids.OpId.{OpId}
use Rattle.wasi_world.specs.Operation.{Connection, Waits, Done, Refused, Given, Item, Operation}
use Rattle.wasi_tcp.specs.Listener.{Listener, begun}
use Rattle.wasi_tcp.specs.declared.listener.Accepting.{Accepting}
use Rattle.wasi_tcp.specs.declared.listener.Accepting.TheVariants.{Asking, Arrived, Failed}
use Rattle.wasi_tcp.specs.declared.socket.TcpState.{TcpState}
use Rattle.wasi_tcp.specs.declared.socket.TcpState.TheVariants.{Connecting, Connected, Closed}
use Rattle.wasi_udp.specs.Receive.{receive_start}
use Rattle.wasi_udp.specs.Shape.{Socket}
use Rattle.record_common.specs.Names.{next_name}
use Rattle.udp_records.specs.Receiving.{has_none, is_receiving}
use Rattle.wasi_records.specs.Records.{tcp2_put, open_put}
use Rattle.udp_records.specs.declared.datagrams.Incoming.{Incoming}
use Rattle.udp_records.specs.declared.datagrams.Receiving.{Receiving}
use Rattle.udp_records.specs.declared.datagrams.Receiving.TheVariants as receiving
use Rattle.tcp_records.specs.declared.socket.TcpRecord.{TcpRecord}
use Rattle.tcp_records.specs.declared.tcp_listening.Listening.TheVariants.{Accepts}
use Rattle.udp_records.specs.declared.udp.OpenUdp.{OpenUdp}
use Rattle.host_store.specs.declared.machine.Machine.{Machine}
use Rattle.wasi_causes.specs.SendCauses.{BoundSo, found_so}
use Rattle.wasi_causes.specs.TurnPolls.{PolledOnce, ReceivePolled, still}

-- == a connect
-- It continues with what is left and isn't ready, or is over: the socket is connected, or closed with the code.
pub data ConnectLeft (op : Operation) (es : List Entry) : TcpState → Bool → Type 0 where
  ConnectGoesOn : (items : List Item) → PolledOnce op es (Waits, items) → ConnectLeft op es
      (Connecting (still op items)) false
  ConnectIsDone : (given : Given) (items : List Item) → PolledOnce op es (Done given, items)
      → ConnectLeft op es
      (Connected (record { side = op.who.side; peer = None; receive_taken = false; send_taken = false })) true
  ConnectHasCode : (c : ErrorCode) (given : Given) (items : List Item) → PolledOnce op es (Refused c given, items)
      → ConnectLeft op es (Closed c) true

pub record ConnectLooked (m : Machine) (place : ℕ) (r : TcpRecord) (op : Operation) (es : List Entry) (ready : Bool)
    (after : Machine) : Type 0 where
  pub now : TcpState
  pub left : ConnectLeft op es now ready
  pub kept : after.store.records ≡ tcp2_put m.store.records place (record r { inner = record r.inner { state = now } })

-- == an accept
-- The one that is in progress, or that the look begins where none is, continues and isn't ready, or has its connection
-- or its code; one that has them already is ready, and nothing is asked.
pub data AcceptLeft (l : Listener) (ids : Ids) : List Entry → Accepting → Bool → Type 0 where
  AcceptGoesOn : (op : Operation) (items : List Item) (es : List Entry) → begun l.side l.maker ids l.accept ≡ Asking op
      → PolledOnce op es (Waits, items) → AcceptLeft l ids es (Asking (still op items)) false
  AcceptHasConnection : (op : Operation) (new : OpId) (peer : IpSocketAddress) (items : List Item) (es : List Entry)
      → begun l.side l.maker ids l.accept ≡ Asking op → PolledOnce op es (Done (Connection new peer), items)
      → AcceptLeft l ids es (Arrived new peer) true
  AcceptHasCode : (op : Operation) (c : ErrorCode) (given : Given) (items : List Item) (es : List Entry)
      → begun l.side l.maker ids l.accept ≡ Asking op → PolledOnce op es (Refused c given, items) → AcceptLeft l ids es
      (Failed c) true
  ConnectionWaited : (new : OpId) (peer : IpSocketAddress) → l.accept ≡ Arrived new peer → AcceptLeft l ids []
      (Arrived new peer) true
  CodeWaited : (c : ErrorCode) → l.accept ≡ Failed c → AcceptLeft l ids [] (Failed c) true

pub record AcceptLooked (m : Machine) (place : ℕ) (r : TcpRecord) (l : Listener) (ids : Ids) (es : List Entry)
    (ready : Bool) (after : Machine) : Type 0 where
  pub now : Accepting
  pub left : AcceptLeft l ids es now ready
  pub kept : after.store.records ≡ tcp2_put m.store.records place
      (record r { listening = Accepts (record l { accept = now }) })

-- == a receive
-- Where none is in progress and none has ended one is begun, by the next name of the line, of a socket that was found
-- bound or not, and polled; else nothing is asked. It isn't ready exactly while one is in progress then.
pub data ReceiveLeft (ids : Ids) (socket : Socket) (inc : Incoming) : List Entry → Socket → Receiving → Type 0 where
  ReceiveIsBegun : (asked polled : List Entry) (bound : Bool) (now : Receiving) → inc.receiving ≡ receiving.Nothing
      → BoundSo (next_name ids) socket asked bound
      → ReceivePolled inc.remote (receive_start (next_name ids) socket bound) polled now
      → ReceiveLeft ids socket inc (asked ++ polled) (found_so bound socket) now
  NoneIsBegun : has_none inc.receiving ≡ false → ReceiveLeft ids socket inc [] socket inc.receiving

pub record ReceiveLooked (m : Machine) (place : ℕ) (o : OpenUdp) (inc : Incoming) (ids : Ids) (es : List Entry)
    (ready : Bool) (after : Machine) : Type 0 where
  pub socket : Socket
  pub now : Receiving
  pub left : ReceiveLeft ids o.inner inc es socket now
  pub ready_so : ready ≡ not (is_receiving now)
  pub kept : after.store.records ≡ open_put m.store.records place
      (record o { inner = socket; incoming = Some (record inc { receiving = now }) })
