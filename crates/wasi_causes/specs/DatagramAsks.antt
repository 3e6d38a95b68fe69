-- What a send and a receive of datagrams ask, and what they were told of the datagrams that they answer for.
use Rattle.std.specs.Prelude.{◌≡◌, ◌⊎◌, ⊤, ℕ, ◌+◌, ◌≤◌, true, false, List, [], ◌∷◌, Ok, Option, Some}
use Rattle.wasi_addr.specs.Address.{wildcard}
use Rattle.wasi_addr.specs.declared.address.IpSocketAddress.{IpSocketAddress}
use Rattle.wasi_addr.specs.declared.address.SocketAddrUse.TheVariants as usages
use Rattle.wasi_world.specs.declared.call.Call.{Call}
use Rattle.wasi_world.specs.declared.call.Call.TheVariants as call
use Rattle.wasi_world.specs.declared.call.Entry.{Entry}
use Rattle.wasi_world.specs.declared.call.Told.{Told}
use Rattle.wasi_world.specs.declared.call.Told.TheVariants as told
use Rattle.wasi_world.specs.declared.datagram.IncomingDatagram.{IncomingDatagram}
use Rattle.wasi_world.specs.declared.datagram.OutgoingDatagram.{OutgoingDatagram}
use Rattle.wasi_world.specs.declared.ids.OpId.{OpId}
use Rattle.wasi_udp.specs.Send.{send_to}
use Rattle.wasi_udp.specs.Shape.{Socket}
use Rattle.wasi_udp.specs.declared.send.Destination.{Destination}
use Rattle.udp_records.specs.declared.datagrams.Incoming.{Incoming}
use Rattle.udp_records.specs.declared.datagrams.Receiving.{Receiving}
use Rattle.udp_records.specs.declared.datagrams.Receiving.TheVariants as receiving
use Rattle.wasi_steps.specs.declared.reply.Field.{Field}
use Rattle.wasi_steps.specs.Reply.{datagram_values, number_fields}
use Rattle.wasi_walks.specs.Answered.{EndsPending, says_bound}
use Rattle.wasi_walks.specs.Licence.{Has, IsItem, entry}
use Rattle.wasi_walks.specs.Waiting.{EndsWith}
use Rattle.wasi_causes.specs.Udp.{IsUdpUnbound, udp_local_entry}

-- the operation of this part of a line
abbrev pub part_of : ℕ → ℕ → OpId
part_of line part = record { step = line; part = part }

-- A socket is bound: it was known to be, or among these entries its network socket's local address says so.
pub data IsBoundBy (socket : Socket) (entries : List Entry) : Type 0 where
  KnownBound : socket.bound ≡ true → IsBoundBy socket entries
  SaidBound : (op : OpId) (local : Told) → says_bound socket.family local ≡ true → Has entries (udp_local_entry op socket local) → IsBoundBy socket entries

-- == a send
abbrev pub wildcard_check : Socket → Call
wildcard_check socket = call.Check socket.maker (wildcard socket.family) usages.UdpBind

abbrev pub destination_check : Socket → Destination → Call
destination_check socket to = call.Check socket.maker to.addr usages.UdpSend

abbrev pub send_call : Socket → Destination → OutgoingDatagram → Call
send_call socket to d = call.Send socket.side to.addr d.bytes

-- What is asked for a datagram of this socket after these entries: whether the socket is bound, where that isn't known; of one that
-- isn't bound, the check of the wildcard; the check of where the datagram goes, once it is bound or the wildcard was answered yes; and
-- the datagram itself, once that was answered yes.
pub data AsksToSend (own : OpId) (socket : Socket) (d : OutgoingDatagram) (before : List Entry) : Call → Type 0 where
  SendAsksIfBound : socket.bound ≡ false → AsksToSend own socket d before (call.Local socket.side)
  ChecksWildcard : (local : Told) → IsUdpUnbound socket local → EndsWith (udp_local_entry own socket local) before → AsksToSend own socket d before (wildcard_check socket)
  ChecksDestination : (to : Destination) → send_to socket d.bytes d.remote_address ≡ Ok to → IsBoundBy socket before ⊎ EndsWith (entry own (wildcard_check socket) told.Yes) before → AsksToSend own socket d before (destination_check socket to)
  SendsIt : (to : Destination) → send_to socket d.bytes d.remote_address ≡ Ok to → EndsWith (entry own (destination_check socket to) told.Yes) before → AsksToSend own socket d before (send_call socket to d)

-- It is asked for one of these datagrams, by the operation of the datagram's part.
pub record IsOfSend (line : ℕ) (socket : Socket) (datagrams : List OutgoingDatagram) (before : List Entry) (op : OpId) (asked : Call) : Type 0 where
  pub part : ℕ
  pub datagram : OutgoingDatagram
  pub item : IsItem part datagram datagrams
  pub by : op ≡ part_of line part
  pub asks : AsksToSend op socket datagram before asked

-- The datagram was sent, which was answered done.
pub record WasSent (own : OpId) (socket : Socket) (d : OutgoingDatagram) (entries : List Entry) : Type 0 where
  pub to : Destination
  pub goes : send_to socket d.bytes d.remote_address ≡ Ok to
  pub told : Has entries (entry own (send_call socket to d) told.Done)

-- Of so many datagrams each was sent, but that the last may wait: then the last ask is its, which was answered pending, and it is the one
-- that is sent in the background by this operation.
abbrev pub AreSent : ℕ → Socket → List OutgoingDatagram → ℕ → List Entry → Option OpId → Type 0
AreSent line socket datagrams count entries background =
    (part : ℕ) (d : OutgoingDatagram) → IsItem part d datagrams → part ≤ count
    → WasSent (part_of line part) socket d entries ⊎ ((part ≡ count) × EndsPending (part_of line part) entries × (background ≡ Some (part_of line part)))

-- The number is of datagrams that were sent so.
pub record CountsSent (line : ℕ) (socket : Socket) (datagrams : List OutgoingDatagram) (fields : List Field) (entries : List Entry) (background : Option OpId) : Type 0 where
  pub count : ℕ
  pub gives : fields ≡ number_fields count
  pub sent : AreSent line socket datagrams count entries background

-- == a receive
abbrev pub sender_check : Socket → IpSocketAddress → Call
sender_check socket a = call.Check socket.maker a usages.UdpReceive

-- What a receive of this socket asks after these entries: whether the socket is bound, where that isn't known; a datagram, of a socket
-- that is bound; and the check of its sender, once one came.
pub data AsksToReceive (own : OpId) (socket : Socket) (before : List Entry) : Call → Type 0 where
  ReceiveAsksIfBound : socket.bound ≡ false → AsksToReceive own socket before (call.Local socket.side)
  AsksForDatagram : IsBoundBy socket before → AsksToReceive own socket before (call.Recv socket.side)
  ChecksSender : (bytes : List ℕ) (a : IpSocketAddress) → EndsWith (entry own (call.Recv socket.side) (told.Datagram bytes a)) before → AsksToReceive own socket before (sender_check socket a)

-- It is asked by one of the line's receives, of which there are at most as many as datagrams are wanted, and at most 16.
pub record IsOfReceive (line : ℕ) (socket : Socket) (most : ℕ) (before : List Entry) (op : OpId) (asked : Call) : Type 0 where
  pub part : ℕ
  pub some : 1 ≤ part
  pub wanted : part ≤ most
  pub within : part ≤ 16
  pub by : op ≡ part_of line part
  pub asks : AsksToReceive op socket before asked

-- By this operation the datagram came, and the check of its sender was answered yes.
pub record Came (own : OpId) (socket : Socket) (entries : List Entry) (d : IncomingDatagram) : Type 0 where
  pub came : Has entries (entry own (call.Recv socket.side) (told.Datagram d.bytes d.remote_address))
  pub allowed : Has entries (entry own (sender_check socket d.remote_address) told.Yes)

-- each of these came by a receive of its own, the first by that of this part and each other by the next
abbrev pub CameInTurn : ℕ → Socket → List Entry → ℕ → List IncomingDatagram → Type 0
CameInTurn line socket entries part [] = ⊤
CameInTurn line socket entries part (d ∷ ds) = Came (part_of line part) socket entries d × CameInTurn line socket entries (part + 1) ds

-- These datagrams are handed out: none; or with no receive before, what came by the line's receives in turn; or the one that had come
-- before and wasn't taken, and then what came so.
pub data AreHandedOut (line : ℕ) (socket : Socket) (before : Receiving) (entries : List Entry) : List IncomingDatagram → Type 0 where
  HandsOutNone : AreHandedOut line socket before entries []
  HandsOutNew : (ds : List IncomingDatagram) → before ≡ receiving.Nothing → CameInTurn line socket entries 1 ds → AreHandedOut line socket before entries ds
  HandsOutHeld : (d : IncomingDatagram) (ds : List IncomingDatagram) → before ≡ receiving.Came d → CameInTurn line socket entries 1 ds → AreHandedOut line socket before entries (d ∷ ds)

-- So the datagrams of the reply are handed out.
pub record HandsOutWhatCame (line : ℕ) (socket : Socket) (stream : Incoming) (fields : List Field) (entries : List Entry) : Type 0 where
  pub datagrams : List IncomingDatagram
  pub gives : fields ≡ datagram_values datagrams
  pub handed : AreHandedOut line socket stream.receiving entries datagrams
