-- How a datagram of 0.3 is sent and how one is received: why either is refused, what it asks and leaves, and how each poll of one that
-- is pending ends. It stands beside other calls, and its socket stays for it.
use Rattle.std.specs.Prelude.{◌≡◌, ℕ, suc, zero, nat_lt, length, Bool, true, false, not, ◌&&◌, List, [], ◌∷◌, ◌++◌, Option, None, Some, Ok, Err}
use Rattle.wasi_addr.specs.Address.{wildcard}
use Rattle.wasi_addr.specs.declared.address.IpSocketAddress.{IpSocketAddress}
use Rattle.wasi_addr.specs.declared.address.SocketAddressFamily.{SocketAddressFamily}
use Rattle.wasi_addr.specs.declared.address.SocketAddrUse.{SocketAddrUse}
use Rattle.wasi_addr.specs.declared.address.SocketAddrUse.TheVariants.{UdpBind, UdpReceive, UdpSend}
use Rattle.wasi_addr.specs.declared.code.ErrorCode.{ErrorCode}
use Rattle.wasi_addr.specs.declared.code.ErrorCode.TheVariants.{AccessDenied, DatagramTooLarge, InvalidArgument, InvalidState}
use Rattle.wasi_world.specs.declared.call.Call.TheVariants as call
use Rattle.wasi_world.specs.declared.call.Entry.{Entry}
use Rattle.wasi_world.specs.declared.call.Told.{Told}
use Rattle.wasi_world.specs.declared.call.Told.TheVariants as told
use Rattle.wasi_world.specs.declared.datagram.IncomingDatagram.{IncomingDatagram}
use Rattle.wasi_world.specs.declared.datagram.OutgoingDatagram.{OutgoingDatagram}
use Rattle.wasi_world.specs.declared.ids.OpId.{OpId}
use Rattle.wasi_world.specs.declared.outcome.TrapKind.TheVariants.{NoSuchHandle}
use Rattle.wasi_world.specs.Operation.{Check, CheckPeer, Datagram, Done, End, Given, Item, Last, Nothing, NothingLast, Operation, Refused, Waits, Who, is_now}
use Rattle.wasi_world.specs.Operation as item
use Rattle.wasi_udp.specs.declared.send.Destination.{Destination}
use Rattle.wasi_udp.specs.declared.send.SendStage.{SendStage}
use Rattle.wasi_udp.specs.declared.send.SendStage.TheVariants as stage
use Rattle.wasi_udp.specs.Receive.{receive_operation, wanted_in}
use Rattle.wasi_udp.specs.declared.receive.RecvStage.TheVariants as receive_stage
use Rattle.wasi_udp.specs.Send.{at_remote, send_operation, where_to}
use Rattle.wasi_udp.specs.Shape.{Socket}
use Rattle.wasi_udp.specs.Socket.{asker_of}
use Rattle.record_common.specs.Binding.{left_of}
use Rattle.udp_records.specs.declared.udp.OpenUdp.{OpenUdp}
use Rattle.record_common.specs.Names.{own_of}
use Rattle.wasi_records.specs.Records.{open_at}
use Rattle.udp_records.specs.Udp.{with_udp_inner}
use Rattle.host_store.specs.Beside.{beside_as, beside_with}
use Rattle.host_store.specs.declared.beside.BesideCall.{BesideCall}
use Rattle.host_store.specs.declared.beside.BesideCall.TheVariants.{Receive, Send}
use Rattle.host_store.specs.declared.machine.Machine.{Machine}
use Rattle.host_udp.specs.SocketDatagrams.{is_udp_held}
use Rattle.wasi_steps.specs.declared.reply.CodeWord.{CodeWord}
use Rattle.wasi_steps.specs.declared.reply.Field.{Field}
use Rattle.wasi_steps.specs.declared.reply.Reply.{Reply}
use Rattle.wasi_steps.specs.declared.reply.Reply.TheVariants as reply
use Rattle.wasi_steps.specs.Reply.{no_fields, received_values}
use Rattle.wasi_walks.specs.Licence.{entry}
use Rattle.wasi_walks.specs.Waiting.{call_over}
use Rattle.wasi_causes.specs.GivenUp.{giving_back}
use Rattle.wasi_causes.specs.P3Udp.{OfUdp3}
use Rattle.wasi_causes.specs.P3UdpConnects.{FindsBound, check_told}
use Rattle.wasi_causes.specs.Refusals.{SaidBy, p3_word}
use Rattle.wasi_causes.specs.Udp.{IsUdpBound, IsUdpUnbound, putting_udp, udp_knowing_bound, udp_local_entry}

-- == a poll of a send
abbrev pub send_told : Who → IpSocketAddress → List ℕ → Told → Entry
send_told who a bytes t = entry who.id (call.Send who.side a bytes) t

-- it was for the remote address of its start, and the remote address is another now, or there is none
abbrev pub comes_late : Who → Bool → IpSocketAddress → Bool
comes_late who kept a = kept && not (is_now who.remote a)

-- How a poll ends, by what is left: a check that is answered pending is asked again, one that is answered no ends the send, and one
-- that is answered yes lets it go on. Then it is sent; but one that comes late isn't, and nothing is asked for it. One that was refused
-- from its start, which no run polls again, ends with its code.
pub data SendPolls (who : Who) : List Item → List Entry → End × List Item → Type 0 where
  SendRefused : (c : ErrorCode) → SendPolls who (Last c Nothing ∷ []) [] (Refused c Nothing, [])
  SendYes : (a : IpSocketAddress) (usage : SocketAddrUse) (items : List Item) (es : List Entry) (end : End × List Item)
      → SendPolls who items es end → SendPolls who (Check a usage ∷ items) (check_told who a usage told.Yes ∷ es) end
  SendNo : (a : IpSocketAddress) (usage : SocketAddrUse) (items : List Item)
      → SendPolls who (Check a usage ∷ items) (check_told who a usage told.No ∷ []) (Refused AccessDenied Nothing, [])
  SendCheckWaits : (a : IpSocketAddress) (usage : SocketAddrUse) (items : List Item)
      → SendPolls who (Check a usage ∷ items) (check_told who a usage told.Pending ∷ []) (Waits, Check a usage ∷ items)
  SendTooLate : (kept : Bool) (a : IpSocketAddress) (bytes : List ℕ) → comes_late who kept a ≡ true
      → SendPolls who (item.Send kept a bytes ∷ []) [] (Refused InvalidState Nothing, [])
  SendDone : (kept : Bool) (a : IpSocketAddress) (bytes : List ℕ) → comes_late who kept a ≡ false
      → SendPolls who (item.Send kept a bytes ∷ []) (send_told who a bytes told.Done ∷ []) (Done Nothing, [])
  SendCode : (kept : Bool) (a : IpSocketAddress) (bytes : List ℕ) (c : ErrorCode) → comes_late who kept a ≡ false
      → SendPolls who (item.Send kept a bytes ∷ []) (send_told who a bytes (told.Code c) ∷ []) (Refused c Nothing, [])
  SendWaits : (kept : Bool) (a : IpSocketAddress) (bytes : List ℕ) → comes_late who kept a ≡ false
      → SendPolls who (item.Send kept a bytes ∷ []) (send_told who a bytes told.Pending ∷ []) (Waits, item.Send kept a bytes ∷ [])

-- what is left of a send between polls
pub data IsLeftToSend : List Item → Type 0 where
  ToRefuseSend : (c : ErrorCode) → IsLeftToSend (Last c Nothing ∷ [])
  ToCheckBoth : (family : SocketAddressFamily) (kept : Bool) (a : IpSocketAddress) (bytes : List ℕ)
      → IsLeftToSend (Check (wildcard family) UdpBind ∷ Check a UdpSend ∷ item.Send kept a bytes ∷ [])
  ToCheck : (kept : Bool) (a : IpSocketAddress) (bytes : List ℕ) → IsLeftToSend (Check a UdpSend ∷ item.Send kept a bytes ∷ [])
  ToSend : (kept : Bool) (a : IpSocketAddress) (bytes : List ℕ) → IsLeftToSend (item.Send kept a bytes ∷ [])

-- What is left to the operation is the rest of a send, and it asks nothing last.
pub record IsRestOfSend (op : Operation) : Type 0 where
  pub last : op.who.last ≡ NothingLast
  pub left : IsLeftToSend op.left

-- == a poll of a receive
abbrev pub receive_told : Who → Told → Entry
receive_told who t = entry who.id (call.Recv who.side) t

-- How a poll ends, by what is left, with so many datagrams that may still be dropped in it: a datagram that came is checked; one whose
-- sender's check is answered yes is given, and one whose sender's is answered no is dropped, and the next is asked for. One that was
-- refused from its start, which no run polls again, ends with its code.
pub data ReceivePolls (who : Who) : ℕ → List Item → List Entry → End × List Item → Type 0 where
  ReceiveRefused : (n : ℕ) (c : ErrorCode) → ReceivePolls who (suc n) (Last c Nothing ∷ []) [] (Refused c Nothing, [])
  ReceiveWaits : (n : ℕ) → ReceivePolls who (suc n) (item.Receive None ∷ []) (receive_told who told.Pending ∷ []) (Waits, item.Receive None ∷ [])
  ReceiveCode : (n : ℕ) (c : ErrorCode)
      → ReceivePolls who (suc n) (item.Receive None ∷ []) (receive_told who (told.Code c) ∷ []) (Refused c Nothing, [])
  DatagramCame : (n : ℕ) (bytes : List ℕ) (a : IpSocketAddress) (es : List Entry) (end : End × List Item)
      → ReceivePolls who (suc n) (CheckPeer None bytes a ∷ []) es end
      → ReceivePolls who (suc n) (item.Receive None ∷ []) (receive_told who (told.Datagram bytes a) ∷ es) end
  SenderYes : (n : ℕ) (bytes : List ℕ) (a : IpSocketAddress) → ReceivePolls who (suc n) (CheckPeer None bytes a ∷ [])
      (check_told who a UdpReceive told.Yes ∷ []) (Done (Datagram bytes a), [])
  SenderNo : (n : ℕ) (bytes : List ℕ) (a : IpSocketAddress) (es : List Entry) (end : End × List Item)
      → ReceivePolls who n (item.Receive None ∷ []) es end
      → ReceivePolls who (suc n) (CheckPeer None bytes a ∷ []) (check_told who a UdpReceive told.No ∷ es) end
  SenderWaits : (n : ℕ) (bytes : List ℕ) (a : IpSocketAddress) → ReceivePolls who (suc n) (CheckPeer None bytes a ∷ [])
      (check_told who a UdpReceive told.Pending ∷ []) (Waits, CheckPeer None bytes a ∷ [])
  DroppedMost : ReceivePolls who zero (item.Receive None ∷ []) [] (Waits, item.Receive None ∷ [])

-- what is left of a receive between polls
pub data IsLeftToReceive : List Item → Type 0 where
  ToRefuseReceive : (c : ErrorCode) → IsLeftToReceive (Last c Nothing ∷ [])
  ToReceive : (only : Option IpSocketAddress) → IsLeftToReceive (item.Receive only ∷ [])
  ToCheckSender : (only : Option IpSocketAddress) (bytes : List ℕ) (a : IpSocketAddress) → IsLeftToReceive (CheckPeer only bytes a ∷ [])

-- What is left to the operation is the rest of a receive, and it asks nothing last.
pub record IsRestOfReceive (op : Operation) : Type 0 where
  pub last : op.who.last ≡ NothingLast
  pub left : IsLeftToReceive op.left

-- one poll drops at most so many datagrams
abbrev pub most_dropped : ℕ
most_dropped = 64

-- == what is left
-- the machine, with a call that stands beside others, the last of them
abbrev pub with_datagram : Machine → ℕ → BesideCall → Machine
with_datagram m line its = record m { store = record m.store { beside = m.store.beside ++ beside_as line its ∷ [] } }

-- and with this in its place, once it was polled
abbrev pub with_datagram_left : Machine → ℕ → BesideCall → Machine
with_datagram_left m line its = record m { store = record m.store { beside = beside_with m.store.beside line its } }

-- A datagram in progress is over: its socket stays while its handle or another datagram holds it, and nothing is asked; else its
-- network socket is closed, and nothing is left of its record.
pub data DatagramOver (m : Machine) (n place : ℕ) (o : OpenUdp) : List Entry → Machine → Type 0 where
  IsStillHeld : is_udp_held (call_over m n).store place ≡ true → DatagramOver m n place o [] (call_over m n)
  IsHeldNoMore : is_udp_held (call_over m n).store place ≡ false
      → DatagramOver m n place o (entry (own_of n) (call.Close o.inner.side) told.Done ∷ []) (giving_back (call_over m n) place)

-- its record isn't there, which no run has: nothing is asked, and nothing changed
abbrev pub DatagramIsLost : Machine → List Entry → Reply → Machine → Type 0
DatagramIsLost m es r after = (r ≡ reply.Trap NoSuchHandle) × (es ≡ []) × (after ≡ m)

-- == how one begins
-- It was asked whether the socket is bound; one that is, is known to be from then on.
pub record DatagramBegins (own : OpId) (o : OpenUdp) : Type 0 where
  pub asked : List Entry
  pub bound : Bool
  pub now : Socket
  pub finds : FindsBound own o.inner asked bound now

-- the machine then
abbrev pub left_begun : Machine → ℕ → OpenUdp → Socket → Machine
left_begun m place o now = putting_udp m place (with_udp_inner o now)

-- == a send
-- a socket that isn't bound has the wildcard checked before the address
abbrev pub its_stage : Destination → Bool → SendStage
its_stage to true = stage.Check to
its_stage to false = stage.CheckWildcard to

-- its operation, by where it goes, while the socket has this remote address or none
abbrev pub its_send : {own : OpId} {o : OpenUdp} → DatagramBegins own o → OutgoingDatagram → Destination → Operation
its_send {own} {o} b d to = send_operation (asker_of own b.now) b.now.family d.bytes (its_stage to b.bound)

-- Where it goes, by its line: it has at most 65535 bytes; and an address that is given is one that the socket can send to, and the
-- remote address, where there is one, or else there is one.
pub record GoesTo (o : OpenUdp) (d : OutgoingDatagram) : Type 0 where
  pub within : nat_lt 65535 (length d.bytes) ≡ false
  pub to : Destination
  pub goes : where_to o.inner.family o.inner.remote d.remote_address ≡ Ok to

-- A send is refused: the datagram has more bytes; or goes nowhere by its line; and then nothing was asked but whether the socket is
-- bound. Or its poll ended with a code.
pub data SendFails (m : Machine) (own : OpId) (place : ℕ) (o : OpenUdp) (d : OutgoingDatagram) : List Entry → ErrorCode → Machine
    → Type 0 where
  IsTooLarge : (b : DatagramBegins own o) → nat_lt 65535 (length d.bytes) ≡ true
      → SendFails m own place o d b.asked DatagramTooLarge (left_begun m place o b.now)
  GoesNowhere : (b : DatagramBegins own o) → nat_lt 65535 (length d.bytes) ≡ false
      → where_to o.inner.family o.inner.remote d.remote_address ≡ Err InvalidArgument
      → SendFails m own place o d b.asked InvalidArgument (left_begun m place o b.now)
  SendEnds : (b : DatagramBegins own o) (g : GoesTo o d) (polled : List Entry) (c : ErrorCode) (given : Given) (items : List Item)
      → SendPolls (at_remote o.inner.remote (its_send b d g.to)).who (its_send b d g.to).left polled (Refused c given, items)
      → SendFails m own place o d (b.asked ++ polled) c (left_begun m place o b.now)

abbrev pub P3SendRefusal : Machine → OpId → ℕ → OutgoingDatagram → List Entry → CodeWord → Machine → Type 0
P3SendRefusal m own handle d es w after =
    OfUdp3 m handle (λ place o. SaidBy p3_word (λ c. SendFails m own place o d es c after) w)

-- Its checks were answered yes, and the datagram was sent.
pub record SendsOne (m : Machine) (own : OpId) (place : ℕ) (o : OpenUdp) (d : OutgoingDatagram) (entries : List Entry)
    (after : Machine) : Type 0 where
  pub begins : DatagramBegins own o
  pub goes : GoesTo o d
  pub polled : List Entry
  pub given : Given
  pub items : List Item
  pub ends : SendPolls (at_remote o.inner.remote (its_send begins d goes.to)).who (its_send begins d goes.to).left polled (Done given, items)
  pub asked : entries ≡ begins.asked ++ polled
  pub left : after ≡ left_begun m place o begins.now

-- Its last ask was answered pending: it stands beside other calls under its line's number, by what is left of it.
pub record SendStands (m : Machine) (line place : ℕ) (o : OpenUdp) (d : OutgoingDatagram) (entries : List Entry)
    (after : Machine) : Type 0 where
  pub begins : DatagramBegins (own_of line) o
  pub goes : GoesTo o d
  pub polled : List Entry
  pub items : List Item
  pub ends : SendPolls (at_remote o.inner.remote (its_send begins d goes.to)).who (its_send begins d goes.to).left polled (Waits, items)
  pub asked : entries ≡ begins.asked ++ polled
  pub left : after ≡ with_datagram (left_begun m place o begins.now) line (Send place (left_of (its_send begins d goes.to) items))

-- What a poll of one that is pending answers: with the remote address that the socket has now it is pending still, where it stood, by
-- what is left; or it is over, sent or ended with a code, and then its socket goes with the last that holds it.
pub data SendPolled (m : Machine) (n place : ℕ) (o : OpenUdp) (op : Operation) : List Entry → Reply → Machine → Type 0 where
  SendsStill : (es : List Entry) (items : List Item) → SendPolls (at_remote o.inner.remote op).who op.left es (Waits, items)
      → SendPolled m n place o op es (reply.Pending n) (with_datagram_left m n (Send place (left_of op items)))
  IsSent : (polled closing : List Entry) (given : Given) (items : List Item) (after : Machine)
      → SendPolls (at_remote o.inner.remote op).who op.left polled (Done given, items) → DatagramOver m n place o closing after
      → SendPolled m n place o op (polled ++ closing) (reply.Ok no_fields) after
  IsNotSent : (polled closing : List Entry) (c : ErrorCode) (given : Given) (items : List Item) (after : Machine)
      → SendPolls (at_remote o.inner.remote op).who op.left polled (Refused c given, items) → DatagramOver m n place o closing after
      → SendPolled m n place o op (polled ++ closing) (reply.Err (p3_word c)) after

-- == a receive
-- its operation, of a socket that is bound
abbrev pub its_receive : OpId → Socket → Operation
its_receive own socket = receive_operation (asker_of own socket) None receive_stage.Receive

-- A receive is refused: the socket isn't bound; or the network answered with the code, after datagrams that were dropped.
pub data ReceiveFails (m : Machine) (own : OpId) (place : ℕ) (o : OpenUdp) : List Entry → ErrorCode → Machine → Type 0 where
  IsUnbound : (local : Told) → IsUdpUnbound o.inner local
      → ReceiveFails m own place o (udp_local_entry own o.inner local ∷ []) InvalidState m
  ReceiveEnds : (asked polled : List Entry) (c : ErrorCode) (given : Given) (items : List Item) → IsUdpBound own o.inner asked
      → ReceivePolls (its_receive own o.inner).who most_dropped (item.Receive None ∷ []) polled (Refused c given, items)
      → ReceiveFails m own place o (asked ++ polled) c (udp_knowing_bound m place o)

abbrev pub P3ReceiveRefusal : Machine → OpId → ℕ → List Entry → CodeWord → Machine → Type 0
P3ReceiveRefusal m own handle es w after =
    OfUdp3 m handle (λ place o. SaidBy p3_word (λ c. ReceiveFails m own place o es c after) w)

-- A datagram came, and the check of its sender was answered yes: it is given.
pub record ReceivesOne (m : Machine) (own : OpId) (place : ℕ) (o : OpenUdp) (entries : List Entry) (fields : List Field)
    (after : Machine) : Type 0 where
  pub before : List Entry
  pub bound : IsUdpBound own o.inner before
  pub polled : List Entry
  pub datagram : IncomingDatagram
  pub items : List Item
  pub ends : ReceivePolls (its_receive own o.inner).who most_dropped (item.Receive None ∷ []) polled
      (Done (Datagram datagram.bytes datagram.remote_address), items)
  pub asked : entries ≡ before ++ polled
  pub gives : fields ≡ received_values datagram
  pub left : after ≡ udp_knowing_bound m place o

-- Its last ask was answered pending, or it dropped as many datagrams as it may: it stands beside other calls under its line's number.
pub record ReceiveStands (m : Machine) (line place : ℕ) (o : OpenUdp) (entries : List Entry) (after : Machine) : Type 0 where
  pub before : List Entry
  pub bound : IsUdpBound (own_of line) o.inner before
  pub polled : List Entry
  pub items : List Item
  pub ends : ReceivePolls (its_receive (own_of line) o.inner).who most_dropped (item.Receive None ∷ []) polled (Waits, items)
  pub asked : entries ≡ before ++ polled
  pub left : after ≡ with_datagram (udp_knowing_bound m place o) line (Receive place (left_of (its_receive (own_of line) o.inner) items))

-- What a poll of one that is pending answers, as that of a send; a receive takes whatever comes.
pub data ReceivePolled (m : Machine) (n place : ℕ) (o : OpenUdp) (op : Operation) : List Entry → Reply → Machine → Type 0 where
  ReceivesStill : (es : List Entry) (items : List Item) → ReceivePolls op.who most_dropped (wanted_in None op.left) es (Waits, items)
      → ReceivePolled m n place o op es (reply.Pending n) (with_datagram_left m n (Receive place (left_of op items)))
  IsReceived : (polled closing : List Entry) (d : IncomingDatagram) (items : List Item) (after : Machine)
      → ReceivePolls op.who most_dropped (wanted_in None op.left) polled (Done (Datagram d.bytes d.remote_address), items)
      → DatagramOver m n place o closing after
      → ReceivePolled m n place o op (polled ++ closing) (reply.Ok (received_values d)) after
  IsNotReceived : (polled closing : List Entry) (c : ErrorCode) (given : Given) (items : List Item) (after : Machine)
      → ReceivePolls op.who most_dropped (wanted_in None op.left) polled (Refused c given, items)
      → DatagramOver m n place o closing after
      → ReceivePolled m n place o op (polled ++ closing) (reply.Err (p3_word c)) after

-- == of a run
-- A datagram in progress under this number, on this record: its socket is open, and its operation is of its line and of the socket's
-- network socket.
pub record OfOpenUdp (m : Machine) (n place : ℕ) (op : Operation) : Type 0 where
  pub socket : OpenUdp
  pub at : open_at m.store.records place ≡ Some socket
  pub by : op.who.id ≡ own_of n
  pub side : op.who.side ≡ socket.inner.side
