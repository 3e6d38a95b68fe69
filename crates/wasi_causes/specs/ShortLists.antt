-- Why a send counts no more datagrams than it does, and why a receive hands out no more.
use Rattle.std.specs.Prelude.{◌≡◌, ℕ, ◌+◌, ◌≤◌, min, if◌then◌else◌, List, [], ◌∷◌, length, Ok, Option, Some}
use Rattle.wasi_addr.specs.declared.address.IpSocketAddress.{IpSocketAddress}
use Rattle.wasi_addr.specs.declared.address.SocketAddrUse.TheVariants.{UdpReceive}
use Rattle.wasi_addr.specs.declared.code.ErrorCode.{ErrorCode}
use Rattle.wasi_world.specs.declared.call.Call.{Call}
use Rattle.wasi_world.specs.declared.call.Call.TheVariants as call
use Rattle.wasi_world.specs.declared.call.Entry.{Entry}
use Rattle.wasi_world.specs.declared.call.Told.{Told}
use Rattle.wasi_world.specs.declared.call.Told.TheVariants as told
use Rattle.wasi_world.specs.declared.datagram.IncomingDatagram.{IncomingDatagram}
use Rattle.wasi_world.specs.declared.datagram.OutgoingDatagram.{OutgoingDatagram}
use Rattle.wasi_world.specs.declared.ids.OpId.{OpId}
use Rattle.wasi_world.specs.Operation.{Operation, is_wanted}
use Rattle.wasi_world.specs.Sides.{is_same}
use Rattle.wasi_udp.specs.Send.{send_to}
use Rattle.wasi_udp.specs.Shape.{Socket}
use Rattle.wasi_udp.specs.declared.send.Destination.{Destination}
use Rattle.udp_records.specs.declared.datagrams.Incoming.{Incoming}
use Rattle.udp_records.specs.declared.datagrams.Receiving.{Receiving}
use Rattle.udp_records.specs.declared.datagrams.Receiving.TheVariants as receiving
use Rattle.udp_records.specs.declared.datagrams.Sending.{Sending}
use Rattle.udp_records.specs.declared.datagrams.Sending.TheVariants as sending
use Rattle.wasi_steps.specs.declared.reply.Field.{Field}
use Rattle.wasi_steps.specs.Reply.{datagram_values, number_fields}
use Rattle.wasi_walks.specs.Answered.{EndsPending}
use Rattle.wasi_walks.specs.Licence.{IsItem, entry}
use Rattle.wasi_walks.specs.Waiting.{EndsWith}
use Rattle.wasi_causes.specs.DatagramAsks.{destination_check, part_of, send_call, wildcard_check}
use Rattle.wasi_causes.specs.Unsendable.{IsUnsendable}
use Rattle.wasi_causes.specs.Udp.{IsUdpUnbound, udp_local_entry}

-- == a send
-- A datagram isn't sent: it can't be sent so, or the last of the entries is its check or its send, which was answered
-- no or with a code.
pub data IsNotSent (own : OpId) (socket : Socket) (d : OutgoingDatagram) (entries : List Entry) : Type 0 where
  CannotBeSentSo : (c : ErrorCode) → IsUnsendable socket.family socket.remote d c → IsNotSent own socket d entries
  WildcardToldNo : EndsWith (entry own (wildcard_check socket) told.No) entries → IsNotSent own socket d entries
  DestinationToldNo : (to : Destination) → send_to socket d.bytes d.remote_address ≡ Ok to
      → EndsWith (entry own (destination_check socket to) told.No) entries → IsNotSent own socket d entries
  SendToldCode : (to : Destination) (c : ErrorCode) → send_to socket d.bytes d.remote_address ≡ Ok to
      → EndsWith (entry own (send_call socket to d) (told.Code c)) entries → IsNotSent own socket d entries

-- So many datagrams are counted and no more: these are all; or one was in the background before, none is counted, and
-- nothing was asked; or the last that is counted was answered pending, and nothing was asked after that; or after some
-- the next one isn't sent.
pub data CountsNoMore (line : ℕ) (socket : Socket) (before : Sending) (datagrams : List OutgoingDatagram) (count : ℕ)
    (entries : List Entry) : Type 0 where
  CountsAll : count ≡ length datagrams → CountsNoMore line socket before datagrams count entries
  OneWasPending : (op : Operation) → before ≡ sending.InProgress op → count ≡ 0 → entries ≡ []
      → CountsNoMore line socket before datagrams count entries
  LastIsPending : 1 ≤ count → EndsPending (part_of line count) entries
      → CountsNoMore line socket before datagrams count entries
  NextIsNotSent : (d : OutgoingDatagram) → 1 ≤ count → IsItem (count + 1) d datagrams
      → IsNotSent (part_of line (count + 1)) socket d entries → CountsNoMore line socket before datagrams count entries

-- The number is of so many datagrams and no more.
pub record CountsUpTo (line : ℕ) (socket : Socket) (before : Sending) (datagrams : List OutgoingDatagram)
    (fields : List Field) (entries : List Entry) : Type 0 where
  pub count : ℕ
  pub gives : fields ≡ number_fields count
  pub ends : CountsNoMore line socket before datagrams count entries

-- == a receive
-- 1 where the call is the check of a sender and its datagram is dropped: the answer is no, or it is yes and another
-- sender is wanted
abbrev pub drops_of : Option IpSocketAddress → Call → Told → ℕ
drops_of wanted (call.Check ctx a UdpReceive) told.No = 1
drops_of wanted (call.Check ctx a UdpReceive) told.Yes = if is_wanted wanted a then 0 else 1
drops_of wanted _ _ = 0

-- how many datagrams this operation dropped in these entries
abbrev pub dropped_by : OpId → Option IpSocketAddress → List Entry → ℕ
dropped_by own wanted [] = 0
dropped_by own wanted (e ∷ es) = (if is_same own e.op then drops_of wanted e.call e.answer else 0) + dropped_by own wanted es

-- A receive is pending: its last ask, which is the last of the entries, was answered pending; or it dropped 64
-- datagrams in this poll.
pub data ReceiveWaits (own : OpId) (wanted : Option IpSocketAddress) (entries : List Entry) : Type 0 where
  LastToldPending : EndsPending own entries → ReceiveWaits own wanted entries
  Dropped64 : 64 ≤ dropped_by own wanted entries → ReceiveWaits own wanted entries

-- A receive failed, with the last of the entries: the socket isn't bound, or the receive was answered with a code.
pub data ReceiveBreaks (own : OpId) (socket : Socket) (entries : List Entry) : Type 0 where
  SocketIsUnbound : (local : Told) → IsUdpUnbound socket local → EndsWith (udp_local_entry own socket local) entries
      → ReceiveBreaks own socket entries
  ReceiveToldCode : (c : ErrorCode) → EndsWith (entry own (call.Recv socket.side) (told.Code c)) entries
      → ReceiveBreaks own socket entries

-- how much room these take: their lengths, and one more for each
abbrev pub room_for : List IncomingDatagram → ℕ
room_for [] = 0
room_for (d ∷ ds) = length d.bytes + 1 + room_for ds

-- These datagrams are handed out and no more: as many were wanted, or 16; or there is no room for more; or a receive
-- was in progress before, is so still, none is handed out, and nothing was asked; or a receive of the line is pending;
-- or after some one of its receives failed. `now` is the operation of the receive that is in progress afterwards.
pub data HandsOutNoMore (line : ℕ) (socket : Socket) (most : ℕ) (wanted : Option IpSocketAddress) (before : Receiving)
    (now : Option OpId) (entries : List Entry) (datagrams : List IncomingDatagram) : Type 0 where
  AllThatWereWanted : length datagrams ≡ min most 16
      → HandsOutNoMore line socket most wanted before now entries datagrams
  NoRoomForMore : 65536 ≤ room_for datagrams → HandsOutNoMore line socket most wanted before now entries datagrams
  WasReceiving : (op : Operation) → before ≡ receiving.InProgress op → now ≡ Some op.who.id → datagrams ≡ []
      → entries ≡ [] → HandsOutNoMore line socket most wanted before now entries datagrams
  OneIsPending : (part : ℕ) → 1 ≤ part → now ≡ Some (part_of line part)
      → ReceiveWaits (part_of line part) wanted entries
      → HandsOutNoMore line socket most wanted before now entries datagrams
  OneFailed : (part : ℕ) → 1 ≤ length datagrams → ReceiveBreaks (part_of line part) socket entries
      → HandsOutNoMore line socket most wanted before now entries datagrams

-- The reply hands out these datagrams and no more.
pub record HandsOutUpTo (line : ℕ) (socket : Socket) (most : ℕ) (stream : Incoming) (now : Option OpId)
    (fields : List Field) (entries : List Entry) : Type 0 where
  pub datagrams : List IncomingDatagram
  pub gives : fields ≡ datagram_values datagrams
  pub ends : HandsOutNoMore line socket most stream.remote stream.receiving now entries datagrams

-- None was handed out though some were wanted: a receive was in progress before, is so still, and nothing was asked; or
-- one of the line's receives is pending.
pub data GivesNone (line : ℕ) (stream : Incoming) (now : Option OpId) (entries : List Entry) : Type 0 where
  StillReceives : (op : Operation) → stream.receiving ≡ receiving.InProgress op → now ≡ Some op.who.id → entries ≡ []
      → GivesNone line stream now entries
  ReceivesNow : (part : ℕ) → now ≡ Some (part_of line part) → ReceiveWaits (part_of line part) stream.remote entries
      → GivesNone line stream now entries
