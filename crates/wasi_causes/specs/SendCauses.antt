-- Why a datagram isn't sent, and why none is received.
use Rattle.std.specs.Prelude.{◌≡◌, ℕ, ◌≤◌, Bool, true, false, not, ◌&&◌, List, [], ◌∷◌, ◌++◌, Option, Some, length, ⊤}
use Rattle.wasi_addr.specs.declared.address.IpSocketAddress.{IpSocketAddress}
use Rattle.wasi_addr.specs.declared.address.SocketAddrUse.{SocketAddrUse}
use Rattle.wasi_addr.specs.declared.code.ErrorCode.{ErrorCode}
use Rattle.wasi_addr.specs.declared.code.ErrorCode.TheVariants.{AccessDenied, InvalidState}
use Rattle.wasi_world.specs.Operation.{Check, Last, Nothing, Operation, Send, is_now, is_wanted}
use Rattle.wasi_world.specs.declared.call.Call.TheVariants as call
use Rattle.wasi_world.specs.declared.call.Entry.{Entry}
use Rattle.wasi_world.specs.declared.call.Told.{Told}
use Rattle.wasi_world.specs.declared.call.Told.TheVariants as told
use Rattle.wasi_world.specs.declared.datagram.IncomingDatagram.{IncomingDatagram}
use Rattle.wasi_world.specs.declared.datagram.OutgoingDatagram.{OutgoingDatagram}
use Rattle.wasi_world.specs.declared.ids.OpId.{OpId}
use Rattle.wasi_udp.specs.Receive.{receive_start, wanting}
use Rattle.wasi_udp.specs.Send.{at_remote, send_start}
use Rattle.wasi_udp.specs.Shape.{Socket}
use Rattle.udp_records.specs.declared.datagrams.Incoming.{Incoming}
use Rattle.udp_records.specs.declared.datagrams.Outgoing.{Outgoing}
use Rattle.udp_records.specs.declared.datagrams.Receiving.TheVariants as receiving
use Rattle.udp_records.specs.declared.datagrams.Sending.TheVariants as sending
use Rattle.host_store.specs.declared.machine.Machine.{Machine}
use Rattle.udp_records.specs.declared.udp.OpenUdp.{OpenUdp}
use Rattle.wasi_steps.specs.declared.reply.CodeWord.{CodeWord}
use Rattle.wasi_steps.specs.declared.reply.Field.{Field}
use Rattle.wasi_steps.specs.Reply.{datagram_values, number_fields}
use Rattle.wasi_walks.specs.Answered.{word_of_code}
use Rattle.wasi_walks.specs.Licence.{Has, entry}
use Rattle.wasi_walks.specs.Waiting.{EndsWith}
use Rattle.wasi_causes.specs.Udp.{IsUdpBound, IsUdpUnbound, putting_udp, udp_local_entry}

-- Whether a socket is bound, and what was asked of that.
pub data BoundSo (own : OpId) (socket : Socket) : List Entry → Bool → Type 0 where
  IsBoundSo : (asked : List Entry) → IsUdpBound own socket asked → BoundSo own socket asked true
  IsFreeSo : (local : Told) → IsUdpUnbound socket local → BoundSo own socket (udp_local_entry own socket local ∷ []) false

-- the socket then: one that was found bound is known to be
abbrev pub found_so : Bool → Socket → Socket
found_so true socket = record socket { bound = true }
found_so false socket = socket

-- == a send
-- A datagram ended with a code: it can't be sent so, and nothing was asked; or a check of it was answered no; or it was for a remote
-- address that has changed; or it was answered with the code.
pub data DatagramFails (op : Operation) (entries : List Entry) : ErrorCode → Type 0 where
  CannotBeSent : (c : ErrorCode) → Has op.left (Last c Nothing) → entries ≡ [] → DatagramFails op entries c
  SendToldNo : (a : IpSocketAddress) (usage : SocketAddrUse) → Has op.left (Check a usage) → EndsWith (entry op.who.id (call.Check op.who.context a usage) told.No) entries → DatagramFails op entries AccessDenied
  SendTooLate : (kept : Bool) (a : IpSocketAddress) (bytes : List ℕ) → Has op.left (Send kept a bytes) → (kept && not (is_now op.who.remote a)) ≡ true → DatagramFails op entries InvalidState
  SendToldWhy : (kept : Bool) (a : IpSocketAddress) (bytes : List ℕ) (c : ErrorCode) → Has op.left (Send kept a bytes) → EndsWith (entry op.who.id (call.Send op.who.side a bytes) (told.Code c)) entries → DatagramFails op entries c

-- the first of its datagrams, by this name, of a socket that is bound or not
abbrev pub first_send : OpId → OpenUdp → OutgoingDatagram → Bool → Operation
first_send own o d bound = at_remote o.inner.remote (send_start own o.inner d.bytes d.remote_address bound)

-- the socket of a send that is refused, with this network socket: nothing is permitted on the stream, nothing is in the background,
-- and no code waits there
abbrev pub unsent : OpenUdp → Outgoing → Socket → OpenUdp
unsent o out inner = record o { inner = inner; outgoing = Some (record out { permit = 0; sending = sending.Nothing }) }

-- A send is refused: a datagram before it failed in the background with the code, and nothing is asked; or nothing was in the
-- background, and its own first datagram ended with the code. Of a socket that was found bound that is kept; else the machine is as it
-- was but for the stream.
pub data UdpSendRefusal (m : Machine) (own : OpId) (place : ℕ) (datagrams : List OutgoingDatagram) (o : OpenUdp) (out : Outgoing) : List Entry → CodeWord → Machine → Type 0 where
  FailedBefore : (c : ErrorCode) → out.sending ≡ sending.Failed c → UdpSendRefusal m own place datagrams o out [] (word_of_code c) (putting_udp m place (unsent o out o.inner))
  FirstFails : (d : OutgoingDatagram) (more : List OutgoingDatagram) (asked polled : List Entry) (bound : Bool) (c : ErrorCode) → datagrams ≡ d ∷ more → out.sending ≡ sending.Nothing → BoundSo own o.inner asked bound → DatagramFails (first_send own o d bound) polled c
      → UdpSendRefusal m own place datagrams o out (asked ++ polled) (word_of_code c) (putting_udp m place (unsent o out (found_so bound o.inner)))

-- So many datagrams were sent, or aren't sent yet: at most all of them.
pub record SendsSome (datagrams : List OutgoingDatagram) (fields : List Field) : Type 0 where
  pub count : ℕ
  pub gives : fields ≡ number_fields count
  pub within : count ≤ length datagrams

-- == a receive
-- A receive ended with a code: the socket can't receive, and nothing was asked; or it was answered with the code, after datagrams
-- that were dropped.
pub data ReceiveFails (op : Operation) (entries : List Entry) : ErrorCode → Type 0 where
  CannotReceive : (c : ErrorCode) → Has op.left (Last c Nothing) → entries ≡ [] → ReceiveFails op entries c
  ReceiveToldWhy : (c : ErrorCode) → EndsWith (entry op.who.id (call.Recv op.who.side) (told.Code c)) entries → ReceiveFails op entries c

-- the receive that begins by this name
abbrev pub first_receive : OpId → OpenUdp → Incoming → Bool → Operation
first_receive own o inc bound = wanting inc.remote (receive_start own o.inner bound)

-- the socket of a receive that is refused, with this network socket: none is in progress, and nothing waits to be taken
abbrev pub unreceived : OpenUdp → Incoming → Socket → OpenUdp
unreceived o inc inner = record o { inner = inner; incoming = Some (record inc { receiving = receiving.Nothing }) }

-- A receive is refused: one before it failed with the code, which wasn't taken, and nothing is asked; or none was in progress and
-- none had ended, and the one that began ended with the code. The code is taken, and of a socket that was found bound that is kept; else
-- the machine is as it was.
pub data UdpReceiveRefusal (m : Machine) (own : OpId) (place : ℕ) (o : OpenUdp) (inc : Incoming) : List Entry → CodeWord → Machine → Type 0 where
  ReceiveFailedBefore : (c : ErrorCode) → inc.receiving ≡ receiving.Failed c → UdpReceiveRefusal m own place o inc [] (word_of_code c) (putting_udp m place (unreceived o inc o.inner))
  FirstReceiveFails : (asked polled : List Entry) (bound : Bool) (c : ErrorCode) → inc.receiving ≡ receiving.Nothing → BoundSo own o.inner asked bound → ReceiveFails (first_receive own o inc bound) polled c
      → UdpReceiveRefusal m own place o inc (asked ++ polled) (word_of_code c) (putting_udp m place (unreceived o inc (found_so bound o.inner)))

-- These datagrams were received: at most as many as were wanted, and at most 16.
pub record ReceivesSome (most : ℕ) (fields : List Field) : Type 0 where
  pub datagrams : List IncomingDatagram
  pub gives : fields ≡ datagram_values datagrams
  pub wanted : length datagrams ≤ most
  pub within : length datagrams ≤ 16

-- each of them is from this address, where there is one
abbrev pub AreFrom : Option IpSocketAddress → List IncomingDatagram → Type 0
AreFrom only [] = ⊤
AreFrom only (d ∷ ds) = (is_wanted only d.remote_address ≡ true) × AreFrom only ds

-- These datagrams were received, and each is from this address, where there is one.
pub record ReceivedFrom (only : Option IpSocketAddress) (fields : List Field) : Type 0 where
  pub datagrams : List IncomingDatagram
  pub gives : fields ≡ datagram_values datagrams
  pub from : AreFrom only datagrams
