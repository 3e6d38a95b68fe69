-- The halves of a connection as ends of 0.3 streams. An end is open while its half is the record's.
use Rattle.std.specs.Prelude.{ℕ, Bool, false, ◌||◌, List, Option, Some, None, Result, Ok, Err}
use Rattle.wasi_addr.specs.declared.address.ShutdownType.{ShutdownType}
use Rattle.wasi_addr.specs.declared.address.ShutdownType.TheVariants.{Receive, Send, Both}
use Rattle.wasi_addr.specs.declared.code.ErrorCode.{ErrorCode}
use Rattle.wasi_world.specs.declared.ids.OpId.{OpId}
use Rattle.wasi_world.specs.declared.outcome.Answer.{Answer}
use Rattle.wasi_world.specs.Asks.{Asks, Give, bind}
use Rattle.wasi_world.specs.Typed.{ask_read_ready, ask_write_ready}
use Rattle.wasi_tcp.specs.declared.halves.TcpReceiveStream.{TcpReceiveStream}
use Rattle.wasi_tcp.specs.declared.halves.TcpSendStream.{TcpSendStream}
use Rattle.wasi_tcp.specs.declared.reader.ReadState.{ReadState}
use Rattle.wasi_tcp.specs.declared.reader.ReadState.TheVariants as reading
use Rattle.wasi_tcp.specs.declared.writer.WriteError.TheVariants as error
use Rattle.wasi_tcp.specs.declared.writer.WriteState.{WriteState}
use Rattle.wasi_tcp.specs.declared.writer.WriteState.TheVariants as writing
use Rattle.wasi_tcp.specs.Connecting.{in_socket}
use Rattle.wasi_tcp.specs.Halves.{take_receive, take_send, read_asks, write_asks}
use Rattle.wasi_tcp.specs.Shape.{Socket}
use Rattle.tcp_records.specs.declared.socket.Streams.{Streams}
use Rattle.tcp_records.specs.declared.socket.TcpRecord.{TcpRecord}
use Rattle.tcp_records.specs.Halves.{with_reader, with_writer}
use Rattle.tcp_records.specs.Holding.{is_reading, is_writing}
use Rattle.tcp_records.specs.Shutdowns.{shut_streams, with_streams}
use Rattle.tcp_records.specs.Slots.{StreamEnd}
use Rattle.tcp_records.specs.Sockets.{with_inner}

-- == halves
abbrev pub no_ends : Streams
no_ends = record { reader = reading.Closed; writer = writing.Closed error.Closed }

abbrev pub ends_of : Option Streams → Streams
ends_of None = no_ends
ends_of (Some s) = s

-- == a half is taken as an end, or there is a code why it can't be
abbrev pub receive_taken : TcpRecord → Result TcpReceiveStream ErrorCode × Socket → StreamEnd × TcpRecord
receive_taken r (Ok half, socket) = (Ok tt, with_reader (with_inner r socket) (ends_of r.streams) (reading.Open half))
receive_taken r (Err c, socket) = (Err c, with_inner r socket)

abbrev pub take_receive_end : TcpRecord → StreamEnd × TcpRecord
take_receive_end r = receive_taken r (in_socket r.inner (take_receive r.inner.state))

-- nothing is permitted: each write of 0.3 is one ask
abbrev pub send_taken : TcpRecord → Result TcpSendStream ErrorCode × Socket → StreamEnd × TcpRecord
send_taken r (Ok half, socket) = (Ok tt, with_writer (with_inner r socket) (ends_of r.streams) (writing.Ready half 0))
send_taken r (Err c, socket) = (Err c, with_inner r socket)

abbrev pub take_send_end : TcpRecord → StreamEnd × TcpRecord
take_send_end r = send_taken r (in_socket r.inner (take_send r.inner.state))

-- == the half that is there
abbrev pub receive_in : ReadState → Option TcpReceiveStream
receive_in (reading.Open half) = Some half
receive_in reading.Closed = None

abbrev pub send_in : WriteState → Option TcpSendStream
send_in (writing.Ready half permit) = Some half
send_in _ = None

abbrev pub receive_half : TcpRecord → Option TcpReceiveStream
receive_half r = receive_in (ends_of r.streams).reader

abbrev pub send_half : TcpRecord → Option TcpSendStream
send_half r = send_in (ends_of r.streams).writer

-- whether it is, by its name
abbrev pub is_open : ShutdownType → Streams → Bool
is_open Receive s = is_reading s.reader
is_open Send s = is_writing s.writer
is_open Both s = is_reading s.reader || is_writing s.writer

abbrev pub has_half : ShutdownType → TcpRecord → Bool
has_half how r = is_open how (ends_of r.streams)

-- of the socket of a number, where it is there
abbrev pub half_of : {H : Type 0} → (TcpRecord → Option H) → Option TcpRecord → Option H
half_of half None = None
half_of half (Some r) = half r

-- == a half is released, where it is open
abbrev pub shut_half : OpId → ShutdownType → TcpRecord → Option Streams → Asks (Unit {0} × TcpRecord)
shut_half op how r None = Give (tt, r)
shut_half op how r (Some s) = bind (shut_streams op how s) (λ done. Give (tt, with_streams r done.1))

-- == a call on the half, where it is there
abbrev pub by_half : {H A : Type 0} → (H → Asks A) → Option H → Asks (Option A)
by_half call None = Give None
by_half call (Some half) = bind (call half) (λ a. Give (Some a))

-- one that returns codes
abbrev pub some_told : {A : Type 0} → Result A ErrorCode → Result (Option A) ErrorCode
some_told (Ok a) = Ok (Some a)
some_told (Err c) = Err c

abbrev pub told_by_half : {H A : Type 0} → (H → Asks (Result A ErrorCode)) → Option H → Asks (Result (Option A) ErrorCode)
told_by_half call None = Give (Ok None)
told_by_half call (Some half) = bind (call half) (λ told. Give (some_told told))

abbrev pub look_to_read : OpId → Option TcpReceiveStream → Asks (Option (Answer (Unit {0})))
look_to_read op half = by_half (λ h. ask_read_ready op h.side) half

abbrev pub look_to_write : OpId → Option TcpSendStream → Asks (Option (Answer (Unit {0})))
look_to_write op half = by_half (λ h. ask_write_ready op h.side) half

abbrev pub read_by_half : OpId → ℕ → Option TcpReceiveStream → Asks (Result (Option (Answer (List ℕ))) ErrorCode)
read_by_half op size half = told_by_half (λ h. read_asks op h.side size) half

abbrev pub write_by_half : OpId → List ℕ → Option TcpSendStream → Asks (Result (Option (Answer ℕ)) ErrorCode)
write_by_half op bytes half = told_by_half (λ h. write_asks op h.side bytes) half
