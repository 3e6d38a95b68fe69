-- Looks at a socket and at its streams: whether they are ready.
use Rattle.std.specs.Prelude.{Bool, true, false, Option, Some, None, Result, Ok, Err, not, if◌then◌else◌}
use Rattle.std.specs.declared.alloc.AllocError.{AllocError}
use Rattle.wasi_addr.specs.declared.code.ErrorCode.{ErrorCode}
use Rattle.wasi_world.specs.declared.ids.OpId.{OpId}
use Rattle.wasi_world.specs.declared.ids.Ids.{Ids}
use Rattle.wasi_world.specs.declared.outcome.Answer.{Answer}
use Rattle.wasi_world.specs.declared.outcome.Answer.TheVariants.{Ready, Pending}
use Rattle.wasi_world.specs.declared.outcome.Refusal.{Refusal}
use Rattle.wasi_world.specs.declared.outcome.Refusal.TheVariants as refusal
use Rattle.wasi_world.specs.declared.outcome.TrapKind.TheVariants.{NoSuchHandle}
use Rattle.wasi_world.specs.Asks.{Asks, Give, bind}
use Rattle.wasi_streams.specs.declared.error.StreamError.{StreamError}
use Rattle.wasi_streams.specs.declared.error.StreamError.TheVariants as error
use Rattle.wasi_tcp.specs.Shape.{Socket}
use Rattle.wasi_tcp.specs.Connecting.{finish_connect_asks}
use Rattle.wasi_tcp.specs.Listener.{Listener, has_accept, listener_ready_asks}
use Rattle.wasi_tcp.specs.Reader.{reader_ready_asks}
use Rattle.wasi_tcp.specs.Writer.{drop_permit, look_asks}
use Rattle.tcp_records.specs.declared.tcp_listening.Listening.{Listening}
use Rattle.tcp_records.specs.declared.tcp_listening.Listening.TheVariants.{Accepts}
use Rattle.tcp_records.specs.declared.socket.Streams.{Streams}
use Rattle.tcp_records.specs.declared.socket.TcpRecord.{TcpRecord}
use Rattle.record_common.specs.Stops.{Stop, Trap}
use Rattle.tcp_records.specs.InProgress.{is_nothing, is_connect}
use Rattle.tcp_records.specs.Sockets.{with_inner}
use Rattle.tcp_records.specs.Halves.{with_reader, with_writer}
use Rattle.tcp_records.specs.Listening.{with_listening, ids_of}
use Rattle.wasi_streams.specs.StreamStop.{StreamStop}

-- it doesn't wait; an error is ready too
abbrev pub is_over : {E : Type 0} → Result (Answer (Unit {0})) E → Bool
is_over (Ok Pending) = false
is_over (Ok (Ready done)) = true
is_over (Err e) = true

abbrev pub is_done : Answer (Unit {0}) → Bool
is_done Pending = false
is_done (Ready done) = true

-- the same of what the code answers
abbrev pub over_told : Result (Answer (Unit {0})) Refusal → Result (Result Bool Stop) AllocError
over_told (Ok answer) = Ok (Ok (is_done answer))
over_told (Err (refusal.Code c)) = Ok (Ok true)
over_told (Err (refusal.Memory e)) = Err e

abbrev pub read_told : Result (Answer (Unit {0})) AllocError → Result (Result Bool Stop) AllocError
read_told (Ok answer) = Ok (Ok (is_done answer))
read_told (Err e) = Err e

abbrev pub look_told : Result (Answer (Unit {0})) StreamError → Result (Result Bool Stop) AllocError
look_told (Ok answer) = Ok (Ok (is_done answer))
look_told (Err (error.LastOperationFailed c)) = Ok (Ok true)
look_told (Err error.Closed) = Ok (Ok true)
look_told (Err (error.Trap k)) = Ok (Ok true)
look_told (Err (error.Memory e)) = Err e

-- == a socket
abbrev pub connect_looked : TcpRecord → Result (Answer (Unit {0})) ErrorCode × Socket → Result Bool Stop × TcpRecord
connect_looked r done = (Ok (is_over done.0), with_inner r done.1)

abbrev pub accept_looked : TcpRecord → Answer (Unit {0}) × Listener → Result Bool Stop × TcpRecord
accept_looked r done = (Ok (is_done done.0), with_listening r (Accepts done.1))

-- a listener's accept is polled, and its result isn't taken
abbrev pub ready_listening : Ids → TcpRecord → Listening → Asks (Result Bool Stop × TcpRecord)
ready_listening ids r (Accepts l) = bind (listener_ready_asks l ids) (λ done. Give (accept_looked r done))
ready_listening ids r _ = Give (Ok true, r)

abbrev pub ready_idle : Ids → TcpRecord → Bool → Asks (Result Bool Stop × TcpRecord)
ready_idle ids r true = ready_listening ids r r.listening
ready_idle ids r false = Give (Ok true, r)

-- a connect in progress is polled, and stays in progress; with nothing in progress it is a listener's accept that is polled;
-- else it is ready
abbrev pub ready_socket_by : Ids → TcpRecord → Bool → Asks (Result Bool Stop × TcpRecord)
ready_socket_by ids r true = bind (finish_connect_asks r.inner) (λ done. Give (connect_looked r done))
ready_socket_by ids r false = ready_idle ids r (is_nothing r.in_progress)

abbrev pub ready_socket : Ids → TcpRecord → Asks (Result Bool Stop × TcpRecord)
ready_socket ids r = ready_socket_by ids r (is_connect r.in_progress)

-- a look would begin an accept, where none was begun
abbrev pub begins_accept : Listening → Bool
begins_accept (Accepts listener) = not (has_accept listener.accept)
begins_accept _ = false

abbrev pub socket_begins : TcpRecord → Bool
socket_begins r = if is_nothing r.in_progress then begins_accept r.listening else false

-- == a stream
abbrev pub ready_reader : OpId → TcpRecord → Option Streams → Asks (Result Bool Stop × TcpRecord)
ready_reader op r None = Give (Err (Trap NoSuchHandle), r)
ready_reader op r (Some s) = bind (reader_ready_asks op s.reader) (λ done. Give (Ok (is_done done.0), with_reader r s done.1))

abbrev pub ready_writer : OpId → TcpRecord → Option Streams → Asks (Result Bool Stop × TcpRecord)
ready_writer op r None = Give (Err (Trap NoSuchHandle), r)
ready_writer op r (Some s) = bind (look_asks op s.writer) (λ done. Give (Ok (is_over done.0), with_writer r s done.1))

-- == the names that are left to the line
abbrev pub idle_ids : Listening → Ids → Bool → Ids
idle_ids l ids true = ids_of l ids
idle_ids l ids false = ids

abbrev pub socket_ids : TcpRecord → Ids → Bool → Ids
socket_ids r ids true = ids
socket_ids r ids false = idle_ids r.listening ids (is_nothing r.in_progress)

-- == an output whose handle goes: its permit ends first
-- an error doesn't wait
abbrev pub wait_answer : Result (Answer (Unit {0})) StreamStop → Answer (Unit {0})
wait_answer (Ok Pending) = Pending
wait_answer (Ok (Ready done)) = Ready tt
wait_answer (Err stop) = Ready tt

-- the same of what the code answers
abbrev pub waits_told : Result (Answer (Unit {0})) StreamError → Result (Answer (Unit {0})) AllocError
waits_told (Ok answer) = Ok answer
waits_told (Err (error.LastOperationFailed c)) = Ok (Ready tt)
waits_told (Err error.Closed) = Ok (Ready tt)
waits_told (Err (error.Trap k)) = Ok (Ready tt)
waits_told (Err (error.Memory e)) = Err e

abbrev pub wait_writer : OpId → TcpRecord → Option Streams → Asks (Answer (Unit {0}) × TcpRecord)
wait_writer op r None = Give (Ready tt, r)
wait_writer op r (Some s) = bind (look_asks op (drop_permit s.writer)) (λ looked. Give (wait_answer looked.0, with_writer r s looked.1))
