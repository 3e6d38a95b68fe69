-- Looks, shutdowns and closings of a record: how their answers are reported, and what they make of the network sockets
-- that are held.
use Rattle.std.proofs.Common.{◌≡◌, Bool, Option, Some, None, refl, ap}
use Rattle.std.specs.Prelude.{Result, Ok, Err, OnErr}
use Rattle.std.specs.declared.alloc.AllocError.{AllocError}
use Rattle.wasi_addr.specs.declared.address.ShutdownType.{ShutdownType}
use Rattle.wasi_addr.specs.declared.address.ShutdownType.TheVariants.{Receive, Send, Both}
use Rattle.wasi_addr.specs.declared.code.ErrorCode.{ErrorCode}
use Rattle.wasi_world.specs.declared.ids.OpId.{OpId}
use Rattle.wasi_world.specs.declared.outcome.Answer.{Answer}
use Rattle.wasi_world.specs.declared.outcome.Answer.TheVariants.{Ready, Pending}
use Rattle.wasi_world.specs.declared.outcome.Refusal.{Refusal}
use Rattle.wasi_world.specs.declared.outcome.Refusal.TheVariants as refusal
use Rattle.wasi_world.specs.Seen.{Seen}
use Rattle.wasi_world.specs.Asks.{Give, bind, AsksFor, outcome}
use Rattle.wasi_world.specs.Operation.{End, Waits, Done, Refused}
use Rattle.wasi_world.proofs.Walks.{reaches_in, asks_end, asks_err}
use Rattle.wasi_streams.specs.declared.error.StreamError.{StreamError}
use Rattle.wasi_streams.specs.declared.error.StreamError.TheVariants as error
use Rattle.wasi_streams.specs.StreamStop.{StreamStop, stream_outcome}
use Rattle.wasi_tcp.specs.declared.reader.ReadState.{ReadState}
use Rattle.wasi_tcp.specs.declared.reader.ReadState.TheVariants as reading
use Rattle.wasi_tcp.specs.declared.writer.WriteState.{WriteState}
use Rattle.wasi_tcp.specs.declared.writer.WriteState.TheVariants as writing
use Rattle.wasi_tcp.specs.Connecting.{finish_connect_asks}
use Rattle.wasi_tcp.specs.Job.{Job, finish_in, finish_asks}
use Rattle.wasi_tcp.specs.Reader.{reader_ready_asks, reader_shutdown_asks}
use Rattle.wasi_tcp.specs.Shape.{Socket}
use Rattle.wasi_tcp.specs.Writer.{collected, drop_permit, look_asks, writer_side, writer_shutdown_asks, side_up_asks}
use Rattle.tcp_records.specs.declared.socket.Streams.{Streams}
use Rattle.tcp_records.specs.declared.socket.TcpRecord.{TcpRecord}
use Rattle.tcp_records.specs.Releasing.{give_streams_up}
use Rattle.tcp_records.specs.Looks.{wait_answer, waits_told, wait_writer, is_over, is_done, over_told, read_told, look_told, connect_looked, ready_reader, ready_writer}
use Rattle.record_common.specs.Stops.{Stop}
use Rattle.tcp_records.specs.Shutdowns.{shut_receive, shut_send, shut_streams, shut_record}
use Rattle.tcp_records.specs.Sockets.{with_inner}
use Rattle.tcp_records.specs.Halves.{with_reader, with_writer}
use Rattle.record_common.proofs.SideCounts.{Calm, Any, calm_then}
use Rattle.tcp_records.proofs.StreamCounts.{calm_look_in}

-- == how a look is reported
waits_answer : (answer : Answer (Unit {0})) → wait_answer (Ok answer) ≡ answer
waits_answer Pending = refl
waits_answer (Ready tt) = refl

module _ (op : OpId) (r : TcpRecord) (streams : Streams) where
  -- by one that waits
  pub look_waits : {w : WriteState} {s t : Seen} (looked : Result (Answer (Unit {0})) StreamError) → AsksFor (look_asks op (drop_permit streams.writer)) s t (λ answer. (answer, w)) (stream_outcome looked)
      → AsksFor {A = Answer (Unit {0}) × TcpRecord} (bind (look_asks op (drop_permit streams.writer)) (λ l. Give (wait_answer l.0, with_writer r streams l.1))) s t (λ answer. (answer, with_writer r streams w)) (waits_told looked)
  look_waits {w} (Ok answer) h = asks_end _ h.ok (ap (λ (a : Answer (Unit {0})). Give (a, with_writer r streams w)) (waits_answer answer))
  look_waits (Err (error.LastOperationFailed c)) h = asks_end _ h.ok refl
  look_waits (Err error.Closed) h = asks_end _ h.ok refl
  look_waits (Err (error.Trap k)) h = asks_end _ h.ok refl
  look_waits (Err (error.Memory e)) h = asks_err (bind h.err.rest _) (reaches_in _ h.err.reached)

  over_answer : (answer : Answer (Unit {0})) → is_over {E = StreamStop} (Ok answer) ≡ is_done answer
  over_answer Pending = refl
  over_answer (Ready tt) = refl

  -- by a pollable
  pub look_over : {w : WriteState} {s t : Seen} (looked : Result (Answer (Unit {0})) StreamError) → AsksFor (look_asks op streams.writer) s t (λ answer. (answer, w)) (stream_outcome looked)
      → AsksFor {A = Result Bool Stop × TcpRecord} (bind (look_asks op streams.writer) (λ l. Give (Ok (is_over l.0), with_writer r streams l.1))) s t (λ (ready : Result Bool Stop). (ready, with_writer r streams w)) (look_told looked)
  look_over {w} (Ok answer) h = asks_end _ h.ok (ap (λ (b : Bool). let told : Result Bool Stop = Ok b in Give (told, with_writer r streams w)) (over_answer answer))
  look_over (Err (error.LastOperationFailed c)) h = asks_end _ h.ok refl
  look_over (Err error.Closed) h = asks_end _ h.ok refl
  look_over (Err (error.Trap k)) h = asks_end _ h.ok refl
  look_over (Err (error.Memory e)) h = asks_err (bind h.err.rest _) (reaches_in _ h.err.reached)

pub read_over : (r : TcpRecord) (op : OpId) (streams : Streams) {now : ReadState} {s t : Seen} (looked : Result (Answer (Unit {0})) AllocError) → AsksFor (reader_ready_asks op streams.reader) s t (λ answer. (answer, now)) looked
    → AsksFor {A = Result Bool Stop × TcpRecord} (bind (reader_ready_asks op streams.reader) (λ done. Give (Ok (is_done done.0), with_reader r streams done.1))) s t (λ (ready : Result Bool Stop). (ready, with_reader r streams now)) (read_told looked)
read_over r op streams (Ok answer) h = asks_end _ h.ok refl
read_over r op streams (Err e) h = asks_err (bind h.err.rest _) (reaches_in _ h.err.reached)

over_connect : (answer : Answer (Unit {0})) → is_over {E = ErrorCode} (Ok answer) ≡ is_done answer
over_connect Pending = refl
over_connect (Ready tt) = refl

pub connect_over : (r : TcpRecord) (now : Socket) {s t : Seen} (polled : Result (Answer (Unit {0})) Refusal) → AsksFor (finish_connect_asks r.inner) s t (λ answer. (answer, now)) (outcome polled)
    → AsksFor (bind (finish_connect_asks r.inner) (λ done. Give (connect_looked r done))) s t (λ (ready : Result Bool Stop). (ready, with_inner r now)) (over_told polled)
connect_over r now (Ok answer) h = asks_end _ h.ok (ap (λ (b : Bool). let told : Result Bool Stop = Ok b in Give (told, with_inner r now)) (over_connect answer))
connect_over r now (Err (refusal.Code c)) h = asks_end _ h.ok refl
connect_over r now (Err (refusal.Memory e)) h = asks_err (bind h.err.rest _) (reaches_in _ h.err.reached)

-- == looks and shutdowns are calm
calm_reader_ready : (op : OpId) (s : ReadState) → Calm Any (reader_ready_asks op s)
unfolding bind
calm_reader_ready op (reading.Open half) = ((λ t. refl, refl), λ t. tt)
calm_reader_ready op reading.Closed = tt

pub calm_ready_reader : (op : OpId) (r : TcpRecord) (o : Option Streams) → Calm Any (ready_reader op r o)
calm_ready_reader op r None = tt
calm_ready_reader op r (Some s) = calm_then Any Any (reader_ready_asks op s.reader) _ (calm_reader_ready op s.reader) (λ d k. tt)

pub calm_ready_writer : (op : OpId) (r : TcpRecord) (o : Option Streams) → Calm Any (ready_writer op r o)
calm_ready_writer op r None = tt
calm_ready_writer op r (Some s) = calm_then Any Any (look_asks op s.writer) _ (calm_look_in op (collected s.writer)) (λ d k. tt)

pub calm_wait_writer : (op : OpId) (r : TcpRecord) (o : Option Streams) → Calm Any (wait_writer op r o)
calm_wait_writer op r None = tt
calm_wait_writer op r (Some s) = calm_then Any Any (look_asks op (drop_permit s.writer)) _ (calm_look_in op (collected (drop_permit s.writer))) (λ d k. tt)

calm_reader_shutdown : (op : OpId) (s : ReadState) → Calm Any (reader_shutdown_asks op s)
unfolding bind
calm_reader_shutdown op (reading.Open half) = ((λ t. refl, refl), λ t. tt)
calm_reader_shutdown op reading.Closed = tt

calm_finish_in : (op : OpId) (job : Job) (end : End) → Calm Any (finish_in op job end)
unfolding bind
calm_finish_in op job Waits = tt
calm_finish_in op job (Done given) = ((λ t. refl, refl), λ t. tt)
calm_finish_in op job (Refused c given) = tt

calm_writer_shutdown : (op : OpId) (w : WriteState) → Calm Any (writer_shutdown_asks op w)
unfolding bind
calm_writer_shutdown op (writing.Ready half permit) = ((λ t. refl, refl), λ t. tt)
calm_writer_shutdown op (writing.Writing job) = calm_then Any Any (finish_asks op job) _ (calm_finish_in op job job.end) (λ f k. tt)
calm_writer_shutdown op (writing.Closing job) = tt
calm_writer_shutdown op (writing.Closed e) = tt

calm_shut_receive : (op : OpId) (s : Streams) → Calm Any (shut_receive op s)
calm_shut_receive op s = calm_then Any Any (reader_shutdown_asks op s.reader) _ (calm_reader_shutdown op s.reader) (λ d k. tt)

calm_shut_send : (op : OpId) (s : Streams) → Calm Any (shut_send op s)
calm_shut_send op s = calm_then Any Any (writer_shutdown_asks op s.writer) _ (calm_writer_shutdown op s.writer) (λ d k. tt)

pub calm_shut : (op : OpId) (how : ShutdownType) (s : Streams) → Calm Any (shut_streams op how s)
calm_shut op Receive s = calm_shut_receive op s
calm_shut op Send s = calm_shut_send op s
calm_shut op Both s = calm_then Any Any (shut_receive op s) _ (calm_shut_receive op s) (λ d k. calm_shut_send op d.1)

pub calm_shut_record : (op : OpId) (how : ShutdownType) (r : TcpRecord) (o : Option Streams) → Calm Any (shut_record op how r o)
calm_shut_record op how r None = tt
calm_shut_record op how r (Some s) = calm_then Any Any (shut_streams op how s) _ (calm_shut op how s) (λ d k. tt)

calm_side_up : (op : OpId) (o : Option OpId) → Calm Any (side_up_asks op o)
unfolding bind
calm_side_up op (Some side) = ((λ t. refl, refl), λ t. tt)
calm_side_up op None = tt

pub calm_give_up : (op : OpId) (o : Option Streams) → Calm Any (give_streams_up op o)
calm_give_up op None = tt
calm_give_up op (Some s) = calm_then Any Any (reader_shutdown_asks op s.reader) _ (calm_reader_shutdown op s.reader) (λ d k. calm_side_up op (writer_side s.writer))

-- only when memory runs out
pub on_err : {T E P : Type 0} (r : Result T E) → P → OnErr r P
on_err (Ok x) p = tt
on_err (Err e) p = p
