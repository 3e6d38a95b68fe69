-- The calls of a connection's streams make and close no network socket.
use Rattle.std.proofs.Common.{◌≡◌, ℕ, zero, suc, Bool, true, false, if◌then◌else◌, List, [], ◌∷◌, Option, Some, None, refl, sym, subst, length}
use Rattle.std.specs.Prelude.{Result, Ok, Err, ◌==◌, nat_lt, min}
use Rattle.wasi_addr.specs.declared.code.ErrorCode.{ErrorCode}
use Rattle.wasi_world.specs.declared.ids.OpId.{OpId}
use Rattle.wasi_world.specs.declared.asks.Polled.{Polled}
use Rattle.wasi_world.specs.declared.asks.Polled.TheVariants as polled
use Rattle.wasi_world.specs.declared.outcome.Answer.{Answer}
use Rattle.wasi_world.specs.declared.outcome.Answer.TheVariants.{Ready, Pending}
use Rattle.wasi_world.specs.declared.outcome.TrapKind.TheVariants.{NotPermitted}
use Rattle.wasi_world.specs.Asks.{Asks, Give, bind}
use Rattle.wasi_world.specs.Typed.{ask_read}
use Rattle.wasi_world.specs.Operation.{Given, Nothing, Item, Write, ShutdownSend, Last, ShutdownLast, Who, Operation, Front, Goes, Stays, Again, Ends, End, Waits, Done, Refused, front, write_front, taken_front, less_one, last_ask, after, round, polls, poll_asks}
use Rattle.wasi_streams.specs.StreamStop.{StreamStop}
use Rattle.wasi_streams.specs.StreamStop as stop
use Rattle.wasi_tcp.specs.declared.halves.TcpSendStream.{TcpSendStream}
use Rattle.wasi_tcp.specs.declared.reader.ReadState.{ReadState}
use Rattle.wasi_tcp.specs.declared.reader.ReadState.TheVariants as reading
use Rattle.wasi_tcp.specs.declared.writer.WriteState.{WriteState}
use Rattle.wasi_tcp.specs.declared.writer.WriteState.TheVariants as writing
use Rattle.wasi_tcp.specs.Halves.{polled_answer, read_asks}
use Rattle.wasi_tcp.specs.Reader.{read_end_asks, after_read, read_state_asks}
use Rattle.wasi_tcp.specs.declared.job.WriteStage.{WriteStage}
use Rattle.wasi_tcp.specs.declared.job.WriteStage.TheVariants as stage
use Rattle.wasi_tcp.specs.Bounds.{IsWrite, HoldsWrite}
use Rattle.wasi_tcp.specs.Job.{Job, new_job, writer, write_left, job_in, job_asks}
use Rattle.wasi_tcp.specs.Writer.{collected, look_in, look_asks, check_write_asks, turn_asks, write_on_asks, write_state_asks}
use Rattle.tcp_records.specs.declared.socket.Streams.{Streams}
use Rattle.tcp_records.specs.declared.socket.TcpRecord.{TcpRecord}
use Rattle.tcp_records.specs.Halves.{reader_of, reader_asks, writer_of, writer_asks}
use Rattle.record_common.proofs.SideCounts.{Calm, Any, calm_then}

-- == a read
calm_read_end : (op : OpId) (s : ReadState) (why : StreamStop) → Calm Any (read_end_asks op s why)
unfolding bind
calm_read_end op (reading.Open half) why = ((λ t. refl, refl), λ t. tt)
calm_read_end op reading.Closed why = tt

calm_after_read : (op : OpId) (s : ReadState) (r : Result (Answer (List ℕ)) ErrorCode) → Calm Any (after_read op s r)
calm_after_read op s (Ok Pending) = tt
calm_after_read op s (Ok (Ready [])) = calm_read_end op s _
calm_after_read op s (Ok (Ready (b ∷ bytes))) = tt
calm_after_read op s (Err c) = calm_read_end op s _

calm_half : (op side : OpId) (size : ℕ) (empty : Bool) → Calm Any (if empty then Give (Ok (Ready [])) else bind (ask_read op side (min size 65536)) (λ told. Give (polled_answer told)))
unfolding bind
calm_half op side size true = tt
calm_half op side size false = ((λ t. refl, refl), λ t. tt)

calm_open : (op : OpId) (s : ReadState) (side : OpId) (size : ℕ) (empty : Bool) → Calm Any (if empty then Give (Ok [], s) else bind (read_asks op side size) (after_read op s))
calm_open op s side size true = tt
calm_open op s side size false = calm_then Any Any (read_asks op side size) _ (calm_half op side size (size == 0)) (λ r k. calm_after_read op s r)

pub calm_read_state : (op : OpId) (s : ReadState) (size : ℕ) → Calm Any (read_state_asks op s size)
calm_read_state op (reading.Open half) size = calm_open op (reading.Open half) half.side size (size == 0)
calm_read_state op reading.Closed size = tt

-- == a look
pub calm_look_in : (op : OpId) (w : WriteState) → Calm Any (look_in op w)
unfolding bind
calm_look_in op (writing.Ready half permit) = ((λ t. refl, refl), λ t. tt)
calm_look_in op _ = tt

pub calm_check : (most : ℕ) (op : OpId) (w : WriteState) → Calm Any (check_write_asks most op w)
calm_check most op w = calm_then Any Any (look_asks op w) _ (calm_look_in op (collected w)) (λ l k. tt)

-- == a write
abbrev IsCalmFront : Front → Type 0
IsCalmFront (Again i) = ⊥
IsCalmFront _ = Unit {0}

calm_taken : (who : Who) (bytes : List ℕ) (item : Item) (p : Polled ℕ) → ((skip : ℕ) → Calm IsCalmFront (write_front who bytes skip)) → Calm IsCalmFront (taken_front (λ skip. write_front who bytes skip) item p)
calm_taken who bytes item (polled.Ready n) h = h (less_one n)
calm_taken who bytes item polled.Pending h = tt
calm_taken who bytes item (polled.Code c) h = tt

calm_front : (who : Who) (bytes : List ℕ) (skip : ℕ) → Calm IsCalmFront (write_front who bytes skip)
unfolding bind
calm_front who [] skip = tt
calm_front who (b ∷ bytes) (suc skip) = calm_front who bytes skip
calm_front who (b ∷ bytes) zero = λ t. calm_taken who bytes (Write (b ∷ bytes)) _ (calm_front who bytes)

calm_last : (who : Who) (c : ErrorCode) (g : Given) → who.last ≡ ShutdownLast → Calm Any (last_ask who who.last c g)
unfolding bind
calm_last who c g l = rw l ((λ t. refl, refl), λ t. tt)

calm_after : (again : List Item → Asks (End × List Item)) (who : Who) (f : Front) → who.last ≡ ShutdownLast → IsCalmFront f → Calm Any (after again who [] (λ g. round again who g []) f)
calm_after again who (Goes g) l k = tt
calm_after again who (Stays i) l k = tt
calm_after again who (Again i) l k = absurd k
calm_after again who (Ends c g) l k = calm_last who c g l

calm_poll : (who : Who) (bytes : List ℕ) → who.last ≡ ShutdownLast → Calm Any (polls 64 who (Write bytes ∷ []))
unfolding polls
calm_poll who bytes l = calm_then IsCalmFront Any (front who (Write bytes)) _ (calm_front who bytes 0) (λ f k. calm_after (polls 63 who) who f l k)

calm_write_on : (op side : OpId) (bytes : List ℕ) → Calm Any (write_on_asks op (writing.Writing (new_job op side bytes)))
calm_write_on op side bytes =
    calm_then Any Any (turn_asks (writing.Writing (new_job op side bytes))) _
    (calm_then Any Any (job_asks (new_job op side bytes)) _ (calm_then Any Any (poll_asks (new_job op side bytes).write) _ (calm_poll (writer op side) bytes refl) (λ e k. tt)) (λ j k. tt))
    (λ turned k. calm_then Any Any (look_asks op turned.1) _ (calm_look_in op (collected turned.1)) (λ l q. tt))

calm_within : (op : OpId) (half : TcpSendStream) (permit : ℕ) (b : ℕ) (bytes : List ℕ) (past : Bool) → Calm Any (if past then Give (Err (stop.Trap NotPermitted), writing.Ready half permit) else write_on_asks op (writing.Writing (new_job op half.side (b ∷ bytes))))
calm_within op half permit b bytes true = tt
calm_within op half permit b bytes false = calm_write_on op half.side (b ∷ bytes)

pub calm_write : (op : OpId) (w : WriteState) (bytes : List ℕ) → Calm Any (write_state_asks op w bytes)
calm_write op (writing.Ready half permit) [] = tt
calm_write op (writing.Ready half permit) (b ∷ bytes) = calm_within op half permit b bytes (nat_lt permit (length (b ∷ bytes)))
calm_write op (writing.Writing job) bytes = tt
calm_write op (writing.Closing job) bytes = tt
calm_write op (writing.Closed e) bytes = tt

-- == a turn
-- what a write may have left
abbrev IsCalmItem : Item → Type 0
IsCalmItem (Write bytes) = Unit {0}
IsCalmItem ShutdownSend = Unit {0}
IsCalmItem (Last c g) = Unit {0}
IsCalmItem _ = ⊥

abbrev AreCalm : List Item → Type 0
AreCalm [] = Unit {0}
AreCalm (i ∷ items) = IsCalmItem i × AreCalm items

calm_item : (who : Who) (i : Item) → IsCalmItem i → Calm IsCalmFront (front who i)
unfolding bind
calm_item who (Write bytes) h = calm_front who bytes 0
calm_item who ShutdownSend h = ((λ t. refl, refl), λ t. tt)
calm_item who (Last c g) h = tt
calm_item who _ h = absurd h

calm_round : (again : List Item → Asks (End × List Item)) (who : Who) (given : Given) (items : List Item) → who.last ≡ ShutdownLast → AreCalm items → Calm Any (round again who given items)
calm_round again who given [] l h = tt
calm_round again who given (i ∷ items) l h = calm_then IsCalmFront Any (front who i) _ (calm_item who i h.0) (λ f k. go f k (λ g. calm_round again who g items l h.1))
  where
    go : (f : Front) → IsCalmFront f → ((g : Given) → Calm Any (round again who g items)) → Calm Any (after again who items (λ g. round again who g items) f)
    go (Goes g) k next = next g
    go (Stays j) k next = tt
    go (Again j) k next = absurd k
    go (Ends c g) k next = calm_last who c g l

calm_left_items : (rest : List ℕ) (closing : Bool) (stage : WriteStage) → AreCalm (write_left rest closing stage)
calm_left_items rest true stage.Write = (tt, (tt, tt))
calm_left_items rest false stage.Write = (tt, tt)
calm_left_items rest closing stage.Close = (tt, tt)
calm_left_items rest closing (stage.Refused c) = (tt, tt)
calm_left_items rest closing stage.Written = tt
calm_left_items rest closing (stage.Failed c) = tt

calm_job : (job : Job) → IsWrite job → Calm Any (job_asks job)
unfolding polls
calm_job job h = by job.end
  where
    polled : Calm Any (poll_asks job.write)
    polled = subst (λ (op : Operation). Calm Any (poll_asks op)) (sym h.write) (calm_round (polls 63 (writer h.op h.side)) (writer h.op h.side) Nothing (write_left h.rest h.closing h.stage) refl (calm_left_items h.rest h.closing h.stage))

    by : (end : End) → Calm Any (job_in job end)
    by Waits = calm_then Any Any (poll_asks job.write) _ polled (λ e k. tt)
    by (Done g) = tt
    by (Refused c g) = tt

pub calm_turn : (w : WriteState) → HoldsWrite w → Calm Any (turn_asks w)
calm_turn (writing.Ready half permit) h = tt
calm_turn (writing.Writing job) h = calm_then Any Any (job_asks job) _ (calm_job job h) (λ j k. tt)
calm_turn (writing.Closing job) h = calm_then Any Any (job_asks job) _ (calm_job job h) (λ j k. tt)
calm_turn (writing.Closed e) h = tt

-- == of a record
calm_reader_of : {T : Type 0} (r : TcpRecord) (call : ReadState → Asks (Result T StreamStop × ReadState)) (o : Option Streams) → ((s : ReadState) → Calm Any (call s)) → Calm Any (reader_of r call o)
calm_reader_of r call None h = tt
calm_reader_of r call (Some s) h = calm_then Any Any (call s.reader) _ (h s.reader) (λ d k. tt)

pub calm_reader : {T : Type 0} (call : ReadState → Asks (Result T StreamStop × ReadState)) (r : TcpRecord) → ((s : ReadState) → Calm Any (call s)) → Calm Any (reader_asks call r)
calm_reader call r h = calm_reader_of r call r.streams h

calm_writer_of : {T : Type 0} (r : TcpRecord) (call : WriteState → Asks (Result T StreamStop × WriteState)) (o : Option Streams) → ((s : WriteState) → Calm Any (call s)) → Calm Any (writer_of r call o)
calm_writer_of r call None h = tt
calm_writer_of r call (Some s) h = calm_then Any Any (call s.writer) _ (h s.writer) (λ d k. tt)

pub calm_writer : {T : Type 0} (call : WriteState → Asks (Result T StreamStop × WriteState)) (r : TcpRecord) → ((s : WriteState) → Calm Any (call s)) → Calm Any (writer_asks call r)
calm_writer call r h = calm_writer_of r call r.streams h
