-- Why a call of a stream failed, as the log and the records say it: a read was answered with a code, or the writer is closed with one.
use Rattle.wasi_walks.proofs.Words.{Answer, Asks, Entry, Err, ErrorCode, Input, List, Ok, OpId, Option, Output, Pending, ReadState, Ready, Records, Result, Some, None, StreamStop, Streams, TcpRecord, Told, WriteState, []}
use Rattle.wasi_walks.proofs.Words.{Bool, after_read, allows_if, begun, bind, check_write_asks, collected, entry, false, flush_asks, kind_at, length, look_asks, look_in, min, nat_lt, new_job, own_of, permitted, polled_answer, read_state_asks, reader_asks, refl, stream_at, true, turn_asks, write_on_asks, write_state_asks, writer_asks, writer_of, reader_of, ℕ, ⊤, ◌++◌, ◌==◌, ◌∷◌, ◌≡◌}
use Rattle.wasi_world.specs.Typed.{told_bytes}
use Rattle.wasi_world.specs.declared.call.Call.{Call}
use Rattle.wasi_records.specs.Records.{tcp2_at, tcp2_put}
use Rattle.wasi_records.specs.declared.records.Record.{Record}
use Rattle.wasi_streams.specs.StreamStop as stop
use Rattle.wasi_tcp.specs.Halves.{read_asks}
use Rattle.wasi_tcp.specs.declared.halves.TcpReceiveStream.{TcpReceiveStream}
use Rattle.wasi_tcp.specs.declared.writer.WriteError.{WriteError}
use Rattle.tcp_records.specs.Halves.{begins_job}
use Rattle.host_store.specs.Jobs.{with_job, write_at}
use Rattle.wasi_jobs.specs.declared.job.HostJob.TheVariants as jobs
use Rattle.wasi_walks.proofs.Words.{Kind, Machine, ap, input_at, input_of, output_at, output_of}
use Rattle.wasi_walks.specs.Licence.{ReadFailed}
use Rattle.wasi_walks.proofs.Gives.{Gives, gives_any, gives_more, gives_then}
use Rattle.wasi_walks.proofs.Lists.{has_front, has_last}
use Rattle.wasi_walks.proofs.Places.{put_finds, tcp_sort}

-- the writer is closed with a code
abbrev pub IsFailed : WriteState → Type 0
IsFailed (WriteState.Closed (WriteError.LastOperationFailed c)) = ⊤
IsFailed _ = ⊥

-- That of the record at this place is.
pub record WriterFailed (records : List Record) (place : ℕ) : Type 0 where
  pub socket : TcpRecord
  pub at : tcp2_at records place ≡ Some socket
  pub streams : Streams
  pub there : socket.streams ≡ Some streams
  pub failed : IsFailed streams.writer

-- the call of a line on the stream of this handle, which is of the record at this place, failed
pub data Fails (es : List Entry) (m : Machine) (n handle place : ℕ) : Type 0 where
  ReadFails : kind_at m.table handle ≡ Some (Input place) → ReadFailed es (own_of n) → Fails es m n handle place
  WriteFails : kind_at m.table handle ≡ Some (Output place) → WriterFailed m.store.records place → Fails es m n handle place

-- this holds where a call failed
abbrev pub IfFailed : {T : Type 0} → Result T StreamStop → Type 0 → Type 0
IfFailed (Err (stop.Failed c)) K = K
IfFailed _ K = ⊤

-- == a read
abbrev IfCode : {T : Type 0} → Result T ErrorCode → Type 0 → Type 0
IfCode (Ok value) K = ⊤
IfCode (Err c) K = K

failed_more : (es fs : List Entry) (op : OpId) → ReadFailed es op → ReadFailed (es ++ fs) op
failed_more es fs op f = record { side = f.side; size = f.size; code = f.code; told = has_front es fs _ f.told }

module _ (op : OpId) where
  abbrev ReadWhy : List Entry → Result (List ℕ) StreamStop × ReadState → Type 0
  ReadWhy fs done = IfFailed done.0 (ReadFailed fs op)

  told_code : (es : List Entry) (side : OpId) (size : ℕ) (told : Told) → IfCode (polled_answer (told_bytes told)) (ReadFailed (es ++ entry op (Call.Read side size) told ∷ []) op)
  told_code es side size (Told.Code c) = record { side = side; size = size; code = c; told = has_last es _ }
  told_code es side size (Told.Bytes bytes) = tt
  told_code es side size _ = tt

  asked_why : (es : List Entry) (side : OpId) (size : ℕ) → Gives (λ fs answer. IfCode answer (ReadFailed fs op)) es (read_asks op side size)
  unfolding bind
  asked_why es side size = allows_if (λ fs o c. ⊤) (λ fs answer. IfCode answer (ReadFailed fs op)) es (size == 0) _ _ (λ none. tt) (λ some. (tt, λ told fits. told_code es side (min size 65536) told))

  after_why : (es : List Entry) (half : TcpReceiveStream) (answer : Result (Answer (List ℕ)) ErrorCode) → IfCode answer (ReadFailed es op) → Gives ReadWhy es (after_read op (ReadState.Open half) answer)
  unfolding bind
  after_why es half (Err c) f = (tt, λ told fits. failed_more es _ op f)
  after_why es half (Ok (Ready [])) f = (tt, λ told fits. tt)
  after_why es half (Ok (Ready (b ∷ bytes))) f = tt
  after_why es half (Ok Pending) f = tt

  read_why : (es : List Entry) (w : ReadState) (size : ℕ) → Gives ReadWhy es (read_state_asks op w size)
  read_why es (ReadState.Open half) size =
      allows_if (λ fs o c. ⊤) ReadWhy es (size == 0) _ _ (λ none. tt)
      (λ some. gives_then (λ fs answer. IfCode answer (ReadFailed fs op)) ReadWhy es (read_asks op half.side size) _ (asked_why es half.side size) (λ fs answer f. after_why fs half answer f))
  read_why es ReadState.Closed size = tt

  -- of the record of an input
  read_fails : (es : List Entry) (store : Records) (place size : ℕ) (o : Option TcpRecord) → Gives (λ fs done. IfFailed done.0 (ReadFailed fs op)) es (stream_at store place (reader_asks (λ w. read_state_asks op w size)) o)
  read_fails es store place size None = tt
  read_fails es store place size (Some r) = gives_then (λ fs done. IfFailed done.0 (ReadFailed fs op)) _ es (reader_asks (λ w. read_state_asks op w size) r) _ (by_streams r.streams) (λ fs done k. k)
    where
      by_streams : (s : Option Streams) → Gives (λ fs done. IfFailed done.0 (ReadFailed fs op)) es (reader_of r (λ w. read_state_asks op w size) s)
      by_streams None = tt
      by_streams (Some s) = gives_then ReadWhy _ es (read_state_asks op s.reader size) _ (read_why es s.reader size) (λ fs done k. k)

-- == a call of a writer
-- where it fails the writer is closed with a code
abbrev pub WriterSays : {T : Type 0} → List Entry → Result T StreamStop × WriteState → Type 0
WriterSays fs done = IfFailed done.0 (IsFailed done.1)

look_in_why : (op : OpId) (es : List Entry) (w : WriteState) → Gives WriterSays es (look_in op w)
unfolding bind
look_in_why op es (WriteState.Ready half permit) = (tt, λ told fits. tt)
look_in_why op es (WriteState.Closed (WriteError.LastOperationFailed c)) = tt
look_in_why op es _ = tt

look_why : (op : OpId) (es : List Entry) (w : WriteState) → Gives WriterSays es (look_asks op w)
look_why op es w = look_in_why op es (collected w)

permitted_why : (most : ℕ) (es : List Entry) (looked : Result (Answer (Unit {0})) StreamStop × WriteState) → WriterSays es looked → WriterSays es (permitted most looked)
permitted_why most es (Ok (Ready done), w) k = tt
permitted_why most es (Ok Pending, w) k = tt
permitted_why most es (Err (stop.Failed c), w) k = k
permitted_why most es (Err _, w) k = tt

pub check_why : (most : ℕ) (op : OpId) (es : List Entry) (w : WriteState) → Gives WriterSays es (check_write_asks most op w)
check_why most op es w = gives_then WriterSays WriterSays es (look_asks op w) _ (look_why op es w) (λ fs looked k. permitted_why most fs looked k)

pub flush_why : (es : List Entry) (w : WriteState) → Gives WriterSays es (flush_asks w)
flush_why es (WriteState.Closed (WriteError.LastOperationFailed c)) = tt
flush_why es _ = tt

begun_why : (es : List Entry) (looked : Result (Answer (Unit {0})) StreamStop × WriteState) → WriterSays es looked → WriterSays es (begun looked)
begun_why es (Ok answer, w) k = tt
begun_why es (Err (stop.Failed c), w) k = k
begun_why es (Err _, w) k = tt

going_why : (op : OpId) (es : List Entry) (w : WriteState) → Gives WriterSays es (write_on_asks op w)
going_why op es w =
    gives_then (λ fs turned. ⊤) WriterSays es (turn_asks w) _ (gives_any (λ fs turned. ⊤) (λ fs turned. tt) es (turn_asks w))
    (λ fs turned k. gives_then WriterSays WriterSays fs (look_asks op turned.1) _ (look_why op fs turned.1) (λ gs looked l. begun_why gs looked l))

write_why : (op : OpId) (bytes : List ℕ) (es : List Entry) (w : WriteState) → Gives WriterSays es (write_state_asks op w bytes)
write_why op [] es (WriteState.Ready half permit) = tt
write_why op (b ∷ bytes) es (WriteState.Ready half permit) =
    allows_if (λ fs o c. ⊤) WriterSays es (nat_lt permit (length (b ∷ bytes))) _ _ (λ past. tt) (λ within. going_why op es (WriteState.Writing (new_job op half.side (b ∷ bytes))))
write_why op bytes es (WriteState.Closed (WriteError.LastOperationFailed c)) = tt
write_why op bytes es _ = tt

-- of the record of an output: the one that is left has such a writer
record LeftFailed (left : TcpRecord) : Type 0 where
  streams : Streams
  there : left.streams ≡ Some streams
  failed : IsFailed streams.writer

abbrev Leaves : {T : Type 0} → List Entry → Result T StreamStop × TcpRecord → Type 0
Leaves fs done = IfFailed done.0 (LeftFailed done.1)

if_failed : {T : Type 0} {K L : Type 0} (answer : Result T StreamStop) → (K → L) → IfFailed answer K → IfFailed answer L
if_failed (Err (stop.Failed c)) f k = f k
if_failed (Err _) f k = tt
if_failed (Ok value) f k = tt

writer_fails : {T : Type 0} (es : List Entry) (store : Records) (place : ℕ) (call : TcpRecord → WriteState → Asks (Result T StreamStop × WriteState)) (o : Option TcpRecord) → tcp2_at store.records place ≡ o → ((r : TcpRecord) (fs : List Entry) (w : WriteState) → Gives WriterSays fs (call r w))
    → Gives (λ fs done. IfFailed done.0 (WriterFailed done.1.records place)) es (stream_at store place (λ r. writer_asks (call r) r) o)
writer_fails es store place call None g k = tt
writer_fails {T} es store place call (Some r) g k = gives_then Leaves _ es (writer_asks (call r) r) _ (by_streams r.streams) (λ fs done f. if_failed done.0 (put done.1) f)
  where
    by_streams : (o : Option Streams) → Gives Leaves es (writer_of r (call r) o)
    by_streams None = tt
    by_streams (Some s) = gives_then WriterSays Leaves es (call r s.writer) _ (k r es s.writer) (λ fs done f. if_failed done.0 (λ x. record { streams = record s { writer = done.1 }; there = refl; failed = x }) f)

    put : (left : TcpRecord) → LeftFailed left → WriterFailed (tcp2_put store.records place left) place
    put left f = record { socket = left; at = put_finds tcp_sort store.records place r left g; streams = f.streams; there = f.there; failed = f.failed }

-- == a call of a line on the stream of a handle
abbrev pub Why : {T : Type 0} → ℕ → Machine → ℕ → ℕ → List Entry → Result T StreamStop × Records → Type 0
Why n m handle place es done = IfFailed done.0 (Fails es (record m { store = done.1 }) n handle place)

is_input : (k : Option Kind) (place : ℕ) → input_of k ≡ Some place → k ≡ Some (Input place)
is_input (Some (Input p)) place e = let same : p ≡ place = cc in ap (λ (x : ℕ). Some (Input x)) same
is_input _ place e = absurd (cc)

is_output : (k : Option Kind) (place : ℕ) → output_of k ≡ Some place → k ≡ Some (Output place)
is_output (Some (Output p)) place e = let same : p ≡ place = cc in ap (λ (x : ℕ). Some (Output x)) same
is_output _ place e = absurd (cc)

-- a job that is listed is nothing to the records
noted_failed : (store : Records) (place : ℕ) (begins : Bool) → WriterFailed store.records place → WriterFailed (with_job store (jobs.Write place) begins).records place
noted_failed store place true f = f
noted_failed store place false f = f

module _ (n : ℕ) (m : Machine) (handle place : ℕ) (es : List Entry) where
  -- on an input
  pub input_why : (len : ℕ) → input_at m handle ≡ Some place → let o = tcp2_at m.store.records place in Gives (Why n m handle place) es (stream_at m.store place (reader_asks (λ w. read_state_asks (own_of n) w len)) o)
  input_why len e =
      let o = tcp2_at m.store.records place in
      gives_more (λ fs done. IfFailed done.0 (ReadFailed fs (own_of n))) (Why n m handle place) (λ fs done k. if_failed done.0 (λ f. ReadFails (is_input (kind_at m.table handle) place e) f) k) es _ (read_fails (own_of n) es m.store place len o)

  -- on an output
  pub output_why : {T : Type 0} (call : TcpRecord → WriteState → Asks (Result T StreamStop × WriteState)) → output_at m handle ≡ Some place → ((r : TcpRecord) (fs : List Entry) (w : WriteState) → Gives WriterSays fs (call r w)) → let o = tcp2_at m.store.records place in Gives (Why n m handle place) es (stream_at m.store place (λ r. writer_asks (call r) r) o)
  output_why call e k =
      let o = tcp2_at m.store.records place in
      gives_more (λ fs done. IfFailed done.0 (WriterFailed done.1.records place)) (Why n m handle place) (λ fs done f. if_failed done.0 (λ x. WriteFails (is_output (kind_at m.table handle) place e) x) f) es _ (writer_fails es m.store place call o refl k)

  pub written_why : (bytes : List ℕ) → output_at m handle ≡ Some place → let o = tcp2_at m.store.records place in Gives (Why n m handle place) es (write_at m.store place (writer_asks (λ w. write_state_asks (own_of n) w bytes)) o)
  written_why bytes e =
      let o = tcp2_at m.store.records place in
      gives_then (λ fs done. IfFailed done.0 (WriterFailed done.1.records place)) (Why n m handle place) es _ _ (writer_fails es m.store place (λ r w. write_state_asks (own_of n) w bytes) o refl (λ r. write_why (own_of n) bytes))
      (λ fs done k. if_failed done.0 (λ f. WriteFails (is_output (kind_at m.table handle) place e) (noted_failed done.1 place (begins_job o (tcp2_at done.1.records place)) f)) k)
