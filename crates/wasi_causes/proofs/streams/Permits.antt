-- What a look at what may be written permits stays permitted, also after a read; and a read gives no more than was wanted.
use Rattle.wasi_causes.proofs.Words.{◌≡◌, ◌∙◌, ◌<◌, ℕ, ⊤, Bool, true, false, zero, suc, arith, if◌then◌else◌, min, List, [], ◌∷◌, Option, Some, None, Result, Ok, Err, IsRead, IsSomeAnd, IsUnpermitted, refl, sym, subst, ap, CallStop, Entry, Give, Machine, OpId, ReadState, Ready, StreamStop, Streams, TcpRecord, TcpReceiveStream, Told, WriteState, after_read, ask_read, bind, check_asks, check_write_asks, collected, input_at, length, look_in, output_at, output_streams, permitted, polled_answer, read_asks, read_state_asks, reader_of, record_in, streams_in, told_bytes, told_ready, with_reader, with_writer, writer_of, ◌==◌}
use Rattle.std.specs.Prelude.{◌≤◌, take, drop}
use Rattle.std.proofs.Math.Nat.{min-le_left}
use Rattle.std.proofs.lemmas.List.{length-take}
use Rattle.wasi_causes.proofs.Words.{Records}
use Rattle.memory_streams.specs.Plain.{Contents, left_in, room_told}
use Rattle.wasi_streams.specs.StreamStop as stop
use Rattle.wasi_tcp.specs.declared.reader.ReadState.TheVariants as reading
use Rattle.wasi_tcp.specs.declared.writer.WriteState.TheVariants as writing
use Rattle.host_store.specs.declared.kind.PlainInput.{PlainInput}
use Rattle.host_store.specs.declared.kind.PlainInput.TheVariants as input
use Rattle.host_store.specs.declared.kind.PlainOutput.{PlainOutput}
use Rattle.host_store.specs.declared.kind.PlainOutput.TheVariants as output
use Rattle.wasi_records.specs.declared.records.Record.{Record}
use Rattle.host_store.specs.Limits.{most_of}
use Rattle.host_streams.specs.PlainStreams.{check_pipe_at, read_pipe_at}
use Rattle.wasi_records.specs.Records.{input_pipe_at, output_pipe_at, tcp2_at, tcp2_put}
use Rattle.host_streams.specs.StreamCalls.{check_by, plain_answer, plain_done, plain_input_at, plain_output_at, read_by}
use Rattle.wasi_walks.specs.Missing.{pipe_of}
use Rattle.host_store.specs.Kinds.{HandleTable, kind_at, output_of, plain_output_of}
use Rattle.wasi_world.specs.Fits.{IsReady as FitsReady}
use Rattle.wasi_world.specs.declared.call.Told.TheVariants as told
use Rattle.wasi_walks.proofs.Places.{input_sort, other_put, output_sort, put_either, tcp_sort}
use Rattle.wasi_causes.proofs.streams.Routes.{HasStreams, Told as TellsStream, on_stream}
use Rattle.wasi_causes.proofs.streams.Plain.{no_output_streams}
use Rattle.wasi_causes.proofs.tables.Routes.{none_has}
use Rattle.wasi_causes.proofs.tables.Meets.{Meets, Rows, asks, ends, whatever, widen}
use Rattle.wasi_walks.proofs.Places.{put_finds}
use Rattle.wasi_causes.proofs.Words.{inl, inr}

-- == what may be written
-- so many bytes may be written by the writer, if it is one, and into the pipe, if it is one
abbrev pub MayWriteBy : Option Streams → ℕ → Type 0
MayWriteBy o n = IsSomeAnd o (λ s. IsUnpermitted s.writer n) → ⊥

abbrev pub MayWriteInto : Option Contents → ℕ → Type 0
MayWriteInto o n = IsSomeAnd o (λ pipe. left_in pipe < n) → ⊥

abbrev pub MayWrite : Machine → ℕ → ℕ → Type 0
MayWrite m h n = MayWriteBy (output_streams m h) n × MayWriteInto (pipe_of m (plain_output_at m h)) n

-- fewer may be written too
fewer_by : (o : Option Streams) (n k : ℕ) → k ≤ n → MayWriteBy o n → MayWriteBy o k
fewer_by None n k less may u = u
fewer_by (Some s) n k less may u = may (more s.writer u)
  where
    more : (w : WriteState) → IsUnpermitted w k → IsUnpermitted w n
    more (writing.Ready half permit) over = omega (arith, less, over)
    more (writing.Writing job) over = tt
    more (writing.Closing job) over = tt
    more (writing.Closed e) over = over

fewer_into : (o : Option Contents) (n k : ℕ) → k ≤ n → MayWriteInto o n → MayWriteInto o k
fewer_into None n k less may u = u
fewer_into (Some pipe) n k less may u = may (omega (arith, less, u))

pub fewer : (m : Machine) (h n k : ℕ) → k ≤ n → MayWrite m h n → MayWrite m h k
fewer m h n k less may = (fewer_by (output_streams m h) n k less may.0, fewer_into (pipe_of m (plain_output_at m h)) n k less may.1)

-- == a look permits
-- of a writer
abbrev PermitRow : Rows (Result ℕ StreamStop × WriteState)
PermitRow es (Ok n, now) = 0 < n → IsUnpermitted now n → ⊥
PermitRow es (Err why, now) = ⊤

permits_as : (most : ℕ) (own : OpId) (now : WriteState) → Meets PermitRow [] (bind (look_in own now) (λ looked. Give (permitted most looked)))
unfolding bind
permits_as most own (writing.Ready half permit) = asks (λ t fits. ends (by_told t fits))
  where
    by_told : (t : Told) → FitsReady t → PermitRow [] (permitted most (Ok (told_ready t), writing.Ready half permit))
    by_told told.Done fits = λ some over. omega (arith, over)
    by_told told.Pending fits = λ some over. omega (arith, some)
    by_told _ fits = absurd fits
permits_as most own (writing.Writing job) = ends (λ some over. omega (arith, some))
permits_as most own (writing.Closing job) = ends (λ some over. omega (arith, some))
permits_as most own (writing.Closed e) = ends tt

permits : (most : ℕ) (own : OpId) (writer : WriteState) → Meets PermitRow [] (check_write_asks most own writer)
permits most own writer = permits_as most own (collected writer)

-- of a machine
abbrev pub Permitting : Machine → ℕ → Rows (Result ℕ CallStop × Machine)
Permitting m h es (Ok n, after) = 0 < n → MayWrite after h n
Permitting m h es (Err why, after) = ⊤

module _ (m : Machine) (own : OpId) (h : ℕ) where
  told_permit : (is : plain_output_at m h ≡ None) (place : ℕ) (r : TcpRecord) (s : Streams) → HasStreams m (output_at m h) place r s → (es : List Entry) (done : Result ℕ StreamStop × WriteState) → PermitRow es done
      → TellsStream m own h (Permitting m h) es done.0 (record m.store { records = tcp2_put m.store.records place (with_writer r s done.1) })
  told_permit is place r s n es (Ok k, now) row = λ some. (
    λ u. row some (its u),
    λ u. rw is at u,
  )
    where
      left : Machine
      left = record m { store = record m.store { records = tcp2_put m.store.records place (with_writer r s now) } }

      streams_now : output_streams left h ≡ Some (record s { writer = now })
      streams_now = ap (λ (o : Option ℕ). streams_in (record_in left o)) n.names ∙ ap streams_in (put_finds tcp_sort m.store.records place r (with_writer r s now) n.at)

      its : IsSomeAnd (output_streams left h) (λ s. IsUnpermitted s.writer k) → IsUnpermitted now k
      its u = rw streams_now at u
  told_permit is place r s n es (Err stop.Closed, now) row = tt
  told_permit is place r s n es (Err (stop.Failed c), now) row = (λ full. tt, λ side. tt)
  told_permit is place r s n es (Err (stop.Trap kind), now) row = tt

  -- no connection writes there
  no_writer : (o : PlainOutput) → plain_output_at m h ≡ Some o → (n : ℕ) → MayWriteBy (output_streams m h) n
  no_writer o is n u = none_has (λ s. IsUnpermitted s.writer n) (output_streams m h) (no_output_streams m h o is) u

  by_room : (place : ℕ) → plain_output_at m h ≡ Some (output.Pipe place) → (pipe : Contents) → output_pipe_at m.store.records place ≡ Some pipe → (n : ℕ) → left_in pipe ≡ n → Permitting m h [] (plain_answer (room_told n), m)
  by_room place is pipe at zero e = tt
  by_room place is pipe at (suc n) e = λ some. (no_writer (output.Pipe place) is (suc n), λ u. let over : left_in pipe < suc n = rw (is, at) at u in omega (arith, over, e))

  by_pipe : (place : ℕ) → plain_output_at m h ≡ Some (output.Pipe place) → (o : Option Contents) → output_pipe_at m.store.records place ≡ o → Permitting m h [] (plain_answer (check_pipe_at o), m)
  by_pipe place is None at = tt
  by_pipe place is (Some pipe) at = by_room place is pipe at (left_in pipe) refl

  by_output : (o : Option PlainOutput) → plain_output_at m h ≡ o → Meets (Permitting m h) [] (check_by m own h o)
  by_output (Some (output.Pipe place)) is = ends (by_pipe place is (output_pipe_at m.store.records place) refl)
  by_output (Some output.Sink) is = ends (λ some. (no_writer output.Sink is 65536, λ u. rw is at u))
  by_output (Some output.Closed) is = ends tt
  by_output None is =
      on_stream m own h (Permitting m h) (λ s. s.writer) with_writer (output_at m h) (λ none. tt) (λ r. check_write_asks (most_of m.store r) own) (λ r o. writer_of r (check_write_asks (most_of m.store r) own) o) (λ r. refl) (λ r s. refl)
      (λ place r s n. widen (told_permit is place r s n) (permits (most_of m.store r) own s.writer)) (output_at m h) refl

  pub checks_permit : Meets (Permitting m h) [] (check_asks m own h)
  checks_permit = by_output (plain_output_at m h) refl

-- == a read leaves it so
-- the writer of a record
abbrev writer_in : Option Streams → Option WriteState
writer_in None = None
writer_in (Some s) = Some s.writer

writer_kept : (xs : List Record) (i : ℕ) (r : TcpRecord) (s : Streams) (reader : ReadState) (k : ℕ) → tcp2_at xs i ≡ Some r → r.streams ≡ Some s → writer_in (streams_in (tcp2_at (tcp2_put xs i (with_reader r s reader)) k)) ≡ writer_in (streams_in (tcp2_at xs k))
writer_kept xs i r s reader k at has = elim (put_either tcp_sort xs i r (with_reader r s reader) k at) [
  | inl e ↦ ap (λ (o : Option TcpRecord). writer_in (streams_in o)) e
  | inr e ↦ (
      let f : Option TcpRecord → Option WriteState = λ o. writer_in (streams_in o) in
      ap f e.1 ∙ sym (ap f e.0 ∙ ap writer_in has))
]

-- of the writer alone
by_writer : (n : ℕ) (old now : Option Streams) → writer_in now ≡ writer_in old → MayWriteBy old n → MayWriteBy now n
by_writer n None None same may u = u
by_writer n (Some s) None same may u = u
by_writer n None (Some t) same may u = absurd (cc)
by_writer n (Some s) (Some t) same may u = let its : t.writer ≡ s.writer = cc in may (subst (λ (w : WriteState). IsUnpermitted w n) its u)

-- What of a machine decides what may be written is as it was.
pub record SameWriters (m after : Machine) : Type 0 where
  pub table : after.table ≡ m.table
  pub writers : (k : ℕ) → writer_in (streams_in (tcp2_at after.store.records k)) ≡ writer_in (streams_in (tcp2_at m.store.records k))
  pub pipes : (k : ℕ) → output_pipe_at after.store.records k ≡ output_pipe_at m.store.records k

writer_at : (m after : Machine) → SameWriters m after → (o : Option ℕ) → writer_in (streams_in (record_in after o)) ≡ writer_in (streams_in (record_in m o))
writer_at m after same None = refl
writer_at m after same (Some place) = same.writers place

pipe_as : (m after : Machine) → SameWriters m after → (o : Option PlainOutput) → pipe_of after o ≡ pipe_of m o
pipe_as m after same (Some (output.Pipe place)) = same.pipes place
pipe_as m after same _ = refl

pub still_may : (m after : Machine) (h n : ℕ) → SameWriters m after → MayWrite m h n → MayWrite after h n
still_may m after h n same may = (
  by_writer n (output_streams m h) (output_streams after h) (ap (λ (t : HandleTable). writer_in (streams_in (record_in after (output_of (kind_at t h))))) same.table ∙ writer_at m after same (output_at m h)) may.0,
  subst (λ (o : Option Contents). MayWriteInto o n) (sym (ap (λ (t : HandleTable). pipe_of after (plain_output_of (kind_at t h))) same.table ∙ pipe_as m after same (plain_output_at m h))) may.1,
)

abbrev pub Writable : Machine → Rows (Result (List ℕ) CallStop × Machine)
Writable m es (Ok bytes, after) = SameWriters m after
Writable m es (Err why, after) = ⊤

module _ (m : Machine) (own : OpId) (h len : ℕ) where
  told_same : (place : ℕ) (r : TcpRecord) (s : Streams) → HasStreams m (input_at m h) place r s → (es : List Entry) (res : Result (List ℕ) StreamStop) (now : ReadState)
      → TellsStream m own h (Writable m) es res (record m.store { records = tcp2_put m.store.records place (with_reader r s now) })
  told_same place r s n es (Ok bytes) now = record {
    table = refl;
    writers = λ k. writer_kept m.store.records place r s now k n.at n.has;
    pipes = λ k. other_put tcp_sort output_sort (λ t. refl) m.store.records place r (with_reader r s now) k n.at;
  }
  told_same place r s n es (Err stop.Closed) now = tt
  told_same place r s n es (Err (stop.Failed c)) now = (λ full. tt, λ side. tt)
  told_same place r s n es (Err (stop.Trap kind)) now = tt

  pipe_same : (place : ℕ) (o : Option (List ℕ)) → input_pipe_at m.store.records place ≡ o → Writable m [] (plain_done m (read_pipe_at m.store place len o))
  pipe_same place None at = tt
  pipe_same place (Some []) at = tt
  pipe_same place (Some (b ∷ bytes)) at = record {
    table = refl;
    writers =
        λ k. ap (λ (o : Option TcpRecord). writer_in (streams_in o))
        (other_put input_sort tcp_sort (λ t. refl) m.store.records place (b ∷ bytes) (drop len (b ∷ bytes)) k at);
    pipes =
        λ k. other_put input_sort output_sort (λ t. refl) m.store.records place (b ∷ bytes) (drop len (b ∷ bytes)) k
        at;
  }

  read_same : (o : Option PlainInput) → plain_input_at m h ≡ o → Meets (Writable m) [] (read_by m own h len o)
  read_same (Some (input.Pipe place)) is = ends (pipe_same place (input_pipe_at m.store.records place) refl)
  read_same (Some input.Closed) is = ends tt
  read_same None is =
      on_stream m own h (Writable m) (λ s. s.reader) with_reader (input_at m h) (λ none. tt) (λ r reader. read_state_asks own reader len) (λ r o. reader_of r (λ reader. read_state_asks own reader len) o) (λ r. refl) (λ r s. refl)
      (λ place r s n. widen (λ es done any. told_same place r s n es done.0 done.1) (whatever (read_state_asks own s.reader len))) (input_at m h) refl

  pub reads_leave_writers : Meets (Writable m) [] (read_asks m own h len)
  reads_leave_writers = read_same (plain_input_at m h) refl

  -- == and gives no more than was wanted
  abbrev ShortRow : Rows (Result (List ℕ) StreamStop × ReadState)
  ShortRow es (Ok bytes, now) = length bytes ≤ len
  ShortRow es (Err why, now) = ⊤

  abbrev pub Short : Rows (Result (List ℕ) CallStop × Machine)
  Short es (Ok bytes, after) = length bytes ≤ len
  Short es (Err why, after) = ⊤

  told_short : (half : TcpReceiveStream) (es : List Entry) (t : Told) → IsRead (min len 65536) t → Meets ShortRow es (after_read own (reading.Open half) (polled_answer (told_bytes t)))
  unfolding bind
  told_short half es told.Pending fits = ends (omega arith)
  told_short half es (told.Bytes []) fits = asks (λ t fits. ends tt)
  told_short half es (told.Bytes (b ∷ bytes)) fits = ends (let k = min-le_left len 65536 in omega (arith, fits, k))
  told_short half es (told.Code c) fits = asks (λ t fits. ends tt)
  told_short half es _ fits = absurd fits

  by_zero : (half : TcpReceiveStream) (none : Bool)
      → Meets ShortRow [] (if none then Give (Ok [], reading.Open half) else bind (if none then Give (Ok (Ready [])) else bind (ask_read own half.side (min len 65536)) (λ told. Give (polled_answer told))) (after_read own (reading.Open half)))
  unfolding bind
  by_zero half true = ends (omega arith)
  by_zero half false = asks (λ t fits. told_short half _ t fits)

  shorts : (reader : ReadState) → Meets ShortRow [] (read_state_asks own reader len)
  shorts (reading.Open half) = by_zero half (len == 0)
  shorts reading.Closed = ends tt

  told_few : (es : List Entry) (done : Result (List ℕ) StreamStop × ReadState) (store : Records) → ShortRow es done → TellsStream m own h Short es done.0 store
  told_few es (Ok bytes, now) store k = k
  told_few es (Err stop.Closed, now) store k = tt
  told_few es (Err (stop.Failed c), now) store k = (λ full. tt, λ side. tt)
  told_few es (Err (stop.Trap kind), now) store k = tt

  pipe_short : (place : ℕ) (o : Option (List ℕ)) → input_pipe_at m.store.records place ≡ o → Short [] (plain_done m (read_pipe_at m.store place len o))
  pipe_short place None at = tt
  pipe_short place (Some []) at = tt
  pipe_short place (Some (b ∷ bytes)) at = let k : length (take len (b ∷ bytes)) ≡ min len (length (b ∷ bytes)) = length-take len (b ∷ bytes) in let l = min-le_left len (length (b ∷ bytes)) in omega (arith, k, l)

  read_short : (o : Option PlainInput) → plain_input_at m h ≡ o → Meets Short [] (read_by m own h len o)
  read_short (Some (input.Pipe place)) is = ends (pipe_short place (input_pipe_at m.store.records place) refl)
  read_short (Some input.Closed) is = ends tt
  read_short None is =
      on_stream m own h Short (λ s. s.reader) with_reader (input_at m h) (λ none. tt) (λ r reader. read_state_asks own reader len) (λ r o. reader_of r (λ reader. read_state_asks own reader len) o) (λ r. refl) (λ r s. refl)
      (λ place r s n. widen (λ es done k. told_few es done _ k) (shorts s.reader)) (input_at m h) refl

  pub reads_are_short : Meets Short [] (read_asks m own h len)
  reads_are_short = read_short (plain_input_at m h) refl
