-- The mark of the error of a call that failed is of the network socket of the stream's record.
use Rattle.wasi_causes.proofs.Words.{Answered, Asks, Bool, CallStop, Entry, Err, List}
use Rattle.wasi_causes.proofs.Words.{Machine, NoSuchHandle, None, Ok, OpId, Option, ReadState, Reply, Result, Some}
use Rattle.wasi_causes.proofs.Words.{Standing, StreamStop, Streams, TcpRecord, WasiSocketsCtx, WriteState}
use Rattle.wasi_causes.proofs.Words.{[], ap, asks_while, begins_job, bind, bytes_fields}
use Rattle.wasi_causes.proofs.Words.{converted, entry, false, input_at}
use Rattle.wasi_causes.proofs.Words.{number_fields, output_at, own_of, reader_of}
use Rattle.wasi_causes.proofs.Words.{refl, side_at, stream_at, stream_on, true}
use Rattle.wasi_causes.proofs.Words.{with_job, with_socket, with_store, write_on}
use Rattle.wasi_causes.proofs.Words.{writer_of, ℕ, ⊤, ◌++◌, ◌∙◌, ◌∷◌, ◌≡◌}
use Rattle.wasi_world.specs.declared.call.Call.TheVariants as call
use Rattle.wasi_world.specs.declared.call.HandleKind.TheVariants as name
use Rattle.wasi_world.specs.declared.call.Told.TheVariants as told
use Rattle.wasi_records.specs.Records.{tcp2_at}
use Rattle.host_store.specs.declared.kind.Kind.TheVariants.{ErrorValue}
use Rattle.host_store.specs.declared.kind.PlainInput.{PlainInput}
use Rattle.host_store.specs.declared.kind.PlainOutput.{PlainOutput}
use Rattle.host_store.specs.Jobs.{write_at}
use Rattle.host_store.specs.Store.{Records}
use Rattle.host_streams.specs.StreamCalls.{check_by, flush_by, plain_answer, plain_input_at, plain_output_at, read_by, write_by}
use Rattle.wasi_jobs.specs.declared.job.HostJob.{HostJob}
use Rattle.wasi_jobs.specs.declared.job.HostJob.TheVariants.{Write as WriteJob}
use Rattle.wasi_streams.specs.StreamStop as stream
use Rattle.host_store.specs.CallStops as calls
use Rattle.wasi_steps.specs.declared.reply.CodeWord.{CodeWord}
use Rattle.wasi_steps.specs.declared.reply.Field.{Field}
use Rattle.wasi_steps.specs.declared.reply.Reply.TheVariants as reply
use Rattle.wasi_steps.specs.declared.guest_call.GuestCall.TheVariants as guest
use Rattle.wasi_steps.specs.declared.guest_call.StreamCall.TheVariants as stream_call
use Rattle.wasi_steps.specs.declared.step.Step.TheVariants as step
use Rattle.wasi_steps.specs.Reply.{no_values}
use Rattle.wasi_machine.specs.Machine.{stream_reply_of}
use Rattle.wasi_causes.proofs.tables.Meets.{Meets, Rows, chain, ends, met, onto, whatever, widen}
use Rattle.wasi_causes.proofs.tables.Routes.{makes}
use Rattle.wasi_causes.specs.ErrorMarks.{MarksItsSocket}
use Rattle.wasi_walks.proofs.Places.{put_finds, tcp_sort}

-- == a call on a record keeps its network socket
abbrev KeepsSide : {T : Type 0} → TcpRecord → Rows (Result T StreamStop × TcpRecord)
KeepsSide r es done = done.1.side ≡ r.side

reads_keep : {T : Type 0} (r : TcpRecord) (call : ReadState → Asks (Result T StreamStop × ReadState)) (o : Option Streams)
    → Meets (KeepsSide r) [] (reader_of r call o)
reads_keep r call None = ends refl
reads_keep r call (Some s) = onto _ (widen (λ es done k. refl) (whatever (call s.reader)))

writes_keep : {T : Type 0} (r : TcpRecord) (call : WriteState → Asks (Result T StreamStop × WriteState)) (o : Option Streams)
    → Meets (KeepsSide r) [] (writer_of r call o)
writes_keep r call None = ends refl
writes_keep r call (Some s) = onto _ (widen (λ es done k. refl) (whatever (call s.writer)))

module _ (m : Machine) (own : OpId) (handle : ℕ) where
  -- where it fails, its last entry is that mark
  abbrev MarkRow : {T : Type 0} → Option ℕ → Rows (Result T CallStop × Machine)
  MarkRow number es (Err (calls.Failed c e), after) = MarksItsSocket m own handle number es
  MarkRow number es _ = ⊤

  -- a stream in memory doesn't fail
  plain_so : {T : Type 0} (number : Option ℕ) (es : List Entry) (done : Result T StreamStop) (after : Machine)
      → MarkRow number es (plain_answer done, after)
  plain_so number es (Ok value) after = tt
  plain_so number es (Err (stream.Failed c)) after = tt
  plain_so number es (Err stream.Closed) after = tt
  plain_so number es (Err (stream.Trap kind)) after = tt

  module _ (place : ℕ) where
    -- a failure is marked, by these records
    converts : {T : Type 0} (r now : TcpRecord) → tcp2_at m.store.records place ≡ Some r
        → (es : List Entry) (store : Records)
        → tcp2_at store.records place ≡ Some now → now.side ≡ r.side → (done : Result T StreamStop)
        → Meets (MarkRow (Some place)) es (converted own handle place (done, record m { store = store }))
    unfolding bind
    converts r now at es store there same (Ok value) = ends tt
    converts r now at es store there same (Err stream.Closed) = ends tt
    converts r now at es store there same (Err (stream.Trap kind)) = ends tt
    converts r now at es store there same (Err (stream.Failed c)) =
        onto _ (onto _ (makes m.table own ErrorValue (Some handle) (side_at (tcp2_at store.records place)) (λ full. tt)
        (record {
          place = place;
          found = r;
          names = refl;
          at = at;
          before = es;
          cut = ap (λ (side : Option OpId). es ++ entry own (call.Made m.table.next name.ErrorValue (Some handle) side) told.Done ∷ []) (ap side_at there ∙ same);
        })))

    abbrev Converted : {T : Type 0} → Rows (Result T StreamStop × Records)
    Converted es done = Meets (MarkRow (Some place)) es (converted own handle place (with_store m done))

    -- the record isn't there
    lost : {T : Type 0} (es : List Entry) (after : Machine)
        → Meets (MarkRow {T = T} (Some place)) es (converted own handle place (Err (stream.Trap NoSuchHandle), after))
    unfolding bind
    lost es after = ends tt

    by_stream : {T : Type 0} (call : TcpRecord → Asks (Result T StreamStop × TcpRecord))
        → ((r : TcpRecord) → Meets (KeepsSide r) [] (call r))
        → (o : Option TcpRecord) → tcp2_at m.store.records place ≡ o
        → Meets Converted [] (stream_at m.store place call o)
    by_stream call keeps None at = ends (lost [] m)
    by_stream call keeps (Some r) at =
        onto _ (widen (λ es done k. converts r done.1 at es (with_socket m.store place done.1) (put_finds tcp_sort m.store.records place r done.1 at) k done.0) (keeps r))

    -- and a job may begin
    noted_there : (store : Records) (job : HostJob) (b : Bool)
        → tcp2_at (with_job store job b).records place ≡ tcp2_at store.records place
    noted_there store job true = refl
    noted_there store job false = refl

    by_write : {T : Type 0} (call : TcpRecord → Asks (Result T StreamStop × TcpRecord))
        → ((r : TcpRecord) → Meets (KeepsSide r) [] (call r))
        → (o : Option TcpRecord) → tcp2_at m.store.records place ≡ o
        → Meets Converted [] (write_at m.store place call o)
    by_write call keeps None at =
        onto _ (ends (lost [] (record m { store = with_job m.store (WriteJob place) (begins_job None (tcp2_at m.store.records place)) })))
    by_write call keeps (Some r) at =
        onto _ (onto _ (widen (λ es done k.
        let put = with_socket m.store place done.1 in
        let b = begins_job (Some r) (tcp2_at put.records place) in
        converts r done.1 at es (with_job put (WriteJob place) b) (noted_there put (WriteJob place) b ∙ put_finds tcp_sort m.store.records place r done.1 at) k done.0) (keeps r)))

  on_stream : {T : Type 0} (call : TcpRecord → Asks (Result T StreamStop × TcpRecord))
      → ((r : TcpRecord) → Meets (KeepsSide r) [] (call r))
      → (number : Option ℕ) → Meets (MarkRow number) [] (stream_on m own handle call number)
  on_stream call keeps None = ends tt
  on_stream call keeps (Some place) = chain {Mid = Converted place} (by_stream place call keeps (tcp2_at m.store.records place) refl) (λ es done k. k)

  on_write : {T : Type 0} (call : TcpRecord → Asks (Result T StreamStop × TcpRecord))
      → ((r : TcpRecord) → Meets (KeepsSide r) [] (call r))
      → (number : Option ℕ) → Meets (MarkRow number) [] (write_on m own handle call number)
  on_write call keeps None = ends tt
  on_write call keeps (Some place) = chain {Mid = Converted place} (by_write place call keeps (tcp2_at m.store.records place) refl) (λ es done k. k)

  -- == the calls
  reads_mark : (len : ℕ) (o : Option PlainInput) → Meets (MarkRow (input_at m handle)) [] (read_by m own handle len o)
  reads_mark len (Some plain) = ends (plain_so _ [] _ _)
  reads_mark len None = on_stream _ (λ r. reads_keep r _ r.streams) (input_at m handle)

  checks_mark : (o : Option PlainOutput) → Meets (MarkRow (output_at m handle)) [] (check_by m own handle o)
  checks_mark (Some plain) = ends (plain_so _ [] _ _)
  checks_mark None = on_stream _ (λ r. writes_keep r _ r.streams) (output_at m handle)

  flushes_mark : (o : Option PlainOutput) → Meets (MarkRow (output_at m handle)) [] (flush_by m own handle o)
  flushes_mark (Some plain) = ends (plain_so _ [] _ _)
  flushes_mark None = on_stream _ (λ r. writes_keep r _ r.streams) (output_at m handle)

  writes_mark : (bytes : List ℕ) (o : Option PlainOutput)
      → Meets (MarkRow (output_at m handle)) [] (write_by m own handle bytes o)
  writes_mark bytes (Some plain) = ends (plain_so _ [] _ _)
  writes_mark bytes None = on_write _ (λ r. writes_keep r _ r.streams) (output_at m handle)

-- == of the steps
module _ (contexts : List WasiSocketsCtx) (m : Machine) (line handle : ℕ) where
  abbrev SaysRow : Option ℕ → Rows (Reply × Machine)
  SaysRow number es (reply.Failed w e, after) = MarksItsSocket m (own_of line) handle number es
  SaysRow number es _ = ⊤

  says : {T : Type 0} (fields : T → List Field) (number : Option ℕ) (es : List Entry) (done : Result T CallStop × Machine)
      → MarkRow m (own_of line) handle number es done → SaysRow number es (stream_reply_of fields done.0, done.1)
  says fields number es (Ok value, after) k = tt
  says fields number es (Err (calls.Failed c e), after) k = k
  says fields number es (Err calls.Closed, after) k = tt
  says fields number es (Err (calls.Traps kind), after) k = tt

  read_so : (ctx len : ℕ) (o : Option Standing)
      → Meets (SaysRow (input_at m handle)) [] (asks_while contexts m line (step.Call ctx (guest.Stream (stream_call.Read handle len))) o)
  read_so ctx len (Some s) = ends tt
  read_so ctx len None = onto _ (widen (says bytes_fields _) (reads_mark m (own_of line) handle len (plain_input_at m handle)))

  check_so : (ctx : ℕ) (o : Option Standing)
      → Meets (SaysRow (output_at m handle)) [] (asks_while contexts m line (step.Call ctx (guest.Stream (stream_call.CheckWrite handle))) o)
  check_so ctx (Some s) = ends tt
  check_so ctx None = onto _ (widen (says number_fields _) (checks_mark m (own_of line) handle (plain_output_at m handle)))

  write_so : (ctx : ℕ) (bytes : List ℕ) (o : Option Standing)
      → Meets (SaysRow (output_at m handle)) [] (asks_while contexts m line (step.Call ctx (guest.Stream (stream_call.Write handle bytes))) o)
  write_so ctx bytes (Some s) = ends tt
  write_so ctx bytes None = onto _ (widen (says no_values _) (writes_mark m (own_of line) handle bytes (plain_output_at m handle)))

  flush_so : (ctx : ℕ) (o : Option Standing)
      → Meets (SaysRow (output_at m handle)) [] (asks_while contexts m line (step.Call ctx (guest.Stream (stream_call.Flush handle))) o)
  flush_so ctx (Some s) = ends tt
  flush_so ctx None = onto _ (widen (says no_values _) (flushes_mark m (own_of line) handle (plain_output_at m handle)))

  module _ (entries : List Entry) (word : CodeWord) (e : ℕ) (after : Machine) where
    pub failed_read : (ctx len : ℕ)
        → Answered contexts m line (step.Call ctx (guest.Stream (stream_call.Read handle len))) entries (reply.Failed word e) after
        → MarksItsSocket m (own_of line) handle (input_at m handle) entries
    failed_read ctx len w = met (read_so ctx len m.store.standing) w

    pub failed_check : (ctx : ℕ)
        → Answered contexts m line (step.Call ctx (guest.Stream (stream_call.CheckWrite handle))) entries (reply.Failed word e) after
        → MarksItsSocket m (own_of line) handle (output_at m handle) entries
    failed_check ctx w = met (check_so ctx m.store.standing) w

    pub failed_write : (ctx : ℕ) (bytes : List ℕ)
        → Answered contexts m line (step.Call ctx (guest.Stream (stream_call.Write handle bytes))) entries (reply.Failed word e) after
        → MarksItsSocket m (own_of line) handle (output_at m handle) entries
    failed_write ctx bytes w = met (write_so ctx bytes m.store.standing) w

    pub failed_flush : (ctx : ℕ) → Answered contexts m line (step.Call ctx (guest.Stream (stream_call.Flush handle))) entries (reply.Failed word e) after
        → MarksItsSocket m (own_of line) handle (output_at m handle) entries
    failed_flush ctx w = met (flush_so ctx m.store.standing) w
