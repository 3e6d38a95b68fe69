-- How a call finds the stream of its handle, and how what the stream gives is reported.
use Rattle.wasi_causes.proofs.Words.{◌≡◌, ◌∙◌, ℕ, Bool, true, false, not, ◌&&◌, List, [], ◌∷◌, ◌++◌, Option, Some, None, Result, Ok, Err, refl, sym, ap, subst, ErrorCode, OpId, Entry, NoSuchHandle, Full, Asks, Give, bind, StreamStop, is_full, Machine, Streams, TcpRecord, ErrorValue, CallStop, with_handle, Records, with_socket, stream_at, with_record_put, side_at, with_store, has_job, with_job, begins_job, converted, stream_on, write_on, entry, FailsWith, word_of_code, record_in, streams_in, putting, OfStreams}
use Rattle.wasi_world.specs.declared.call.Call.TheVariants as call
use Rattle.wasi_world.specs.declared.call.HandleKind.TheVariants as name
use Rattle.wasi_world.specs.declared.call.Told.TheVariants as told
use Rattle.wasi_streams.specs.StreamStop as stop
use Rattle.wasi_records.specs.Records.{tcp2_at}
use Rattle.wasi_jobs.specs.declared.job.HostJob.TheVariants.{Write}
use Rattle.host_store.specs.CallStops.{Failed, Closed, Traps}
use Rattle.wasi_causes.proofs.tables.Meets.{Rows, Meets, ends, chain, onto, widen}
use Rattle.wasi_causes.proofs.tables.Routes.{put_store_same, put_same, makes}

-- == the streams that a number names
-- The number names a record with these streams.
pub record HasStreams (m : Machine) (named : Option ℕ) (place : ℕ) (r : TcpRecord) (s : Streams) : Type 0 where
  pub names : named ≡ Some place
  pub at : tcp2_at m.store.records place ≡ Some r
  pub has : r.streams ≡ Some s

module _ {m : Machine} {named : Option ℕ} {place : ℕ} {r : TcpRecord} {s : Streams} (n : HasStreams m named place r s) where
  pub of_streams : {P : ℕ → TcpRecord → Streams → Type 0} → P place r s → OfStreams m named P
  of_streams h = record { place = place; found = r; streams = s; names = n.names; at = n.at; has = n.has; holds = h }

  pub the_streams : streams_in (record_in m named) ≡ Some s
  the_streams = ap streams_in (ap (record_in m) n.names ∙ n.at) ∙ n.has

  pub streams_same : putting m place (record r { streams = Some s }) ≡ m
  streams_same = sym (ap (λ (o : Option Streams). let now : TcpRecord = record r { streams = o } in putting m place now) n.has) ∙ put_same m place r n.at

pub more_of : {P Q : ℕ → TcpRecord → Streams → Type 0} (m : Machine) (named : Option ℕ) → ((place : ℕ) (r : TcpRecord) (s : Streams) → P place r s → Q place r s) → OfStreams m named P → OfStreams m named Q
more_of m named weak on = record { place = on.place; found = on.found; streams = on.streams; names = on.names; at = on.at; has = on.has; holds = weak on.place on.found on.streams on.holds }

-- a call that failed marked the handle of its error
pub failed_so : {m : Machine} {own : OpId} {handle : ℕ} {Cause : ErrorCode → List Entry → Type 0} (code : ErrorCode) (es : List Entry) (side : Option OpId) → Cause code es
    → FailsWith m own handle Cause (es ++ entry own (call.Made m.table.next name.ErrorValue (Some handle) side) told.Done ∷ []) (word_of_code code) m.table.next
failed_so code es side cause = record { code = code; before = es; side = side; told = told.Done; cause = cause; marked = refl; word_is = refl; handle_is = refl }

-- == what is kept of a record that was called
-- a call that begins no job keeps all
abbrev pub all_kept : ℕ → Option TcpRecord → Records → Records
all_kept place o store = store

-- a write notes the job that it begins
abbrev pub job_noted : ℕ → Option TcpRecord → Records → Records
job_noted place o store = with_job store (Write place) (begins_job o (tcp2_at store.records place))

not_and : (b : Bool) → (not b && b) ≡ false
not_and true = refl
not_and false = refl

pub none_begun : (store : Records) (place : ℕ) (o : Option TcpRecord) → tcp2_at store.records place ≡ o → job_noted place o store ≡ store
none_begun store place o at = ap (λ (now : Option TcpRecord). with_job store (Write place) (begins_job o now)) at ∙ ap (with_job store (Write place)) (not_and (has_job o))

-- == a call
module _ {T : Type 0} (m : Machine) (own : OpId) (handle : ℕ) (Row : Rows (Result T CallStop × Machine)) where
  -- what the stream gave, as the handle's answer: a failure marks the handle of its error, unless the table is full
  abbrev pub Told : List Entry → Result T StreamStop → Records → Type 0
  Told es (Ok value) store = Row es (Ok value, record m { store = store })
  Told es (Err stop.Closed) store = Row es (Err Closed, record m { store = store })
  Told es (Err (stop.Trap kind)) store = Row es (Err (Traps kind), record m { store = store })
  Told es (Err (stop.Failed c)) store =
      (is_full m.table ≡ true → Row es (Err (Traps Full), record m { store = store }))
      × ((side : Option OpId) → Row (es ++ entry own (call.Made m.table.next name.ErrorValue (Some handle) side) told.Done ∷ []) (Err (Failed c m.table.next), record m { store = store; table = with_handle m.table ErrorValue (Some handle) }))

  converts : (place : ℕ) (es : List Entry) (res : Result T StreamStop) (store : Records) → Told es res store → Meets Row es (converted own handle place (res, record m { store = store }))
  unfolding bind
  converts place es (Err (stop.Failed c)) store k = onto _ (onto _ (makes m.table own ErrorValue (Some handle) (side_at (tcp2_at store.records place)) k.0 (k.1 (side_at (tcp2_at store.records place)))))
  converts place es _ store k = ends k

  module _ {S : Type 0} (of : Streams → S) (put : TcpRecord → Streams → S → TcpRecord) (keep : ℕ → Option TcpRecord → Records → Records) (named : Option ℕ)
      (kept : (place : ℕ) (o : Option TcpRecord) → tcp2_at m.store.records place ≡ o → keep place o m.store ≡ m.store) (missing : streams_in (record_in m named) ≡ None → Row [] (Err (Traps NoSuchHandle), m))
      (asks : TcpRecord → S → Asks (Result T StreamStop × S)) (by : TcpRecord → Option Streams → Asks (Result T StreamStop × TcpRecord))
      (lost : (r : TcpRecord) → by r None ≡ Give (Err (stop.Trap NoSuchHandle), r)) (found : (r : TcpRecord) (s : Streams) → by r (Some s) ≡ bind (asks r (of s)) (λ done. Give (done.0, put r s done.1)))
      (rows : (place : ℕ) (r : TcpRecord) (s : Streams) → HasStreams m named place r s → Meets (λ es done. Told es done.0 (keep place (Some r) (with_socket m.store place (put r s done.1)))) [] (asks r (of s))) where
    abbrev Answered : ℕ → Option TcpRecord → Rows (Result T StreamStop × Records)
    Answered place o es done = Meets Row es (converted own handle place (done.0, record m { store = keep place o done.1 }))

    not_there : (place : ℕ) (store : Records) → streams_in (record_in m named) ≡ None → store ≡ m.store → Meets Row [] (converted own handle place (Err (stop.Trap NoSuchHandle), record m { store = store }))
    not_there place store none same = subst (λ (left : Records). Meets Row [] (converted own handle place (Err (stop.Trap NoSuchHandle), record m { store = left }))) (sym same) (converts place [] (Err (stop.Trap NoSuchHandle)) m.store (missing none))

    by_streams : (place : ℕ) (r : TcpRecord) (o : Option Streams) → named ≡ Some place → tcp2_at m.store.records place ≡ Some r → r.streams ≡ o → Meets (λ es done. Answered place (Some r) es (with_record_put m.store place done)) [] (by r o)
    by_streams place r None names at has =
        subst (Meets (λ es done. Answered place (Some r) es (with_record_put m.store place done)) []) (sym (lost r)) (ends (not_there place _ (ap streams_in (ap (record_in m) names ∙ at) ∙ has) (ap (keep place (Some r)) (put_store_same m.store place r at) ∙ kept place (Some r) at)))
    by_streams place r (Some s) names at has =
        subst (Meets (λ es done. Answered place (Some r) es (with_record_put m.store place done)) []) (sym (found r s)) (onto _ (widen (λ es done k. converts place es done.0 _ k) (rows place r s (record { names = names; at = at; has = has }))))

    by_record : (place : ℕ) (o : Option TcpRecord) → named ≡ Some place → tcp2_at m.store.records place ≡ o → Meets (Answered place o) [] (stream_at m.store place (λ r. by r r.streams) o)
    by_record place None names at = ends (not_there place _ (ap streams_in (ap (record_in m) names ∙ at)) (kept place None at))
    by_record place (Some r) names at = onto _ (by_streams place r r.streams names at refl)

    nowhere : named ≡ None → Row [] (Err (Traps NoSuchHandle), m)
    nowhere names = missing (ap streams_in (ap (record_in m) names))

module _ {T S : Type 0} (m : Machine) (own : OpId) (handle : ℕ) (Row : Rows (Result T CallStop × Machine)) (of : Streams → S) (put : TcpRecord → Streams → S → TcpRecord) (named : Option ℕ)
    (missing : streams_in (record_in m named) ≡ None → Row [] (Err (Traps NoSuchHandle), m))
    (asks : TcpRecord → S → Asks (Result T StreamStop × S)) (by : TcpRecord → Option Streams → Asks (Result T StreamStop × TcpRecord))
    (lost : (r : TcpRecord) → by r None ≡ Give (Err (stop.Trap NoSuchHandle), r)) (found : (r : TcpRecord) (s : Streams) → by r (Some s) ≡ bind (asks r (of s)) (λ done. Give (done.0, put r s done.1))) where
  pub on_stream : ((place : ℕ) (r : TcpRecord) (s : Streams) → HasStreams m named place r s → Meets (λ es done. Told m own handle Row es done.0 (with_socket m.store place (put r s done.1))) [] (asks r (of s)))
      → (o : Option ℕ) → named ≡ o → Meets Row [] (stream_on m own handle (λ r. by r r.streams) o)
  on_stream rows None names = ends (nowhere m own handle Row of put all_kept named (λ place o at. refl) missing asks by lost found rows names)
  on_stream rows (Some place) names =
      chain {Mid = λ es done. Meets Row es (converted own handle place (with_store m done))} (by_record m own handle Row of put all_kept named (λ place o at. refl) missing asks by lost found rows place (tcp2_at m.store.records place) names refl) (λ es done k. k)

  pub on_write : ((place : ℕ) (r : TcpRecord) (s : Streams) → HasStreams m named place r s → Meets (λ es done. Told m own handle Row es done.0 (job_noted place (Some r) (with_socket m.store place (put r s done.1)))) [] (asks r (of s)))
      → (o : Option ℕ) → named ≡ o → Meets Row [] (write_on m own handle (λ r. by r r.streams) o)
  on_write rows None names = ends (nowhere m own handle Row of put job_noted named (none_begun m.store) missing asks by lost found rows names)
  on_write rows (Some place) names =
      chain {Mid = λ es done. Meets Row es (converted own handle place (with_store m done))} (onto _ (by_record m own handle Row of put job_noted named (none_begun m.store) missing asks by lost found rows place (tcp2_at m.store.records place) names refl)) (λ es done k. k)
