-- Jobs: which records have one, and what a turn asks.
use Rattle.std.specs.Prelude.{ℕ, Bool, true, false, List, [], ◌∷◌, ◌++◌, Option, Some, None, Result}
use Rattle.wasi_world.specs.Asks.{Asks, Give, bind}
use Rattle.wasi_streams.specs.StreamStop.{StreamStop}
use Rattle.udp_records.specs.Datagrams.{sends, turn_outgoing}
use Rattle.lookup_records.specs.NameLookup.{looks_on}
use Rattle.wasi_records.specs.Records.{turn_lookup_at}
use Rattle.udp_records.specs.Receiving.{receives, turn_incoming}
use Rattle.wasi_records.specs.Records.{tcp2_at, tcp2_put, open_at, open_put, lookup_at}
use Rattle.wasi_records.specs.declared.records.Record.{Record}
pub use Rattle.wasi_jobs.specs.Jobs.{is_on, other_jobs, is_receive_on, other_than_receive}
use Rattle.wasi_jobs.specs.declared.job.HostJob.{HostJob}
use Rattle.wasi_jobs.specs.declared.job.HostJob.TheVariants.{Write, Datagram, Receive, Lookup}
use Rattle.tcp_records.specs.declared.socket.TcpRecord.{TcpRecord}
use Rattle.udp_records.specs.declared.udp.OpenUdp.{OpenUdp}
use Rattle.host_store.specs.Store.{Records, stream_at}
use Rattle.tcp_records.specs.Halves.{begins_job, has_job, turn_record}

-- == a job that begins
abbrev pub jobs_with : List HostJob → HostJob → Bool → List HostJob
jobs_with jobs job true = jobs ++ job ∷ []
jobs_with jobs job false = jobs

-- it is the last of those that were made
abbrev pub with_job : Records → HostJob → Bool → Records
with_job store job true = record store { jobs = store.jobs ++ job ∷ [] }
with_job store job false = store

abbrev pub noted : {T : Type 0} → ℕ → Option TcpRecord → Result T StreamStop × Records → Result T StreamStop × Records
noted place before done = (done.0, with_job done.1 (Write place) (begins_job before (tcp2_at done.1.records place)))

-- a write on a record, by which a job may begin
abbrev pub write_at : {T : Type 0} → Records → ℕ → (TcpRecord → Asks (Result T StreamStop × TcpRecord)) → Option TcpRecord → Asks (Result T StreamStop × Records)
write_at store place call found = bind (stream_at store place call found) (λ done. Give (noted place found done))

abbrev pub turn_at : List Record → ℕ → Option TcpRecord → Asks (List Record)
turn_at records place None = Give records
turn_at records place (Some r) = bind (turn_record r) (λ now. Give (tcp2_put records place now))

-- the datagram in the background of the socket of this number is polled once
abbrev pub turn_datagram_at : List Record → ℕ → Option OpenUdp → Asks (List Record)
turn_datagram_at records place None = Give records
turn_datagram_at records place (Some o) = bind (turn_outgoing o o.outgoing) (λ now. Give (open_put records place now))

-- and the receive in progress likewise
abbrev pub turn_receive_at : List Record → ℕ → Option OpenUdp → Asks (List Record)
turn_receive_at records place None = Give records
turn_receive_at records place (Some o) = bind (turn_incoming o o.incoming) (λ now. Give (open_put records place now))

abbrev pub turn_job : List Record → HostJob → Asks (List Record)
turn_job records (Write place) = turn_at records place (tcp2_at records place)
turn_job records (Datagram place) = turn_datagram_at records place (open_at records place)
turn_job records (Receive place) = turn_receive_at records place (open_at records place)
turn_job records (Lookup place) = turn_lookup_at records place (lookup_at records place)

abbrev pub sends_on : Option OpenUdp → Bool
sends_on None = false
sends_on (Some o) = sends o.outgoing

abbrev pub receives_on : Option OpenUdp → Bool
receives_on None = false
receives_on (Some o) = receives o.incoming

abbrev pub is_going : List Record → HostJob → Bool
is_going records (Write place) = has_job (tcp2_at records place)
is_going records (Datagram place) = sends_on (open_at records place)
is_going records (Receive place) = receives_on (open_at records place)
is_going records (Lookup place) = looks_on (lookup_at records place)

-- these, in order; a job that is over once it was polled is none any more
abbrev pub turn_jobs : List HostJob → List HostJob → List Record → Asks (List HostJob × List Record)
turn_jobs kept [] records = Give (kept, records)
turn_jobs kept (job ∷ jobs) records = bind (turn_job records job) (λ now. turn_jobs (jobs_with kept job (is_going now job)) jobs now)

abbrev pub after_turn : Records → List HostJob × List Record → Records
after_turn store done = record store { records = done.1; jobs = done.0 }

-- each job is polled once, in the order of making
abbrev pub turn_store_asks : Records → Asks (Unit {0} × Records)
turn_store_asks store = bind (turn_jobs [] store.jobs store.records) (λ done. Give (tt, after_turn store done))
