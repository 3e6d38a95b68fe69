-- Jobs: what is kept of their list.
use Rattle.std.proofs.Common.{◌≡◌, ℕ, not, Bool, true, false, ◌&&◌, List, [], ◌∷◌, ◌++◌, ◌<◌, length, Option, Some, None, refl, sym, ap, ◌∙◌, arith}
use Rattle.std.proofs.lemmas.List.{append-nil}
use Rattle.wasi_world.specs.Seen.{Seen}
use Rattle.std.specs.Prelude.{IsErrAnd, Result, Ok, Err}
use Rattle.std.specs.declared.alloc.AllocError.{AllocError}
use Rattle.wasi_world.specs.declared.outcome.TrapKind.TheVariants.{NoSuchHandle}
use Rattle.wasi_world.specs.Asks.{Asks, Give, bind, Reaches, Started, AsksFor}
use Rattle.wasi_streams.specs.StreamStop.{StreamStop}
use Rattle.wasi_streams.specs.StreamStop as stop
use Rattle.wasi_world.proofs.Walks.{reaches_on, reaches_in, reaches_then, asks_err, asks_ok}
use Rattle.wasi_records.specs.Records.{tcp2_at, tcp2_put}
use Rattle.wasi_records.specs.declared.records.Record.{Record}
use Rattle.wasi_jobs.specs.declared.job.HostJob.{HostJob}
use Rattle.wasi_jobs.specs.declared.job.HostJob.TheVariants.{Write}
use Rattle.tcp_records.specs.declared.socket.TcpRecord.{TcpRecord}
use Rattle.host_store.specs.Store.{Records, with_socket}
use Rattle.tcp_records.specs.Halves.{works_in, begins_job}
use Rattle.host_store.specs.Jobs.{jobs_with, with_job, is_going, turn_job, turn_jobs, write_at}
use Rattle.wasi_records.proofs.Lookups.{set_there}

-- a write that was noted on the record that it left
pub with_job_is : (store : Records) (job : HostJob) (b : Bool) → with_job store job b ≡ record store { jobs = jobs_with store.jobs job b }
with_job_is store job true = refl
with_job_is store job false = refl

pub noted_as : (store : Records) (place : ℕ) (old now : TcpRecord) (b : Bool) (jobs : List HostJob) → tcp2_at store.records place ≡ Some old → b ≡ (not (works_in old.streams) && works_in now.streams) → jobs ≡ jobs_with store.jobs (Write place) b
    → with_job (with_socket store place now) (Write place) (begins_job (Some old) (tcp2_at (tcp2_put store.records place now) place)) ≡ record { records = tcp2_put store.records place now; jobs = jobs; standing = store.standing; beside = store.beside; limits = store.limits }
noted_as store place old now b jobs g e h =
    ap (λ (found : Option TcpRecord). with_job (with_socket store place now) (Write place) (begins_job (Some old) found)) (set_there store.records place now old g)
    ∙ (ap (with_job (with_socket store place now) (Write place)) (sym e)
    ∙ (with_job_is (with_socket store place now) (Write place) b ∙ ap (λ (l : List HostJob). let r : Records = record { records = tcp2_put store.records place now; jobs = l; standing = store.standing; beside = store.beside; limits = store.limits } in r) (sym h)))

-- == a turn
-- where the next job is polled, the rest follows
pub turn_next : {s t : Seen} (kept jobs rest after before : List HostJob) (job : HostJob) (records now : List Record) → jobs ≡ job ∷ rest → before ≡ jobs_with kept job (is_going now job) → after ≡ rest
    → Reaches (turn_job records job) (Give now) s t → Reaches (turn_jobs kept jobs records) (turn_jobs before after now) s t
turn_next kept jobs rest after before job records now e k r h = rw (e, k, r) (reaches_on (λ found. turn_jobs (jobs_with kept job (is_going found job)) rest found) h)

-- a job that is over is kept no more, and one that goes on is the last of those that are
pub kept_over : {now : List HostJob} (kept : List HostJob) (job : HostJob) (going : Bool) → going ≡ false → now ≡ kept → now ≡ jobs_with kept job going
kept_over kept job true h e = absurd (cc)
kept_over kept job false h e = e

pub kept_going : {now : List HostJob} (kept : List HostJob) (job : HostJob) (going : Bool) → going ≡ true → now ≡ kept ++ job ∷ [] → now ≡ jobs_with kept job going
kept_going kept job true h e = e
kept_going kept job false h e = absurd (cc)

-- one fewer is ahead
pub fewer_ahead : {ahead rest now : List HostJob} {job : HostJob} → ahead ≡ job ∷ rest → now ≡ rest → length now < length ahead
fewer_ahead e r = rw (e, r) (omega arith)

-- where none is ahead, the turn is over
pub asks_over : {s t : Seen} {jobs ahead : List HostJob} (first : List HostJob) (records : List Record) (kept : List HostJob) (now : List Record) → jobs ≡ kept ++ ahead → ahead ≡ [] → Reaches (turn_jobs [] first records) (turn_jobs kept ahead now) s t
    → AsksFor (turn_jobs [] first records) s t (λ (done : Unit {0}). (jobs, now)) (Ok tt)
asks_over first records kept now e n h = rw (e, n, append-nil kept) (asks_ok (rw n at h))

-- where memory is wanted in it, the turn has begun
pub turn_stops : {s t u : Seen} {view : Unit {0} → List HostJob × List Record} (first : List HostJob) (records : List Record) (kept jobs rest : List HostJob) (job : HostJob) (before : List Record) (Q : AllocError → Type 0) (r : Result (Unit {0}) AllocError) → IsErrAnd r Q → jobs ≡ job ∷ rest
    → Reaches (turn_jobs [] first records) (turn_jobs kept jobs before) s t → Started (turn_job before job) t u → AsksFor (turn_jobs [] first records) s u view r
turn_stops first records kept jobs rest job before Q (Ok d) q e went h = absurd q
turn_stops first records kept jobs rest job before Q (Err d) q e went h =
    asks_err (bind h.rest (λ now. turn_jobs (jobs_with kept job (is_going now job)) rest now)) (reaches_then (rw e at went) (reaches_in _ h.reached))

-- a write on no record asks nothing
pub noted_none : {T : Type 0} (store : Records) (place : ℕ) (call : TcpRecord → Asks (Result T StreamStop × TcpRecord)) → tcp2_at store.records place ≡ None → write_at store place call None ≡ Give (Err (stop.Trap NoSuchHandle), store)
unfolding bind
noted_none store place call e = ap (λ (found : Option TcpRecord). Give (Err (stop.Trap NoSuchHandle), with_job store (Write place) (begins_job None found))) e
