-- The handle of a lookup that was begun.
use Rattle.std.proofs.Common.{◌≡◌, ℕ, List, Some, None, refl, length}
use Rattle.lookup_records.specs.declared.name_lookup.Lookup.{Lookup as NameLookup}
use Rattle.std.specs.Prelude.{Result, Ok, Err}
use Rattle.wasi_world.specs.Asks.{AsksFor, Give}
use Rattle.wasi_world.specs.Seen.{Seen}
use Rattle.wasi_world.proofs.Walks.{asks_end, asks_exit}
use Rattle.wasi_streams.specs.declared.fault.Fault.{Fault}
use Rattle.wasi_streams.specs.declared.fault.Fault.TheVariants as fault
use Rattle.wasi_streams.specs.HostError.{of_fault}
use Rattle.host_store.specs.GivingBack.{given_back}
use Rattle.wasi_jobs.specs.declared.job.HostJob.{HostJob}
use Rattle.wasi_jobs.specs.declared.job.HostJob.TheVariants as job
use Rattle.host_store.specs.declared.kind.Kind.TheVariants as kind
use Rattle.host_store.specs.declared.machine.Machine.{Machine}
use Rattle.record_common.specs.Stops.{Stop, fault_outcome, host_outcome}
use Rattle.host_store.specs.Jobs.{jobs_with}
use Rattle.host_store.specs.Kinds.{HandleTable, make_asks}
use Rattle.lookup_records.specs.NameLookup.{is_looking}
use Rattle.host_lookups.specs.NameLookupCalls.{looked_up, lookup_handle}
use Rattle.wasi_records.specs.declared.records.Record.{Record}
use Rattle.wasi_records.specs.Records.{lookup_pushed}
use Rattle.wasi_world.specs.declared.ids.OpId.{OpId}

-- == the handle of a lookup that was begun
pub lookup_made : (m : Machine) (own : OpId) (network : ℕ) (l : NameLookup) {handle place : ℕ} {records : List Record} {jobs : List HostJob} {table : HandleTable} {s t : Seen}
    → place ≡ length m.store.records → records ≡ lookup_pushed m.store.records l → jobs ≡ jobs_with m.store.jobs (job.Lookup place) (is_looking l) → AsksFor (make_asks m.table own (kind.Lookup place) (Some network) None) s t (λ (made : Result ℕ Stop). (made, table)) (Ok (Ok handle))
    → AsksFor (lookup_handle m own network l) s t (λ (made : Result ℕ Stop). let n : Machine = record { table = table; store = record { records = records; jobs = jobs; standing = m.store.standing; beside = m.store.beside; limits = m.store.limits } } in (made, n)) (Ok (Ok handle))
lookup_made m own network l p q r h = rw (q, r, p) (asks_end (λ made. Give (looked_up m l made)) (rw p at h.ok) refl)

-- where none can be made, the lookup is given back
pub lookup_lost : (m : Machine) (own : OpId) (network : ℕ) (l : NameLookup) {place : ℕ} {records : List Record} {jobs : List HostJob} {table : HandleTable} {s t : Seen} (why : Fault)
    → place ≡ length m.store.records → records ≡ lookup_pushed m.store.records l → jobs ≡ jobs_with m.store.jobs (job.Lookup place) (is_looking l) → AsksFor (make_asks m.table own (kind.Lookup place) (Some network) None) s t (λ (made : Result ℕ Stop). (made, table)) (fault_outcome {T = ℕ} (Err why))
    → AsksFor (lookup_handle m own network l) s t (λ (made : Result ℕ Stop). let n : Machine = record { table = table; store = given_back place (record { records = records; jobs = jobs; standing = m.store.standing; beside = m.store.beside; limits = m.store.limits }) } in (made, n)) (host_outcome {T = ℕ} (Err (of_fault why)))
lookup_lost m own network l (fault.Trap k) p q r h = rw (q, r, p) (asks_end (λ made. Give (looked_up m l made)) (rw p at h.ok) refl)
lookup_lost m own network l (fault.Memory d) p q r h = rw (q, r, p) (asks_exit (λ x. Unit {0}) (λ made. Give (looked_up m l made)) tt (rw p at h.err))
