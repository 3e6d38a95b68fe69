-- The calls of lookups of host names: what each asks, what it answers, and the state afterwards.
use Rattle.std.specs.Prelude.{ℕ, length, not, Bool, [], ◌∷◌, Option, Some, None, Result, Ok, Err}
use Rattle.wasi_addr.specs.declared.address.IpAddress.{IpAddress}
use Rattle.wasi_addr.specs.declared.p2.ErrorCode.{ErrorCode as P2Code}
use Rattle.wasi_names.specs.declared.name.HostName.{HostName}
use Rattle.wasi_names.specs.declared.name.HostName.TheVariants.{Address, Domain}
use Rattle.wasi_world.specs.declared.ids.OpId.{OpId}
use Rattle.wasi_world.specs.declared.outcome.TrapKind.TheVariants.{NoSuchHandle}
use Rattle.wasi_world.specs.Asks.{Asks, Give, bind}
use Rattle.wasi_jobs.specs.declared.job.HostJob.TheVariants as job
use Rattle.host_store.specs.declared.kind.Kind.TheVariants as kind
use Rattle.lookup_records.specs.declared.name_lookup.Lookup.{Lookup}
use Rattle.lookup_records.specs.declared.name_lookup.Lookup.TheVariants.{Found, Failed}
use Rattle.host_store.specs.declared.machine.Machine.{Machine}
use Rattle.record_common.specs.Stops.{Stop, Code, Trap}
use Rattle.host_store.specs.GivingBack.{given_back}
use Rattle.host_store.specs.Jobs.{jobs_with}
use Rattle.host_store.specs.Kinds.{HandleTable, make_asks}
use Rattle.lookup_records.specs.NameLookup.{is_looking, looks_on, unresolvable, poll_lookup_asks, next_of}
use Rattle.wasi_records.specs.Records.{lookup_put, lookup_pushed}
use Rattle.host_store.specs.Store.{Records}

-- == a lookup begins
-- its record is the last of those that were made, and it has a job while it is in progress
abbrev pub with_lookup : Records → Lookup → Records
with_lookup store l = record store { records = lookup_pushed store.records l; jobs = jobs_with store.jobs (job.Lookup (length store.records)) (is_looking l) }

-- where no handle can be made for it, it is over
abbrev pub looked_up : Machine → Lookup → Result ℕ Stop × HandleTable → Result ℕ Stop × Machine
looked_up m l (Ok handle, t) = (Ok handle, record { table = t; store = with_lookup m.store l })
looked_up m l (Err stop, t) = (Err stop, record { table = t; store = given_back (length m.store.records) (with_lookup m.store l) })

-- its handle, whose mark names the handle of the network as its parent
abbrev pub lookup_handle : Machine → OpId → ℕ → Lookup → Asks (Result ℕ Stop × Machine)
lookup_handle m own network l = bind (make_asks m.table own (kind.Lookup (length m.store.records)) (Some network) None) (λ made. Give (looked_up m l made))

-- one that fails at once has none
abbrev pub resolved : Machine → OpId → ℕ → Lookup → Asks (Result ℕ Stop × Machine)
resolved m own network Failed = Give (Err (Code unresolvable), m)
resolved m own network l = lookup_handle m own network l

-- an address is its own answer; a domain is asked for
abbrev pub resolve_host : Machine → OpId → ℕ → HostName → Asks (Result ℕ Stop × Machine)
resolve_host m own network (Address a) = lookup_handle m own network (Found (a ∷ []))
resolve_host m own network (Domain host) = bind (poll_lookup_asks (record { id = own; host = host })) (resolved m own network)

-- == addresses are handed out
abbrev pub next_told : Result (Option IpAddress) P2Code → Result (Option IpAddress) Stop
next_told (Ok address) = Ok address
next_told (Err c) = Err (Code c)

abbrev pub with_lookup_now : Records → ℕ → Lookup → Records
with_lookup_now store place l = record store { records = lookup_put store.records place l }

abbrev pub next_at : Records → ℕ → Option Lookup → Result (Option IpAddress) Stop × Records
next_at store place None = (Err (Trap NoSuchHandle), store)
next_at store place (Some l) = (next_told (next_of l).0, with_lookup_now store place (next_of l).1)

-- == readiness, and the end
abbrev pub lookup_ready : Option Lookup → Bool
lookup_ready found = not (looks_on found)

-- it isn't asked about any more, and nothing of it is kept
abbrev pub drop_lookup_at : Records → ℕ → Option Lookup → Unit {0} × Records
drop_lookup_at store place None = (tt, store)
drop_lookup_at store place (Some l) = (tt, given_back place store)
