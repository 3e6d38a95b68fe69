-- What the code keeps of the jobs: a map from their numbers, and a key for each job, by which it is found from its record.
use Rattle.std.specs.Prelude.{◌≡◌, ℕ, ◌+◌, ◌<◌, ◌≤◌, ◌^◌, Bool, true, false, cond, List, [], ◌∷◌, Option, Some, None}
use Rattle.std.specs.List.{list_any}
use Rattle.std.specs.Ordering.{nat_cmp, ordering_then}
use Rattle.std.specs.declared.cmp.Ordering.{Ordering}
use Rattle.std.specs.BTreeMap.{is_at}
use Rattle.std.specs.Map.{keys_of, lookup}
use Rattle.wasi_jobs.specs.declared.job.HostJob.{HostJob}
use Rattle.wasi_jobs.specs.declared.job.HostJob.TheVariants.{Datagram, Receive}
use Rattle.wasi_jobs.specs.declared.ahead.Ahead.{Ahead}
use Rattle.wasi_jobs.specs.declared.ahead.Hinted.{Hinted}
use Rattle.wasi_jobs.specs.declared.job_list.Key.{Key}
use Rattle.wasi_jobs.specs.declared.job_list.Which.{Which}
use Rattle.wasi_jobs.specs.declared.job_list.Which.TheVariants.{All, Receives, Datagrams}
use Rattle.wasi_jobs.specs.Jobs.{is_on, other_jobs, other_than_receive, other_than_datagram}
use Rattle.wasi_jobs.specs.JobList.{Work}
use Rattle.wasi_jobs.specs.Entries.{jobs_of, without}
use Rattle.wasi_jobs.specs.Ahead.{IsAhead}

-- what the map shows
abbrev pub work_in : List (ℕ × Hinted) → Work
work_in jobs = record { numbers = keys_of jobs; items = jobs_of jobs }

-- the job of a number, with its hint
abbrev pub job_at : List (ℕ × Hinted) → ℕ → Option Hinted
job_at jobs number = lookup (is_at (nat_cmp number)) jobs

-- the numbers rise strictly from `low` on and are below `next`
abbrev pub Rise : List (ℕ × Hinted) → ℕ → ℕ → Type 0
Rise [] low next = low ≤ next
Rise (e ∷ jobs) low next = (low ≤ e.0) × Rise jobs (e.0 + 1) next

-- keys stand by the record first, then by the job
abbrev pub key_cmp : Key → Key → Ordering
key_cmp a b = ordering_then (nat_cmp a.place b.place) (nat_cmp a.number b.number)

abbrev pub has_key : List Key → ℕ → ℕ → Bool
has_key keys place number = list_any (is_at (key_cmp (record { place = place; number = number }))) keys

-- there is a job, and it is of this record
abbrev pub is_one_on : ℕ → Option Hinted → Bool
is_one_on place None = false
is_one_on place (Some hinted) = is_on place hinted.job

-- each job has its key, and each key its job
abbrev pub AreKeyed : List (ℕ × Hinted) → List Key → Type 0
AreKeyed jobs keys = (place number : ℕ) → has_key keys place number ≡ is_one_on place (job_at jobs number)

-- what is true of the jobs and keys of every list
pub record AreSound (jobs : List (ℕ × Hinted)) (keys : List Key) (next : ℕ) : Type 0 where
  pub rise : Rise jobs 0 next
  pub fits : next < 2 ^ 64
  pub keyed : AreKeyed jobs keys

-- what is true of them and of what is read ahead
pub record IsKept (jobs : List (ℕ × Hinted)) (keys : List Key) (next : ℕ) (ahead : Ahead) : Type 0 where
  pub sound : AreSound jobs keys next
  pub coming : IsAhead jobs ahead

-- the job of a number went
pub record IsWithout (old new : List (ℕ × Hinted)) (number : ℕ) : Type 0 where
  pub entries : new ≡ without number old
  pub found : (other : ℕ) → job_at new other ≡ cond (is_at (nat_cmp number) other) None (job_at old other)

-- no key of this record is at `from` or after it
abbrev pub HasNoneFrom : List Key → ℕ → ℕ → Type 0
HasNoneFrom keys place from = (number : ℕ) → from ≤ number → has_key keys place number ≡ false

-- the first key of this record at `from` or after it
pub record IsNextOn (keys : List Key) (place from number : ℕ) : Type 0 where
  pub after : from ≤ number
  pub here : has_key keys place number ≡ true
  pub none : (other : ℕ) → from ≤ other → other < number → has_key keys place other ≡ false

-- a job is one of those that are to go, if it is of the record
abbrev pub is_of_kind : Which → HostJob → Bool
is_of_kind All job = true
is_of_kind Receives (Receive p) = true
is_of_kind Receives _ = false
is_of_kind Datagrams (Datagram p) = true
is_of_kind Datagrams _ = false

-- the jobs that are left where those of a record go
abbrev pub left_of : Which → ℕ → List HostJob → List HostJob
left_of All place jobs = other_jobs place jobs
left_of Receives place jobs = other_than_receive place jobs
left_of Datagrams place jobs = other_than_datagram place jobs
