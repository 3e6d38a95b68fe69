-- The jobs in the map, by their numbers.
use Rattle.std.specs.Prelude.{ℕ, Bool, List, map}
use Rattle.std.specs.List.{filter}
use Rattle.std.specs.Ordering.{nat_cmp}
use Rattle.std.specs.BTreeMap.{is_at}
use Rattle.std.specs.BTreeMap.Range.{range_contains}
use Rattle.std.specs.declared.ops.Bound.TheVariants.{Included, Unbounded}
use Rattle.std.specs.Map.{remove_entry}
use Rattle.wasi_jobs.specs.declared.job.HostJob.{HostJob}
use Rattle.wasi_jobs.specs.declared.ahead.Hinted.{Hinted}

-- the jobs in order, without their numbers and hints
abbrev pub jobs_of : List (ℕ × Hinted) → List HostJob
jobs_of jobs = map (λ (e : ℕ × Hinted). e.1.job) jobs

-- those that are left where the one of a number goes
abbrev pub without : ℕ → List (ℕ × Hinted) → List (ℕ × Hinted)
without n jobs = remove_entry (is_at (nat_cmp n)) jobs

-- an entry has this number or a higher one
abbrev pub inside : ℕ → ℕ × Hinted → Bool
inside n e = range_contains nat_cmp (Included n) Unbounded e.0

-- those with this number or a higher one
abbrev pub entries_from : ℕ → List (ℕ × Hinted) → List (ℕ × Hinted)
entries_from n jobs = filter (inside n) jobs
