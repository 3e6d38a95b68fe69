-- What callers need of jobs and their list.
use Rattle.std.proofs.Common.{◌≡◌, ℕ, ◌==◌, List, [], ◌∷◌, refl, ap, arith}
use Rattle.std.proofs.lemmas.Bool.{le-ltb, le-leb}
use Rattle.wasi_jobs.specs.declared.job.HostJob.{HostJob}
use Rattle.wasi_jobs.specs.declared.job.HostJob.TheVariants.{Write, Datagram, Receive, Lookup}
use Rattle.wasi_jobs.specs.Jobs.{job_place, is_on}
use Rattle.wasi_jobs.specs.JobList.{Work, below, from_on, items_below, items_from}

none_below_in : (numbers : List ℕ) (items : List HostJob) → items_below 0 numbers items ≡ []
none_below_in [] items = refl
none_below_in (n ∷ numbers) [] = refl
none_below_in (n ∷ numbers) (job ∷ items) = rw (le-ltb n 0 (omega arith)) (none_below_in numbers items)

-- no number is below the first
pub none_below : (w : Work) → below 0 w ≡ []
none_below w = none_below_in w.numbers w.items

all_from_in : (numbers : List ℕ) (items : List HostJob) → items_from 0 numbers items ≡ items
all_from_in [] items = refl
all_from_in (n ∷ numbers) [] = refl
all_from_in (n ∷ numbers) (job ∷ items) = rw (le-leb 0 n (omega arith)) (ap (λ (jobs : List HostJob). job ∷ jobs) (all_from_in numbers items))

-- each is from the first on
pub all_from : (w : Work) → from_on 0 w ≡ w.items
all_from w = all_from_in w.numbers w.items

-- a job is of the record that it is for
pub on_place : (place : ℕ) (job : HostJob) → is_on place job ≡ (job_place job == place)
on_place place (Write p) = refl
on_place place (Datagram p) = refl
on_place place (Receive p) = refl
on_place place (Lookup p) = refl
