-- The background jobs of a host, as contracts see them.
use Rattle.std.specs.Prelude.{ℕ, nat_lt, nat_le, if◌then◌else◌, List, [], ◌∷◌}
use Rattle.wasi_jobs.specs.declared.job.HostJob.{HostJob}

-- the jobs in the order of their making, and their numbers, which rise: the i-th job has the i-th number
pub record Work : Type 0 where
  pub numbers : List ℕ
  pub items : List HostJob

abbrev pub no_work : Work
no_work = record { numbers = []; items = [] }

-- of these jobs with these numbers, those whose number is below this one
abbrev pub items_below : ℕ → List ℕ → List HostJob → List HostJob
items_below number [] jobs = []
items_below number (n ∷ numbers) [] = []
items_below number (n ∷ numbers) (job ∷ jobs) = if nat_lt n number then job ∷ items_below number numbers jobs else items_below number numbers jobs

-- and those whose number is this one or above; a job without a number would count too, and no list has one
abbrev pub items_from : ℕ → List ℕ → List HostJob → List HostJob
items_from number [] jobs = jobs
items_from number (n ∷ numbers) [] = []
items_from number (n ∷ numbers) (job ∷ jobs) = if nat_le number n then job ∷ items_from number numbers jobs else items_from number numbers jobs

-- the jobs whose number is below this one, in order
abbrev pub below : ℕ → Work → List HostJob
below number work = items_below number work.numbers work.items

-- the jobs whose number is this one or above, in order
abbrev pub from_on : ℕ → Work → List HostJob
from_on number work = items_from number work.numbers work.items
