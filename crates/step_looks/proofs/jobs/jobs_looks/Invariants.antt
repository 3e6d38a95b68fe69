use Rattle.std.specs.Prelude.{map, Some}
use Rattle.std.specs.List.{list_any}
use Rattle.std.proofs.Common.{◌≡◌, length}
use Rattle.wasi_jobs.specs.JobList.{below, from_on}
use Rattle.step_looks.specs.Jobs.{job_outlook, is_receive}
use Rattle.step_looks.specs.Outlooks.{looks_in}
use Rattle.step_looks.proofs.jobs.jobs_looks.Given as goal

-- the looks of the jobs below the number, and whether one of these is a receive
abbrev pub invariant-loop-listed : goal.invariant-loop-listed
invariant-loop-listed l = record {
  looks : looks_in (map (job_outlook l.records.items) (below l.next l.jobs)) ≡ Some l.looks.items;
  receives : l.receives ≡ list_any is_receive (below l.next l.jobs);
  same : l.jobs ≡ l.fn.jobs;
}

abbrev pub decreases-loop-listed : goal.decreases-loop-listed
decreases-loop-listed l = length (from_on l.next l.jobs)
