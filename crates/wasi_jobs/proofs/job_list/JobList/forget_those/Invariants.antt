use Rattle.std.proofs.Common.{◌-◌}
use Rattle.wasi_jobs.proofs.Forgets.{IsForgetting}
use Rattle.wasi_jobs.proofs.job_list.JobList.forget_those.Given as goal

abbrev pub invariant-loop-number : goal.invariant-loop-number
invariant-loop-number l = IsForgetting l.which l.place l.from l.fn.self.items l.self-inside.jobs.entries l.self-inside.by_record.keys l.self-inside.next

abbrev pub decreases-loop-number : goal.decreases-loop-number
decreases-loop-number l = l.self-inside.next - l.from
