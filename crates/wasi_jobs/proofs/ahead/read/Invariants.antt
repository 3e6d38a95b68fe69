use Rattle.std.proofs.Common.{◌≡◌, ◌++◌, length}
use Rattle.wasi_jobs.specs.Entries.{entries_from}
use Rattle.wasi_jobs.proofs.ahead.read.Given as goal

abbrev pub invariant-loop-rest : goal.invariant-loop-rest
invariant-loop-rest l = entries_from l.number l.jobs.entries ≡ l.entries.items ++ l.rest

abbrev pub decreases-loop-rest : goal.decreases-loop-rest
decreases-loop-rest l = length l.rest
