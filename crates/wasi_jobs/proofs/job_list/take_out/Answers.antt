use Rattle.wasi_jobs.proofs.Keying.{keyed_out}
use Rattle.std.proofs.Common.{sym}
use Rattle.wasi_jobs.proofs.job_list.take_out.Goals as goal

pub returns-in-Some-clause-keyed : goal.returns-in-Some-clause-keyed
returns-in-Some-clause-keyed c = keyed_out _ _ _ _ _ c.in-Some.hinted _ c.of.ensures (sym c.in-Some.ensures.value) c.in-Some.ensures.updates.0 c.remove-in-Some.ensures.updates.0 c.requires.keyed
