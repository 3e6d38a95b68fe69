use Rattle.wasi_jobs.specs.declared.job_list.Key.{Key}
use Rattle.wasi_jobs.specs.Keys.{AreKeyed}
use Rattle.std.proofs.Common.{subst, sym, ap}
use Rattle.wasi_jobs.proofs.Keying.{keyed_put, keyed_undone}
use Rattle.wasi_jobs.proofs.job_list.put.Goals as goal

pub returns-in-Err-clause-keyed : goal.returns-in-Err-clause-keyed
returns-in-Err-clause-keyed c =
    subst (λ jobs. AreKeyed jobs c.remove.new.self.keys) (sym c.in-Err.ensures.err) (keyed_undone _ _ _ _ _ _ (ap (λ (m : Key). m.number) c.of-key.ensures) c.requires.fresh c.in_ok-insert.ensures.updates.0 c.remove.ensures.updates.0 c.requires.keyed)

pub returns-clause-keyed : goal.returns-clause-keyed
returns-clause-keyed c = keyed_put _ _ _ _ _ c.args.hinted _ c.of-key.ensures c.requires.fresh c.in_default.ensures.updates.0 c.in_ok-insert.ensures.updates.0 c.requires.keyed
