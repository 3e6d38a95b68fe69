use Rattle.std.proofs.Common.{subst}
use Rattle.wasi_jobs.specs.Keys.{Rise}
use Rattle.wasi_jobs.proofs.Keying.{keyed_out}
use Rattle.wasi_jobs.proofs.Reading.{nothing_first}
use Rattle.wasi_jobs.proofs.Rising.{rise_before}
use Rattle.wasi_jobs.proofs.job_list.JobList.withdraw.Goals as goal

pub invariant_of-self-2 : goal.invariant_of-self-2
invariant_of-self-2 c = record {
  sound = record {
    rise = rise_before _ _ _ _ (subst (λ jobs. Rise jobs 0 c.self.inside.next) c.in-Some.ensures.removal c.self.invariant.sound.rise);
    fits = c.self.invariant.sound.fits;
    keyed = keyed_out _ _ _ _ _ c.in-Some.hinted _ c.of.ensures c.in-Some.ensures.value c.in-Some.ensures.updates.0 c.remove.ensures.updates.0 c.self.invariant.sound.keyed;
  };
  coming = nothing_first _ _ _ c.clear.ensures;
}
