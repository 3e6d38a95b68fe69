use Rattle.std.proofs.Common.{◌+◌, ap, ◌∙◌, subst, sym}
use Rattle.wasi_jobs.specs.Ahead.{IsAhead}
use Rattle.wasi_jobs.specs.Keys.{Rise}
use Rattle.wasi_jobs.proofs.Rising.{lower, upper, rise_but, lower_but, upper_but}
use Rattle.wasi_jobs.proofs.job_list.JobList.remove.Goals as goal

pub invariant_of-self : goal.invariant_of-self
invariant_of-self c = record {
  sound = record {
    rise = subst (λ jobs. Rise jobs 0 c.self.inside.next) (sym c.take_out.ensures.out.entries) (rise_but _ _ _ c.args.number c.self.invariant.sound.rise);
    fits = c.self.invariant.sound.fits;
    keyed = c.take_out.ensures.keyed;
  };
  coming = subst (λ jobs. IsAhead jobs c.clear_if_among.new.self) (sym c.take_out.ensures.out.entries) (c.clear_if_among.ensures _ c.self.invariant.coming);
}

pub returns-clause-below : goal.returns-clause-below
returns-clause-below c = rw (← c.self.view_is) (ap (lower (c.args.number + 1)) c.take_out.ensures.out.entries ∙ lower_but _ _ _ c.args.number c.self.invariant.sound.rise)

pub returns-clause-after : goal.returns-clause-after
returns-clause-after c = rw (← c.self.view_is) (ap (upper (c.args.number + 1)) c.take_out.ensures.out.entries ∙ upper_but _ c.args.number)
