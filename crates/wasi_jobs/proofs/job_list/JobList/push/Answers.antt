use Rattle.std.proofs.Common.{◌+◌, ap, ◌∙◌, subst, sym, arith}
use Rattle.std.proofs.lemmas.List.{map_push}
use Rattle.wasi_jobs.specs.Ahead.{IsAhead}
use Rattle.wasi_jobs.specs.Entries.{jobs_of}
use Rattle.wasi_jobs.specs.Keys.{Rise}
use Rattle.wasi_jobs.proofs.Reading.{last_behind}
use Rattle.wasi_jobs.proofs.Rising.{none_next, insert_last, rise_last}
use Rattle.wasi_jobs.proofs.job_list.JobList.push.Goals as goal

pub put-requires-clause-fresh : goal.put-requires-clause-fresh
put-requires-clause-fresh c = none_next _ _ _ c.self.invariant.sound.rise

pub invariant_of-self-2 : goal.invariant_of-self-2
invariant_of-self-2 c =
    let last = c.in_ok-put.ensures.ok ∙ insert_last _ _ _ _ c.self.invariant.sound.rise in
    record {
      sound = record {
        rise = subst (λ jobs. Rise jobs 0 (c.self.inside.next + 1)) (sym last) (rise_last _ _ _ _ c.self.invariant.sound.rise);
        fits = omega (arith, c.self.invariant.sound.fits);
        keyed = c.in_ok-put.ensures.keyed;
      };
      coming = subst (λ jobs. IsAhead jobs c.self.inside.ahead) (sym last) (last_behind _ _ _ _ c.self.invariant.coming);
    }

pub returns-clause-ok : goal.returns-clause-ok
returns-clause-ok c =
    let last = c.in_ok-put.ensures.ok ∙ insert_last _ _ _ _ c.self.invariant.sound.rise in
    rw (← c.self.view_is) (ap jobs_of last ∙ map_push (λ e. e.1.job) c.self.inside.jobs.entries (c.self.inside.next, _))
