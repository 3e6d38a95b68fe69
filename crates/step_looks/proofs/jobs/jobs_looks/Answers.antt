use Rattle.std.specs.Prelude.{Some, map}
use Rattle.std.specs.List.{list_any}
use Rattle.std.proofs.Common.{ap, sym, ◌∙◌, ◌≡◌, ◌+◌, ◌++◌, List, refl}
use Rattle.wasi_jobs.specs.declared.job.HostJob.{HostJob}
use Rattle.wasi_jobs.specs.JobList.{Work, below}
use Rattle.wasi_jobs.proofs.Jobs.{none_below}
use Rattle.step_looks.specs.Jobs.{job_outlook, is_receive}
use Rattle.step_looks.specs.Outlooks.{looks_in}
use Rattle.step_looks.proofs.Looks.{added_on, added_off}
use Rattle.step_looks.proofs.JobLooks.{next_looks, next_receives, stopped_looks}
use Rattle.step_looks.proofs.jobs.jobs_looks.Goals as goal

pub loop-listed-init : goal.loop-listed-init
loop-listed-init c = record {
  looks = rw (none_below c.args.jobs.now, c.new-looks.ensures.items) refl;
  receives = rw (none_below c.args.jobs.now) refl;
  same = refl;
}

pub loop-listed-preserved : goal.loop-listed-preserved
loop-listed-preserved c =
    let behind = ap (below (c.in-Some.listed.number + 1)) c.in-Some.ensures.same ∙ c.in-Some.ensures.some.1 in
    record {
      looks = next_looks _ _ _ _ _ _ behind c.loop-listed.invariant.looks (added_on _ _ _ _ _ c.job_outlook-outlook.ensures c.if-not-goes_on.false c.in_ok-goes_on.ensures);
      receives = next_receives c.args.records.now.items _ _ _ _ _ behind c.loop-listed.invariant.receives c.receives_with-receives.ensures;
      same = c.in-Some.ensures.same ∙ c.loop-listed.invariant.same;
    }

pub returns-then-not-goes_on-clause-looks : goal.returns-then-not-goes_on-clause-looks
returns-then-not-goes_on-clause-looks c =
    let all = ap (λ (w : Work). w.items) (sym c.loop-listed.invariant.same) ∙ c.in-Some.ensures.whole ∙ ap (λ (ahead : List HostJob). below c.loop-listed.next c.loop-listed.jobs ++ ahead) c.in-Some.ensures.some.0 in
    c.new.ensures.items ∙ stopped_looks _ _ _ _ _ _ all c.loop-listed.invariant.looks (added_off _ _ _ _ _ c.job_outlook-outlook.ensures c.if-not-goes_on.true c.in_ok-goes_on.ensures)
