use Rattle.std.proofs.Common.{◌≡◌, ◌∙◌, ◌+◌, List, refl, ap, rules}
use Rattle.wasi_world.proofs.Walks.{reaches_all, reaches_then}
use Rattle.wasi_jobs.specs.declared.job.HostJob.{HostJob}
use Rattle.wasi_jobs.specs.JobList.{Work, below, from_on}
use Rattle.wasi_jobs.proofs.Jobs.{all_from, none_below}
use Rattle.host_store.specs.Jobs.{is_going, jobs_with}
use Rattle.host_store.proofs.JobLists.{asks_over, fewer_ahead, kept_going, kept_over, turn_next, turn_stops}
use Rattle.record_common.proofs.SideCounts.{none_then}
use Rattle.wasi_host.proofs.jobs.turn_jobs.Goals.{then-not-goes_on, else-not-goes_on}
use Rattle.wasi_host.proofs.jobs.turn_jobs.Goals as goal

pub loop-listed-init : goal.loop-listed-init
loop-listed-init g c = record {
  reached = rw (none_below c.args.jobs.now, all_from c.args.jobs.now) (reaches_all _ _);
  held = refl;
  none = search rules;
  still = c.requires;
}

pub returns-in_err-goes_on-clause-asked : goal.returns-in_err-goes_on-clause-asked
returns-in_err-goes_on-clause-asked g c =
    turn_stops c.args.jobs.now.items c.args.records.now.items (below c.loop-listed.next c.loop-listed.jobs) _ (from_on (c.in-Some.listed.number + 1) c.loop-listed.jobs) c.in-Some.listed.job c.loop-listed.records.items _ c.from_residual.result c.from_residual.ensures.1 c.in-Some.ensures.some.0
    c.loop-listed.invariant.reached c.in_err-goes_on.ensures.asked.err

pub returns-in_err-goes_on-clause-none : goal.returns-in_err-goes_on-clause-none
returns-in_err-goes_on-clause-none g c = none_then c.loop-listed.invariant.none c.turn_job.ensures.none

pub loop-listed-smaller : goal.loop-listed-smaller
loop-listed-smaller g c =
    let next = c.in-Some.listed.number + 1 in
    let ahead : from_on next c.if-not-goes_on.jobs ≡ from_on next c.loop-listed.jobs = elim c.if-not-goes_on.branch [
      | then-not-goes_on w ↦ rw w.jobs-is (w.remove.ensures.after ∙ ap (from_on next) c.in-Some.ensures.same)
      | else-not-goes_on w ↦ rw w.jobs-is (ap (from_on next) c.in-Some.ensures.same)
    ] in
    fewer_ahead c.in-Some.ensures.some.0 ahead

pub loop-listed-preserved : goal.loop-listed-preserved
loop-listed-preserved g c =
    let job = c.in-Some.listed.job in
    let next = c.in-Some.listed.number + 1 in
    let kept : List HostJob = below c.loop-listed.next c.loop-listed.jobs in
    let ahead : from_on next c.if-not-goes_on.jobs ≡ from_on next c.loop-listed.jobs = elim c.if-not-goes_on.branch [
      | then-not-goes_on w ↦ rw w.jobs-is (w.remove.ensures.after ∙ ap (from_on next) c.in-Some.ensures.same)
      | else-not-goes_on w ↦ rw w.jobs-is (ap (from_on next) c.in-Some.ensures.same)
    ] in
    let going = c.in_ok-goes_on.ensures.goes_on in
    let behind : below next c.if-not-goes_on.jobs ≡ jobs_with kept job (is_going c.turn_job.new.records.items job) = elim c.if-not-goes_on.branch [
      | then-not-goes_on w ↦ rw (w.jobs-is, ← going) (kept_over kept job c.in_ok-goes_on.goes_on w.if-not-goes_on.true (w.remove.ensures.below ∙ (ap (below c.in-Some.listed.number) c.in-Some.ensures.same ∙ c.in-Some.ensures.some.2)))
      | else-not-goes_on w ↦ rw (w.jobs-is, ← going) (kept_going kept job c.in_ok-goes_on.goes_on w.if-not-goes_on.false (ap (below next) c.in-Some.ensures.same ∙ c.in-Some.ensures.some.1))
    ] in
    record {
      reached = reaches_then c.loop-listed.invariant.reached (turn_next kept _ (from_on next c.loop-listed.jobs) _ _ job c.loop-listed.records.items c.turn_job.new.records.items c.in-Some.ensures.some.0 behind ahead c.in_ok-goes_on.ensures.asked.ok);
      held = c.turn_job.ensures.held ∙ c.loop-listed.invariant.held;
      none = none_then c.loop-listed.invariant.none c.turn_job.ensures.none;
      still = c.turn_job.ensures.asked.ended ∙ c.loop-listed.invariant.still;
    }

pub returns-clause-asked : goal.returns-clause-asked
returns-clause-asked g c = asks_over c.args.jobs.now.items c.args.records.now.items (below c.loop-listed.next c.loop-listed.jobs) c.loop-listed.records.items (ap (λ (w : Work). w.items) c.in_default.ensures.same ∙ c.in_default.ensures.whole) (c.in_default.ensures.none refl) c.loop-listed.invariant.reached
