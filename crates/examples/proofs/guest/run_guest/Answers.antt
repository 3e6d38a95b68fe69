use Rattle.examples.proofs.Running.{Running, running_next, checked}
use Rattle.examples.proofs.guest.run_guest.Goals as goal
use Rattle.examples.proofs.guest.run_guest.Goals.{in-None, in-Some+in_default, in-Some+in-Ok+in_default-push}

pub loop-call-preserved : goal.loop-call-preserved
loop-call-preserved g c =
    running_next c.loop-call.invariant.steps c.loop-call.invariant.replies _ c.step.result (c.step.ensures.did _ _ _ c.loop-call.invariant.did)

pub returns-clause-checked : goal.returns-clause-checked
returns-clause-checked g c =
    let running : Running c.match-next.session (g.W.World.seen c.args.world) =
    elim c.match-next.branch [
      | in-None w ↦ rw w.session-is c.loop-call.invariant
      | in-Some+in_default w ↦ rw w.session-is (running_next c.loop-call.invariant.steps c.loop-call.invariant.replies _ w.step.result (w.step.ensures.did _ _ _ c.loop-call.invariant.did))
      | in-Some+in-Ok+in_default-push w ↦ rw w.session-is (running_next c.loop-call.invariant.steps c.loop-call.invariant.replies _ w.step.result (w.step.ensures.did _ _ _ c.loop-call.invariant.did))
    ] in
    checked running c.requires.fresh c.finish.ensures.quiet
