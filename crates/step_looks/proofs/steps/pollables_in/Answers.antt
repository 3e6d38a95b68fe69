use Rattle.std.specs.Prelude.{map, take, drop}
use Rattle.std.proofs.Common.{ap, sym, ◌∙◌, ℕ, ◌+◌}
use Rattle.step_looks.specs.declared.outlook.Outlook.{Outlook}
use Rattle.step_looks.specs.Calls.{pollable_outlook}
use Rattle.step_looks.specs.Outlooks.{looks_in}
use Rattle.step_looks.proofs.Looks.{looks_push, looks_stop, things_more, things_round, added_on, added_off}
use Rattle.step_looks.proofs.steps.pollables_in.Goals as goal

pub loop-pollable-preserved : goal.loop-pollable-preserved
loop-pollable-preserved c =
    let f : ℕ → Outlook = pollable_outlook c.args.machine.now c.args.first in
    ap looks_in (things_more f c.args.pollables.now c.loop-pollable.pollable-index 0 c.loop-pollable-test.true)
    ∙ looks_push (map f (take c.loop-pollable.pollable-index c.args.pollables.now)) _ _ _ c.loop-pollable.invariant (added_on _ _ _ _ _ c.pollable_outlook-outlook.ensures c.if-not-goes_on.false c.in_ok-goes_on.ensures)

pub returns-then-not-goes_on : goal.returns-then-not-goes_on
returns-then-not-goes_on c =
    let f : ℕ → Outlook = pollable_outlook c.args.machine.now c.args.first in
    sym (ap looks_in (things_round f c.args.pollables.now c.loop-pollable.pollable-index 0 c.loop-pollable-test.true)
    ∙ looks_stop (map f (take c.loop-pollable.pollable-index c.args.pollables.now)) (map f (drop (c.loop-pollable.pollable-index + 1) c.args.pollables.now)) _ _ c.loop-pollable.invariant (added_off _ _ _ _ _ c.pollable_outlook-outlook.ensures c.if-not-goes_on.true c.in_ok-goes_on.ensures))
