use Rattle.wasi_calls.proofs.CallWords.{refl, sym, ◌∙◌, asks_given}
use Rattle.wasi_calls.proofs.CallSteps.{held_up, goes_on}
use Rattle.wasi_calls.proofs.calls.do_step.Goals as goal

pub returns-then-is_held_up-clause-asked : goal.returns-then-is_held_up-clause-asked
returns-then-is_held_up-clause-asked g c = asks_given _ _ refl (held_up c.args.contexts.now c.args.machine.now c.args.line c.args.step c.args.machine.now.store.standing (sym c.is_held_up.ensures ∙ c.if-is_held_up.true))

pub returns-clause-asked : goal.returns-clause-asked
returns-clause-asked g c =
    rw (goes_on c.args.contexts.now c.args.machine.now c.args.line c.args.step c.args.machine.now.store.standing (sym c.is_held_up.ensures ∙ c.if-is_held_up.false))
    (rw (c.context_for-ctx.ensures, c.context.ensures) at c.do_call.ensures.asked)
