use Rattle.std.proofs.Common.{sym, ◌∙◌}
use Rattle.wasi_session.proofs.Steps.{isnt_over, at_memory, at_refusal, did_step, did_part, why_memory, why_refused}
use Rattle.wasi_session.proofs.session.Session.step.Goals as goal

pub step-requires-clause-numbers : goal.step-requires-clause-numbers
step-requires-clause-numbers g c = rw (← c.self.view_is) at c.in_ok-may_step.ensures.numbers

pub returns-in_err-reply-clause-did : goal.returns-in_err-reply-clause-did
returns-in_err-reply-clause-did g c = rw (← c.self.view_is, ← c.as_slice-contexts.ensures.value)
    (λ steps replies start d.
    at_memory c.args.step steps c.from_residual-in_err-reply.result c.from_residual-in_err-reply.ensures.1
    (did_part d (isnt_over c.self.inside.over c.self.inside.progress.lines _ c.in_ok-may_step.field-0 (rw (← c.self.view_is) at (sym c.may_step.ensures.may ∙ c.in_ok-may_step.was))) c.args.step c.step.new.self.machine (g.W.World.seen c.step.new.world)
    c.in_err-reply.ensures.asked.err c.in_err-reply.ensures.sides c.step.new.self.lines))

pub returns-clause-did : goal.returns-clause-did
returns-clause-did g c = rw (← c.self.view_is, ← c.as_slice-contexts.ensures.value, c.in_ok-reply.ensures.lines, c.is_trap-self-inside.ensures)
    (λ steps replies start d.
    did_step d (isnt_over c.self.inside.over c.self.inside.progress.lines _ c.in_ok-may_step.field-0 (rw (← c.self.view_is) at (sym c.may_step.ensures.may ∙ c.in_ok-may_step.was))) c.args.step c.in_ok-reply.reply c.step.new.self.machine (g.W.World.seen c.step.new.world)
    (record { asked = c.in_ok-reply.ensures.asked.ok; sides = c.in_ok-reply.ensures.sides }))

pub returns-in_err-may_step-clause-did : goal.returns-in_err-may_step-clause-did
returns-in_err-may_step-clause-did g c = λ steps replies start d.
    at_refusal c.args.step steps c.from_residual.result _ (sym c.may_step.ensures.may ∙ c.in_err-may_step.was) c.from_residual.ensures.1 d

pub returns-in_err-may_step-clause-why : goal.returns-in_err-may_step-clause-why
returns-in_err-may_step-clause-why g c = why_refused c.args.self.now c.args.step c.from_residual.result _ (sym c.may_step.ensures.may ∙ c.in_err-may_step.was) c.from_residual.ensures.1

pub returns-in_err-reply-clause-why : goal.returns-in_err-reply-clause-why
returns-in_err-reply-clause-why g c = why_memory c.args.self.now c.args.step c.from_residual-in_err-reply.result (sym c.may_step.ensures.may ∙ c.in_ok-may_step.was) c.from_residual-in_err-reply.ensures.1
