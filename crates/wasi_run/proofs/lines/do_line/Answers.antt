use Rattle.wasi_run.proofs.LineWords.{sym, ◌∙◌, refl, ap}
use Rattle.wasi_run.proofs.OneLine.{at_exit, started_met, sides_met, stepped_met, none_done, one_bad, one_hungry, one_cut, one_trap, one_done}
use Rattle.wasi_run.proofs.lines.do_line.Goals as goal

pub returns-in_err-step-clause-ran : goal.returns-in_err-step-clause-ran
returns-in_err-step-clause-ran g c =
    at_exit c.from_residual.result c.from_residual.ensures.1 (none_done _ _ _ _ _ _ _ refl)

pub returns-in_default-clause-ran : goal.returns-in_default-clause-ran
returns-in_default-clause-ran g c = one_bad _ _ _ _ _ _ (sym c.in_ok-step.ensures ∙ c.in_default.is)

pub returns-in_err-reply-clause-ran : goal.returns-in_err-reply-clause-ran
returns-in_err-reply-clause-ran g c =
    at_exit c.from_residual-in_err-reply.result c.from_residual-in_err-reply.ensures.1 (one_hungry (sym c.in_ok-step.ensures ∙ c.in-Some.is) (started_met c.before-2.ensures.seen c.before-2.ensures.machine _ _ _ c.in_err-reply.ensures.asked.err) (sides_met c.before-2.ensures.seen c.before-2.ensures.machine c.step.new.self.machine c.step.ensures.sides))

pub returns-in_err-append_reply-clause-ran : goal.returns-in_err-append_reply-clause-ran
returns-in_err-append_reply-clause-ran g c =
    at_exit c.from_residual-in_err-append_reply.result c.from_residual-in_err-append_reply.ensures.1 (one_hungry (sym c.in_ok-step.ensures ∙ c.in-Some.is) (started_met c.before-2.ensures.seen c.before-2.ensures.machine _ _ _ (record { rest = _; reached = c.in_ok-reply.ensures.asked.ok })) (sides_met c.before-2.ensures.seen c.before-2.ensures.machine c.step.new.self.machine c.step.ensures.sides))

pub returns-in_default-write_all-clause-ran : goal.returns-in_default-write_all-clause-ran
returns-in_default-write_all-clause-ran g c =
    one_cut (sym c.in_ok-step.ensures ∙ c.in-Some.is) (stepped_met c.before-2.ensures.seen c.before-2.ensures.machine (record { asked = c.in_ok-reply.ensures.asked.ok; sides = c.step.ensures.sides })) (rw (c.as_slice.ensures.value, rw c.clear.ensures.items at c.in_ok-append_reply.ensures) at c.in_default-write_all.ensures.front)

pub returns-then-is_trap-clause-ran : goal.returns-then-is_trap-clause-ran
returns-then-is_trap-clause-ran g c =
    one_trap (sym c.in_ok-step.ensures ∙ c.in-Some.is) (stepped_met c.before-2.ensures.seen c.before-2.ensures.machine (record { asked = c.in_ok-reply.ensures.asked.ok; sides = c.step.ensures.sides })) (rw (c.as_slice.ensures.value, rw c.clear.ensures.items at c.in_ok-append_reply.ensures) at c.in-Ok.ensures.all) (sym c.if-is_trap.ensures)

pub returns-clause-ran : goal.returns-clause-ran
returns-clause-ran g c =
    one_done (sym c.in_ok-step.ensures ∙ c.in-Some.is) (stepped_met c.before-2.ensures.seen c.before-2.ensures.machine (record { asked = c.in_ok-reply.ensures.asked.ok; sides = c.step.ensures.sides })) (rw (c.as_slice.ensures.value, rw c.clear.ensures.items at c.in_ok-append_reply.ensures) at c.in-Ok.ensures.all) (sym c.if-is_trap.ensures)

pub step-requires-clause-open : goal.step-requires-clause-open
step-requires-clause-open g c = ap (λ seen. seen.ended) c.before-2.ensures.seen ∙ c.requires.open
