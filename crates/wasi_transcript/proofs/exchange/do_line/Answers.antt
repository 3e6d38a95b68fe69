use Rattle.std.proofs.Common.{sym, ◌∙◌}
use Rattle.wasi_transcript.proofs.Exchanges.{exchanged, starved, starved_within, starved_exit}
use Rattle.wasi_transcript.proofs.exchange.do_line.Goals as goal

pub returns-then-trapped-clause-done : goal.returns-then-trapped-clause-done
returns-then-trapped-clause-done c =
    (exchanged (sym c.in_ok-step.ensures ∙ c.in-Some.is) c.in_ok-reply.ensures.asked.ok c.entries-before.ensures c.entries.ensures c.in_ok-text.ensures (sym c.is_trap-trapped.ensures ∙ c.if-trapped.true), c.step.ensures.lines)

pub returns-clause-done : goal.returns-clause-done
returns-clause-done c =
    (exchanged (sym c.in_ok-step.ensures ∙ c.in-Some.is) c.in_ok-reply.ensures.asked.ok c.entries-before.ensures c.entries.ensures c.in_ok-text.ensures (sym c.is_trap-trapped.ensures ∙ c.if-trapped.false), c.step.ensures.lines)

pub returns-in_err-text-clause-done : goal.returns-in_err-text-clause-done
returns-in_err-text-clause-done c =
    starved_exit c.args.progress.now _ c.from_residual-in_err-text.result c.from_residual-in_err-text.ensures.1 (starved (sym c.in_ok-step.ensures ∙ c.in-Some.is) c.in_ok-reply.ensures.asked.ok)

pub returns-in_err-reply-clause-done : goal.returns-in_err-reply-clause-done
returns-in_err-reply-clause-done c =
    starved_exit c.args.progress.now _ c.from_residual-in_err-reply.result c.from_residual-in_err-reply.ensures.1 (starved_within (sym c.in_ok-step.ensures ∙ c.in-Some.is) c.in_err-reply.ensures.asked.err)
