use Rattle.std.proofs.Common.{ap, ◌∙◌}
use Rattle.wasi_relay.specs.Replies.{handle_at}
use Rattle.wasi_relay.specs.Turns.{course_of}
use Rattle.wasi_relay.proofs.Turning.{arrived, not_arrived}
use Rattle.wasi_relay.proofs.turns.after_accept.Goals as goal

pub returns-in-Ok : goal.returns-in-Ok
returns-in-Ok g c =
    arrived c.args.order c.args.listener (course_of c.args.at.now) _ c.in-Ok.fields _ _ _ c.in-Ok.is
    (c.handle_at.ensures ∙ ap (λ f. handle_at f 0) c.as_slice.ensures)
    (c.handle_at-in-Ok.ensures ∙ ap (λ f. handle_at f 1) c.as_slice-in-Ok.ensures)
    (c.handle_at-in-Ok-2.ensures ∙ ap (λ f. handle_at f 2) c.as_slice-in-Ok-2.ensures)
    c.pair_up.ensures

pub returns-in_default : goal.returns-in_default
returns-in_default g c = rw c.taken_after-at.ensures (not_arrived c.args.order c.args.listener (course_of c.args.at.now) _ c.in_default.not-Ok)
