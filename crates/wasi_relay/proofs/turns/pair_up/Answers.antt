use Rattle.std.proofs.Common.{ap, ◌∙◌}
use Rattle.wasi_relay.specs.Turns.{after_create, course_of}
use Rattle.wasi_relay.specs.Replies.{handle_at}
use Rattle.wasi_relay.proofs.Going.{went_quits_given, went_never_given, went_then, went_give}
use Rattle.wasi_relay.proofs.Turning.{created, uncreated}
use Rattle.wasi_relay.proofs.turns.pair_up.Goals as goal

pub returns-in_err-reserve : goal.returns-in_err-reserve
returns-in_err-reserve g c = went_never_given _ _ c.from_residual.result c.from_residual.ensures.0

pub returns-in_err-reply : goal.returns-in_err-reply
returns-in_err-reply g c =
    rw (← c.family_of-family.ensures) (went_quits_given (after_create c.args.order c.args.listener c.args.client (course_of c.args.at.now)) _ c.from_residual-in_err-reply.result c.from_residual-in_err-reply.ensures.0 c.in_err-reply.ensures)

pub returns-in_err-begin_connect-in-Ok : goal.returns-in_err-begin_connect-in-Ok
returns-in_err-begin_connect-in-Ok g c =
    rw (← c.family_of-family.ensures)
    (went_then (after_create c.args.order c.args.listener c.args.client (course_of c.args.at.now)) c.in_ok-reply.ensures
    (created c.args.order c.args.listener c.args.client (course_of c.args.at.now) _ c.in-Ok.fields c.handle_at-target.result c.in-Ok.is (c.handle_at-target.ensures ∙ ap (λ f. handle_at f 0) c.as_slice.ensures)
    (went_quits_given _ _ c.from_residual-in_err-begin_connect-in-Ok.result c.from_residual-in_err-begin_connect-in-Ok.ensures.0 c.in_err-begin_connect-in-Ok.ensures)))

pub returns : goal.returns
returns g c =
    rw (← c.family_of-family.ensures)
    (went_then (after_create c.args.order c.args.listener c.args.client (course_of c.args.at.now)) c.in_ok-reply.ensures
    (uncreated c.args.order c.args.listener c.args.client (course_of c.args.at.now) _ c.in_default.not-Ok (rw c.reserve.ensures.items at c.leave_unpaired.ensures)))
