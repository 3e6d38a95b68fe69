use Rattle.std.proofs.Common.{◌≡◌, ◌-◌, Err, refl, arith}
use Rattle.wasi_relay.specs.declared.service.RelayEnd.TheVariants.{SetupRefused}
use Rattle.wasi_relay.specs.Guest.{give}
use Rattle.wasi_relay.specs.Setup.{after_poll, polled, with_left}
use Rattle.wasi_relay.proofs.Going.{went_give, comes_as, comes_went}
use Rattle.wasi_relay.proofs.Settling.{poll_unturned, poll_unmade, poll_made, after_other_poll}
use Rattle.wasi_relay.proofs.setup.poll.Goals as goal

pub returns-in_err-step : goal.returns-in_err-step
returns-in_err-step g c =
    poll_unturned c.args.line c.args.left.now c.loop-left.left c.loop-left.invariant (with_left (c.loop-left.left - 1)) c.in_err-step.field-0.0 c.from_residual.result c.from_residual.ensures.1 (omega arith) c.in_err-step.ensures

pub returns-in_err-reply : goal.returns-in_err-reply
returns-in_err-reply g c =
    poll_unmade c.args.line c.args.left.now c.loop-left.left c.loop-left.invariant (with_left (c.loop-left.left - 1)) c.in_err-reply.field-0.0 c.from_residual-in_err-reply.result c.from_residual-in_err-reply.ensures.1 (omega arith) c.in_ok-step.ensures c.in_err-reply.ensures

pub returns-in-Err : goal.returns-in-Err
returns-in-Err g c =
    let e : after_poll (polled c.args.line (c.loop-left.left - 1)) (c.loop-left.left - 1) c.in_ok-reply.reply ≡ give (Err (SetupRefused c.in-Err.code)) = rw c.in-Err.is refl in
    comes_went (comes_as e (poll_made c.args.line c.args.left.now c.loop-left.left c.loop-left.invariant (omega arith) c.in_ok-step.ensures c.in_ok-reply.ensures)) (went_give (Err (SetupRefused c.in-Err.code)))

pub loop-left-preserved : goal.loop-left-preserved
loop-left-preserved g c =
    let e : after_poll (polled c.args.line (c.loop-left.left - 1)) (c.loop-left.left - 1) c.in_ok-reply.reply ≡ polled c.args.line (c.loop-left.left - 1) = rw c.in-Pending.is refl in
    comes_as e (poll_made c.args.line c.args.left.now c.loop-left.left c.loop-left.invariant (omega arith) c.in_ok-step.ensures c.in_ok-reply.ensures)

pub returns-in_default : goal.returns-in_default
returns-in_default g c =
    let e = after_other_poll (polled c.args.line (c.loop-left.left - 1)) (c.loop-left.left - 1) c.in_ok-reply.reply c.in_default.not-Err c.in_default.not-Pending in
    rw c.after_turn.ensures (comes_went (comes_as e (poll_made c.args.line c.args.left.now c.loop-left.left c.loop-left.invariant (omega arith) c.in_ok-step.ensures c.in_ok-reply.ensures)) (went_give _))
