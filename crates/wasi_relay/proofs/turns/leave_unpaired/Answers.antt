use Rattle.std.proofs.Common.{◌≡◌, false, rules, tests}
use Rattle.wasi_relay.specs.Turns.{course_of, may_wait}
use Rattle.wasi_relay.proofs.Going.{went_quits_given, went_then, went_give}
use Rattle.wasi_relay.proofs.turns.leave_unpaired.Goals as goal

pub returns-in_err-close : goal.returns-in_err-close
returns-in_err-close g c =
    let none : may_wait (course_of c.args.at.now) c.args.reply.now ≡ false = search (rules, tests) in
    rw none (went_quits_given _ _ c.from_residual.result c.from_residual.ensures.0 c.in_err-close.ensures)

pub returns : goal.returns
returns g c =
    let none : may_wait (course_of c.args.at.now) c.args.reply.now ≡ false = search (rules, tests) in
    rw none (went_then _ c.in_ok-close.ensures (went_give _))
