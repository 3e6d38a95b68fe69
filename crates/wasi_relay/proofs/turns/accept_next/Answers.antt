use Rattle.std.proofs.Common.{◌≡◌, true, rules, tests}
use Rattle.wasi_relay.specs.Turns.{course_of, may_accept, after_accept}
use Rattle.wasi_relay.proofs.Going.{went_quits_given, went_then}
use Rattle.wasi_relay.proofs.turns.accept_next.Goals as goal

pub returns-in_err-reply : goal.returns-in_err-reply
returns-in_err-reply g c =
    let may : may_accept c.args.order (course_of c.args.at.now) ≡ true = search (rules, tests) in
    rw may (went_quits_given (after_accept c.args.order c.args.listener (course_of c.args.at.now)) _ c.from_residual.result c.from_residual.ensures.0 c.in_err-reply.ensures)

pub returns : goal.returns
returns g c =
    let may : may_accept c.args.order (course_of c.args.at.now) ≡ true = search (rules, tests) in
    rw may (went_then (after_accept c.args.order c.args.listener (course_of c.args.at.now)) c.in_ok-reply.ensures c.after_accept.ensures)
