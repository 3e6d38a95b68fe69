use Rattle.std.proofs.Common.{Ok}
use Rattle.wasi_relay.specs.Turns.{course_of}
use Rattle.wasi_relay.proofs.Going.{went_quits_given}
use Rattle.wasi_relay.proofs.Turning.{turn_stops, turn_breaks, turn_ends}
use Rattle.wasi_relay.proofs.turns.make_turn.Goals as goal

pub returns-in_err-step : goal.returns-in_err-step
returns-in_err-step g c = went_quits_given _ _ c.from_residual.result c.from_residual.ensures.0 c.in_err-step.ensures

pub returns-in_err-accept : goal.returns-in_err-accept
returns-in_err-accept g c = turn_stops c.args.order c.args.listener (course_of c.args.at.now) _ c.from_residual-in_err-accept.result c.from_residual-in_err-accept.ensures.0 c.in_ok-step.ensures c.in_err-accept.ensures

pub returns-in_err-moved : goal.returns-in_err-moved
returns-in_err-moved g c =
    turn_breaks c.args.order c.args.listener (course_of c.args.at.now) (course_of c.accept.new.at) _ c.from_residual-in_err-moved.result c.from_residual-in_err-moved.ensures.0 c.in_ok-step.ensures c.in_ok-accept.ensures c.in_err-moved.ensures

pub returns : goal.returns
returns g c =
    turn_ends {T = Unit {0}} c.args.order c.args.listener (course_of c.args.at.now) (course_of c.accept.new.at) c.serve_each.new.self.items (Ok tt) c.in_ok-step.ensures c.in_ok-accept.ensures c.in_ok-moved.ensures
