use Rattle.std.proofs.Common.{◌≡◌, false, rules, tests, arith}
use Rattle.wasi_relay.specs.Turns.{course_of, is_served}
use Rattle.wasi_relay.proofs.Turning.{round_on, round_stops}
use Rattle.wasi_relay.proofs.turns.make_turns.Goals as goal

pub loop-left-preserved : goal.loop-left-preserved
loop-left-preserved g c =
    let open_ : is_served c.args.order (course_of c.loop-left.at) ≡ false = search (rules, tests) in
    rw c.after_turn.ensures
    (round_on c.args.order c.args.listener _ _ _ _ c.loop-left.invariant (omega arith) open_ c.in_ok-moved.ensures)

pub returns-in_err-moved : goal.returns-in_err-moved
returns-in_err-moved g c =
    let open_ : is_served c.args.order (course_of c.loop-left.at) ≡ false = search (rules, tests) in
    round_stops c.args.order c.args.listener _ _ _ _ c.loop-left.invariant (course_of c.make_turn.new.at) c.from_residual.result c.from_residual.ensures.0 (omega arith) open_ c.in_err-moved.ensures
