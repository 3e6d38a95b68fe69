use Rattle.wasi_tcp.proofs.Listeners.{turn_asking, turn_idle, turn_arrived, holds_settled, holds_going}
use Rattle.wasi_tcp.proofs.listener.turn.Goals as goal

pub returns-in-Asking-clause-turned : goal.returns-in-Asking-clause-turned
returns-in-Asking-clause-turned g c = turn_asking _ c.poll-polled.result c.begin.ensures.begun c.in-Asking.is c.settle.ensures.settled c.settle.ensures.memory c.poll-polled.ensures.polled

pub returns-in-Asking-clause-after : goal.returns-in-Asking-clause-after
returns-in-Asking-clause-after g c = holds_settled _ _ _ c.poll-polled.result c.begin.ensures.after c.in-Asking.is c.settle.ensures.settled c.poll-polled.ensures.polled c.poll-polled.ensures.after

pub poll-polled-requires-clause-going : goal.poll-polled-requires-clause-going
poll-polled-requires-clause-going g c = (holds_going c.args.side c.args.maker _ c.begin.ensures.after c.in-Asking.is).going

pub returns-in-Idle-clause-turned : goal.returns-in-Idle-clause-turned
returns-in-Idle-clause-turned g c = turn_idle _ c.begin.ensures.begun c.in-Idle.is

pub returns-in-Arrived-clause-turned : goal.returns-in-Arrived-clause-turned
returns-in-Arrived-clause-turned g c = turn_arrived _ c.begin.ensures.begun c.in-Arrived.is
