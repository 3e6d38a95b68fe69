use Rattle.std.proofs.Common.{◌≡◌, ◌-◌, true, false}
use Rattle.wasi_world.specs.Asks.{Reaches}
use Rattle.wasi_world.specs.Operation.{polls, poll_asks}
use Rattle.socket_common.specs.Rounds.{is_going}
use Rattle.socket_common.proofs.rounds.poll_rounds.Given as goal

-- a poll of the rounds that are left is left
abbrev pub invariant-loop-refused : goal.invariant-loop-refused
invariant-loop-refused g l = record {
  who : (g.O.InRounds.operation l.operation).who ≡ (g.O.InRounds.operation l.fn.operation).who;
  reached : Reaches (poll_asks (g.O.InRounds.operation l.fn.operation)) (polls (64 - l._refused) (g.O.InRounds.operation l.operation).who (g.O.InRounds.operation l.operation).left) (g.W.World.seen l.fn.world) (g.W.World.seen l.world);
  going : is_going (g.O.InRounds.operation l.operation) ≡ true;
  still : (g.W.World.seen l.world).ended ≡ false;
}
