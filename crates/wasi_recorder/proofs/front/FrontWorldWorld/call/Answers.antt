use Rattle.std.proofs.Common.{refl}
use Rattle.wasi_world.specs.Asks.{one}
use Rattle.wasi_replay.proofs.Replaying.{asked_nothing}
use Rattle.wasi_recorder.proofs.front.FrontWorldWorld.call.Goals as goal

pub returns-then-is_at_end-clause-asked : goal.returns-then-is_at_end-clause-asked
returns-then-is_at_end-clause-asked g c = asked_nothing (one c.args.op c.args.call) _ refl
