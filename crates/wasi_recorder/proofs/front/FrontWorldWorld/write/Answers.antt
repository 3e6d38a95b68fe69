use Rattle.std.proofs.Common.{refl}
use Rattle.wasi_world.specs.Asks.{one_write}
use Rattle.wasi_replay.proofs.Replaying.{asked_nothing}
use Rattle.wasi_recorder.proofs.front.FrontWorldWorld.write.Goals as goal

pub returns-then-is_at_end-clause-asked : goal.returns-then-is_at_end-clause-asked
returns-then-is_at_end-clause-asked g c = asked_nothing (one_write c.args.op c.args.sock c.args.bytes.now) _ refl
