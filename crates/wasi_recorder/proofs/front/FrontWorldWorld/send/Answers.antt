use Rattle.std.proofs.Common.{refl}
use Rattle.wasi_world.specs.Asks.{one}
use Rattle.wasi_world.specs.declared.call.Call.TheVariants.{Send}
use Rattle.wasi_replay.proofs.Replaying.{asked_nothing}
use Rattle.wasi_recorder.proofs.front.FrontWorldWorld.send.Goals as goal

pub returns-then-is_at_end-clause-asked : goal.returns-then-is_at_end-clause-asked
returns-then-is_at_end-clause-asked g c = asked_nothing (one c.args.op (Send c.args.sock c.args.addr c.args.bytes.now)) _ refl
