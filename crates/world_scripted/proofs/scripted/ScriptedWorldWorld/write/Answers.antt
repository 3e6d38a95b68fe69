use Rattle.wasi_world.proofs.Made.{asked_write}
use Rattle.world_scripted.proofs.scripted.ScriptedWorldWorld.write.Goals as goal

pub returns-clause-asked : goal.returns-clause-asked
returns-clause-asked c = asked_write c.args.op c.args.sock c.args.bytes.now _ _ c.answer.result c.answer.ensures.passed c.answer.ensures.fits c.answer.ensures.front c.answer.ensures.err
