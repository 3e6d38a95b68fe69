use Rattle.wasi_world.proofs.Made.{asked_one}
use Rattle.world_scripted.proofs.scripted.ScriptedWorldWorld.call.Goals as goal

pub returns-clause-asked : goal.returns-clause-asked
returns-clause-asked c = asked_one c.args.op c.args.call _ _ c.answer.result c.answer.ensures.passed c.answer.ensures.fits c.answer.ensures.err
