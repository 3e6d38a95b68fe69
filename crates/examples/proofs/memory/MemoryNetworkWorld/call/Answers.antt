use Rattle.wasi_world.proofs.Made.{asked_one}
use Rattle.examples.proofs.memory.MemoryNetworkWorld.call.Goals as goal

pub returns-clause-asked : goal.returns-clause-asked
returns-clause-asked c = asked_one c.args.op c.args.call _ _ c.keep.result c.keep.ensures.passed c.keep.ensures.fits c.keep.ensures.err
