use Rattle.std.proofs.Common.{refl}
use Rattle.wasi_world.proofs.Made.{asked_write}
use Rattle.wasi_world.proofs.Walks.{asks_none}
use Rattle.examples.proofs.Taken.{all_taken}
use Rattle.examples.proofs.memory.MemoryNetworkWorld.write.Goals as goal

pub returns-in_err-taken-clause-asked : goal.returns-in_err-taken-clause-asked
returns-in_err-taken-clause-asked c = asks_none _ _ c.from_residual.ensures.1 refl

pub returns-clause-asked : goal.returns-clause-asked
returns-clause-asked c =
    asked_write c.args.op c.args.sock c.args.bytes.now _ _ c.keep.result c.keep.ensures.passed c.keep.ensures.fits (all_taken c.keep.result c.keep.ensures.told c.in_ok-taken.ensures) c.keep.ensures.err
