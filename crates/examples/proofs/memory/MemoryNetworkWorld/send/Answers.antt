use Rattle.std.proofs.Common.{refl}
use Rattle.wasi_world.specs.declared.call.Call.TheVariants.{Send}
use Rattle.wasi_world.proofs.Made.{asked_one}
use Rattle.wasi_world.proofs.Walks.{asks_none}
use Rattle.examples.proofs.memory.MemoryNetworkWorld.send.Goals as goal

pub returns-in_err-bytes-clause-asked : goal.returns-in_err-bytes-clause-asked
returns-in_err-bytes-clause-asked c = asks_none _ _ c.from_residual.ensures.1 refl

pub returns-clause-asked : goal.returns-clause-asked
returns-clause-asked c =
    rw (← c.in_ok-bytes.ensures) (asked_one c.args.op (Send c.args.sock c.args.addr c.in_ok-bytes.bytes) _ _ c.keep.result c.keep.ensures.passed c.keep.ensures.fits c.keep.ensures.err)
