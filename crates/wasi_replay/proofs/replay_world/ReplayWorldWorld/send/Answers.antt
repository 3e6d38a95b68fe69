use Rattle.wasi_world.specs.declared.call.Call.TheVariants.{Send}
use Rattle.std.proofs.Common.{refl}
use Rattle.wasi_world.proofs.Walks.{asks_none}
use Rattle.wasi_replay.proofs.Replaying.{asked_by}
use Rattle.wasi_replay.proofs.replay_world.ReplayWorldWorld.send.Goals as goal

pub returns-in_err-bytes-clause-asked : goal.returns-in_err-bytes-clause-asked
returns-in_err-bytes-clause-asked g c = asks_none _ _ c.from_residual.ensures.1 refl

pub returns-then-is_next-clause-asked : goal.returns-then-is_next-clause-asked
returns-then-is_next-clause-asked g c =
    rw (← c.in_ok-bytes.ensures) (asked_by c.args.op (Send c.args.sock c.args.addr c.in_ok-bytes.bytes) c.follow.result c.follow.ensures.passed c.follow.ensures.fits c.follow.ensures.err)

pub returns-clause-asked : goal.returns-clause-asked
returns-clause-asked g c =
    rw (← c.in_ok-bytes.ensures) (asked_by c.args.op (Send c.args.sock c.args.addr c.in_ok-bytes.bytes) c.depart.result c.depart.ensures.passed c.depart.ensures.fits c.depart.ensures.err)
