use Rattle.wasi_replay.proofs.Replaying.{asked_by}
use Rattle.wasi_replay.proofs.replay_world.ReplayWorldWorld.call.Goals as goal

pub returns-then-is_next-clause-asked : goal.returns-then-is_next-clause-asked
returns-then-is_next-clause-asked g c = asked_by c.args.op c.args.call c.follow.result c.follow.ensures.passed c.follow.ensures.fits c.follow.ensures.err

pub returns-clause-asked : goal.returns-clause-asked
returns-clause-asked g c = asked_by c.args.op c.args.call c.depart.result c.depart.ensures.passed c.depart.ensures.fits c.depart.ensures.err
