use Rattle.wasi_replay.specs.Replayed.{entry}
use Rattle.wasi_replay.proofs.Replaying.{departed}
use Rattle.wasi_replay.proofs.replay_world.ReplayWorld.depart.Goals as goal

pub invariant_of-self-2-clause-follows : goal.invariant_of-self-2-clause-follows
invariant_of-self-2-clause-follows g c =
    let was = c.args.self.now in
    rw c.first_place.ensures (departed g.R.Recorded.recorded was.entries.items was.made was.differs (entry c.args.op c.args.call c.args.told) c.put_last.new.entries.items was.within was.follows
    (λ r none recorded_at. c.requires.other r none recorded_at) (rw c.in_ok-answer.ensures at c.in_ok-put_last.ensures.ok))
