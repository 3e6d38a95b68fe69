use Rattle.wasi_records.specs.Sides.{held_in}
use Rattle.wasi_records.proofs.Closings.{closes_all, closes_each}
use Rattle.wasi_calls.proofs.progress.Progress.finish.Goals as goal

pub returns-clause-closed : goal.returns-clause-closed
returns-clause-closed g c = λ known.
    closes_all (held_in c.args.self.machine.store.records) c.end.ensures.mark.log c.end.ensures.mark.closings c.close_all.ensures.counted known.count

pub returns-clause-each : goal.returns-clause-each
returns-clause-each g c = λ known.
    closes_each (held_in c.args.self.machine.store.records) (g.W.World.seen c.args.world.now) _ _ c.end.ensures.mark.log c.end.ensures.none c.close_all.ensures.counted c.close_all.ensures.named known.count
