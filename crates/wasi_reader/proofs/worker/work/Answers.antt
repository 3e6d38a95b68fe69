use Rattle.wasi_reader.proofs.Works.{goes}
use Rattle.wasi_reader.proofs.worker.work.Goals as goal

pub loop-preserved : goal.loop-preserved
loop-preserved g c = record { goes = tt; ends = tt; worked = goes _ _ _ _ _ c.loop.invariant.worked c.in-None-step.ensures.stepped; first = c.step.ensures.stage }
