use Rattle.std.proofs.Common.{ap, sym, ◌∙◌}
use Rattle.wasi_spawn.specs.Start.{job_of}
use Rattle.wasi_pump.proofs.Ends.{unmoved, idle, pumped}
use Rattle.wasi_pump.proofs.pumping.pump_by.Goals as goal

pub returns-in-Err-Memory-clause-ends : goal.returns-in-Err-Memory-clause-ends
returns-in-Err-Memory-clause-ends g c =
    let none = c.unmoved-in-Err-Memory.ensures in
    let back = ap job_of (sym c.in-Err-Memory.field-0-is) ∙ c.in-Err-Memory.ensures.back in
    unmoved (ap g.S.Source.reading none.source) (ap g.K.Sink.writing (none.sink ∙ c.in-Err-Memory.sink-is ∙ back)) none.outcome

pub returns-in-Err-NoWorker-new-clause-ends : goal.returns-in-Err-NoWorker-new-clause-ends
returns-in-Err-NoWorker-new-clause-ends g c =
    let none = c.unmoved-in-Err-NoWorker-new.ensures in
    let back = ap job_of (sym c.in-Err-NoWorker-new.field-0-is) ∙ c.in-Err-NoWorker-new.ensures.back in
    idle (ap g.S.Source.reading (none.source ∙ back)) (ap g.K.Sink.writing none.sink) c.in-Ok.ensures.stream c.finish-written.ensures.finished none.outcome

pub returns-clause-ends : goal.returns-clause-ends
returns-clause-ends g c = pumped _ _ _ c.in-Ok-new.ensures.stream c.in-Ok.ensures.stream c.copy_all-moved.ensures.began.0 c.copy_all-moved.ensures.began.1
    c.copy_all-moved.ensures.copied c.finish-read.ensures.finished c.finish-written-2.ensures.finished c.outcome_of.ensures
