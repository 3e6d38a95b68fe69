use Rattle.std.proofs.Common.{ap}
use Rattle.wasi_pump.proofs.Ends.{unmoved}
use Rattle.wasi_pump.proofs.pumping.pump.Goals as goal

pub returns-in_default-new-clause-ends : goal.returns-in_default-new-clause-ends
returns-in_default-new-clause-ends g c =
    let none = c.unmoved-in_default-new.ensures in
    unmoved (ap g.S.Source.reading none.source) (ap g.K.Sink.writing none.sink) none.outcome
