use Rattle.wasi_records.proofs.Closings.{names_one, names_same}
use Rattle.wasi_records.proofs.closing.close_one.Goals as goal

pub returns-in-Some-clause-named : goal.returns-in-Some-clause-named
returns-in-Some-clause-named g c = rw c.in-Some.is (names_one _ _ c.in-Some.side c.close_after_end.ensures.named)
