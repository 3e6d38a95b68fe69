use Rattle.wasi_jobs.proofs.Reading.{nothing_first, earlier_out}
use Rattle.wasi_jobs.proofs.ahead.Ahead.clear_if_among.Goals as goal

pub returns-then-number-self : goal.returns-then-number-self
returns-then-number-self c = λ jobs is. nothing_first _ _ _ c.clear.ensures

pub returns-else-number-self : goal.returns-else-number-self
returns-else-number-self c = λ jobs is. earlier_out _ _ _ _ c.if-number-self.false is
