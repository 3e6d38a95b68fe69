use Rattle.wasi_transcript.proofs.LinesTaken.{line_taken, rest_taken, no_line}
use Rattle.wasi_transcript.proofs.cases.TextLines.next.Goals as goal

pub returns-in_err-end-clause-end : goal.returns-in_err-end-clause-end
returns-in_err-end-clause-end c = rw (c.from_residual.ensures, ← c.self.view_is) (no_line c.self.inside.rest.now c.in_err-end.ensures)

pub returns-clause-line : goal.returns-clause-line
returns-clause-line c = rw (← c.self.view_is) (line_taken _ _ c.in_ok-end.ensures)

pub returns-clause-rest : goal.returns-clause-rest
returns-clause-rest c = rw (← c.self.view_is) (rest_taken _ _ c.in_ok-end.ensures)
