use Rattle.std.proofs.Common.{ap, arith}
use Rattle.std.proofs.lemmas.Result.{err_from_is_err_and}
use Rattle.wasi_transcript.proofs.LinesRead.{going_on, going_front, starved_reading}
use Rattle.wasi_transcript.proofs.lines.LineReader.next.Goals as goal

pub returns-in_err-read_piece : goal.returns-in_err-read_piece
returns-in_err-read_piece g c =
    let p = err_from_is_err_and c.from_residual-in_err-read_piece.result c.from_residual-in_err-read_piece.ensures.1 in
    let front = going_front c.reading.invariant c.in_ok-take_line.ensures.limit c.in_ok-take_line.ensures.taken (rw c.if-branch.false at c.in_ok-take_line.ensures.whole) in
    rw (p.1, p.2) (starved_reading _ front c.in_err-read_piece.ensures)

pub reading-preserved : goal.reading-preserved
reading-preserved g c =
    let took = rw c.if-branch.false at c.in_ok-take_line.ensures.whole in
    let front = going_front c.reading.invariant c.in_ok-take_line.ensures.limit c.in_ok-take_line.ensures.taken took in
    going_on front took.2 (omega (arith, ap (λ h. h.taken) c.self.view_is, ap (λ h. h.limit) c.self.view_is, c.if-self.false)) (rw c.in-Some.is at c.in_ok-read_piece.ensures)
