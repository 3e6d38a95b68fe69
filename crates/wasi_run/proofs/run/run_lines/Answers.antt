use Rattle.wasi_run.proofs.Words.{◌∙◌, ◌^◌, ap, Ok, arith, stays_open}
use Rattle.std.proofs.lemmas.Result.{err_from_is_err_and}
use Rattle.wasi_run.proofs.Streaming.{stream_start, stream_on, over_error, over_trap, over_fault, over_read, over_cut, over_long, piece_is, few, piece_numbers, empty_is, not_empty, some_byte}
use Rattle.wasi_run.proofs.run.run_lines.Goals as goal

pub reading-init : goal.reading-init
reading-init g c = rw (c.new-line.ensures.items) (stream_start _ _ _ _ _ _ _ c.requires.machine c.requires.lines)

pub reading-preserved : goal.reading-preserved
reading-preserved g c =
    stream_on _ c.reading.piece c.reading-test.true c.min-room.ensures c.read.auto.buf c.reading.invariant c.in-Ok.ensures (piece_is c.reading.taken c.args.limit c.in-Ok.count c.min-within.result c.read.new.buf _ _ c.min-within.ensures c.in-Ok.ensures.fits c.read.auto.buf) (rw (c.in_ok-do_piece.was, c.in-AllDone.is) at c.do_piece.ensures.ran) (c.do_piece.ensures.kept (c.in_ok-do_piece.was ∙ ap Ok c.in-AllDone.is))

pub do_piece-requires-clause-open : goal.do_piece-requires-clause-open
do_piece-requires-clause-open g c = stays_open c.reading.invariant.ran c.requires.open

pub do_piece-requires-clause-numbers : goal.do_piece-requires-clause-numbers
do_piece-requires-clause-numbers g c = piece_numbers c.in-Ok.count c.min-within.result (2 ^ 32) _ (omega (arith, c.ranges.limit.fits)) c.reading-test.true c.reading.invariant c.min-within.ensures

pub overflow_add-result : goal.overflow_add-result
overflow_add-result g c =
    let e = not_empty _ c.reading.line.items c.if-is_empty.ensures c.reading.line.ok.0 in
    let f = few c.reading.invariant in
    omega (arith, e, f, c.reading-test.true, c.ranges.limit.fits)

pub returns-in_err-do_piece : goal.returns-in_err-do_piece
returns-in_err-do_piece g c =
    let p = err_from_is_err_and c.from_residual.result c.from_residual.ensures.1 in
    rw (p.1, p.2) (over_error _ c.reading.piece c.reading-test.true c.min-room.ensures c.reading.invariant c.in-Ok.ensures (piece_is c.reading.taken c.args.limit c.in-Ok.count c.min-within.result c.read.new.buf _ _ c.min-within.ensures c.in-Ok.ensures.fits c.read.auto.buf) (rw c.in_err-do_piece.was at c.do_piece.ensures.ran))

pub returns-in_default-2 : goal.returns-in_default-2
returns-in_default-2 g c =
    over_trap _ c.reading.piece c.reading-test.true c.min-room.ensures c.reading.invariant c.in-Ok.ensures (piece_is c.reading.taken c.args.limit c.in-Ok.count c.min-within.result c.read.new.buf _ _ c.min-within.ensures c.in-Ok.ensures.fits c.read.auto.buf) (rw (c.in_ok-do_piece.was, c.in_default-2.is) at c.do_piece.ensures.ran)

pub returns-in_default : goal.returns-in_default
returns-in_default g c = over_fault c.reading.invariant c.in_default.ensures

pub returns-then-is_empty : goal.returns-then-is_empty
returns-then-is_empty g c =
    over_read c.reading.piece c.reading-test.true c.min-room.ensures (omega arith) c.reading.invariant c.in-Ok.ensures c.if-count-eq0.true (empty_is _ c.reading.line.items c.if-is_empty.ensures c.reading.line.ok.0)

pub returns-then-count-eq0 : goal.returns-then-count-eq0
returns-then-count-eq0 g c =
    over_cut c.reading.piece c.reading-test.true c.min-room.ensures (omega arith) c.reading.invariant c.in-Ok.ensures c.if-count-eq0.true (some_byte c.reading.line.items (not_empty _ c.reading.line.items c.if-is_empty.ensures c.reading.line.ok.0))

pub returns : goal.returns
returns g c = over_long c.reading-test.false c.reading.invariant
