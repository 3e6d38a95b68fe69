use Rattle.wasi_replay.proofs.CutLines.{next_line, last_line}
use Rattle.wasi_replay.proofs.cut.whole_lines.Goals as goal

pub loop-end-preserved : goal.loop-end-preserved
loop-end-preserved c = next_line c.args.bytes.now c.loop-end.at c.loop-end.invariant.0 c.loop-end.invariant.1 c.in-Some.end c.in-Some.ensures

pub returns : goal.returns
returns c = last_line c.args.bytes.now c.loop-end.at c.loop-end.invariant.0 c.loop-end.invariant.1 c.in_default.ensures
