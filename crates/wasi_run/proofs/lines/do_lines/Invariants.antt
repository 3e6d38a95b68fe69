use Rattle.std.proofs.Common.{length, ◌-◌}
use Rattle.wasi_run.proofs.ManyLines.{Going}
use Rattle.wasi_run.proofs.lines.do_lines.Given as goal

abbrev pub invariant-loop-end : goal.invariant-loop-end
invariant-loop-end g l = Going l.contexts (g.W.World.seen l.fn.world) (g.W.World.seen l.world) (g.K.Sink.writing l.fn.writer) (g.K.Sink.writing l.writer) l.fn.progress.machine l.progress.machine l.fn.at l.bytes l.fn.progress.lines l.progress.lines l.at

abbrev pub decreases-loop-end : goal.decreases-loop-end
decreases-loop-end g l = length l.bytes - l.at
