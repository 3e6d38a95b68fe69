use Rattle.std.proofs.Common.{◌+◌, ◌-◌}
use Rattle.wasi_run.proofs.Streaming.{Streaming}
use Rattle.wasi_run.proofs.run.run_lines.Given as goal

abbrev pub invariant-reading : goal.invariant-reading
invariant-reading g l = Streaming l.contexts l.fn.limit (g.S.Source.reading l.fn.reader) (g.S.Source.reading l.reader) (g.K.Sink.writing l.fn.writer) (g.K.Sink.writing l.writer) (g.W.World.seen l.fn.world) (g.W.World.seen l.world) l.progress.machine l.progress.lines l.taken l.line.items

abbrev pub decreases-reading : goal.decreases-reading
decreases-reading g l = l.limit + 1 - l.taken
