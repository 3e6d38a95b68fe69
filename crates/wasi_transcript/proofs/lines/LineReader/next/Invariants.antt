use Rattle.std.proofs.Common.{◌+◌, ◌-◌}
use Rattle.wasi_transcript.proofs.LinesRead.{Going}
use Rattle.wasi_transcript.proofs.lines.LineReader.next.Given as goal

abbrev pub invariant-reading : goal.invariant-reading
invariant-reading g l = Going (g.S.Source.reading l.fn.source) (g.S.Source.reading l.source) l.fn.self l.self l.line.items

abbrev pub decreases-reading : goal.decreases-reading
decreases-reading g l = l.self.limit + 1 - l.self.taken
