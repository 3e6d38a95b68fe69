use Rattle.std.proofs.Common.{◌≡◌, false, ◌+◌, ◌-◌, length}
use Rattle.world_scripted.specs.Scripted.{seen_by}
use Rattle.wasi_transcript.proofs.Showings.{Between}
use Rattle.wasi_transcript.proofs.show.show_lines.Given as goal

abbrev pub invariant-lines : goal.invariant-lines
invariant-lines g l = record {
  open_world : (seen_by l.world).ended ≡ false;
  between : Between l.contexts l.fn.limit (g.S.Source.reading l.fn.reader) (g.S.Source.reading l.reader) (g.K.Sink.writing l.fn.writer) (g.K.Sink.writing l.writer) (seen_by l.fn.world) (seen_by l.world) l.progress l.lines;
}

abbrev pub decreases-lines : goal.decreases-lines
decreases-lines g l = l.limit + 1 - l.lines.taken + length l.lines.held
