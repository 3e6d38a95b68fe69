use Rattle.wasi_policy.specs.Overlaps.{Counts}
use Rattle.wasi_policy.proofs.FindingLaws.{NotesUpTo}
use Rattle.wasi_policy.proofs.findings.note_later.Given as goal

abbrev pub invariant-loop-before : goal.invariant-loop-before
invariant-loop-before l = Counts l.most l.fn.conflicts.first.items l.fn.conflicts.count l.conflicts.first.items l.conflicts.count (NotesUpTo l.rules l.line l.before)
