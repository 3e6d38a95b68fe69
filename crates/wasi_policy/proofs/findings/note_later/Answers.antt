use Rattle.std.proofs.Common.{◌+◌}
use Rattle.wasi_policy.specs.Overlaps.{Notes}
use Rattle.wasi_policy.proofs.FindingLaws.{NotesUpTo, counts_then, up_to_more}
use Rattle.wasi_policy.proofs.findings.note_later.Goals as goal

pub loop-before-preserved : goal.loop-before-preserved
loop-before-preserved c =
    counts_then c.args.most _ _ _ _ _ _ (NotesUpTo c.args.rules.now c.args.line c.loop-before.before) (Notes c.args.rules.now c.args.line (c.loop-before.before + 1)) (NotesUpTo c.args.rules.now c.args.line (c.loop-before.before + 1)) (up_to_more c.args.rules.now c.args.line c.loop-before.before) c.loop-before.invariant c.in_ok-note.ensures
