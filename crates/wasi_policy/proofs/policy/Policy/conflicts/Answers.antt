use Rattle.std.proofs.Common.{◌+◌, ◌≤◌, length, arith, ap}
use Rattle.wasi_policy.specs.Findings.{AreConflicts}
use Rattle.wasi_policy.specs.Overlaps.{NotesLine}
use Rattle.wasi_policy.proofs.FindingLaws.{AreUpTo, counted_then, counted_as, are_more, are_all}
use Rattle.wasi_policy.proofs.policy.Policy.conflicts.Goals as goal

pub loop-before-preserved : goal.loop-before-preserved
loop-before-preserved c =
    counted_then c.args.most _ _ _ _ (AreUpTo c.rules-rules.result.now c.loop-before.before) (AreUpTo c.rules-rules.result.now (c.loop-before.before + 1)) (NotesLine c.rules-rules.result.now (c.loop-before.before + 1)) (are_more c.rules-rules.result.now c.loop-before.before) c.loop-before.invariant c.in_ok-note_later.ensures

pub returns : goal.returns
returns c =
    let end : length c.rules-rules.result.now ≤ c.loop-before.before = omega (arith, c.loop-before-test.false, c.rules-rules.ensures.few, ap length c.rules-rules.ensures.rules) in
    rw (← c.rules-rules.ensures.rules) (counted_as c.args.most _ _ (AreUpTo c.rules-rules.result.now c.loop-before.before) (AreConflicts c.rules-rules.result.now) (λ all are. are_all c.rules-rules.result.now c.loop-before.before all end are) c.loop-before.invariant)
