use Rattle.wasi_policy.proofs.FindingLaws.{lines_more}
use Rattle.wasi_policy.proofs.policy.Policy.shadowed.Goals as goal

pub loop-before-preserved : goal.loop-before-preserved
loop-before-preserved c = record {
  sound = c.in_ok-note_shadowed.ensures.sound c.loop-before.invariant.sound;
  there = lines_more _ _ c.loop-before.before c.loop-before.lines.items c.note_shadowed.new.lines.items c.in_ok-note_shadowed.ensures c.loop-before.invariant.there;
}
