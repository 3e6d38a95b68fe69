use Rattle.wasi_policy.proofs.FindingLaws.{lists_push, unmatched_is}
use Rattle.wasi_policy.proofs.findings.note_unmatched.Goals as goal

pub returns : goal.returns
returns c =
    lists_push _ _ c.args.line c.args.lines.now.items c.push.new.self.items c.in_ok-push.ensures.items (
      c.requires.begins,
      c.requires.within,
      unmatched_is c.args.policy.now c.args.line c.rule_of-rule.result.now c.overlap.result (rw c.rules.ensures.rules at c.rule_of-rule.ensures) c.overlap.ensures.complete c.if-overlap.false,
    )
