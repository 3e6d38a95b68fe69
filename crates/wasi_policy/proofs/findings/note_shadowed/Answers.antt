use Rattle.wasi_policy.proofs.FindingLaws.{lists_push, shadowed_is}
use Rattle.wasi_policy.proofs.findings.note_shadowed.Goals as goal

pub returns : goal.returns
returns c =
    lists_push _ _ c.args.line c.args.lines.now.items c.push.new.self.items c.in_ok-push.ensures.items (
      c.requires.begins,
      c.requires.within,
      shadowed_is c.args.policy.now c.args.line c.decides.result c.decides.ensures.complete c.if-decides.false,
      record { rule = c.rule_of-rule.result.now; rule_is = rw c.rules.ensures.rules at c.rule_of-rule.ensures; some = c.overlap.ensures.sound c.if-not-overlap.false },
    )
