use Rattle.std.proofs.Common.{arith}
use Rattle.wasi_policy.proofs.FindingLaws.{count_push, count_full}
use Rattle.wasi_policy.proofs.findings.note.Goals as goal

pub returns-then-len-most : goal.returns-then-len-most
returns-then-len-most c =
    count_full c.args.rules.now c.args.most c.args.line c.args.later c.args.conflicts.now.first.items c.args.conflicts.now.count c.saturating_add-conflicts.result (omega (arith, c.if-len-most.true, c.len.ensures)) (record {
      begins = c.requires.begins;
      before = c.requires.before;
      within = c.requires.within;
      one = c.rule_of.result.now;
      one_is = c.rule_of.ensures;
      other = c.rule_of-2.result.now;
      other_is = c.rule_of-2.ensures;
      differ = c.disagree.ensures.differ c.if-not-disagree.false;
      overlap = c.disagree.ensures.overlap c.if-not-disagree.false;
    }) (omega (arith, c.saturating_add-conflicts.ensures))

pub returns : goal.returns
returns c =
    count_push c.args.rules.now c.args.most c.args.line c.args.later c.args.conflicts.now.first.items c.push.new.self.items c.args.conflicts.now.count c.saturating_add-conflicts.result (omega (arith, c.if-len-most.false, c.len.ensures)) (record {
      begins = c.requires.begins;
      before = c.requires.before;
      within = c.requires.within;
      one = c.rule_of.result.now;
      one_is = c.rule_of.ensures;
      other = c.rule_of-2.result.now;
      other_is = c.rule_of-2.ensures;
      differ = c.disagree.ensures.differ c.if-not-disagree.false;
      overlap = c.disagree.ensures.overlap c.if-not-disagree.false;
    }) c.in_ok-push.ensures.items (omega (arith, c.saturating_add-conflicts.ensures))
