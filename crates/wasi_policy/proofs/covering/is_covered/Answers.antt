use Rattle.std.proofs.Common.{◌≡◌, ◌<◌, ◌-◌, true, rules}
use Rattle.wasi_policy.specs.Deciding.{covers}
use Rattle.wasi_policy.proofs.CoveringLaws.{covered_never}
use Rattle.wasi_policy.proofs.covering.is_covered.Goals as goal

pub returns-then-covers : goal.returns-then-covers
returns-then-covers c = λ yes.
    let before : c.loop-earlier.earlier - 1 < c.args.line - 1 = search rules in
    let covered : covers c.rule_of.result.now c.args.rule.now ≡ true = search rules in
    covered_never c.args.rules.now c.args.line (c.loop-earlier.earlier - 1) c.rule_of.result.now c.args.rule.now c.requires.begins c.requires.rule before c.rule_of.ensures covered
