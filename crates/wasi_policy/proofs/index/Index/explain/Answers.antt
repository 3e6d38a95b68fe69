use Rattle.std.proofs.Common.{ap, ◌∙◌}
use Rattle.wasi_policy.specs.Decision.{allows}
use Rattle.wasi_policy.specs.declared.rule.Explanation.{Explanation}
use Rattle.wasi_policy.proofs.ReachLaws.{explains}
use Rattle.wasi_policy.proofs.index.Index.explain.Goals as goal

pub returns-clause-line : goal.returns-clause-line
returns-clause-line c = ap (λ (e : Explanation). e.line) (c.explanation_of.ensures ∙ c.first.ensures.explains) ∙ (explains c.args.rules.now c.args.address c.args.usage).0

pub returns-clause-action : goal.returns-clause-action
returns-clause-action c = ap (λ (e : Explanation). allows e.rule.action) (c.explanation_of.ensures ∙ c.first.ensures.explains) ∙ (explains c.args.rules.now c.args.address c.args.usage).1
