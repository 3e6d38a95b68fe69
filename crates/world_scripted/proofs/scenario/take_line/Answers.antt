use Rattle.std.proofs.Common.{◌∙◌}
use Rattle.world_scripted.proofs.ContextLines.{numbered_and}
use Rattle.world_scripted.proofs.scenario.take_line.Goals as goal

pub returns-in-Some-clause-numbered : goal.returns-in-Some-clause-numbered
returns-in-Some-clause-numbered c = λ old. rw c.in_ok-add_context.ensures.ok (numbered_and c.args.given.now.contexts.items c.in-Some.context (c.in-Some.ensures.named ∙ c.len.ensures ∙ c.args.given.now.contexts.ok.0) old)
