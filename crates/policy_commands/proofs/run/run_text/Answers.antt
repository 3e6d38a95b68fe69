use Rattle.policy_commands.proofs.Texts.{text_ends}
use Rattle.policy_commands.proofs.run.run_text.Goals as goal

pub returns-in-Planned : goal.returns-in-Planned
returns-in-Planned g c =
    text_ends c.args.policy c.args.limit c.args.text.now c.in-Planned.world c.in-Planned.contexts.items
    (g.S.Source.reading c.args.source.now) (g.S.Source.reading c.run_plan.new.source) (g.K.Sink.writing c.args.sink.now) (g.K.Sink.writing c.run_plan.new.sink)
    c.run_plan.result.denied.items c.run_plan.result.inner.items c.run_plan.result.line c.run_plan.result.status
    (rw c.in-Planned.is at c.in-Ok.ensures) c.run_plan.ensures
