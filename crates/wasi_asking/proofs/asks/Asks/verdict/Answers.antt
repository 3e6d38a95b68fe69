use Rattle.std.proofs.Common.{ap, sym, ◌∙◌}
use Rattle.wasi_asking.proofs.Searches.{is_gone, is_kept, told_before}
use Rattle.wasi_asking.proofs.asks.Asks.verdict.Goals.{then-is_some, else-is_some}
use Rattle.wasi_asking.proofs.asks.Asks.verdict.Goals as goal

pub returns-clause-told : goal.returns-clause-told
returns-clause-told c = told_before c.args.question c.args.self.now.most c.args.self.now.next c.args.self.now.asked.items c.if-is_some.self.asked.items c.index.result.now c.verdict_of.result
    (rw c.in-Some.is at c.place_of.ensures.bound) (rw c.in-Some.is at c.place_of.ensures.found) c.index.ensures c.verdict_of.ensures
    (elim c.if-is_some.branch [
      | then-is_some w ↦ ap (λ self. self.asked.items) w.self-is ∙ (w.remove.ensures.items ∙ is_gone c.index.result.now.answer c.args.self.now.asked.items c.in-Some.place (sym c.is_some.ensures ∙ w.if-is_some.true))
      | else-is_some w ↦ ap (λ self. self.asked.items) w.self-is ∙ is_kept c.index.result.now.answer c.args.self.now.asked.items c.in-Some.place (sym c.is_some.ensures ∙ w.if-is_some.false)
    ])
