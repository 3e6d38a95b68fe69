use Rattle.std.proofs.Common.{◌≡◌, List, is_some, ap, sym, ◌∙◌}
use Rattle.host_store.specs.declared.limits.Limit.{Limit}
use Rattle.host_store.specs.Limits.{limit_in}
use Rattle.host_store.proofs.KeptLimits.{stays_kept, newly_kept}
use Rattle.host_store.proofs.limits.keep_limit.Goals as goal

pub returns-then-is_some-clause-kept : goal.returns-then-is_some-clause-kept
returns-then-is_some-clause-kept c =
    let kept : c.limit_of.result ≡ limit_in c.args.limits.now.items c.args.ctx.now.name = c.limit_of.ensures ∙ ap (λ (l : List Limit). limit_in l c.args.ctx.now.name) c.as_slice.ensures.value in
    sym (stays_kept c.args.limits.now.items c.args.ctx.now _ (ap is_some (sym kept) ∙ sym c.is_some.ensures ∙ c.if-is_some.true))

pub returns-clause-kept : goal.returns-clause-kept
returns-clause-kept c =
    let kept : c.limit_of.result ≡ limit_in c.args.limits.now.items c.args.ctx.now.name = c.limit_of.ensures ∙ ap (λ (l : List Limit). limit_in l c.args.ctx.now.name) c.as_slice.ensures.value in
    c.in_ok-push.ensures.items ∙ sym (newly_kept c.args.limits.now.items c.args.ctx.now _ (ap is_some (sym kept) ∙ sym c.is_some.ensures ∙ c.if-is_some.false))
