use Rattle.std.proofs.Common.{option_map, ap, sym, ◌∙◌}
use Rattle.host_store.specs.declared.limits.Limit.{Limit}
use Rattle.host_store.proofs.KeptLimits.{limit_found}
use Rattle.host_store.proofs.limits.limit_of.Goals as goal

pub returns-in_err-kept : goal.returns-in_err-kept
returns-in_err-kept c = rw c.from_residual.ensures (ap (option_map (λ (l : Limit). l.most)) c.in_err-kept.ensures ∙ sym (limit_found c.args.limits.now c.args.context))

pub returns : goal.returns
returns c = ap (option_map (λ (l : Limit). l.most)) c.in_ok-kept.ensures ∙ sym (limit_found c.args.limits.now c.args.context)
