use Rattle.std.proofs.Common.{◌≡◌, List, refl, ap, ◌∙◌}
use Rattle.wasi_records.proofs.Lookups.{got_at, not_got}
use Rattle.host_store.specs.declared.limits.Limit.{Limit}
use Rattle.host_store.specs.Limits.{limit_in}
use Rattle.host_store.specs.Store.{Records}
use Rattle.host_store.proofs.KeptLimits.{most_is}
use Rattle.host_store.specs.declared.store.Store.TheView.{view}
use Rattle.host_streams.proofs.connections.most_for.Goals as goal

pub returns-in_default : goal.returns-in_default
returns-in_default c = rw (← c.store.view_is, not_got c.store.inside.records.items c.args.place c.in_default.ensures.item) refl

pub returns : goal.returns
returns c =
    let store : Records = view c.store.inside in
    let here = got_at c.store.inside.records.items c.args.place c.in-Some.record c.in-Some.ensures.item in
    let kept : c.limit_of.result ≡ limit_in c.store.inside.limits.items c.in-Some.record.now.maker =
    c.limit_of.ensures ∙ ap (λ (l : List Limit). limit_in l c.in-Some.record.now.maker) c.as_slice.ensures.value in
    rw (← c.store.view_is, here, c.min.ensures, c.saturating_sub.ensures)
    (most_is store c.args.place c.in-Some.record.now c.limit_of.result here c.unwrap_or-limit.ensures c.unwrap_or-limit.type_inv kept c.used_but-others.ensures)
