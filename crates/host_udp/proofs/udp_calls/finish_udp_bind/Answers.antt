use Rattle.std.proofs.Common.{Bool, List, ap, sym, ◌∙◌, refl}
use Rattle.wasi_records.specs.declared.records.Record.{Record}
use Rattle.udp_records.specs.declared.udp.UdpInProgress.TheVariants.{Nothing}
use Rattle.wasi_records.specs.Sides.{held_in}
use Rattle.host_store.specs.Store.{Records}
use Rattle.host_udp.specs.UdpCalls.{finish_udp_bind_by}
use Rattle.host_store.proofs.KnownSides.{knows_same}
use Rattle.wasi_records.proofs.UdpLookups.{open_found, open_back, held_in-open}
use Rattle.host_store.specs.declared.store.Store.TheView.{view}
use Rattle.host_udp.proofs.udp_calls.finish_udp_bind.Goals as goal

pub returns-then-not-is_bound-clause-state : goal.returns-then-not-is_bound-clause-state
returns-then-not-is_bound-clause-state c =
    let store : Records = view c.store.inside in
    rw (← c.store.view_is, open_found c.store.inside.records.items c.args.place c.in-Some.socket c.in-Some.ensures.item)
    (ap (λ (l : List Record). let r : Records = record store { records = l } in r) (open_back c.store.inside.records.items c.args.place c.in-Some.socket c.in-Some.ensures.item)
    ∙ sym (ap (λ (b : Bool). (finish_udp_bind_by store c.args.place c.in-Some.socket.now b).1) (sym c.is_bound.ensures ∙ c.if-not-is_bound.true)))

pub returns-clause-answer : goal.returns-clause-answer
returns-clause-answer c = rw (← c.store.view_is, open_found c.store.inside.records.items c.args.place c.in-Some.socket c.in-Some.ensures.item, ← c.is_bound.ensures, c.if-not-is_bound.false) refl

pub returns-clause-state : goal.returns-clause-state
returns-clause-state c = rw (← c.store.view_is, open_found c.store.inside.records.items c.args.place c.in-Some.socket c.in-Some.ensures.item, ← c.is_bound.ensures, c.if-not-is_bound.false) refl

pub returns-clause-sides : goal.returns-clause-sides
returns-clause-sides c = λ s k.
    knows_same _ _ (held_in-open c.store.inside.records.items c.args.place c.in-Some.socket.now (record c.in-Some.socket.now { in_progress = Nothing }) (open_found c.store.inside.records.items c.args.place c.in-Some.socket c.in-Some.ensures.item) refl) (rw (← c.store.view_is) at k)

pub returns-then-not-is_bound-clause-sides : goal.returns-then-not-is_bound-clause-sides
returns-then-not-is_bound-clause-sides c = λ s k. knows_same _ _ (ap held_in (open_back c.store.inside.records.items c.args.place c.in-Some.socket c.in-Some.ensures.item)) (rw (← c.store.view_is) at k)
