use Rattle.std.proofs.Common.{Bool, List, ap, sym, ◌∙◌, refl}
use Rattle.wasi_records.specs.Sides.{held_in}
use Rattle.wasi_records.specs.declared.records.Record.{Record}
use Rattle.tcp_records.specs.declared.tcp_binding.InProgress.TheVariants.{Nothing}
use Rattle.host_store.specs.Store.{Records}
use Rattle.host_tcp.specs.TcpCalls.{finish_by}
use Rattle.wasi_records.proofs.Lookups.{found_at, set_back}
use Rattle.wasi_records.proofs.SideCounts.{held_in-set}
use Rattle.host_store.proofs.KnownSides.{knows_same}
use Rattle.host_store.specs.declared.store.Store.TheView.{view}
use Rattle.host_tcp.proofs.tcp_calls.tcp_finish.Goals as goal

pub returns-then-not-is_started-clause-state : goal.returns-then-not-is_started-clause-state
returns-then-not-is_started-clause-state c =
    let store : Records = view c.store.inside in
    rw (← c.store.view_is, found_at c.store.inside.records.items c.args.place c.in-Some.record c.in-Some.ensures.item)
    (ap (λ (l : List Record). let r : Records = record store { records = l } in r) (set_back c.store.inside.records.items c.args.place c.in-Some.record c.in-Some.ensures.item)
    ∙ sym (ap (λ (b : Bool). (finish_by store c.args.place c.in-Some.record.now b).1) (sym c.is_started.ensures ∙ c.if-not-is_started.true)))

pub returns-clause-answer : goal.returns-clause-answer
returns-clause-answer c = rw (← c.store.view_is, found_at c.store.inside.records.items c.args.place c.in-Some.record c.in-Some.ensures.item, ← c.is_started.ensures, c.if-not-is_started.false) refl

pub returns-clause-state : goal.returns-clause-state
returns-clause-state c = rw (← c.store.view_is, found_at c.store.inside.records.items c.args.place c.in-Some.record c.in-Some.ensures.item, ← c.is_started.ensures, c.if-not-is_started.false) refl

pub returns-clause-sides : goal.returns-clause-sides
returns-clause-sides c = λ s k.
    knows_same _ _ (held_in-set c.store.inside.records.items c.args.place c.in-Some.record.now (record c.in-Some.record.now { in_progress = Nothing }) (found_at c.store.inside.records.items c.args.place c.in-Some.record c.in-Some.ensures.item) refl refl) (rw (← c.store.view_is) at k)

pub returns-then-not-is_started-clause-sides : goal.returns-then-not-is_started-clause-sides
returns-then-not-is_started-clause-sides c = λ s k. knows_same _ _ (ap held_in (set_back c.store.inside.records.items c.args.place c.in-Some.record c.in-Some.ensures.item)) (rw (← c.store.view_is) at k)
