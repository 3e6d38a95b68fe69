use Rattle.std.proofs.Common.{◌≡◌, not, ap, sym, ◌∙◌, refl}
use Rattle.wasi_world.proofs.Walks.{asks_end}
use Rattle.wasi_jobs.specs.declared.job.HostJob.TheVariants.{Receive}
use Rattle.host_udp.specs.DatagramCalls.{begins_receive}
use Rattle.wasi_records.specs.Sides.{held_in}
use Rattle.host_store.specs.Store.{Records}
use Rattle.host_udp.proofs.DatagramStores.{begins_now, begins_none, job_noted, knows_open, looked_so}
use Rattle.record_common.proofs.Hosts.{fault_exit, fault_none}
use Rattle.host_store.proofs.KnownSides.{knows_same}
use Rattle.wasi_records.proofs.UdpLookups.{open_back, open_found}
use Rattle.host_udp.proofs.datagram_calls.incoming_ready.Goals.{then-not-before, else-not-before}
use Rattle.host_store.specs.declared.store.Store.TheView.{view}
use Rattle.host_udp.proofs.datagram_calls.incoming_ready.Goals as goal

pub returns-in_err-push-clause-asked : goal.returns-in_err-push-clause-asked
returns-in_err-push-clause-asked g c = fault_none c.from_residual.result c.from_residual.ensures.1 refl

pub returns-in_err-push-clause-sides : goal.returns-in_err-push-clause-sides
returns-in_err-push-clause-sides g c = λ k.
    let store : Records = view c.store.inside in
    knows_same store _ (ap held_in (open_back c.store.inside.records.items c.args.place c.in-Some.socket c.in-Some.ensures.item)) (rw (← c.store.view_is) at k)

pub returns-in_err-looked-clause-asked : goal.returns-in_err-looked-clause-asked
returns-in_err-looked-clause-asked g c =
    rw (← c.store.view_is, open_found c.store.inside.records.items c.args.place c.in-Some.socket c.in-Some.ensures.item)
    (fault_exit _ c.from_residual-in_err-looked.result c.from_residual-in_err-looked.ensures.1 c.in_err-looked.ensures.asked.err)

pub returns-in_err-looked-clause-sides : goal.returns-in_err-looked-clause-sides
returns-in_err-looked-clause-sides g c = λ k.
    let store : Records = view c.store.inside in
    knows_same _ _ refl (knows_open store c.args.place c.in-Some.socket c.look_incoming-looked.new.self c.in-Some.ensures.item c.look_incoming-looked.ensures.side c.look_incoming-looked.ensures.none (rw (← c.store.view_is) at k))

pub returns-clause-asked : goal.returns-clause-asked
returns-clause-asked g c =
    let store : Records = view c.store.inside in
    let began : c.if-not-before.keep_job ≡ begins_receive c.in-Some.socket.now c.look_incoming-looked.new.self = elim c.if-not-before.branch [ then-not-before w ↦ begins_now _ _ _ (sym c.receives-before.ensures ∙ w.if-not-before.true) (w.keep_job-is ∙ c.receives-waits.ensures) | else-not-before w ↦ begins_none _ _ _ (sym c.receives-before.ensures ∙ w.if-not-before.false) (w.keep_job-is ∙ ap not w.if-not-before.false) ] in
    rw (← c.store.view_is, open_found c.store.inside.records.items c.args.place c.in-Some.socket c.in-Some.ensures.item)
    (asks_end _ c.in_ok-looked.ensures.asked.ok (looked_so store _ c.args.place c.in-Some.socket.now c.look_incoming-looked.new.self c.receives-waits.result c.receives-waits.ensures
    (job_noted store c.args.place c.look_incoming-looked.new.self (Receive c.args.place) c.if-not-before.keep_job (begins_receive c.in-Some.socket.now c.look_incoming-looked.new.self) store.jobs c.keep_job.new.jobs.items (c.keep_job.ensures store.jobs (Receive c.args.place) c.in_ok-push.ensures.ok) refl began)))

pub returns-clause-sides : goal.returns-clause-sides
returns-clause-sides g c = λ k.
    let store : Records = view c.store.inside in
    knows_same _ _ refl (knows_open store c.args.place c.in-Some.socket c.look_incoming-looked.new.self c.in-Some.ensures.item c.look_incoming-looked.ensures.side c.look_incoming-looked.ensures.none (rw (← c.store.view_is) at k))
