use Rattle.std.proofs.Common.{◌≡◌, not, ap, sym, ◌∙◌, refl, [], ◌∷◌, ◌++◌}
use Rattle.wasi_world.proofs.Walks.{asks_gives}
use Rattle.wasi_jobs.specs.declared.job.HostJob.TheVariants.{Receive}
use Rattle.host_udp.specs.DatagramCalls.{begins_receive, with_receive}
use Rattle.wasi_records.specs.Records.{open_put}
use Rattle.wasi_records.specs.Sides.{held_in}
use Rattle.host_store.specs.Store.{Records}
use Rattle.host_udp.proofs.DatagramStores.{asks_as, begins_now, begins_none, job_noted, nothing_taken, taken_lost}
use Rattle.record_common.proofs.Hosts.{host_none}
use Rattle.host_store.proofs.KnownSides.{knows_none, knows_same}
use Rattle.wasi_records.proofs.UdpLookups.{open_back, open_found, held_in-open}
use Rattle.host_udp.proofs.datagram_calls.receive_datagrams.Goals.{then-not-before, else-not-before}
use Rattle.host_store.specs.declared.store.Store.TheView.{view}
use Rattle.host_udp.proofs.datagram_calls.receive_datagrams.Goals as goal

pub returns-in_err-push-clause-asked : goal.returns-in_err-push-clause-asked
returns-in_err-push-clause-asked g c = host_none c.from_residual.result c.from_residual.ensures.1 refl

pub returns-in_err-push-clause-sides : goal.returns-in_err-push-clause-sides
returns-in_err-push-clause-sides g c = λ k.
    let store : Records = view c.store.inside in
    knows_same store _ (ap held_in (open_back c.store.inside.records.items c.args.place c.in-Some.socket c.in-Some.ensures.item)) (rw (← c.store.view_is) at k)

pub returns-clause-asked : goal.returns-clause-asked
returns-clause-asked g c =
    let store : Records = view c.store.inside in
    let recs : c.if-not-before.store-inside.records.items ≡ open_put store.records c.args.place c.receive_datagrams-received.new.self = elim c.if-not-before.branch [ then-not-before w ↦ rw w.store-inside-is refl | else-not-before w ↦ rw w.store-inside-is refl ] in
    let pushed : c.if-not-before.store-inside.jobs.items ≡ store.jobs ++ Receive c.args.place ∷ [] = elim c.if-not-before.branch [ then-not-before w ↦ rw w.store-inside-is c.in_ok-push.ensures.ok | else-not-before w ↦ rw w.store-inside-is c.in_ok-push.ensures.ok ] in
    let stands : c.if-not-before.store-inside.standing ≡ store.standing = elim c.if-not-before.branch [ then-not-before w ↦ rw w.store-inside-is refl | else-not-before w ↦ rw w.store-inside-is refl ] in
    let besides : c.if-not-before.store-inside.beside ≡ store.beside = elim c.if-not-before.branch [ then-not-before w ↦ rw w.store-inside-is refl | else-not-before w ↦ rw w.store-inside-is refl ] in
    let limits : c.if-not-before.store-inside.limits.items ≡ store.limits = elim c.if-not-before.branch [ then-not-before w ↦ rw w.store-inside-is refl | else-not-before w ↦ rw w.store-inside-is refl ] in
    let began : c.if-not-before.begins ≡ begins_receive c.in-Some.socket.now c.receive_datagrams-received.new.self = elim c.if-not-before.branch [ then-not-before w ↦ begins_now _ _ _ (sym c.receives-before.ensures ∙ w.if-not-before.true) (w.begins-is ∙ w.receives-begins.ensures) | else-not-before w ↦ begins_none _ _ _ (sym c.receives-before.ensures ∙ w.if-not-before.false) (w.begins-is ∙ ap not w.if-not-before.false) ] in
    rw (← c.store.view_is, open_found c.store.inside.records.items c.args.place c.in-Some.socket c.in-Some.ensures.item, recs, stands, besides, limits)
    (asks_as (job_noted store c.args.place c.receive_datagrams-received.new.self (Receive c.args.place) c.if-not-before.begins (begins_receive c.in-Some.socket.now c.receive_datagrams-received.new.self) store.jobs c.keep_job.new.jobs.items (c.keep_job.ensures store.jobs (Receive c.args.place) pushed) refl began)
    (asks_gives (λ d. (d.0, with_receive store c.args.place c.in-Some.socket.now d.1)) c.receive_datagrams-received.ensures.asked))

pub returns-clause-sides : goal.returns-clause-sides
returns-clause-sides g c = λ k.
    let store : Records = view c.store.inside in
    let recs : c.if-not-before.store-inside.records.items ≡ open_put store.records c.args.place c.receive_datagrams-received.new.self = elim c.if-not-before.branch [ then-not-before w ↦ rw w.store-inside-is refl | else-not-before w ↦ rw w.store-inside-is refl ] in
    knows_none store _ c.receive_datagrams-received.ensures.none (ap held_in recs ∙ held_in-open c.store.inside.records.items c.args.place c.in-Some.socket.now c.receive_datagrams-received.new.self (open_found c.store.inside.records.items c.args.place c.in-Some.socket c.in-Some.ensures.item) c.receive_datagrams-received.ensures.side) (rw (← c.store.view_is) at k)

pub returns-in_err-push-clause-lost : goal.returns-in_err-push-clause-lost
returns-in_err-push-clause-lost g c =
    let store : Records = view c.store.inside in
    rw (← c.store.view_is, open_found c.store.inside.records.items c.args.place c.in-Some.socket c.in-Some.ensures.item, c.in_err-push.ensures.err)
    (nothing_taken c.from_residual.result c.args.most c.args.ids.now c.args.place store _ c.in-Some.socket.now _ refl)

pub returns-clause-lost : goal.returns-clause-lost
returns-clause-lost g c =
    let store : Records = view c.store.inside in
    let recs : c.if-not-before.store-inside.records.items ≡ open_put store.records c.args.place c.receive_datagrams-received.new.self = elim c.if-not-before.branch [ then-not-before w ↦ rw w.store-inside-is refl | else-not-before w ↦ rw w.store-inside-is refl ] in
    let pushed : c.if-not-before.store-inside.jobs.items ≡ store.jobs ++ Receive c.args.place ∷ [] = elim c.if-not-before.branch [ then-not-before w ↦ rw w.store-inside-is c.in_ok-push.ensures.ok | else-not-before w ↦ rw w.store-inside-is c.in_ok-push.ensures.ok ] in
    let stands : c.if-not-before.store-inside.standing ≡ store.standing = elim c.if-not-before.branch [ then-not-before w ↦ rw w.store-inside-is refl | else-not-before w ↦ rw w.store-inside-is refl ] in
    let besides : c.if-not-before.store-inside.beside ≡ store.beside = elim c.if-not-before.branch [ then-not-before w ↦ rw w.store-inside-is refl | else-not-before w ↦ rw w.store-inside-is refl ] in
    let limits : c.if-not-before.store-inside.limits.items ≡ store.limits = elim c.if-not-before.branch [ then-not-before w ↦ rw w.store-inside-is refl | else-not-before w ↦ rw w.store-inside-is refl ] in
    let began : c.if-not-before.begins ≡ begins_receive c.in-Some.socket.now c.receive_datagrams-received.new.self = elim c.if-not-before.branch [ then-not-before w ↦ begins_now _ _ _ (sym c.receives-before.ensures ∙ w.if-not-before.true) (w.begins-is ∙ w.receives-begins.ensures) | else-not-before w ↦ begins_none _ _ _ (sym c.receives-before.ensures ∙ w.if-not-before.false) (w.begins-is ∙ ap not w.if-not-before.false) ] in
    rw (← c.store.view_is, open_found c.store.inside.records.items c.args.place c.in-Some.socket c.in-Some.ensures.item, recs, stands, besides, limits)
    (taken_lost _ _ c.receive_datagrams-received.result c.args.most c.args.ids.now c.args.place store _ c.in-Some.socket.now c.receive_datagrams-received.new.self
    (job_noted store c.args.place c.receive_datagrams-received.new.self (Receive c.args.place) c.if-not-before.begins (begins_receive c.in-Some.socket.now c.receive_datagrams-received.new.self) store.jobs c.keep_job.new.jobs.items (c.keep_job.ensures store.jobs (Receive c.args.place) pushed) refl began)
    c.receive_datagrams-received.ensures.lost)
