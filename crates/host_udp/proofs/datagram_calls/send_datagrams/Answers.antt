use Rattle.std.proofs.Common.{◌≡◌, not, ap, sym, ◌∙◌, refl, [], ◌∷◌, ◌++◌}
use Rattle.wasi_world.proofs.Walks.{asks_gives}
use Rattle.wasi_jobs.specs.declared.job.HostJob.TheVariants.{Datagram}
use Rattle.host_udp.specs.DatagramCalls.{begins_send, datagrams_sent}
use Rattle.wasi_records.specs.Records.{open_put}
use Rattle.wasi_records.specs.Sides.{held_in}
use Rattle.host_store.specs.Store.{Records}
use Rattle.host_udp.proofs.DatagramStores.{asks_as, begins_now, begins_none, job_noted}
use Rattle.record_common.proofs.Hosts.{host_none}
use Rattle.host_store.proofs.KnownSides.{knows_none, knows_same}
use Rattle.wasi_records.proofs.UdpLookups.{open_back, open_found, held_in-open}
use Rattle.host_udp.proofs.datagram_calls.send_datagrams.Goals.{then-not-before, else-not-before}
use Rattle.host_store.specs.declared.store.Store.TheView.{view}
use Rattle.host_udp.proofs.datagram_calls.send_datagrams.Goals as goal

pub returns-in_err-push-clause-asked : goal.returns-in_err-push-clause-asked
returns-in_err-push-clause-asked g c = host_none c.from_residual.result c.from_residual.ensures.1 refl

pub returns-in_err-push-clause-sides : goal.returns-in_err-push-clause-sides
returns-in_err-push-clause-sides g c = λ k.
    let store : Records = view c.store.inside in
    knows_same store _ (ap held_in (open_back c.store.inside.records.items c.args.place c.in-Some.socket c.in-Some.ensures.item)) (rw (← c.store.view_is) at k)

pub returns-clause-asked : goal.returns-clause-asked
returns-clause-asked g c =
    let store : Records = view c.store.inside in
    let recs : c.if-not-before.store-inside.records.items ≡ open_put store.records c.args.place c.send_datagrams-sent.new.self = elim c.if-not-before.branch [ then-not-before w ↦ rw w.store-inside-is refl | else-not-before w ↦ rw w.store-inside-is refl ] in
    let pushed : c.if-not-before.store-inside.jobs.items ≡ store.jobs ++ Datagram c.args.place ∷ [] = elim c.if-not-before.branch [ then-not-before w ↦ rw w.store-inside-is c.in_ok-push.ensures.ok | else-not-before w ↦ rw w.store-inside-is c.in_ok-push.ensures.ok ] in
    let stands : c.if-not-before.store-inside.standing ≡ store.standing = elim c.if-not-before.branch [ then-not-before w ↦ rw w.store-inside-is refl | else-not-before w ↦ rw w.store-inside-is refl ] in
    let besides : c.if-not-before.store-inside.beside ≡ store.beside = elim c.if-not-before.branch [ then-not-before w ↦ rw w.store-inside-is refl | else-not-before w ↦ rw w.store-inside-is refl ] in
    let limits : c.if-not-before.store-inside.limits.items ≡ store.limits = elim c.if-not-before.branch [ then-not-before w ↦ rw w.store-inside-is refl | else-not-before w ↦ rw w.store-inside-is refl ] in
    let began : c.if-not-before.begins ≡ begins_send c.in-Some.socket.now c.send_datagrams-sent.new.self = elim c.if-not-before.branch [ then-not-before w ↦ begins_now _ _ _ (sym c.sends-before.ensures ∙ w.if-not-before.true) (w.begins-is ∙ w.sends-begins.ensures) | else-not-before w ↦ begins_none _ _ _ (sym c.sends-before.ensures ∙ w.if-not-before.false) (w.begins-is ∙ ap not w.if-not-before.false) ] in
    rw (← c.store.view_is, open_found c.store.inside.records.items c.args.place c.in-Some.socket c.in-Some.ensures.item, recs, stands, besides, limits)
    (asks_as (job_noted store c.args.place c.send_datagrams-sent.new.self (Datagram c.args.place) c.if-not-before.begins (begins_send c.in-Some.socket.now c.send_datagrams-sent.new.self) store.jobs c.keep_job.new.jobs.items (c.keep_job.ensures store.jobs (Datagram c.args.place) pushed) refl began)
    (asks_gives (datagrams_sent store c.args.place c.in-Some.socket.now) c.send_datagrams-sent.ensures.asked))

pub returns-clause-sides : goal.returns-clause-sides
returns-clause-sides g c = λ k.
    let store : Records = view c.store.inside in
    let recs : c.if-not-before.store-inside.records.items ≡ open_put store.records c.args.place c.send_datagrams-sent.new.self = elim c.if-not-before.branch [ then-not-before w ↦ rw w.store-inside-is refl | else-not-before w ↦ rw w.store-inside-is refl ] in
    knows_none store _ c.send_datagrams-sent.ensures.none (ap held_in recs ∙ held_in-open c.store.inside.records.items c.args.place c.in-Some.socket.now c.send_datagrams-sent.new.self (open_found c.store.inside.records.items c.args.place c.in-Some.socket c.in-Some.ensures.item) c.send_datagrams-sent.ensures.side) (rw (← c.store.view_is) at k)
