use Rattle.std.proofs.Common.{Some, refl, ap}
use Rattle.wasi_world.proofs.Walks.{asks_at, asks_gives, asks_given}
use Rattle.wasi_streams.proofs.Streams.{stream_none}
use Rattle.wasi_jobs.specs.declared.job.HostJob.TheVariants.{Write}
use Rattle.wasi_tcp.specs.Writer.{write_state_asks}
use Rattle.host_store.specs.Jobs.{noted, write_at}
use Rattle.wasi_records.specs.Sides.{held_in}
use Rattle.host_store.specs.Store.{Records, with_record_put}
use Rattle.tcp_records.specs.Halves.{writer_asks}
use Rattle.host_store.proofs.JobLists.{noted_as, noted_none}
use Rattle.wasi_records.proofs.Lookups.{found_at, none_at, set_back}
use Rattle.record_common.proofs.SideCounts.{Any}
use Rattle.wasi_records.proofs.SideCounts.{held_in-set}
use Rattle.host_store.proofs.KnownSides.{knows_asked, knows_same}
use Rattle.tcp_records.proofs.StreamCounts.{calm_writer, calm_write}
use Rattle.host_store.specs.declared.store.Store.TheView.{view}
use Rattle.host_streams.proofs.connections.write.Goals as goal

pub returns-in_default-clause-asked : goal.returns-in_default-clause-asked
returns-in_default-clause-asked g c =
    let store : Records = view c.store.inside in
    let none = none_at c.store.inside.records.items c.args.place c.in_default.ensures.item in
    rw (← c.store.view_is) (asks_at (write_at store c.args.place (writer_asks (λ w. write_state_asks c.args.op w c.args.bytes))) none (asks_given _ _ refl (noted_none store c.args.place (writer_asks (λ w. write_state_asks c.args.op w c.args.bytes)) none)))

pub returns-in_err-push-clause-asked : goal.returns-in_err-push-clause-asked
returns-in_err-push-clause-asked g c = stream_none c.from_residual.result c.from_residual.ensures.1 refl

pub returns-in_err-push-clause-sides : goal.returns-in_err-push-clause-sides
returns-in_err-push-clause-sides g c = λ k.
    let store : Records = view c.store.inside in
    knows_same store _ (ap held_in (set_back c.store.inside.records.items c.args.place c.in-Some.record c.in-Some.ensures.item)) (rw (← c.store.view_is) at k)

pub returns-clause-asked : goal.returns-clause-asked
returns-clause-asked g c =
    let store : Records = view c.store.inside in
    let found = found_at c.store.inside.records.items c.args.place c.in-Some.record c.in-Some.ensures.item in
    let jobs = c.keep_job.ensures store.jobs (Write c.args.place) c.in_ok-push.ensures.ok in
    let is = noted_as store c.args.place c.in-Some.record.now c.write_noting-written.new.self c.write_noting-written.result.1 c.keep_job.new.jobs.items found c.write_noting-written.ensures.begins jobs in
    rw (← c.store.view_is, found, ← is) (asks_gives (noted c.args.place (Some c.in-Some.record.now)) (asks_gives (with_record_put store c.args.place) c.write_noting-written.ensures.asked))

pub returns-clause-sides : goal.returns-clause-sides
returns-clause-sides g c = λ k.
    knows_asked Any _ _ _ (calm_writer _ c.in-Some.record.now (λ w. calm_write c.args.op w c.args.bytes)) c.write_noting-written.ensures.asked
    (held_in-set c.store.inside.records.items c.args.place c.in-Some.record.now c.write_noting-written.new.self (found_at c.store.inside.records.items c.args.place c.in-Some.record c.in-Some.ensures.item) c.write_noting-written.ensures.side c.write_noting-written.ensures.listening)
    (rw (← c.store.view_is) at k)
