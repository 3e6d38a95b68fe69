use Rattle.std.proofs.Common.{refl}
use Rattle.wasi_world.proofs.Walks.{asks_end, asks_then}
use Rattle.record_common.specs.Names.{own_of}
use Rattle.host_store.specs.Views.{state_of}
use Rattle.host_streams.proofs.Blocks.{never, call_passed, some_count, read_some}
use Rattle.host_streams.proofs.streams.splice_some.Goals as goal

pub returns-in_err-bytes-clause-asked : goal.returns-in_err-bytes-clause-asked
returns-in_err-bytes-clause-asked g c =
    rw (some_count (own_of c.args.ids.now.line) c.args.to.handle c.args.from.handle
    (state_of c.args.view.now) c.args.count c.if-count-eq0.false) (call_passed _ _ c.from_residual.result
    c.from_residual.ensures.1 c.in_err-bytes.ensures.asked (λ stop. refl))

pub returns-then-is_empty-clause-asked : goal.returns-then-is_empty-clause-asked
returns-then-is_empty-clause-asked g c =
    rw (some_count (own_of c.args.ids.now.line) c.args.to.handle c.args.from.handle
    (state_of c.args.view.now) c.args.count c.if-count-eq0.false) (asks_end _ c.in_ok-bytes.ensures.asked.ok (rw
    (c.is_empty.ensures.0 c.if-is_empty.true) refl))

pub returns-in_err-write-clause-asked : goal.returns-in_err-write-clause-asked
returns-in_err-write-clause-asked g c =
    rw (some_count (own_of c.args.ids.now.line) c.args.to.handle c.args.from.handle
    (state_of c.args.view.now) c.args.count c.if-count-eq0.false) (asks_then _ c.in_ok-bytes.ensures.asked.ok (rw
    (read_some (own_of c.args.ids.now.line) c.args.to.handle c.args.from.handle
    (state_of c.read.new.view) c.in_ok-bytes.bytes (λ e. never _ (c.is_empty.ensures.1 e) c.if-is_empty.false))
    (call_passed _ _ c.from_residual-in_err-write.result c.from_residual-in_err-write.ensures.1
    (rw c.in_ok-bytes.ensures.kept.ids at c.in_err-write.ensures.asked) (λ stop. refl))))

pub returns-clause-asked : goal.returns-clause-asked
returns-clause-asked g c =
    rw (some_count (own_of c.args.ids.now.line) c.args.to.handle c.args.from.handle
    (state_of c.args.view.now) c.args.count c.if-count-eq0.false) (asks_then _ c.in_ok-bytes.ensures.asked.ok (rw
    (read_some (own_of c.args.ids.now.line) c.args.to.handle c.args.from.handle
    (state_of c.read.new.view) c.in_ok-bytes.bytes (λ e. never _ (c.is_empty.ensures.1 e) c.if-is_empty.false))
    (asks_end _ (rw c.in_ok-bytes.ensures.kept.ids at c.in_ok-write.ensures.asked).ok (rw c.len-count.ensures refl))))
