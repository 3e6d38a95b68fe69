use Rattle.std.proofs.Common.{◌≡◌, Ok, Some, ap, sym, ◌∙◌, refl}
use Rattle.std.proofs.lemmas.List.{take_min}
use Rattle.wasi_world.specs.Asks.{Give}
use Rattle.wasi_world.proofs.Walks.{asks_at, asks_end, asks_then, reaches_on}
use Rattle.wasi_records.specs.Sides.{held_in}
use Rattle.tcp_records.proofs.EndCalms.{calm_look_to_write, calm_write_by_half}
use Rattle.record_common.proofs.SideCounts.{Any}
use Rattle.host_store.specs.Store.{Records}
use Rattle.host_tcp.proofs.ConnectionEnds.{memory_exit, started_in}
use Rattle.host_tcp.proofs.EndPolls.{no_bytes, some_bytes, write_goes, write_looks}
use Rattle.host_store.proofs.KnownSides.{knows_asked}
use Rattle.host_tcp.proofs.end_polls.poll_write_end.Goals as goal

pub returns-in_err-answer-clause-asked : goal.returns-in_err-answer-clause-asked
returns-in_err-answer-clause-asked g c =
    rw (no_bytes c.args.bytes.now c.if-is_empty.ensures)
    (asks_at (λ asks. asks) (write_looks c.args.store.now c.args.op c.args.finish c.args.end c.in-Some.socket c.in-Some.is)
    (memory_exit _ c.from_residual.result c.from_residual.ensures.1 (started_in (λ a. Give (Ok a, tt)) c.in_err-answer.ensures.asked.err)))

pub returns-in_err-answer-clause-sides : goal.returns-in_err-answer-clause-sides
returns-in_err-answer-clause-sides g c = knows_asked Any _ _ _ (calm_look_to_write c.args.op _) c.look_to_write.ensures.asked (ap (λ (now : Records). held_in now.records) c.look_to_write.ensures.same)

pub returns-then-is_empty-clause-asked : goal.returns-then-is_empty-clause-asked
returns-then-is_empty-clause-asked g c =
    rw (no_bytes c.args.bytes.now c.if-is_empty.ensures)
    (asks_at (λ asks. asks) (write_looks c.args.store.now c.args.op c.args.finish c.args.end c.in-Some.socket c.in-Some.is)
    (asks_end _ (reaches_on _ c.in_ok-answer.ensures.asked.ok) (rw (c.looked.ensures, c.look_to_write.ensures.same) refl)))

pub returns-then-is_empty-clause-sides : goal.returns-then-is_empty-clause-sides
returns-then-is_empty-clause-sides g c = knows_asked Any _ _ _ (calm_look_to_write c.args.op _) c.look_to_write.ensures.asked (ap (λ (now : Records). held_in now.records) c.look_to_write.ensures.same)

pub returns-in_err-answer-2-clause-asked : goal.returns-in_err-answer-2-clause-asked
returns-in_err-answer-2-clause-asked g c =
    asks_at (λ asks. asks) (write_goes c.args.store.now c.args.op c.args.finish c.args.end c.in-Some.socket c.in-Some.is c.args.bytes.now (some_bytes c.args.bytes.now c.if-is_empty.ensures))
    (memory_exit _ c.from_residual-in_err-answer-2.result c.from_residual-in_err-answer-2.ensures.1 (started_in (λ a. Give (Ok a, tt)) (rw (c.min-most.ensures, take_min 4294967295 c.args.bytes.now, ← c.in_err-answer-2.ensures) at c.write_by_half.ensures.asked).err))

pub returns-in_err-answer-2-clause-sides : goal.returns-in_err-answer-2-clause-sides
returns-in_err-answer-2-clause-sides g c = knows_asked Any _ _ _ (calm_write_by_half c.args.op _ _) c.write_by_half.ensures.asked (ap (λ (now : Records). held_in now.records) c.write_by_half.ensures.same)

pub returns-clause-asked : goal.returns-clause-asked
returns-clause-asked g c =
    asks_at (λ asks. asks) (write_goes c.args.store.now c.args.op c.args.finish c.args.end c.in-Some.socket c.in-Some.is c.args.bytes.now (some_bytes c.args.bytes.now c.if-is_empty.ensures))
    (asks_then _ (reaches_on _ (rw (c.min-most.ensures, take_min 4294967295 c.args.bytes.now, ← c.in_ok-answer-2.ensures) at c.write_by_half.ensures.asked).ok) (rw c.write_by_half.ensures.same at c.after_write.ensures.asked))

pub returns-clause-sides : goal.returns-clause-sides
returns-clause-sides g c = λ k. c.after_write.ensures.sides (knows_asked Any _ _ _ (calm_write_by_half c.args.op _ _) c.write_by_half.ensures.asked (ap (λ (now : Records). held_in now.records) c.write_by_half.ensures.same) k)
