use Rattle.std.proofs.Common.{◌≡◌, ◌==◌, Ok, Some, false, ap, sym, ◌∙◌, refl, arith}
use Rattle.wasi_world.specs.Asks.{Give}
use Rattle.wasi_world.proofs.Walks.{asks_at, asks_end, asks_then, reaches_on}
use Rattle.wasi_records.specs.Sides.{held_in}
use Rattle.tcp_records.proofs.EndCalms.{calm_look_to_read, calm_read_by_half}
use Rattle.record_common.proofs.SideCounts.{Any}
use Rattle.host_store.specs.Store.{Records}
use Rattle.host_tcp.proofs.ConnectionEnds.{memory_exit, started_in}
use Rattle.host_tcp.proofs.EndPolls.{read_goes, read_looks}
use Rattle.host_store.proofs.KnownSides.{knows_asked}
use Rattle.host_tcp.proofs.end_polls.poll_read_end.Goals as goal

pub returns-in_err-answer-clause-asked : goal.returns-in_err-answer-clause-asked
returns-in_err-answer-clause-asked g c =
    rw c.if-len-eq0.true
    (asks_at (λ asks. asks) (read_looks c.args.store.now c.args.op c.args.finish c.args.end c.in-Some.socket c.in-Some.is)
    (memory_exit _ c.from_residual.result c.from_residual.ensures.1 (started_in (λ a. Give (Ok a, tt)) c.in_err-answer.ensures.asked.err)))

pub returns-in_err-answer-clause-sides : goal.returns-in_err-answer-clause-sides
returns-in_err-answer-clause-sides g c = knows_asked Any _ _ _ (calm_look_to_read c.args.op _) c.look_to_read.ensures.asked (ap (λ (now : Records). held_in now.records) c.look_to_read.ensures.same)

pub returns-then-len-eq0-clause-asked : goal.returns-then-len-eq0-clause-asked
returns-then-len-eq0-clause-asked g c =
    rw c.if-len-eq0.true
    (asks_at (λ asks. asks) (read_looks c.args.store.now c.args.op c.args.finish c.args.end c.in-Some.socket c.in-Some.is)
    (asks_end _ (reaches_on _ c.in_ok-answer.ensures.asked.ok) (rw (c.looked.ensures, c.nothing.ensures, c.look_to_read.ensures.same) refl)))

pub returns-then-len-eq0-clause-sides : goal.returns-then-len-eq0-clause-sides
returns-then-len-eq0-clause-sides g c = knows_asked Any _ _ _ (calm_look_to_read c.args.op _) c.look_to_read.ensures.asked (ap (λ (now : Records). held_in now.records) c.look_to_read.ensures.same)

pub returns-in_err-answer-2-clause-asked : goal.returns-in_err-answer-2-clause-asked
returns-in_err-answer-2-clause-asked g c =
    let some : (c.args.len == 0) ≡ false = grind (arith, c.if-len-eq0.false) in
    asks_at (λ asks. asks) (read_goes c.args.store.now c.args.op c.args.finish c.args.end c.in-Some.socket c.in-Some.is c.args.len some)
    (memory_exit _ c.from_residual-in_err-answer-2.result c.from_residual-in_err-answer-2.ensures.1 (started_in (λ a. Give (Ok a, tt)) (rw (c.min-most.ensures, ← c.in_err-answer-2.ensures) at c.read_by_half.ensures.asked).err))

pub returns-in_err-answer-2-clause-sides : goal.returns-in_err-answer-2-clause-sides
returns-in_err-answer-2-clause-sides g c = knows_asked Any _ _ _ (calm_read_by_half c.args.op _ _) c.read_by_half.ensures.asked (ap (λ (now : Records). held_in now.records) c.read_by_half.ensures.same)

pub returns-clause-asked : goal.returns-clause-asked
returns-clause-asked g c =
    let some : (c.args.len == 0) ≡ false = grind (arith, c.if-len-eq0.false) in
    asks_at (λ asks. asks) (read_goes c.args.store.now c.args.op c.args.finish c.args.end c.in-Some.socket c.in-Some.is c.args.len some)
    (asks_then _ (reaches_on _ (rw (c.min-most.ensures, ← c.in_ok-answer-2.ensures) at c.read_by_half.ensures.asked).ok) (rw c.read_by_half.ensures.same at c.after_read.ensures.asked))

pub returns-clause-sides : goal.returns-clause-sides
returns-clause-sides g c = λ k. c.after_read.ensures.sides (knows_asked Any _ _ _ (calm_read_by_half c.args.op _ _) c.read_by_half.ensures.asked (ap (λ (now : Records). held_in now.records) c.read_by_half.ensures.same) k)
