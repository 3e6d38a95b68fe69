use Rattle.std.proofs.Common.{Err, ◌∙◌, arith, refl}
use Rattle.std.specs.Vec.{vec_len}
use Rattle.wasi_world.proofs.Walks.{reaches_all, reaches_then, refused_none, asks_err, asks_ok}
use Rattle.udp_records.proofs.ReceiveLists.{one_more, none_came, code_came, all_begun, all_taken, no_room, some_told, none_told, same_line, name_kept, name_more, took_one, none_less, none_lost, taken_lost}
use Rattle.record_common.proofs.SideCounts.{none_first, none_then}
use Rattle.udp_records.proofs.datagrams.Incoming.receive_all.Goals as goal
use Rattle.udp_records.proofs.datagrams.Incoming.receive_all.Goals.{else-loop-test, then-loop-test+then-room-eq0, then-loop-test+else-room-eq0+in-Ok-Pending, then-loop-test+else-room-eq0+in-Err-Code+else-is_empty}

pub returns-in_err-datagrams-clause-asked : goal.returns-in_err-datagrams-clause-asked
returns-in_err-datagrams-clause-asked g c = refused_none c.from_residual.result c.from_residual.ensures.1 refl

pub loop-init : goal.loop-init
loop-init g c = record {
  reached = rw (c.in_ok-datagrams.ensures.items, none_less c.args.most) (reaches_all _ _);
  line = refl;
  forth = omega arith;
  part = omega arith;
  count = let n = c.in_ok-datagrams.ensures.len in omega arith;
  capacity = c.in_ok-datagrams.ensures.capacity;
  none = none_first _;
  side = refl;
  still = c.requires.open;
}

pub receive_next-requires-clause-open : goal.receive_next-requires-clause-open
receive_next-requires-clause-open g c = c.loop.invariant.still

pub receive_next-requires-clause-names : goal.receive_next-requires-clause-names
receive_next-requires-clause-names g c = let n = c.requires.names in let p = c.loop.invariant.part in let l = c.loop-test.true in omega arith

pub push_reserved-requires : goal.push_reserved-requires
push_reserved-requires g c = let n = c.loop.invariant.count in let m = c.loop.invariant.capacity in let l = c.loop-test.true in omega arith

pub loop-preserved : goal.loop-preserved
loop-preserved g c = record {
  reached = reaches_then c.loop.invariant.reached (one_more c.args.most c.loop.counter c.loop.room c.saturating_sub-room.result c.loop.ids c.receive_next.new.ids c.loop.datagrams.items c.push_reserved.new.self.items c.in-Ok-Ready.datagram (c.loop.socket, c.loop.self) (c.receive_next.new.socket, c.receive_next.new.self) c.loop-test.true c.if-room-eq0.false (rw (c.saturating_sub-room.ensures, c.saturating_sub.ensures, c.len.ensures) refl) c.receive_next.ensures.names c.push_reserved.ensures.items (rw c.in-Ok-Ready.field-0-is at c.in-Ok-Ready.ensures.asked.ok));
  line = same_line _ _ _ c.receive_next.ensures.names ∙ c.loop.invariant.line;
  forth = let n = name_kept c.loop.self.receiving c.loop.ids c.receive_next.new.ids c.receive_next.ensures.names in let p = c.loop.invariant.forth in omega arith;
  part = let n = name_more c.loop.self.receiving c.loop.ids c.receive_next.new.ids c.receive_next.ensures.names in let p = c.loop.invariant.part in omega arith;
  count = let n = c.push_reserved.ensures.len in let p = c.loop.invariant.count in omega arith;
  capacity = let n = c.push_reserved.ensures.capacity in let p = c.loop.invariant.capacity in omega arith;
  none = none_then c.loop.invariant.none c.receive_next.ensures.none;
  side = c.receive_next.ensures.side ∙ c.loop.invariant.side;
  still = c.receive_next.ensures.asked.ended ∙ c.loop.invariant.still;
}

pub returns-then-is_empty-clause-asked : goal.returns-then-is_empty-clause-asked
returns-then-is_empty-clause-asked g c = rw c.in-Err-Code.field-0-is
    (asks_ok (reaches_then c.loop.invariant.reached (code_came c.args.most c.loop.counter c.loop.room c.loop.ids c.loop.datagrams.items c.in-Err-Code.code (c.loop.socket, c.loop.self) (c.receive_next.new.socket, c.receive_next.new.self) (Err c.in-Err-Code.code) c.loop-test.true c.if-room-eq0.false (none_told c.loop.datagrams.items (vec_len c.loop.datagrams) c.in-Err-Code.code (let n = c.loop.datagrams.ok in omega arith) c.if-is_empty.ensures) (rw c.in-Err-Code.field-0-is at c.in-Err-Code.ensures.asked.ok))))

pub returns-then-is_empty-clause-none : goal.returns-then-is_empty-clause-none
returns-then-is_empty-clause-none g c = none_then c.loop.invariant.none c.receive_next.ensures.none

pub returns-in-Err-Memory-clause-asked : goal.returns-in-Err-Memory-clause-asked
returns-in-Err-Memory-clause-asked g c =
    asks_err _ (all_begun c.args.most c.loop.counter c.loop.room c.loop.ids c.loop.datagrams.items (c.loop.socket, c.loop.self) c.loop.invariant.reached c.loop-test.true c.if-room-eq0.false (rw c.in-Err-Memory.field-0-is at c.in-Err-Memory.ensures.asked.err)).reached

pub returns-in-Err-Memory-clause-none : goal.returns-in-Err-Memory-clause-none
returns-in-Err-Memory-clause-none g c = none_then c.loop.invariant.none c.receive_next.ensures.none

pub returns-clause-asked : goal.returns-clause-asked
returns-clause-asked g c = elim c.loop-test.branch [
  | else-loop-test w ↦ rw (w.world-is, w.self-is, w.socket-is, c.from_vec.ensures) (asks_ok (reaches_then c.loop.invariant.reached (all_taken c.args.most c.loop.counter c.loop.room c.loop.ids c.loop.datagrams.items (c.loop.socket, c.loop.self) _ w.loop-test.false)))
  | then-loop-test+then-room-eq0 w ↦ rw (w.world-is, w.self-is, w.socket-is, c.from_vec.ensures) (asks_ok (reaches_then c.loop.invariant.reached (no_room _ c.loop.room c.loop.ids c.loop.datagrams.items (c.loop.socket, c.loop.self) _ w.if-room-eq0.true)))
  | then-loop-test+else-room-eq0+in-Ok-Pending w ↦ rw (w.world-is, w.self-is, w.socket-is, c.from_vec.ensures) (asks_ok (reaches_then c.loop.invariant.reached (none_came c.args.most c.loop.counter c.loop.room c.loop.ids c.loop.datagrams.items (c.loop.socket, c.loop.self) (w.receive_next.new.socket, w.receive_next.new.self) w.loop-test.true w.if-room-eq0.false (rw w.in-Ok-Pending.field-0-is at w.in-Ok-Pending.ensures.asked.ok))))
  | then-loop-test+else-room-eq0+in-Err-Code+else-is_empty w ↦ rw (w.world-is, w.self-is, w.socket-is, c.from_vec.ensures) (asks_ok (reaches_then c.loop.invariant.reached (code_came c.args.most c.loop.counter c.loop.room c.loop.ids c.loop.datagrams.items w.in-Err-Code.code (c.loop.socket, c.loop.self) (w.receive_next.new.socket, w.receive_next.new.self) _ w.loop-test.true w.if-room-eq0.false (some_told c.loop.datagrams.items (vec_len c.loop.datagrams) w.in-Err-Code.code (let n = c.loop.datagrams.ok in omega arith) w.if-is_empty.ensures) (rw w.in-Err-Code.field-0-is at w.in-Err-Code.ensures.asked.ok))))
]

pub returns-clause-none : goal.returns-clause-none
returns-clause-none g c = elim c.loop-test.branch [
  | else-loop-test w ↦ rw w.world-is c.loop.invariant.none
  | then-loop-test+then-room-eq0 w ↦ rw w.world-is c.loop.invariant.none
  | then-loop-test+else-room-eq0+in-Ok-Pending w ↦ rw w.world-is (none_then c.loop.invariant.none w.receive_next.ensures.none)
  | then-loop-test+else-room-eq0+in-Err-Code+else-is_empty w ↦ rw w.world-is (none_then c.loop.invariant.none w.receive_next.ensures.none)
]

pub returns-in_err-datagrams-clause-lost : goal.returns-in_err-datagrams-clause-lost
returns-in_err-datagrams-clause-lost g c = none_lost _ _ _ _ _ c.from_residual.result

pub returns-in-Err-Memory-clause-lost : goal.returns-in-Err-Memory-clause-lost
returns-in-Err-Memory-clause-lost g c = taken_lost _ _ _ _ _ _ _ _ _ _ _ _ _ c.loop.invariant.reached (rw c.in-Err-Memory.field-0-is at c.in-Err-Memory.ensures.asked.err) (rw c.in-Err-Memory.field-0-is at c.in-Err-Memory.ensures.stays)

pub returns-then-is_empty-clause-parts : goal.returns-then-is_empty-clause-parts
returns-then-is_empty-clause-parts g c = took_one c.args.ids.now c.loop.ids c.receive_next.new.ids c.args.most c.loop.counter c.loop.invariant.forth c.loop.invariant.part c.loop-test.true (name_kept c.loop.self.receiving c.loop.ids c.receive_next.new.ids c.receive_next.ensures.names) (name_more c.loop.self.receiving c.loop.ids c.receive_next.new.ids c.receive_next.ensures.names)

pub returns-in-Err-Memory-clause-parts : goal.returns-in-Err-Memory-clause-parts
returns-in-Err-Memory-clause-parts g c = took_one c.args.ids.now c.loop.ids c.receive_next.new.ids c.args.most c.loop.counter c.loop.invariant.forth c.loop.invariant.part c.loop-test.true (name_kept c.loop.self.receiving c.loop.ids c.receive_next.new.ids c.receive_next.ensures.names) (name_more c.loop.self.receiving c.loop.ids c.receive_next.new.ids c.receive_next.ensures.names)
