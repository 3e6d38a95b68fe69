use Rattle.std.proofs.Common.{Ok, refl, sym, ap, ◌∙◌, arith, length}
use Rattle.wasi_world.proofs.Walks.{reaches_all}
use Rattle.udp_records.specs.Datagrams.{send_all}
use Rattle.udp_records.proofs.DatagramLists.{parts_more, list_goes, list_waits, list_refused, list_ends, one_taken, one_wanted}
use Rattle.record_common.proofs.SideCounts.{none_first, none_then}
use Rattle.udp_records.proofs.datagrams.Outgoing.send_all.Goals as goal

pub loop-datagram-init : goal.loop-datagram-init
loop-datagram-init g c =
    let e = c.into_iter-datagram-iterator.ensures.into_iter_gives.0 in
    let h = c.requires.names in
    record {
      goes = tt;
      ends = tt;
      reached = rw e (reaches_all (send_all 0 c.args.ids.now c.args.datagrams.items (c.args.socket.now, c.args.self.now)) _);
      names = rw e h;
      fits = rw e (omega arith);
      line = refl;
      forth = omega arith;
      few = rw e (omega arith);
      none = none_first _;
      side = refl;
      still = c.requires.open;
    }

pub send_next-requires-clause-open : goal.send_next-requires-clause-open
send_next-requires-clause-open g c = c.loop-datagram.invariant.still

pub send_next-requires-clause-names : goal.send_next-requires-clause-names
send_next-requires-clause-names g c = one_wanted c.loop-datagram.ids.next_part c.in-Some.datagram c.loop-datagram.datagram-iterator.rest.items c.next.new.self.rest.items c.in-Some.ensures.steps.0 c.loop-datagram.invariant.names

pub overflow_add-sent : goal.overflow_add-sent
overflow_add-sent g c =
    let k = one_wanted c.loop-datagram.sent c.in-Some.datagram c.loop-datagram.datagram-iterator.rest.items c.next.new.self.rest.items c.in-Some.ensures.steps.0 c.loop-datagram.invariant.fits in
    omega (arith, k)

pub loop-datagram-preserved : goal.loop-datagram-preserved
loop-datagram-preserved g c =
    let i = c.loop-datagram.invariant in
    let e = c.in-Some.ensures.steps.0 in
    let is = c.in-Ok-Ready.is ∙ ap Ok c.in-Ok-Ready.field-0-is in
    let n = c.send_next.ensures.names is in
    record {
      goes = tt;
      ends = tt;
      reached = list_goes c.loop-datagram.sent c.loop-datagram.ids c.send_next.new.ids c.in-Some.datagram c.loop-datagram.datagram-iterator.rest.items c.next.new.self.rest.items (c.loop-datagram.socket, c.loop-datagram.self) (c.send_next.new.socket, c.send_next.new.self) c.send_next.result e is n i.reached c.send_next.ensures.asked;
      names = rw n (one_taken c.loop-datagram.ids.next_part c.in-Some.datagram c.loop-datagram.datagram-iterator.rest.items c.next.new.self.rest.items e i.names);
      fits = one_taken c.loop-datagram.sent c.in-Some.datagram c.loop-datagram.datagram-iterator.rest.items c.next.new.self.rest.items e i.fits;
      line = c.send_next.ensures.line ∙ i.line;
      forth = let p = i.forth in let q = c.send_next.ensures.parts.kept in omega arith;
      few = let p = i.few in let q = c.send_next.ensures.parts.few in let len = ap length e in omega arith;
      none = none_then i.none c.send_next.ensures.none;
      side = c.send_next.ensures.side ∙ i.side;
      still = c.send_next.ensures.asked.ended ∙ i.still;
    }

pub returns-in-Ok-Pending-clause-asked : goal.returns-in-Ok-Pending-clause-asked
returns-in-Ok-Pending-clause-asked g c = list_waits c.loop-datagram.sent c.loop-datagram.ids c.in-Some.datagram c.loop-datagram.datagram-iterator.rest.items c.next.new.self.rest.items (c.loop-datagram.socket, c.loop-datagram.self) (c.send_next.new.socket, c.send_next.new.self) c.send_next.result c.in-Some.ensures.steps.0 (c.in-Ok-Pending.is ∙ ap Ok c.in-Ok-Pending.field-0-is) c.loop-datagram.invariant.reached c.send_next.ensures.asked

pub returns-in-Ok-Pending-clause-line : goal.returns-in-Ok-Pending-clause-line
returns-in-Ok-Pending-clause-line g c = c.send_next.ensures.line ∙ c.loop-datagram.invariant.line

pub returns-in-Ok-Pending-clause-parts : goal.returns-in-Ok-Pending-clause-parts
returns-in-Ok-Pending-clause-parts g c = parts_more c.loop-datagram.invariant.forth c.loop-datagram.invariant.few c.send_next.ensures.parts (ap length c.in-Some.ensures.steps.0)

pub returns-in-Ok-Pending-clause-none : goal.returns-in-Ok-Pending-clause-none
returns-in-Ok-Pending-clause-none g c = none_then c.loop-datagram.invariant.none c.send_next.ensures.none

pub returns-in-Ok-Pending-clause-side : goal.returns-in-Ok-Pending-clause-side
returns-in-Ok-Pending-clause-side g c = c.send_next.ensures.side ∙ c.loop-datagram.invariant.side

pub returns-in-Err-clause-asked : goal.returns-in-Err-clause-asked
returns-in-Err-clause-asked g c = rw c.refusal_told.ensures (list_refused c.loop-datagram.sent c.loop-datagram.ids c.in-Some.datagram c.loop-datagram.datagram-iterator.rest.items c.next.new.self.rest.items (c.loop-datagram.socket, c.loop-datagram.self) (c.send_next.new.socket, c.send_next.new.self) c.send_next.result c.in-Err.why c.in-Some.ensures.steps.0 c.in-Err.is c.loop-datagram.invariant.reached c.send_next.ensures.asked)

pub returns-in-Err-clause-line : goal.returns-in-Err-clause-line
returns-in-Err-clause-line g c = c.send_next.ensures.line ∙ c.loop-datagram.invariant.line

pub returns-in-Err-clause-parts : goal.returns-in-Err-clause-parts
returns-in-Err-clause-parts g c = parts_more c.loop-datagram.invariant.forth c.loop-datagram.invariant.few c.send_next.ensures.parts (ap length c.in-Some.ensures.steps.0)

pub returns-in-Err-clause-none : goal.returns-in-Err-clause-none
returns-in-Err-clause-none g c = none_then c.loop-datagram.invariant.none c.send_next.ensures.none

pub returns-in-Err-clause-side : goal.returns-in-Err-clause-side
returns-in-Err-clause-side g c = c.send_next.ensures.side ∙ c.loop-datagram.invariant.side

pub returns-clause-asked : goal.returns-clause-asked
returns-clause-asked g c = list_ends c.loop-datagram.sent c.loop-datagram.ids c.loop-datagram.datagram-iterator.rest.items (c.loop-datagram.socket, c.loop-datagram.self) (sym c.loop-datagram.datagram-iterator.rest.ok.0 ∙ c.in-None.ensures.steps.0) c.loop-datagram.invariant.reached

pub returns-clause-line : goal.returns-clause-line
returns-clause-line g c = c.loop-datagram.invariant.line

pub returns-clause-parts : goal.returns-clause-parts
returns-clause-parts g c = let p = c.loop-datagram.invariant.few in record { kept = c.loop-datagram.invariant.forth; few = omega arith }

pub returns-clause-none : goal.returns-clause-none
returns-clause-none g c = c.loop-datagram.invariant.none

pub returns-clause-side : goal.returns-clause-side
returns-clause-side g c = c.loop-datagram.invariant.side
