use Rattle.std.proofs.Common.{◌≡◌, ◌+◌, ◌<◌, ◌≤◌, false, length}
use Rattle.wasi_world.specs.Asks.{Reaches}
use Rattle.udp_records.specs.Datagrams.{send_all}
use Rattle.record_common.specs.Sides.{MakesNone}
use Rattle.udp_records.proofs.datagrams.Outgoing.send_all.Given as goal

-- those before the rest are sent, each by a name of its own
abbrev pub invariant-loop-datagram : goal.invariant-loop-datagram
invariant-loop-datagram g l = record {
  goes : (goal.iterator-loop-datagram g).can_next l.datagram-iterator;
  ends : (goal.iterator-loop-datagram g).is_finite l.datagram-iterator;
  reached : Reaches (send_all 0 l.fn.ids l.fn.datagrams.items (l.fn.socket, l.fn.self)) (send_all l.sent l.ids l.datagram-iterator.rest.items (l.socket, l.self)) (g.W.World.seen l.fn.world) (g.W.World.seen l.world);
  names : l.ids.next_part + length l.datagram-iterator.rest.items < 18446744073709551616;
  fits : l.sent + length l.datagram-iterator.rest.items < 18446744073709551616;
  line : l.ids.line ≡ l.fn.ids.line;
  forth : l.fn.ids.next_part ≤ l.ids.next_part;
  few : l.ids.next_part + length l.datagram-iterator.rest.items ≤ l.fn.ids.next_part + length l.fn.datagrams.items;
  none : MakesNone (g.W.World.seen l.fn.world) (g.W.World.seen l.world);
  side : l.socket.side ≡ l.fn.socket.side;
  still : (g.W.World.seen l.world).ended ≡ false;
}
