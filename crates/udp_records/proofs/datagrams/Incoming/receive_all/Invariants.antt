use Rattle.std.proofs.Common.{◌≡◌, ◌+◌, ◌≤◌, ◌-◌, false, []}
use Rattle.std.specs.Vec.{vec_len, vec_capacity}
use Rattle.wasi_world.specs.Asks.{Reaches}
use Rattle.udp_records.specs.Receiving.{receive_all}
use Rattle.record_common.specs.Sides.{MakesNone}
use Rattle.udp_records.proofs.datagrams.Incoming.receive_all.Given as goal

-- the rest is received after the datagrams of now, for which there is capacity
abbrev pub invariant-loop : goal.invariant-loop
invariant-loop g l = record {
  reached : Reaches (receive_all l.most 65536 l.fn.ids [] (l.fn.socket, l.fn.self)) (receive_all (l.most - l.counter) l.room l.ids l.datagrams.items (l.socket, l.self)) (g.W.World.seen l.fn.world) (g.W.World.seen l.world);
  line : l.ids.line ≡ l.fn.ids.line;
  forth : l.fn.ids.next_part ≤ l.ids.next_part;
  part : l.ids.next_part ≤ l.fn.ids.next_part + l.counter;
  count : vec_len l.datagrams ≤ l.counter;
  capacity : l.most ≤ vec_capacity l.datagrams;
  none : MakesNone (g.W.World.seen l.fn.world) (g.W.World.seen l.world);
  side : l.socket.side ≡ l.fn.socket.side;
  still : (g.W.World.seen l.world).ended ≡ false;
}
