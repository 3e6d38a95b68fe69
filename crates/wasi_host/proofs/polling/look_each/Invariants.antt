use Rattle.std.proofs.Common.{◌≡◌, ◌+◌, ◌≤◌, false, drop, []}
use Rattle.wasi_world.specs.Asks.{Reaches}
use Rattle.wasi_host.specs.Polling.{look_each}
use Rattle.host_store.specs.KnownSides.{KnowsSides}
use Rattle.host_store.specs.Views.{SameView, state_of}
use Rattle.wasi_host.proofs.polling.look_each.Given as goal

-- those before the place were looked at, each by one name at most
abbrev pub invariant-loop-pollable : goal.invariant-loop-pollable
invariant-loop-pollable g l = record {
  reached : Reaches (look_each l.look l.pollables (state_of l.fn.view) l.fn.ids []) (look_each l.look (drop l.pollable-index l.pollables) (state_of l.view) l.ids l.found) (g.W.World.seen l.fn.world) (g.W.World.seen l.world);
  names : l.ids.next_part ≤ l.fn.ids.next_part + l.pollable-index;
  forth : l.fn.ids.next_part ≤ l.ids.next_part;
  line : l.ids.line ≡ l.fn.ids.line;
  sides : KnowsSides (g.W.World.seen l.fn.world) l.fn.view.store.now → KnowsSides (g.W.World.seen l.world) l.view.store.now;
  view : SameView l.fn.view l.view;
  still : (g.W.World.seen l.world).ended ≡ false;
}
