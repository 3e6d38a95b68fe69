-- What contracts see of a view of a context, a table and a store.
use Rattle.std.specs.Prelude.{◌≡◌, ◌⊎◌, ℕ, List, [], ◌∷◌}
use Rattle.wasi_world.specs.declared.ids.Ids.{Ids}
use Rattle.wasi_world.specs.Seen.{Seen}
use Rattle.host_store.specs.KnownSides.{KnowsSides}
use Rattle.host_store.specs.declared.view.NamedId.{NamedId}
use Rattle.host_store.specs.declared.machine.Machine.{Machine}
use Rattle.host_store.specs.declared.view.WasiSocketsCtxView.{WasiSocketsCtxView}

-- the state that it views
abbrev pub state_of : WasiSocketsCtxView → Machine
state_of view = record { table = view.table.now; store = view.store.now }

-- The fields of the view are the same references, and its context is as it was.
pub record SameView (old new : WasiSocketsCtxView) : Type 0 where
  pub context : new.ctx.now ≡ old.ctx.now
  pub same_context : new.ctx.ghost_name ≡ old.ctx.ghost_name
  pub same_table : new.table.ghost_name ≡ old.table.ghost_name
  pub same_store : new.store.ghost_name ≡ old.store.ghost_name

-- What a guest's call keeps: the network sockets are known afterwards where they were before, the view is of the same
-- context, table and store, and no part of the line is taken.
pub record HostKept (old new : WasiSocketsCtxView) (had has : Ids) (before after : Seen) : Type 0 where
  pub sides : KnowsSides before old.store.now → KnowsSides after new.store.now
  pub view : SameView old new
  pub ids : has ≡ had

-- a context of this number is among these
abbrev pub Knows : List ℕ → NamedId → Type 0
Knows [] id = ⊥
Knows (n ∷ ids) id = (n ≡ id.0) ⊎ Knows ids id
