-- What stands behind a session.
use Rattle.std.specs.Prelude.{ℕ, List, Bool}
use Rattle.wasi_world.specs.declared.outcome.WasiSocketsCtx.{WasiSocketsCtx}
use Rattle.wasi_world.specs.Seen.{Seen}
use Rattle.host_store.specs.declared.machine.Machine.{Machine}

pub record State : Type 0 where
  pub contexts : List WasiSocketsCtx
  pub machine : Machine
  pub lines : ℕ  -- how many steps were done
  pub over : Bool  -- whether one trapped or ran out of memory
  pub seen : Seen  -- what is known of its world
