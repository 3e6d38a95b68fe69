-- Steps that ran one after another.
use Rattle.std.specs.Prelude.{ℕ, List, ◌++◌, ◌+◌, length}
use Rattle.wasi_world.specs.declared.outcome.WasiSocketsCtx.{WasiSocketsCtx}
use Rattle.wasi_world.specs.Seen.{Seen}
use Rattle.wasi_world.specs.Asks.{Reaches}
use Rattle.host_store.specs.declared.machine.Machine.{Machine}
use Rattle.wasi_steps.specs.declared.step.Step.{Step}
use Rattle.wasi_steps.specs.declared.reply.Reply.{Reply}
use Rattle.wasi_machine.specs.Machine.{run}

-- These lines ran, and the run can continue.
pub record Stretch (contexts : List WasiSocketsCtx) (first : Machine) (line : ℕ) (steps : List Step) (replies : List Reply) (state : Machine) (old now : Seen) : Type 0 where
  pub reached : (so_far : List Reply) (more : List Step) → Reaches (run contexts so_far first line (steps ++ more)) (run contexts (so_far ++ replies) state (line + length steps) more) old now
