-- What became of a script over the system's sockets.
use Rattle.std.specs.Prelude.{◌≡◌, ◌⊎◌, ℕ, [], ◌∷◌, false, true, Result, Err}
use Rattle.wasi_world.specs.Seen.{Seen}
use Rattle.world_io.specs.Io.{Reading, Writing}
use Rattle.wasi_world.specs.Contexts.{free_context}
use Rattle.wasi_run.specs.declared.run.RunEnd.{RunEnd}
use Rattle.wasi_run.specs.declared.error.RunError.{RunError}
use Rattle.wasi_run.specs.declared.error.RunError.TheVariants.{Memory}
use Rattle.wasi_run.specs.Script.{RanScript, Completes}
use Rattle.wasi_net.specs.Net.{counts_of}

-- The script was run over a network that answered nothing before, and that is ended afterwards.
pub record RanOnNet (limit : ℕ) (s_old s_new : Reading) (k_old k_new : Writing) (result : Result RunEnd RunError) : Type 0 where
  pub seen : Seen
  pub ran : RanScript (free_context ∷ []) limit s_old s_new k_old k_new (counts_of false 0 0) seen result
  pub complete : Completes 1 limit s_old s_new k_old k_new result
  pub ended : seen.ended ≡ true

-- Nothing was read and nothing written, for lack of memory.
pub record DidNothing (s_old s_new : Reading) (k_old k_new : Writing) (result : Result RunEnd RunError) : Type 0 where
  pub memory : result ≡ Err Memory
  pub source : s_new ≡ s_old
  pub sink : k_new ≡ k_old

abbrev pub RanLive : ℕ → Reading → Reading → Writing → Writing → Result RunEnd RunError → Type 0
RanLive limit s_old s_new k_old k_new result = DidNothing s_old s_new k_old k_new result ⊎ RanOnNet limit s_old s_new k_old k_new result
