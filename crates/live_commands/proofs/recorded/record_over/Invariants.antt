use Rattle.std.specs.Prelude.{[], ◌∷◌}
use Rattle.wasi_world.specs.Contexts.{free_context}
use Rattle.live_commands.proofs.recorded.record_over.Given as goal

-- the log's contexts, and what its sink took before
abbrev pub ghosts-record_on : goal.ghosts-record_on
ghosts-record_on g a = record { contexts = free_context ∷ []; begun = g.M.Sink.writing a.log_out }
