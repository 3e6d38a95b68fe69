-- The run of a generated script, by how it ended.
use Rattle.wasi_run.proofs.Words.{◌⊎◌, ◌≡◌, ℕ, List, [], ◌∷◌, length, Result, Ok, inl, inr, refl, ◌∙◌, WasiSocketsCtx, Seen, Reading, Writing}
use Rattle.wasi_run.specs.declared.error.RunError.{RunError}
use Rattle.world_scripted.specs.Queued.{no_answers}
use Rattle.world_scripted.specs.Scripted.{at_start}
use Rattle.wasi_world.specs.Contexts.{free_context}
use Rattle.wasi_run.specs.declared.run.RunEnd.{RunEnd}
use Rattle.wasi_run.specs.declared.run.RunEnd.TheVariants as end
use Rattle.wasi_run.specs.Causes.{DoneLines, ReadsAll, StopsAtTrap}
use Rattle.drawn_scripts.specs.Counted.{unread, unwritten, Finishes}

-- the lines that were done keep the plan of the world
pub plan_kept : {contexts : List WasiSocketsCtx} {limit : ℕ} {before after : Reading} {k_old k_new : Writing} {w_old w_new : Seen}
    → DoneLines contexts limit before after k_old k_new w_old w_new → w_new.plan ≡ w_old.plan
plan_kept d = d.quiet.plan ∙ d.ran.passed.plan

-- an end that is Ok is the end of all lines, or a trap
pub finishes : (contexts : List WasiSocketsCtx) (limit : ℕ) (script : List ℕ) (before after : Reading) (k_old k_new : Writing) (w_old w_new : Seen) (ended : RunEnd)
    → contexts ≡ free_context ∷ [] → limit ≡ length script → before ≡ unread script → k_old ≡ unwritten → w_old ≡ at_start no_answers
    → (◌≡◌ {A = Result RunEnd RunError} (Ok ended) (Ok end.AllRead) → ReadsAll contexts limit before after k_old k_new w_old w_new)
    → (◌≡◌ {A = Result RunEnd RunError} (Ok ended) (Ok end.Trapped) → StopsAtTrap 4095 contexts limit before after k_old k_new w_old w_new)
    → Finishes (length script) script after k_new w_new
finishes contexts limit script before after k_old k_new w_old w_new end.AllRead one is_limit is_before is_old is_start all trap = inl (rw (one, is_limit, is_before, is_old, is_start) at (all refl))
finishes contexts limit script before after k_old k_new w_old w_new end.Trapped one is_limit is_before is_old is_start all trap = inr (rw (one, is_limit, is_before, is_old, is_start) at (trap refl))
