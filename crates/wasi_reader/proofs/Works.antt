-- What a worker made of its source, read by read.
use Rattle.std.proofs.Common.{◌≡◌, ℕ, List, [], ◌∷◌, ◌++◌, Option, None, Some, option_map, refl, ap, ◌∙◌, sym, subst, append_assoc, append-nil}
use Rattle.std.specs.List.{concat}
use Rattle.worker_shared.proofs.Chunks.{concat_end}
use Rattle.world_io.specs.Io.{Reading, Gave}
use Rattle.world_io.proofs.Gave.{gave_again, gave_none}
use Rattle.wasi_world.specs.Seen.{Rose}
use Rattle.wasi_reader.specs.declared.stage.Stage.{Stage}
use Rattle.wasi_reader.specs.declared.stage.Stage.TheVariants.{Open, Ended, Failed, Starved}
use Rattle.wasi_reader.specs.Worked.{SameReading, ReadUpTo, HandedOn, StoppedAt, Worked, GoesOn}

pub begins : (a : Reading) (chunks : List (List ℕ)) → chunks ≡ [] → GoesOn a chunks a
begins a chunks none = record {
  gave = let F : List (List ℕ) → Type 0 = λ l. Gave a (concat l) a in subst F (sym none) (gave_none {old = a} {new = a} refl);
  same = record { ended = refl; faults = refl };
}

pub goes : (a b c : Reading) (chunks chunks' : List (List ℕ)) → GoesOn a chunks b → HandedOn b c chunks chunks' → GoesOn a chunks' c
goes a b c chunks chunks' so step = let F : List ℕ → Type 0 = λ l. Gave a l c in record {
  gave = subst F (sym (ap concat step.pushed ∙ concat_end chunks step.chunk)) (gave_again so.gave step.gave);
  same = record { ended = step.same.ended ∙ so.same.ended; faults = step.same.faults ∙ so.same.faults };
}

upto : (stage : Stage) (a b c : Reading) → SameReading a b → ReadUpTo stage b c → ReadUpTo stage a c
upto Open a b c same then = record { ended = then.ended ∙ same.ended; faults = then.faults ∙ same.faults }
upto Ended a b c same then = record { ended = then.ended; faults = then.faults ∙ same.faults }
upto Failed a b c same then = record { ended = then.ended ∙ same.ended; rose = let F : ℕ → Type 0 = λ n. Rose n c.faults in subst F same.faults then.rose }
upto Starved a b c same then = record { ended = then.ended ∙ same.ended; faults = then.faults ∙ same.faults }

pub stops : (stage : Stage) (a b c : Reading) (chunks chunks' chunks'' : List (List ℕ)) → GoesOn a chunks b → StoppedAt stage b c chunks chunks' → chunks'' ≡ chunks' → Worked a chunks'' stage c
stops stage a b c chunks chunks' chunks'' so step same = let F : List (List ℕ) → Type 0 = λ l. Gave a (concat l ++ step.lost) c in record {
  lost = step.lost;
  gave = subst F (sym (same ∙ step.pushed)) (gave_again so.gave step.gave);
  upto = upto stage a b c so.same step.upto;
  loses = step.loses;
}
