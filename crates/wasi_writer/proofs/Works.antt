-- What a worker made of its sink, task by task.
use Rattle.std.proofs.Common.{◌≡◌, ℕ, Bool, true, false, List, [], ◌∷◌, ◌++◌, ap, ◌∙◌, sym, subst, true≢false}
use Rattle.std.specs.List.{concat}
use Rattle.worker_shared.proofs.Chunks.{concat_end}
use Rattle.world_io.specs.Io.{Writing}
use Rattle.world_io.specs.Written.{TookAll, TookPart, TookFault}
use Rattle.world_io.proofs.Took.{all_none, all_again, fault_again, part_is_fault}
use Rattle.wasi_writer.specs.Knows.{WorkerKnows}
use Rattle.wasi_writer.specs.Worked.{TookTo, IsFlushed, Worked}

module _ {a b : Writing} {chunks : List (List ℕ)} {k : WorkerKnows} where
  -- with no fault, all of the chunks are written
  pub all_of : Worked a chunks k b → k.met ≡ false → TookAll a (concat chunks) b
  all_of w met = let F : Bool → Type 0 = λ m. TookTo m a (concat chunks) b in subst F met w.took

  pub goes : k.met ≡ false → TookAll a (concat chunks) b → (k.flushed ≡ true → IsFlushed b) → Worked a chunks k b
  goes met all flushed = let F : Bool → Type 0 = λ m. TookTo m a (concat chunks) b in record { took = subst F (sym met) all; flushed = flushed }

  pub stops : k.met ≡ true → TookFault a (concat chunks) b → (k.flushed ≡ true → IsFlushed b) → Worked a chunks k b
  stops met fault flushed = let F : Bool → Type 0 = λ m. TookTo m a (concat chunks) b in record { took = subst F (sym met) fault; flushed = flushed }

-- no worker did anything yet
pub begins : (a : Writing) (chunks : List (List ℕ)) (k : WorkerKnows) → chunks ≡ [] → k.met ≡ false → k.flushed ≡ false → Worked a chunks k a
begins a chunks k none met flushed = goes met (let F : List (List ℕ) → Type 0 = λ l. TookAll a (concat l) a in subst F (sym none) (all_none a)) (λ f. absurd (true≢false (sym f ∙ flushed)))

module _ {a b c : Writing} {chunks : List (List ℕ)} {k : WorkerKnows} where
  -- a chunk was written
  pub wrote : (chunk : List ℕ) (chunks' : List (List ℕ)) (k' : WorkerKnows) → Worked a chunks k b → k.met ≡ false → TookAll b chunk c
      → chunks' ≡ chunks ++ chunk ∷ [] → k'.met ≡ false → k'.flushed ≡ false → Worked a chunks' k' c
  wrote chunk chunks' k' w met all more met' flushed' = let F : List ℕ → Type 0 = λ l. TookAll a l c in
      goes met' (subst F (sym (ap concat more ∙ concat_end chunks chunk)) (all_again (all_of w met) all)) (λ f. absurd (true≢false (sym f ∙ flushed')))

  -- a chunk wasn't wholly written
  pub failed : (chunk : List ℕ) (chunks' : List (List ℕ)) (k' : WorkerKnows) → Worked a chunks k b → k.met ≡ false → TookPart b chunk c
      → chunks' ≡ chunks ++ chunk ∷ [] → k'.met ≡ true → k'.flushed ≡ false → Worked a chunks' k' c
  failed chunk chunks' k' w met part more met' flushed' = let F : List ℕ → Type 0 = λ l. TookFault a l c in
      stops met' (subst F (sym (ap concat more ∙ concat_end chunks chunk)) (fault_again (all_of w met) (part_is_fault part))) (λ f. absurd (true≢false (sym f ∙ flushed')))
