-- How a stream ends, by what its two sides knew at the end.
use Rattle.std.proofs.Common.{◌≡◌, ℕ, Bool, true, false, List, [], ◌++◌, length, Result, refl, ap, ◌∙◌, sym, subst, append_assoc}
use Rattle.std.specs.List.{concat}
use Rattle.std.specs.declared.alloc.Global.{Global}
use Rattle.std.proofs.lemmas.List.Folds.{concat-append}
use Rattle.crossbeam_queue.specs.SegTies.{SegId}
use Rattle.world_io.specs.Io.{Reading, Gave}
use Rattle.worker_shared.specs.declared.finished.Ended.{Ended}
use Rattle.worker_shared.specs.Ends.{End}
use Rattle.wasi_reader.specs.declared.stage.Stage.{Stage}
use Rattle.wasi_reader.specs.declared.stage.Stage.TheVariants as stage
use Rattle.wasi_reader.specs.Knows.{OwnerKnows, WorkerKnows}
use Rattle.wasi_reader.specs.Answers.{IsHeard, Settled, HasLeft}
use Rattle.wasi_reader.specs.Worked.{ReadUpTo, MayLose, Worked}
use Rattle.wasi_reader.specs.Stream.{given_of, outcome_of, EndsBy, IsOutcome, HasFinished}
use Rattle.wasi_reader.specs.Owned.{Owned}
use Rattle.wasi_reader.proofs.Handed.{stream_of}

ends_by : (s : Stage) (began now : Reading) → ReadUpTo s began now → EndsBy (outcome_of s) began now
ends_by stage.Open began now upto = (upto.ended, upto.faults)
ends_by stage.Ended began now upto = (upto.ended, upto.faults)
ends_by stage.Failed began now upto = (upto.ended, upto.rose)
ends_by stage.Starved began now upto = (upto.ended, upto.faults)

is_outcome : (heard s : Stage) → IsHeard heard s → IsOutcome heard (outcome_of s)
is_outcome stage.Open s is = tt
is_outcome stage.Ended s is = ap outcome_of is
is_outcome stage.Failed s is = ap outcome_of is
is_outcome stage.Starved s is = ap outcome_of is

-- what the source gave, in its parts
parts : (given kept lost : List ℕ) (pushed popped items : List (List ℕ)) → pushed ≡ popped ++ items → concat popped ≡ given ++ kept → concat pushed ++ lost ≡ given ++ (kept ++ (concat items ++ lost))
parts given kept lost pushed popped items in_order split = ap (λ l. l ++ lost) (ap concat in_order ∙ concat-append popped items ∙ ap (λ l. l ++ concat items) split)
    ∙ append_assoc (given ++ kept) (concat items) lost ∙ append_assoc given kept (concat items ++ lost)

-- all parts but what was given are empty
nothing : (kept lost : List ℕ) (items : List (List ℕ)) → kept ≡ [] → items ≡ [] → lost ≡ [] → kept ++ (concat items ++ lost) ≡ []
nothing kept lost items k i l = λ j. k j ++ (concat (i j) ++ l j)

loses_none : (s : Stage) (lost : List ℕ) → s ≡ stage.Ended → MayLose s lost → lost ≡ []
loses_none s lost is loses = let F : Stage → Type 0 = λ t. MayLose t lost in subst F is loses

-- where the end was heard, the stream is closed
closed_at_end : (closed : Bool) (heard : Stage) → (closed ≡ false → heard ≡ stage.Open) → heard ≡ stage.Ended → closed ≡ true
closed_at_end true heard unheard is = refl
closed_at_end false heard unheard is = let e : stage.Open ≡ stage.Ended = sym (unheard refl) ∙ is in absurd (cc)

heard_at_end : (heard s : Stage) → IsHeard heard s → heard ≡ stage.Ended → s ≡ stage.Ended
heard_at_end heard s is at = let F : Stage → Type 0 = λ h. IsHeard h s in subst F at is

module _ (ours : SegId Global) (pop : End) (keys keys' : OwnerKnows) (rest : List ℕ) (closed : Bool) (began now : Reading) (pushed : List (List ℕ)) (worker : WorkerKnows) (s : Stage) where
  pub finished : {outcome : Result (Unit {0}) Ended} → outcome ≡ outcome_of s → Owned ours pop keys rest closed → keys' ≡ record keys { stopped = true } → Worked began pushed s now → worker.stage ≡ s
      → worker.pushed ≡ length pushed → Settled keys' worker → HasLeft pushed pop.chunks → HasFinished (stream_of began pop keys rest closed) now outcome
  finished outcome_is o knows work at counted settled left =
      let same : keys'.heard ≡ keys.heard = ap (λ (k : OwnerKnows). k.heard) knows in
      let F : Stage → Type 0 = λ t. IsHeard t s in
      let G : Stage → Type 0 = λ t. IsHeard keys'.heard t in
      let heard : IsHeard keys.heard s = subst F same (subst G at settled.heard) in
      let H : List ℕ → Type 0 = λ l. Gave began l now in
      let E : Result (Unit {0}) Ended → Type 0 = λ r. HasFinished (stream_of began pop keys rest closed) now r in
      let taken : keys'.popped ≡ keys.popped = ap (λ (k : OwnerKnows). k.popped) knows in
      subst E (sym outcome_is) (record {
        more = rest ++ (concat left.items ++ work.lost);
        front = subst H (parts (given_of pop.chunks rest) rest work.lost pushed pop.chunks left.items left.in_order o.split) work.gave;
        whole = λ is. nothing rest work.lost left.items (o.empty (closed_at_end closed keys.heard o.heard is))
            (left.none (sym o.counted ∙ sym taken ∙ settled.popped (same ∙ is) ∙ counted))
            (loses_none s work.lost (heard_at_end keys.heard s heard is) work.loses);
        cause = ends_by s began now work.upto;
        told = is_outcome keys.heard s heard;
      })
