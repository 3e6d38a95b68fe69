-- How a stream ends, by what its two sides knew at the end.
use Rattle.std.proofs.Common.{◌≡◌, ℕ, Bool, true, false, not, ◌||◌, List, [], ◌++◌, Result, refl, ap, ◌∙◌, sym, subst, append_assoc, append-nil, true≢false, length, length-append, arith}
use Rattle.std.specs.List.{concat}
use Rattle.std.proofs.lemmas.List.Folds.{concat-append}
use Rattle.std.proofs.lemmas.List.{nil_from_length}
use Rattle.world_io.specs.Io.{Writing}
use Rattle.world_io.specs.Written.{TookAll, TookFront, TookFault}
use Rattle.worker_shared.specs.Ends.{IsLeft}
use Rattle.worker_shared.specs.declared.finished.Ended.{Ended}
use Rattle.wasi_writer.specs.Knows.{OwnerKnows, WorkerKnows}
use Rattle.wasi_writer.specs.Answers.{Settled, HasLeft}
use Rattle.wasi_writer.specs.Worked.{TookTo, Worked}
use Rattle.wasi_writer.specs.Stream.{WriteStream, HasFinished, outcome_of}
use Rattle.wasi_writer.proofs.Works.{all_of}

-- what is left of a line, by what its two sides knew at the end
pub left_of : {o : OwnerKnows} {w : WorkerKnows} {pushed popped : List (List ℕ)} {count : ℕ} → IsLeft pushed popped count → Settled o w
    → o.pushed ≡ length pushed → w.popped ≡ length popped → HasLeft pushed popped (o.done ≡ true) (w.met ≡ false)
left_of {popped = popped} left settled pushes pops = record {
  items = left.items;
  in_order = left.in_order;
  none = λ done fine. nil_from_length left.items (omega (arith, pushes, pops, settled.popped done fine, ap length left.in_order, length-append popped left.items));
}

-- what was taken of the front is taken of all
front_of : (began now : Writing) (chunks popped : List (List ℕ)) {Done NoFault : Type 0} → HasLeft chunks popped Done NoFault → TookFront began (concat popped) now → TookFront began (concat chunks) now
front_of began now chunks popped left front = record {
  taken = front.taken;
  rest = front.rest ++ concat left.items;
  split = ap concat left.in_order ∙ concat-append popped left.items ∙ ap (λ l. l ++ concat left.items) front.split ∙ append_assoc front.taken front.rest (concat left.items);
  took = front.took;
}

all_front : (began now : Writing) (bytes : List ℕ) → TookAll began bytes now → TookFront began bytes now
all_front began now bytes all = record { taken = bytes; rest = []; split = sym (append-nil bytes); took = all.took }

module _ {s : WriteStream} {now : Writing} {popped : List (List ℕ)} {o : OwnerKnows} {w : WorkerKnows} where
  ends : (met stopped : Bool) → w.met ≡ met → s.stopped ≡ stopped → Worked s.began popped w now → o.told ≡ s.told → o.flush ≡ s.flush → o.done ≡ (not s.stopped || false)
      → Settled o w → HasLeft s.chunks popped (o.done ≡ true) (w.met ≡ false) → HasFinished s now (outcome_of met stopped)
  ends true stopped em es work told flush done settled left =
      let F : Bool → Type 0 = λ m. TookTo m s.began (concat popped) now in
      let fault : TookFault s.began (concat popped) now = subst F em work.took in record {
        front = front_of s.began now s.chunks popped left fault.front;
        whole = tt;
        flushed = tt;
        uncancelled = tt;
        cause = fault.rose;
        told = λ t. refl;
      }
  ends false true em es work told flush done settled left = record {
    front = front_of s.began now s.chunks popped left (all_front s.began now (concat popped) (all_of work em));
    whole = tt;
    flushed = tt;
    uncancelled = tt;
    cause = es;
    told = λ t. absurd (true≢false (sym (settled.told (told ∙ t)) ∙ em));
  }
  ends false false em es work told flush done settled left =
      let all : TookAll s.began (concat popped) now = all_of work em in
      let is_done : o.done ≡ true = done ∙ ap (λ b. not b || false) es in
      let same : s.chunks ≡ popped = left.in_order ∙ ap (λ l. popped ++ l) (left.none is_done em) ∙ append-nil popped in
      let F : List (List ℕ) → Type 0 = λ l. TookAll s.began (concat l) now in record {
        front = front_of s.began now s.chunks popped left (all_front s.began now (concat popped) all);
        whole = subst F (sym same) all;
        flushed = λ f. work.flushed (settled.flushed is_done em (flush ∙ f));
        uncancelled = es;
        cause = tt;
        told = λ t. absurd (true≢false (sym (settled.told (told ∙ t)) ∙ em));
      }

  pub finished : {outcome : Result (Unit {0}) Ended} (failed cancelled : Bool) → outcome ≡ outcome_of failed cancelled → failed ≡ w.met → cancelled ≡ s.stopped
      → Worked s.began popped w now → o.told ≡ s.told → o.flush ≡ s.flush → o.done ≡ (not s.stopped || false)
      → Settled o w → HasLeft s.chunks popped (o.done ≡ true) (w.met ≡ false) → HasFinished s now outcome
  finished failed cancelled is met stopped work told flush done settled left = let F : Result (Unit {0}) Ended → Type 0 = λ e. HasFinished s now e in
      subst F (sym is) (ends failed cancelled (sym met) (sym stopped) work told flush done settled left)
