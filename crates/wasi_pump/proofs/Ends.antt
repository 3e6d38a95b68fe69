-- How a pump ends, by how its streams ended.
use Rattle.std.proofs.Common.{◌≡◌, ℕ, List, [], ◌++◌, length, Option, None, Some, Result, Ok, Err, refl, ap, ◌∙◌, sym, subst, append_assoc, append-nil, length-append, arith}
use Rattle.std.proofs.lemmas.List.{nil_from_length}
use Rattle.std.specs.List.{concat}
use Rattle.world_io.specs.Io.{Reading, Writing, Gave, Took}
use Rattle.world_io.specs.Written.{TookAll, TookFront}
use Rattle.world_io.proofs.Gave.{gave_none}
use Rattle.world_io.proofs.Took.{took_none}
use Rattle.worker_shared.specs.declared.finished.Ended.{Ended}
use Rattle.worker_shared.specs.declared.finished.Ended.TheVariants as ended
use Rattle.wasi_reader.specs.Stream.{ReadStream}
use Rattle.wasi_reader.specs.Stream as reading
use Rattle.wasi_writer.specs.Stream.{WriteStream}
use Rattle.wasi_writer.specs.Stream as writing
use Rattle.wasi_pump.specs.Copying.{IsAhead, Copied}
use Rattle.wasi_pump.specs.declared.error.PumpError.{PumpError}
use Rattle.wasi_pump.specs.declared.error.PumpError.TheVariants.{NoWorker, Memory}
use Rattle.wasi_pump.specs.Pumped.{MovedAll, MovedFront, MovedNone, PumpEnds, outcome_of}

-- at the end nothing is lost
ahead_of : (moved : Option ℕ) (r : ReadStream) (w : WriteStream) → Copied moved r w → IsAhead r w
ahead_of None r w ahead = ahead
ahead_of (Some count) r w (at, is) = record { lost = []; split = sym at.same ∙ sym (append-nil (concat w.chunks)) }

module _ {r : ReadStream} {w : WriteStream} {s : Reading} {k : Writing} where
  -- in every case the sink took a prefix of what the source gave
  front_of : IsAhead r w → (more : List ℕ) → Gave r.began (r.given ++ more) s → TookFront w.began (concat w.chunks) k → MovedFront r.began s w.began k
  front_of ahead more gave front = record {
    bytes = r.given ++ more;
    gave = gave;
    took = record {
      taken = front.taken;
      rest = front.rest ++ (ahead.lost ++ more);
      split = ap (λ l. l ++ more) (ahead.split ∙ ap (λ l. l ++ ahead.lost) front.split) ∙ append_assoc (front.taken ++ front.rest) ahead.lost more ∙ append_assoc front.taken front.rest (ahead.lost ++ more);
      took = front.took;
    };
  }

  module _ (moved : Option ℕ) (copied : Copied moved r w) where
    front : {read written : Result (Unit {0}) Ended} → reading.HasFinished r s read → writing.HasFinished w k written → MovedFront r.began s w.began k
    front read written = front_of (ahead_of moved r w copied) read.more read.front written.front

  all_of : {a b : Unit {0}} (count : ℕ) → Copied (Some count) r w → reading.HasFinished r s (Ok a) → writing.HasFinished w k (Ok b) → MovedAll r.began s w.began k count
  all_of count (at, is) read written =
      let G : List ℕ → Type 0 = λ l. Gave r.began l s in
      let T : List ℕ → Type 0 = λ l. TookAll w.began l k in record {
        bytes = r.given;
        gave = subst G (ap (λ l. r.given ++ l) (read.whole at.heard) ∙ append-nil r.given) read.front;
        ended = read.cause.0;
        took = subst T at.same written.whole;
        flushed = written.flushed at.flush;
        count_is = is;
      }

  pub ends : (moved : Option ℕ) (read written : Result (Unit {0}) Ended) → Copied moved r w → reading.HasFinished r s read → writing.HasFinished w k written
      → PumpEnds r.began s w.began k (outcome_of moved read written)
  ends moved (Err ended.Fault) written copied rd wr = (front moved copied rd wr, rd.cause.1)
  ends moved (Ok a) (Err ended.Fault) copied rd wr = (front moved copied rd wr, wr.cause, rd.cause.1)
  ends moved (Err ended.Cancelled) (Err ended.Fault) copied rd wr = (front moved copied rd wr, wr.cause, rd.cause.1)
  ends moved (Err ended.Memory) (Err ended.Fault) copied rd wr = (front moved copied rd wr, wr.cause, rd.cause.1)
  ends (Some count) (Ok a) (Ok b) copied rd wr = all_of count copied rd wr
  ends None (Ok a) (Ok b) copied rd wr = (front None copied rd wr, rd.cause.1)
  ends moved (Ok a) (Err ended.Cancelled) copied rd wr = (front moved copied rd wr, rd.cause.1)
  ends moved (Ok a) (Err ended.Memory) copied rd wr = (front moved copied rd wr, rd.cause.1)
  ends moved (Err ended.Cancelled) (Ok a) copied rd wr = (front moved copied rd wr, rd.cause.1)
  ends moved (Err ended.Cancelled) (Err ended.Cancelled) copied rd wr = (front moved copied rd wr, rd.cause.1)
  ends moved (Err ended.Cancelled) (Err ended.Memory) copied rd wr = (front moved copied rd wr, rd.cause.1)
  ends moved (Err ended.Memory) (Ok a) copied rd wr = (front moved copied rd wr, rd.cause.1)
  ends moved (Err ended.Memory) (Err ended.Cancelled) copied rd wr = (front moved copied rd wr, rd.cause.1)
  ends moved (Err ended.Memory) (Err ended.Memory) copied rd wr = (front moved copied rd wr, rd.cause.1)

nil_front : (a b : List ℕ) → [] ≡ a ++ b → a ≡ []
nil_front a b is = nil_from_length a (omega (arith, ap length is, length-append a b))

-- a stream that nothing was written to gives its sink nothing
taken_none : {k k' : Writing} → TookFront k [] k' → Took k [] k'
taken_none {k} {k'} front = let F : List ℕ → Type 0 = λ l. Took k l k' in subst F (nil_front front.taken front.rest front.split) front.took

module _ {s s' : Reading} {k k' : Writing} {outcome : Result ℕ PumpError} where
  -- a pump that ran out of memory before it did anything
  pub unmoved : s' ≡ s → k' ≡ k → outcome ≡ Err Memory → PumpEnds s s' k k' outcome
  unmoved source sink is =
      let F : Reading × Writing × Result ℕ PumpError → Type 0 = λ t. PumpEnds s t.0 k t.1 t.2 in
      let none : MovedFront s s k k = record {
        bytes = [];
        gave = gave_none {old = s} {new = s} refl;
        took = record { taken = []; rest = []; split = refl; took = took_none k };
      } in subst F (λ i. (sym source i, sym sink i, sym is i)) (none, refl)

  -- a pump without a worker, whose write stream was finished as it began
  pub idle : {w : WriteStream} {k'' : Writing} {written : Result (Unit {0}) Ended} → s' ≡ s → k' ≡ k'' → w ≡ writing.opened k → writing.HasFinished w k'' written → outcome ≡ Err NoWorker → PumpEnds s s' k k' outcome
  idle {w} {k''} source sink fresh finished is =
      let F : Reading × Writing × Result ℕ PumpError → Type 0 = λ t. PumpEnds s t.0 k t.1 t.2 in
      let G : WriteStream → Type 0 = λ v. TookFront v.began (concat v.chunks) k'' in
      let none : MovedNone s s k k'' = record { source = refl; sink = taken_none (subst G fresh finished.front) } in
      subst F (λ i. (sym source i, sym sink i, sym is i)) none

  -- a pump that copied, and whose streams were finished
  pub pumped : {r r' : ReadStream} {w w' : WriteStream} (moved : Option ℕ) (read written : Result (Unit {0}) Ended) → r ≡ reading.opened s → w ≡ writing.opened k → r'.began ≡ r.began → w'.began ≡ w.began
      → Copied moved r' w' → reading.HasFinished r' s' read → writing.HasFinished w' k' written → outcome ≡ outcome_of moved read written → PumpEnds s s' k k' outcome
  pumped moved read written fresh_r fresh_w same_r same_w copied rd wr is =
      let F : Reading × Writing × Result ℕ PumpError → Type 0 = λ t. PumpEnds t.0 s' t.1 k' t.2 in
      let source = same_r ∙ ap (λ (x : ReadStream). x.began) fresh_r in
      let sink = same_w ∙ ap (λ (x : WriteStream). x.began) fresh_w in
      subst F (λ i. (source i, sink i, sym is i)) (ends moved read written copied rd wr)
