-- A log that is written as it comes, a piece at a time.
use Rattle.std.specs.Prelude.{codes, option_map, unwrap_or}
use Rattle.std.proofs.Common.{◌≡◌, ℕ, ◌+◌, ◌≤◌, List, ◌++◌, inl, inr, append_assoc, take, drop, length, length-append, Option, Some, None, Result, Ok, Err, ap, sym, subst, ◌∙◌, refl, arith}
use Rattle.std.proofs.Math.Logic.{∥∥₁_map}
use Rattle.std.proofs.lemmas.Grind.{flat_map-append}
use Rattle.std.proofs.lemmas.List.{take-append-drop, take-append-le}
use Rattle.std.proofs.Math.Seq.{take-append-add, drop-append_seam}
use Rattle.wasi_world.specs.declared.call.Entry.{Entry}
use Rattle.wasi_world.specs.declared.outcome.WasiSocketsCtx.{WasiSocketsCtx}
use Rattle.world_io.specs.Io.{Writing, Took}
use Rattle.world_io.specs.Written.{TookAll, TookPart, TookFront}
use Rattle.world_io.proofs.Took.{took_again, rose_again, all_again}
use Rattle.wasi_replay.specs.Pieces.{contexts_text, entry_text, entries_text}
use Rattle.wasi_replay.specs.Log.{log_text}
use Rattle.wasi_replay.proofs.LogTexts.{pieces_are}
use Rattle.recorder_commands.specs.declared.log.Unwritten.{Unwritten}
use Rattle.recorder_commands.specs.declared.log.Unwritten.TheVariants as unwritten
use Rattle.recorder_commands.specs.Writing.{WroteSoFar, GoesOn, EndsLog, WritesAsItComes}
use Rattle.recorder_commands.proofs.ToldFronts.{all_told, part_told, front_told}

some_is : {A : Type 0} (a b : A) → Some a ≡ Some b → a ≡ b
some_is a b h = ap (λ o. unwrap_or o a) h

-- == fronts of longer texts
part_again : {old mid new : Writing} {text more : List ℕ} → TookAll old text mid → TookPart mid more new → TookPart old (text ++ more) new
part_again {old} {mid} {new} {text} {more} first then = record {
  cut = length text + then.cut;
  short = omega (arith, then.short, length-append text more);
  took = subst (λ t. Took old t new) (sym (take-append-add text more then.cut)) (took_again first.took then.took);
  counts = rose_again first.counts then.counts;
  tells = then.tells ∙ first.tells;
}

part_more : {old new : Writing} {text : List ℕ} (more : List ℕ) → TookPart old text new → TookPart old (text ++ more) new
part_more {old} {new} {text} more part = record {
  cut = part.cut;
  short = omega (arith, part.short, length-append text more);
  took = subst (λ t. Took old t new) (sym (take-append-le part.cut text more (omega (arith, part.short)))) part.took;
  counts = part.counts;
  tells = part.tells;
}

front_more : {old new : Writing} {text : List ℕ} (more : List ℕ) → TookFront old text new → TookFront old (text ++ more) new
front_more {old} {new} {text} more front = record {
  taken = front.taken;
  rest = front.rest ++ more;
  split = ap (λ t. t ++ more) front.split ∙ append_assoc front.taken front.rest more;
  took = front.took;
}

front_all : {old new : Writing} {text : List ℕ} (more : List ℕ) → TookAll old text new → TookFront old (text ++ more) new
front_all {old} {new} {text} more all = record { taken = text; rest = more; split = refl; took = all.took }

front_part : {old new : Writing} {text : List ℕ} → TookPart old text new → TookFront old text new
front_part {old} {new} {text} part = record {
  taken = take part.cut text;
  rest = drop part.cut text;
  split = sym (take-append-drop part.cut text);
  took = part.took;
}

-- == one piece more
so_far_more : (old new : Writing) (text more : List ℕ) (why : Unwritten) → WroteSoFar text old new (Some why) → WroteSoFar (text ++ more) old new (Some why)
so_far_more old new text more unwritten.Fault wrote = part_more more wrote
so_far_more old new text more unwritten.Memory wrote = front_more more wrote

piece_more : (old mid new : Writing) (text more : List ℕ) (after : Option Unwritten) → TookAll old text mid → GoesOn more mid new None after → WroteSoFar (text ++ more) old new after
piece_more old mid new text more None wrote went = all_again wrote went
piece_more old mid new text more (Some unwritten.Fault) wrote went = part_again wrote went
piece_more old mid new text more (Some unwritten.Memory) wrote went = subst (λ n. TookFront old (text ++ more) n) (sym went) (front_all more wrote)

wrote_on : (old mid new : Writing) (text more : List ℕ) (before after : Option Unwritten) → WroteSoFar text old mid before → GoesOn more mid new before after → WroteSoFar (text ++ more) old new after
wrote_on old mid new text more None after wrote went = piece_more old mid new text more after wrote went
wrote_on old mid new text more (Some why) after wrote went =
    let same : WroteSoFar (text ++ more) old new (Some why) = subst (λ n. WroteSoFar (text ++ more) old n (Some why)) (sym went.1) (so_far_more old mid text more why wrote) in
    subst (WroteSoFar (text ++ more) old new) (sym went.0) same

-- the lines of more entries
entries_more : (head : List ℕ) (log more : List Entry) → (head ++ entries_text log) ++ entries_text more ≡ head ++ entries_text (log ++ more)
entries_more head log more = append_assoc head (entries_text log) (entries_text more) ∙ ap (λ t. head ++ t) (sym (flat_map-append entry_text log more))

pub place_within : (log new es : List Entry) → Some new ≡ option_map (λ l. l ++ es) (Some log) → length log ≤ length new
place_within log new es grown = omega (arith, ap length (some_is new (log ++ es) grown), length-append log es)

wrote_entries : (begun mid end : Writing) (head : List ℕ) (log new es : List Entry) (before after : Option Unwritten) → Some new ≡ option_map (λ l. l ++ es) (Some log) → WroteSoFar (head ++ entries_text log) begun mid before → GoesOn (entries_text (drop (length log) new)) mid end before after → WroteSoFar (head ++ entries_text new) begun end after
wrote_entries begun mid end head log new es before after grown wrote went =
    let is : new ≡ log ++ es = some_is new (log ++ es) grown in
    let rest : drop (length log) new ≡ es = ap (drop (length log)) is ∙ drop-append_seam log es in
    let more : WroteSoFar ((head ++ entries_text log) ++ entries_text es) begun end after = wrote_on begun mid end (head ++ entries_text log) (entries_text es) before after wrote (subst (λ d. GoesOn (entries_text d) mid end before after) rest went) in
    subst (λ t. WroteSoFar t begun end after) (entries_more head log es ∙ ap (λ l. head ++ entries_text l) (sym is)) more

pub wrote_more : (begun mid end : Writing) (head : List ℕ) (log new es : List Entry) (before after : Option Unwritten) → Some new ≡ option_map (λ l. l ++ es) (Some log) → ∥ WroteSoFar (head ++ entries_text log) begun mid before ∥₁ → GoesOn (entries_text (drop (length log) new)) mid end before after → ∥ WroteSoFar (head ++ entries_text new) begun end after ∥₁
wrote_more begun mid end head log new es before after grown wrote went = ∥∥₁_map wrote (λ so_far. wrote_entries begun mid end head log new es before after grown so_far went)

-- == the end
so_far_told : (old new : Writing) (text : List ℕ) (before : Option Unwritten) → ∥ WroteSoFar text old new before ∥₁ → WroteSoFar text old new before
so_far_told old new text None wrote = all_told wrote
so_far_told old new text (Some unwritten.Fault) wrote = part_told wrote
so_far_told old new text (Some unwritten.Memory) wrote = front_told wrote

front_so_far : (old new : Writing) (text more : List ℕ) (before : Option Unwritten) → WroteSoFar text old new before → TookFront old (text ++ more) new
front_so_far old new text more None wrote = front_all more wrote
front_so_far old new text more (Some unwritten.Fault) wrote = front_more more (front_part wrote)
front_so_far old new text more (Some unwritten.Memory) wrote = front_more more wrote

ended : (begun old new : Writing) (text : List ℕ) (before : Option Unwritten) (written : Result (Unit {0}) Unwritten) → WroteSoFar text begun old before → EndsLog old new before written → WritesAsItComes (text ++ codes "end\n") begun new written
ended begun old new text before (Ok done) wrote ends = all_again (subst (WroteSoFar text begun old) ends.0 wrote) ends.1
ended begun old new text before (Err unwritten.Fault) wrote (inl ends) = part_again (subst (WroteSoFar text begun old) ends.0 wrote) ends.1
ended begun old new text before (Err unwritten.Fault) wrote (inr ends) = subst (λ n. TookPart begun (text ++ codes "end\n") n) (sym ends.1) (part_more (codes "end\n") (subst (WroteSoFar text begun old) ends.0 wrote))
ended begun old new text before (Err unwritten.Memory) wrote ends = subst (λ n. TookFront begun (text ++ codes "end\n") n) (sym ends) (front_so_far begun old text (codes "end\n") before wrote)

pub wrote_all : (begun old new : Writing) (contexts : List WasiSocketsCtx) (log : List Entry) (before : Option Unwritten) (written : Result (Unit {0}) Unwritten) → ∥ WroteSoFar (contexts_text contexts ++ entries_text log) begun old before ∥₁ → EndsLog old new before written → WritesAsItComes (log_text contexts log) begun new written
wrote_all begun old new contexts log before written wrote ends =
    let so_far = so_far_told begun old (contexts_text contexts ++ entries_text log) before wrote in
    subst (λ t. WritesAsItComes t begun new written) (pieces_are contexts log) (ended begun old new (contexts_text contexts ++ entries_text log) before written so_far ends)
