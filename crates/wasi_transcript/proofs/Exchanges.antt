-- A line that was done, with what the log has of it.
use Rattle.std.proofs.Common.{◌≡◌, ◌∙◌, ap, inr, sym, refl, ℕ, ◌+◌, ◌-◌, Bool, List, ◌++◌, length, take, drop, Option, Some, None, Result, Ok, Err}
use Rattle.std.specs.Prelude.{IsErrAnd, option_map}
use Rattle.std.specs.declared.alloc.AllocError.{AllocError}
use Rattle.std.proofs.Math.Seq.{drop-append_seam}
use Rattle.std.proofs.lemmas.List.{take_rest}
use Rattle.wasi_world.specs.declared.call.Entry.{Entry}
use Rattle.wasi_world.specs.declared.outcome.WasiSocketsCtx.{WasiSocketsCtx}
use Rattle.wasi_world.specs.Asks.{Give, Reaches, Started}
use Rattle.wasi_world.specs.Seen.{Seen}
use Rattle.host_store.specs.declared.machine.Machine.{Machine}
use Rattle.wasi_steps.specs.declared.reply.Reply.{Reply}
use Rattle.wasi_steps.specs.declared.step.Step.{Step}
use Rattle.wasi_machine.specs.Machine.{machine_asks}
use Rattle.wasi_steps.specs.Reply.{is_trap}
use Rattle.wasi_steps.specs.Steps.{step_of}
use Rattle.wasi_transcript.specs.Transcript.{answered_text}
use Rattle.wasi_calls.specs.declared.progress.Progress.{Progress}
use Rattle.wasi_transcript.specs.declared.exchange.LineEnd.{LineEnd}
use Rattle.wasi_transcript.specs.Done.{Exchanged, LineDone, Starved}

grown : (old : Option (List Entry)) (log_old log_new es : List Entry) → old ≡ Some log_old → Some log_new ≡ option_map (λ log. log ++ es) old → log_new ≡ log_old ++ es
grown None log_old log_new es h k = absurd (let n : None ≡ Some log_old = h in cc)
grown (Some log) log_old log_new es h k = let e : log ≡ log_old = cc in let f : log_new ≡ log ++ es = cc in f ∙ ap (λ l. l ++ es) e

-- the entries that are behind those before
newer : (log_old log_new es : List Entry) → log_new ≡ log_old ++ es → take (length log_new - length log_old) (drop (length log_old) log_new) ≡ es
newer log_old log_new es e = take_rest log_new (length log_old) ∙ ap (drop (length log_old)) e ∙ drop-append_seam log_old es

pub exchanged : {contexts : List WasiSocketsCtx} {m next : Machine} {number : ℕ} {line : List ℕ} {s : Step} {reply : Reply} {old new : Seen} {log_old log_new : List Entry} {text : List ℕ} {trap : Bool} → step_of (length contexts) line ≡ Some s → Reaches (machine_asks contexts m number s) (Give (reply, next)) old new → old.log ≡ Some log_old → new.log ≡ Some log_new → text ≡ answered_text line (take (length log_new - length log_old) (drop (length log_old) log_new)) reply → is_trap reply ≡ trap → Exchanged contexts m next number line old new text trap
exchanged {line = line} {s = s} {reply = reply} {old = old} {log_old = log_old} {log_new = log_new} spelled h before after text trap = record {
  exchange = record { line = line; step = s; calls = h.entries; reply = reply };
  line_is = refl;
  done = record { spelled = spelled; asked = h.left };
  logged = record { log = h.passed.log; plan = h.passed.plan };
  closings = h.passed.closings;
  text_is = text ∙ ap (λ es. answered_text line es reply) (newer log_old log_new h.entries (grown old.log log_old log_new h.entries before (sym after ∙ h.passed.log)));
  trap_is = trap;
}

-- memory ran out once the step was done
pub starved : {contexts : List WasiSocketsCtx} {m next : Machine} {number : ℕ} {line : List ℕ} {s : Step} {reply : Reply} {old new : Seen} → step_of (length contexts) line ≡ Some s → Reaches (machine_asks contexts m number s) (Give (reply, next)) old new → Starved contexts m number line old new
starved {next = next} {s = s} {reply = reply} spelled h = record {
  calls = h.entries;
  logged = record { log = h.passed.log; plan = h.passed.plan };
  closings = h.passed.closings;
  first = inr (s, spelled, (Give (reply, next), h.left));
}

-- memory ran out within the step, of whose calls these were made
pub starved_within : {contexts : List WasiSocketsCtx} {m : Machine} {number : ℕ} {line : List ℕ} {s : Step} {old new : Seen} → step_of (length contexts) line ≡ Some s → Started (machine_asks contexts m number s) old new → Starved contexts m number line old new
starved_within {s = s} spelled h = record {
  calls = h.reached.entries;
  logged = record { log = h.reached.passed.log; plan = h.reached.passed.plan };
  closings = h.reached.passed.closings;
  first = inr (s, spelled, (h.rest, h.reached.left));
}

pub starved_exit : {contexts : List WasiSocketsCtx} (s_old s_new : Progress) {line : List ℕ} {old new : Seen} {e : AllocError} (r : Result LineEnd AllocError) → IsErrAnd r (λ x. x ≡ e) → Starved contexts s_old.machine (s_old.lines + 1) line old new → LineDone contexts s_old s_new line old new r
starved_exit s_old s_new (Ok x) h k = absurd h
starved_exit s_old s_new (Err x) h k = k
