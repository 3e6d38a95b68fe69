-- What one line makes, by how it ends.
use Rattle.wasi_run.proofs.LineWords.{◌≡◌, sym, refl, subst, ℕ, true, false, List, [], ◌∷◌, ◌++◌, ◌+◌, length, take, Some, None, Result, Ok, Err, append-nil, add-zero, WasiSocketsCtx, Seen, Give, Started, Writing, Took, reaches_in, Machine, Step, Reply, is_trap, text_of, machine_asks, KnowsSides, err_from_is_err_and}
use Rattle.std.specs.Prelude.{IsErrAnd}
use Rattle.wasi_run.specs.declared.lines.LinesEnd.{LinesEnd}
use Rattle.wasi_run.specs.declared.lines.LinesEnd.TheVariants as lines
use Rattle.wasi_run.specs.declared.error.RunError.{RunError}
use Rattle.wasi_run.specs.declared.error.RunError.TheVariants.{Memory, BadStep, WriteFault}
use Rattle.wasi_steps.specs.Steps.{step_of}
use Rattle.world_io.specs.Written.{TookAll, TookPart}
use Rattle.wasi_run.specs.Ran.{Beyond, Wrote, Counted, Cause, LinesRan}
use Rattle.world_io.proofs.Took.{same_none}
use Rattle.wasi_calls.proofs.Stretches.{next_run, one_ran, Stepped, stretch_one}
use Rattle.wasi_run.proofs.LinesJoined.{before_any, none_began}

-- out of memory before any line is done
pub none_done : (contexts : List WasiSocketsCtx) (w : Seen) (k : Writing) (first last : Machine) (line : ℕ) (all : List (List ℕ)) → last ≡ first → LinesRan contexts w w k k first line all (Err Memory) last
none_done contexts w k first last line all e =
    let P : Machine → Type 0 = λ m. KnowsSides w first.store → KnowsSides w m.store in
    before_any [] tt (none_began contexts w first line) refl (tt, refl) (same_none k) tt (subst P (sym e) (λ held. held))

-- the exit of a `?`
module _ {contexts : List WasiSocketsCtx} {w_old w_new : Seen} {k_old k_new : Writing} {first last : Machine} {line : ℕ} {all : List (List ℕ)} {e : RunError} where
  pub at_exit : (r : Result LinesEnd RunError) → IsErrAnd r (λ x. x ≡ e) → LinesRan contexts w_old w_new k_old k_new first line all (Err e) last → LinesRan contexts w_old w_new k_old k_new first line all r last
  at_exit r h ran = let p = err_from_is_err_and r h in rw (p.1, p.2) ran

-- == what is done before the step changes nothing
module _ {w_met w_old w_new : Seen} {met first : Machine} (p : w_met ≡ w_old) (q : met ≡ first) where
  pub started_met : (contexts : List WasiSocketsCtx) (line : ℕ) (s : Step) → Started (machine_asks contexts met line s) w_met w_new → Started (machine_asks contexts first line s) w_old w_new
  started_met contexts line s h =
      let P : Machine → Type 0 = λ m. Started (machine_asks contexts m line s) w_old w_new in
      let Q : Seen → Type 0 = λ w. Started (machine_asks contexts met line s) w w_new in
      subst P q (subst Q p h)

  pub sides_met : (last : Machine) → (KnowsSides w_met met.store → KnowsSides w_new last.store) → KnowsSides w_old first.store → KnowsSides w_new last.store
  sides_met last h =
      let P : Machine → Type 0 = λ m. KnowsSides w_old m.store → KnowsSides w_new last.store in
      let Q : Seen → Type 0 = λ w. KnowsSides w met.store → KnowsSides w_new last.store in
      subst P q (subst Q p h)

  pub stepped_met : {contexts : List WasiSocketsCtx} {line : ℕ} {s : Step} {reply : Reply} {state : Machine} → Stepped contexts met line s reply state w_met w_new → Stepped contexts first line s reply state w_old w_new
  stepped_met {contexts} {line} {s} {reply} {state} h =
      let P : Machine → Type 0 = λ m. Stepped contexts m line s reply state w_old w_new in
      let Q : Seen → Type 0 = λ w. Stepped contexts met line s reply state w w_new in
      subst P q (subst Q p h)

-- it isn't a step
pub one_bad : (contexts : List WasiSocketsCtx) (w : Seen) (k : Writing) (first : Machine) (line : ℕ) (l : List ℕ) → step_of (length contexts) l ≡ None → LinesRan contexts w w k k first line (l ∷ []) (Err (BadStep line)) first
one_bad contexts w k first line l h = before_any [] tt (none_began contexts w first line) (refl, refl) (tt, refl) (same_none k) (sym (add-zero line), h) (λ held. held)

-- out of memory in doing it
module _ {contexts : List WasiSocketsCtx} {w_old w_new : Seen} {k : Writing} {first last : Machine} {line : ℕ} {l : List ℕ} {s : Step} where
  pub one_hungry : step_of (length contexts) l ≡ Some s → Started (machine_asks contexts first line s) w_old w_new → (KnowsSides w_old first.store → KnowsSides w_new last.store) → LinesRan contexts w_old w_new k k first line (l ∷ []) (Err Memory) last
  one_hungry e h held =
      before_any (s ∷ []) (e, tt) (λ so_far. record { rest = _; reached = reaches_in (next_run contexts so_far line []) h.reached }) (rw add-zero h) (tt, refl) (same_none k) tt held

module _ {contexts : List WasiSocketsCtx} {w_old w_new : Seen} {k_old k_new : Writing} {first state : Machine} {line : ℕ} {l : List ℕ} {s : Step} {reply : Reply} (e : step_of (length contexts) l ≡ Some s) (h : Stepped contexts first line s reply state w_old w_new) where
  -- it was done, and this was written
  after_one : {outcome : Result LinesEnd RunError} (written : List ℕ) → Beyond contexts outcome state (line + 1) [] w_new w_new → Took k_old written k_new → Wrote outcome (reply ∷ []) written → Counted outcome k_old k_new → Cause contexts first line (l ∷ []) outcome (s ∷ []) (reply ∷ []) state state w_old w_new
      → LinesRan contexts w_old w_new k_old k_new first line (l ∷ []) outcome state
  after_one written beyond took wrote counted cause = record {
    steps = s ∷ [];
    replies = reply ∷ [];
    state = state;
    seen = w_new;
    met = [];
    written = written;
    first_lines = (e, tt);
    ran = one_ran h;
    answered = refl;
    began = λ so_far. record { rest = Give (so_far ++ reply ∷ [], state); reached = one_ran h so_far };
    beyond = beyond;
    took = took;
    wrote = wrote;
    counted = counted;
    cause = cause;
    sides = h.sides;
  }

  -- its reply was cut
  pub one_cut : TookPart k_old (text_of reply) k_new → LinesRan contexts w_old w_new k_old k_new first line (l ∷ []) (Err WriteFault) state
  one_cut t = after_one (take t.cut (text_of reply)) (refl, refl) t.took (record { front = []; last = reply; cut = t.cut; all = refl; others = tt; short = t.short; is = refl }) t.counts tt

  pub one_trap : TookAll k_old (text_of reply) k_new → is_trap reply ≡ true → LinesRan contexts w_old w_new k_old k_new first line (l ∷ []) (Ok lines.Trapped) state
  one_trap t b = after_one (text_of reply) (refl, refl) t.took (record { front = []; last = reply; all = refl; others = tt; trap = b }, sym (append-nil (text_of reply))) t.counts tt

  pub one_done : TookAll k_old (text_of reply) k_new → is_trap reply ≡ false → LinesRan contexts w_old w_new k_old k_new first line (l ∷ []) (Ok lines.AllDone) state
  one_done t b = after_one (text_of reply) (refl, refl) t.took ((b, tt), sym (append-nil (text_of reply))) t.counts (record { count = refl; stands = refl; on = stretch_one h b })
