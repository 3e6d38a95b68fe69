-- The steps that wait for pollables.
use Rattle.wasi_causes.proofs.Words.{◌≡◌, ℕ, Answer, Bool, true, false, List, [], ◌∷◌, None, Pending, Ready, Result, Ok, Err, refl, sym, subst, inl, inr, is_some, Entry, Give, Machine, NoSuchHandle, Option, Some, Stop, Trap, Watched, WasiSocketsCtx, bind, first_ids, kind_at, watch_of}
use Rattle.std.specs.Prelude.{IsSome, IsSomeAnd, ◌≢◌, ◌⊎◌, if◌then◌else◌}
use Rattle.wasi_host.specs.declared.polling.Look.TheVariants.{First}
use Rattle.wasi_host.specs.Polling.{are_pollables, block_by, poll_asks, poll_when, pollables_in}
use Rattle.wasi_machine.specs.Machine.{answer_reply_of}
use Rattle.wasi_steps.specs.Reply.{numbers_fields, no_values}
use Rattle.wasi_steps.specs.declared.guest_call.GuestCall.TheVariants as guest
use Rattle.wasi_steps.specs.declared.guest_call.PollableCall.TheVariants as pollable_call
use Rattle.wasi_steps.specs.declared.step.Step.TheVariants as step
use Rattle.wasi_walks.specs.Missing.{MissesOneOf, MissesWatched}
use Rattle.wasi_causes.proofs.pollables.Waits.{BlockRow, WaitRow, blocks_on, waits_on}
use Rattle.wasi_causes.proofs.tables.Meets.{Meets, Rows, ends, onto, widen}
use Rattle.wasi_causes.proofs.tables.Routes.{Says}
use Rattle.wasi_causes.specs.PollableCalls.{AllPollables, ForNone, NoPollable, WatchedAreThere}
use Rattle.wasi_causes.specs.Outcomes.{Outcome}

-- == which handles are pollables'
-- one that is none is missed
pub none_of_them : (m : Machine) (ps : List ℕ) → are_pollables m ps ≡ false → MissesOneOf m ps
none_of_them m [] e = absurd (cc)
none_of_them m (p ∷ ps) e = by_watch (watch_of (kind_at m.table p)) e (λ none. none_of_them m ps none)
  where
    by_watch : (o : Option Watched) → (if is_some o then pollables_in m.table ps else false) ≡ false → (pollables_in m.table ps ≡ false → MissesOneOf m ps) → MissesWatched m o ⊎ MissesOneOf m ps
    by_watch None none rest = inl tt
    by_watch (Some w) none rest = inr (rest none)

-- where all are, and what they watch is there, none is missed
pub all_there : (m : Machine) (ps : List ℕ) → are_pollables m ps ≡ true → WatchedAreThere m ps → MissesOneOf m ps → ⊥
all_there m [] all there missing = missing
all_there m (p ∷ ps) all there missing = by_watch (watch_of (kind_at m.table p)) all there.0 (λ rest none. all_there m ps rest there.1 none) missing
  where
    by_watch : (o : Option Watched) → (if is_some o then pollables_in m.table ps else false) ≡ true → (IsSome o → MissesWatched m o → ⊥) → (pollables_in m.table ps ≡ true → MissesOneOf m ps → ⊥) → MissesWatched m o ⊎ MissesOneOf m ps → ⊥
    by_watch None none here others h = absurd (cc)
    by_watch (Some w) rest here others (inl none) = here refl none
    by_watch (Some w) rest here others (inr none) = others rest none

module _ (contexts : List WasiSocketsCtx) (m : Machine) (line c : ℕ) where
  -- == for one
  module _ (p : ℕ) where
    abbrev OneRow : Rows (Result (Answer (Unit {0})) Stop × Machine)
    OneRow es done = Outcome contexts m line (step.Call c (guest.Pollable (pollable_call.Block p))) es (answer_reply_of no_values line done.0) done.1

    said : (es : List Entry) (done : Result (Answer (Unit {0})) Stop × Machine) → BlockRow contexts m c (first_ids line) p First es done → OneRow es done
    said es (Ok (Ready given), after) k = (k.0, (tt, tt))
    said es (Ok Pending, after) k = (k.0, ((refl, subst (λ (x : Machine). IsSomeAnd x.store.standing (λ call. call.ids.line ≡ line)) (sym k.1.left) refl), tt))
    said es (Err (Trap NoSuchHandle), after) k = (k.0, (k.1, (k.2, k.3)))
    said es (Err _, after) k = absurd k

    pub block : Meets (Says contexts m line (step.Call c (guest.Pollable (pollable_call.Block p)))) [] (bind (block_by First m (first_ids line) p) (λ done. Give (answer_reply_of no_values line done.0, done.1)))
    block = onto _ (widen said (blocks_on contexts m c (first_ids line) p First))

  -- == for several
  module _ (ps : List ℕ) where
    abbrev SeveralRow : Rows (Result (Answer (List ℕ)) Stop × Machine)
    SeveralRow es done = Outcome contexts m line (step.Call c (guest.Pollable (pollable_call.PollList ps))) es (answer_reply_of numbers_fields line done.0) done.1

    module _ (some : ps ≢ []) where
      told : are_pollables m ps ≡ true → (es : List Entry) (done : Result (Answer (List ℕ)) Stop × Machine) → WaitRow First m (first_ids line) ps es done → SeveralRow es done
      told all es (Ok (Ready places), after) k = (AllPollables es _ after some all k.0, ((k.2.0, k.2.1, rw k.2.2 refl), tt))
      told all es (Ok Pending, after) k = (AllPollables es _ after some all k.0, ((refl, subst (λ (x : Machine). IsSomeAnd x.store.standing (λ call. call.ids.line ≡ line)) (sym k.1.left) refl), tt))
      told all es (Err (Trap NoSuchHandle), after) k = (AllPollables es _ after some all k.0, (k.1, λ there. absurd (all_there m ps all there k.1)))
      told all es (Err _, after) k = absurd k

      by_handles : (b : Bool) → are_pollables m ps ≡ b → Meets SeveralRow [] (poll_when m (first_ids line) ps b)
      by_handles true all = widen (told all) (waits_on First m (first_ids line) ps)
      by_handles false none = ends (NoPollable some none, (none_of_them m ps none, λ there. (refl, refl)))

  by_list : (ps : List ℕ) → Meets (SeveralRow ps) [] (poll_asks m (first_ids line) ps)
  by_list [] = ends (ForNone refl, (refl, (refl, refl)))
  by_list (p ∷ ps) = by_handles (p ∷ ps) (λ e. cc) (are_pollables m (p ∷ ps)) refl

  pub poll_list : (ps : List ℕ) → Meets (Says contexts m line (step.Call c (guest.Pollable (pollable_call.PollList ps)))) [] (bind (poll_asks m (first_ids line) ps) (λ done. Give (answer_reply_of numbers_fields line done.0, done.1)))
  poll_list ps = onto _ (by_list ps)
