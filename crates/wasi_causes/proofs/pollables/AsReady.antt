-- A wait for one pollable is answered as a `ready` is, and what a pending wait leaves.
use Rattle.wasi_causes.proofs.Beside.{exclusive_call, not_beside}
use Rattle.wasi_causes.proofs.Words.{inl, inr}
use Rattle.wasi_causes.proofs.Words.{◌≡◌, ◌≢◌, ◌∙◌, ℕ, Bool, true, false, List, [], Option, None, Some, Result, Ok, Err, Answered, Code, Entry, Give, IsSomeAnd, Left, ◌↔◌, Machine, NoSuchHandle, Reply, Standing, StandingCall, Stop, Trap, TrapKind, WasiSocketsCtx, ap, asks_while, bind, eq-eqb, first_ids, no_fields, nothing_stands, ready_asks, refl, standing_as, stands_as, subst, sym, truth_fields, truth_reply}
use Rattle.wasi_world.specs.declared.ids.Ids.{Ids}
use Rattle.host_store.specs.declared.store.BlockingCall.{BlockingCall}
use Rattle.host_store.specs.declared.store.BlockingCall.TheVariants as blocking
use Rattle.wasi_host.specs.declared.polling.Look.{Look}
use Rattle.wasi_host.specs.declared.polling.Look.TheVariants.{First}
use Rattle.wasi_host.specs.Polling.{are_pollables, block_by, blocked_on}
use Rattle.wasi_machine.specs.Machine.{answer_reply_of}
use Rattle.wasi_steps.specs.Reply.{no_values}
use Rattle.wasi_steps.specs.declared.reply.Reply.TheVariants as reply
use Rattle.wasi_steps.specs.declared.guest_call.GuestCall.TheVariants as guest
use Rattle.wasi_steps.specs.declared.guest_call.PollableCall.TheVariants as pollable_call
use Rattle.wasi_steps.specs.declared.step.Step.TheVariants as step
use Rattle.wasi_world.specs.declared.outcome.TrapKind.TheVariants.{EmptyList}
use Rattle.wasi_world.proofs.Walks.{left_in}
use Rattle.wasi_causes.proofs.streams.Composed.{answers_part}
use Rattle.wasi_causes.proofs.tables.Parts.{ended}
use Rattle.wasi_causes.specs.PollableCalls.{BeginsToWait, BlocksOn, Finds, WaitsOn, waiting}
use Rattle.wasi_causes.specs.Cancelled.{CancelsBy, OnlyUnstands}
use Rattle.wasi_causes.specs.Outcomes.{Outcome}
use Rattle.wasi_causes.specs.PollableCalls as on

abbrev Told : Type 0
Told = Reply × Machine

module _ (contexts : List WasiSocketsCtx) (m : Machine) (line c p : ℕ) (free : m.store.standing ≡ None) where
  -- what the look found, and what it left
  record Looked (es : List Entry) (r : Reply) (after : Machine) : Type 0 where
    pub given : Result Bool Stop
    pub told : truth_reply given ≡ r
    pub did : Left (ready_asks m (first_ids line) p) es (Give (given, after))

  looked : (es : List Entry) (r : Reply) (after : Machine) → Answered contexts m line (step.Call c (guest.Pollable (pollable_call.Ready p))) es r after → Looked es r after
  looked es r after w =
      of (ended (ready_asks m (first_ids line) p) (λ done. (truth_reply done.0, done.1)) es (r, after) (subst (λ (o : Option Standing). Left (asks_while contexts m line (step.Call c (guest.Pollable (pollable_call.Ready p))) o) es (Give (r, after))) free w))
    where
      of : (a : Result Bool Stop × Machine) × Left (ready_asks m (first_ids line) p) es (Give a) × (◌≡◌ {A = Told} (truth_reply a.0, a.1) (r, after)) → Looked es r after
      of k = record { given = k.0.0; told = ap (λ (x : Reply × Machine). x.0) k.2; did = subst (λ (x : Machine). Left (ready_asks m (first_ids line) p) es (Give (k.0.0, x))) (ap (λ (x : Reply × Machine). x.1) k.2) k.1 }

  blocks : (es : List Entry) (given : Result Bool Stop) (after : Machine) → Left (ready_asks m (first_ids line) p) es (Give (given, after))
      → Answered contexts m line (step.Call c (guest.Pollable (pollable_call.Block p))) es (answer_reply_of no_values line (blocked_on (first_ids line) p (given, after)).0) (blocked_on (first_ids line) p (given, after)).1
  unfolding bind
  blocks es given after h =
      answers_part contexts m line (step.Call c (guest.Pollable (pollable_call.Block p))) (block_by First m (first_ids line) p) (answer_reply_of no_values line) refl free es (blocked_on (first_ids line) p (given, after)).0 (blocked_on (first_ids line) p (given, after)).1
      (left_in (λ done. Give (blocked_on (first_ids line) p done)) (ready_asks m (first_ids line) p) (Give (given, after)) es h)

  -- the first look of a wait is the step
  to_step : (es : List Entry) (ready : Bool) (after : Machine) → Finds m (first_ids line) p First es ready after → Answered contexts m line (step.Call c (guest.Pollable (pollable_call.Ready p))) es (reply.Ok (truth_fields ready)) after
  to_step _ _ _ (on.FindsFirst es ready after w) = answers_part contexts m line (step.Call c (guest.Pollable (pollable_call.Ready p))) (ready_asks m (first_ids line) p) truth_reply refl free es (Ok ready) after w

  pub first_so : (es : List Entry) (ready : Bool) (after : Machine) → Finds m (first_ids line) p First es ready after ↔ Answered contexts m line (step.Call c (guest.Pollable (pollable_call.Ready p))) es (reply.Ok (truth_fields ready)) after
  first_so es ready after = (λ f. to_step es ready after f, λ w. of (looked es (reply.Ok (truth_fields ready)) after w))
    where
      same : (a b : Bool) → truth_fields a ≡ truth_fields b → a ≡ b
      same true true e = refl
      same true false e = absurd (cc)
      same false true e = absurd (cc)
      same false false e = refl

      by : (given : Result Bool Stop) → truth_reply given ≡ reply.Ok (truth_fields ready) → Left (ready_asks m (first_ids line) p) es (Give (given, after)) → Finds m (first_ids line) p First es ready after
      by (Ok b) e h = let its : b ≡ ready = same b ready (cc) in on.FindsFirst es ready after (subst (λ (x : Bool). Left (ready_asks m (first_ids line) p) es (Give (Ok x, after))) its h)
      by (Err (Trap kind)) e h = absurd (cc)
      by (Err (Code code)) e h = absurd (cc)

      of : Looked es (reply.Ok (truth_fields ready)) after → Finds m (first_ids line) p First es ready after
      of k = by k.given k.told k.did

  -- it is done where the look finds the pollable ready
  pub done_as : (es : List Entry) (after : Machine) → Answered contexts m line (step.Call c (guest.Pollable (pollable_call.Ready p))) es (reply.Ok (truth_fields true)) after → Answered contexts m line (step.Call c (guest.Pollable (pollable_call.Block p))) es (reply.Ok no_fields) after
  done_as es after w = of (looked es (reply.Ok (truth_fields true)) after w)
    where
      by : (given : Result Bool Stop) → truth_reply given ≡ reply.Ok (truth_fields true) → Left (ready_asks m (first_ids line) p) es (Give (given, after)) → Answered contexts m line (step.Call c (guest.Pollable (pollable_call.Block p))) es (reply.Ok no_fields) after
      by (Ok true) e h = blocks es (Ok true) after h
      by (Ok false) e h = absurd (cc)
      by (Err (Trap kind)) e h = absurd (cc)
      by (Err (Code code)) e h = absurd (cc)

      of : Looked es (reply.Ok (truth_fields true)) after → Answered contexts m line (step.Call c (guest.Pollable (pollable_call.Block p))) es (reply.Ok no_fields) after
      of k = by k.given k.told k.did

  -- pending where it doesn't
  pub waits_as : (es : List Entry) (after : Machine) → Answered contexts m line (step.Call c (guest.Pollable (pollable_call.Ready p))) es (reply.Ok (truth_fields false)) after → Answered contexts m line (step.Call c (guest.Pollable (pollable_call.Block p))) es (reply.Pending line) (waiting after (first_ids line) (blocking.Block p))
  waits_as es after w = of (looked es (reply.Ok (truth_fields false)) after w)
    where
      by : (given : Result Bool Stop) → truth_reply given ≡ reply.Ok (truth_fields false) → Left (ready_asks m (first_ids line) p) es (Give (given, after)) → Answered contexts m line (step.Call c (guest.Pollable (pollable_call.Block p))) es (reply.Pending line) (waiting after (first_ids line) (blocking.Block p))
      by (Ok false) e h = blocks es (Ok false) after h
      by (Ok true) e h = absurd (cc)
      by (Err (Trap kind)) e h = absurd (cc)
      by (Err (Code code)) e h = absurd (cc)

      of : Looked es (reply.Ok (truth_fields false)) after → Answered contexts m line (step.Call c (guest.Pollable (pollable_call.Block p))) es (reply.Pending line) (waiting after (first_ids line) (blocking.Block p))
      of k = by k.given k.told k.did

  -- and it traps as the look does
  pub traps_as : (es : List Entry) (kind : TrapKind) (after : Machine) → Answered contexts m line (step.Call c (guest.Pollable (pollable_call.Ready p))) es (reply.Trap kind) after → Answered contexts m line (step.Call c (guest.Pollable (pollable_call.Block p))) es (reply.Trap kind) after
  traps_as es kind after w = of (looked es (reply.Trap kind) after w)
    where
      by : (given : Result Bool Stop) → truth_reply given ≡ reply.Trap kind → Left (ready_asks m (first_ids line) p) es (Give (given, after)) → Answered contexts m line (step.Call c (guest.Pollable (pollable_call.Block p))) es (reply.Trap kind) after
      by (Ok true) e h = absurd (cc)
      by (Ok false) e h = absurd (cc)
      by (Err (Trap its)) e h = subst (λ (r : Reply). Answered contexts m line (step.Call c (guest.Pollable (pollable_call.Block p))) es r after) e (blocks es (Err (Trap its)) after h)
      by (Err (Code code)) e h = absurd (cc)

      of : Looked es (reply.Trap kind) after → Answered contexts m line (step.Call c (guest.Pollable (pollable_call.Block p))) es (reply.Trap kind) after
      of k = by k.given k.told k.did

-- == what is pending
abbrev pub StandsAs : Machine → ℕ → BlockingCall → Type 0
StandsAs after line call = after.store.standing ≡ Some (standing_as (first_ids line) (StandingCall.Blocking call))

-- the wait itself, where it is pending
pub block_stands : (contexts : List WasiSocketsCtx) (m : Machine) (c : ℕ) (ids : Ids) (p : ℕ) (look : Look) (n : ℕ) {es : List Entry} {r : Reply} {after : Machine} → r ≡ reply.Pending n → BlocksOn contexts m c ids p look es r after → (n ≡ ids.line) × StandsAs after ids.line (blocking.Block p)
block_stands contexts m c ids p look n e (on.IsReady es after looks) = absurd (cc)
block_stands contexts m c ids p look n e (on.IsUnready es after looks) = (let same : ids.line ≡ n = cc in sym same, refl)
block_stands contexts m c ids p look n e (on.IsMissing missing looks) = absurd (cc)

pub list_stands : (m : Machine) (line : ℕ) (ps : List ℕ) (look : Look) (n : ℕ) {es : List Entry} {r : Reply} {after : Machine} → r ≡ reply.Pending n → WaitsOn m (first_ids line) ps look es r after → (n ≡ line) × StandsAs after line (blocking.Poll ps)
list_stands m line ps look n e (on.SomeAreReady es found first others after looks places) = absurd (cc)
list_stands m line ps look n e (on.NoneIsReady es found after looks places) = (let same : line ≡ n = cc in sym same, refl)
list_stands m line ps look n e (on.OneIsMissing before others q es found mid cut looks missing) = absurd (cc)

pub begun_stands : (m : Machine) (line : ℕ) (ps : List ℕ) (n : ℕ) {es : List Entry} {r : Reply} {after : Machine} → r ≡ reply.Pending n → BeginsToWait m line ps es r after → (n ≡ line) × StandsAs after line (blocking.Poll ps)
begun_stands m line ps n e (on.ForNone none) = absurd (cc)
begun_stands m line ps n e (on.NoPollable some none) = absurd (cc)
begun_stands m line ps n e (on.AllPollables es r after some all k) = list_stands m line ps First n e k

-- a cancel of it
pub cancelled_so : (contexts : List WasiSocketsCtx) (m : Machine) (line : ℕ) (ids : Ids) (call : BlockingCall) → m.store.standing ≡ Some (standing_as ids (StandingCall.Blocking call)) → (es : List Entry) (r : Reply) (after : Machine)
    → Outcome contexts m line (step.Cancel ids.line) es r after → (r ≡ reply.Ok no_fields) × (es ≡ []) × (after ≡ nothing_stands m)
cancelled_so contexts m line ids call stands es r after row =
    let its : stands_as m.store.standing ids.line ≡ true = ap (λ (o : Option Standing). stands_as o ids.line) stands ∙ eq-eqb ids.line ids.line refl in
    let done : r ≡ reply.Ok no_fields = row.0.1.1 (exclusive_call m ids.line its) in
    elim (subst (λ (x : Reply). Outcome contexts m line (step.Cancel ids.line) es x after) done row).1.1 [
      | inl left ↦ let only : OnlyUnstands m es after = subst (λ (o : Option Standing). IsSomeAnd o (λ s. CancelsBy m es after s.call)) stands left.0 in (done, only.0, only.1)
      | inr beside ↦ absurd (not_beside m ids.line its beside.0)
    ]

-- == the traps of a wait for several
pub for_none : (m : Machine) (line : ℕ) {es : List Entry} {r : Reply} {after : Machine} → BeginsToWait m line [] es r after → (r ≡ reply.Trap EmptyList) × (es ≡ []) × (after ≡ m)
for_none m line (on.ForNone e) = (refl, refl, refl)
for_none m line (on.NoPollable some none) = absurd (some refl)
for_none m line (on.AllPollables es r after some all k) = absurd (some refl)

pub no_pollables : (m : Machine) (line : ℕ) (ps : List ℕ) {es : List Entry} {r : Reply} {after : Machine} → ps ≢ [] → are_pollables m ps ≡ false → BeginsToWait m line ps es r after → (r ≡ reply.Trap NoSuchHandle) × (es ≡ []) × (after ≡ m)
no_pollables m line ps some none (on.ForNone e) = absurd (some e)
no_pollables m line ps some none (on.NoPollable some_too none_too) = (refl, refl, refl)
no_pollables m line ps some none (on.AllPollables es r after some_too all k) = absurd (cc)
