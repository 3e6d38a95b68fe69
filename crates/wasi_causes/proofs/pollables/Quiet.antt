-- What is pending in a run would begin nothing: of each step, and of runs.
use Rattle.wasi_causes.proofs.Words.{◌≡◌, ◌∙◌, ℕ, ◌+◌, ⊤, Allows, Answered, Bool, true, false, Entry, ErrorCode, Err}
use Rattle.wasi_causes.proofs.Words.{Give, Has, IfSome, IsSome, Kind, Left, List, [], ◌∷◌, ◌++◌, Machine, None, Ok}
use Rattle.wasi_causes.proofs.Words.{Option, Reply, Result, Some, Standing, StandingCall, Step, TcpRecord}
use Rattle.wasi_causes.proofs.Words.{WasiSocketsCtx, ap, asks_while, eqb-true, first_ids, first_state, gives_more, inl}
use Rattle.wasi_causes.proofs.Words.{inr, machine_asks, nothing_stands, own_of, poll_asks, refl, run, standing_as}
use Rattle.wasi_causes.proofs.Words.{stands_as, subst, sym, truth_fields, turn_asks}
use Rattle.wasi_world.specs.declared.ids.Ids.{Ids}
use Rattle.wasi_udp.specs.Create.{Create, after_create as udp_after_create}
use Rattle.host_store.specs.declared.store.BlockingCall.{BlockingCall}
use Rattle.host_store.specs.declared.store.BlockingCall.TheVariants as blocking
use Rattle.wasi_host.specs.declared.polling.Look.{Look}
use Rattle.wasi_host.specs.declared.polling.Look.TheVariants.{First, Later}
use Rattle.wasi_host.specs.Polling.{Found, begins_at}
use Rattle.wasi_steps.specs.Steps.{context_of}
use Rattle.wasi_steps.specs.declared.reply.Reply.TheVariants as reply
use Rattle.wasi_steps.specs.declared.guest_call.GuestCall.TheVariants as guest
use Rattle.wasi_steps.specs.declared.guest_call.PollableCall.TheVariants as pollable_call
use Rattle.wasi_steps.specs.declared.step.Step.TheVariants as step
use Rattle.wasi_walks.proofs.Lists.{has_front}
use Rattle.wasi_walks.proofs.fits.Law.{Fit, whatever}
use Rattle.wasi_causes.proofs.Fitted.{Fitted, beside_fits, first_fitted, line_fitted}
use Rattle.wasi_walks.proofs.fits.Datagrams.{FitBeside}
use Rattle.udp_records.specs.Udp.{open_of}
use Rattle.udp_records.specs.declared.udp.OpenUdp.{OpenUdp}
use Rattle.host_store.specs.Beside.{beside_of}
use Rattle.host_store.specs.declared.beside.Beside.{Beside}
use Rattle.host_store.specs.declared.beside.BesideCall.{BesideCall}
use Rattle.host_store.specs.declared.beside.BesideCall.TheVariants.{Connect, Receive, Resolve, Send}
use Rattle.wasi_causes.proofs.pollables.NoMore.{no_more_gone}
use Rattle.wasi_causes.specs.GivenUp.{giving_back}
use Rattle.wasi_causes.specs.P3Connects.{BesideCancelled, LeavesBeside}
use Rattle.wasi_causes.specs.P3Datagrams.{DatagramOver, IsHeldNoMore, IsStillHeld}
use Rattle.wasi_walks.specs.Waiting.{call_over}
use Rattle.std.specs.Prelude.{IsSomeAnd}
use Rattle.wasi_walks.proofs.fits.Polls.{Anything}
use Rattle.wasi_walks.proofs.received.Handles.{polled_same}
use Rattle.wasi_walks.proofs.walks.Law.{InCall}
use Rattle.wasi_walks.proofs.walks.Moves.{AddsSlot, AwaitsCreate, CallKind, CallsHandles, Empties, GoesOn, Here, IsCall, Joins}
use Rattle.wasi_walks.proofs.walks.Moves.{Leaves, LooksAtPollables, Made, Move, Numbers, OfPollables, OfStreams, Past}
use Rattle.wasi_walks.proofs.walks.Moves.{RecallsCall, RecallsStreams, RemembersStreams, Stands, StandsBlocking}
use Rattle.wasi_walks.proofs.walks.Moves.{StandsConnect, StandsDropOutgoing, StandsUdpBind, StandsUdpConnect, StandsUdpCreate, ToSend}
use Rattle.wasi_walks.proofs.walks.Moves.{Frees, IsUnheld, JoinsFault, JoinsPlain, RecallsListen, RemembersListen, StandsListen}
use Rattle.wasi_walks.proofs.walks.Moves.{Unstands, Watches, kind_of, udp_begun}
use Rattle.wasi_walks.proofs.walks.OfState.{Becomes, Handles, HasHandle, HasNoRoom, NoRoom, OfError, OfLine, OfState}
use Rattle.wasi_walks.proofs.walks.OfState.{UdpBegun, Writing, begins_state, of_state}
use Rattle.wasi_walks.proofs.walks.Runs.{run_ends}
use Rattle.wasi_walks.proofs.walks.States.{Over}
use Rattle.wasi_walks.proofs.walks.Steps.{machine_walks}
use Rattle.wasi_causes.proofs.ReceivesGo.{AllGo, first_go, line_goes}
use Rattle.wasi_causes.proofs.pollables.AsReady.{first_so}
use Rattle.wasi_causes.proofs.pollables.Begins.{AcceptsFit, BeginsNoMore, MayBegin, StaysQuiet, finds_none, still_none}
use Rattle.wasi_causes.proofs.pollables.Begins.{turn_no_more, turn_none}
use Rattle.wasi_causes.proofs.pollables.Live.{ready_free}
use Rattle.wasi_causes.proofs.pollables.Places.{same_ones, takes_so}
use Rattle.wasi_causes.proofs.tables.Meets.{Meets, both, met, onto, shifted, widen}
use Rattle.wasi_causes.proofs.tables.Parts.{by_left}
use Rattle.wasi_causes.proofs.Beside.{one_of_three, polled_beside}
use Rattle.host_store.specs.Beside.{stands_under}
use Rattle.wasi_causes.proofs.tables.Steps.{Answers, IsBusy, IsHeldUp, IsItsOwn, answers}
use Rattle.wasi_causes.specs.Blocking.{BlocksAs, IsShort}
use Rattle.wasi_causes.specs.Outcomes.{Outcome}
use Rattle.wasi_causes.specs.PollableCalls.{BeginsNone, BeginsToWait, BlocksOn, Finds, LooksAs, LooksInTurn, WaitsOn}
use Rattle.wasi_causes.specs.PollableCalls.{different, waits_for}
use Rattle.wasi_causes.specs.PollableCalls as on

-- == no wait is pending
abbrev IsNoWait : StandingCall → Type 0
IsNoWait (StandingCall.Blocking (blocking.Block p)) = ⊥
IsNoWait (StandingCall.Blocking (blocking.Poll ps)) = ⊥
IsNoWait _ = ⊤

abbrev NoWaitStands : Option Standing → Type 0
NoWaitStands None = ⊤
NoWaitStands (Some s) = IsNoWait s.call

-- and the line makes none
abbrev MakesNoWait : Made → Type 0
MakesNoWait (Made.Calls OfPollables n handles) = ⊥
MakesNoWait _ = ⊤

abbrev NoWaits : Here → Type 0
NoWaits h = NoWaitStands h.machine.store.standing × MakesNoWait h.made

goes_none : (r : TcpRecord) (call : StandingCall) → GoesOn call r → IsNoWait call
goes_none r (StandingCall.Blocking call) k = absurd k
goes_none r _ k = tt

makes_by : (n : ℕ) (handles : List ℕ) (call : BlockingCall) → IsNoWait (StandingCall.Blocking call) → MakesNoWait
    (Made.Calls (kind_of call) n handles)
makes_by n handles (blocking.Block p) k = k
makes_by n handles (blocking.Poll ps) k = k
makes_by n handles _ k = tt

stands_by : (n : ℕ) (handles : List ℕ) (call : BlockingCall) → MakesNoWait (Made.Calls (kind_of call) n handles) →
    IsNoWait (StandingCall.Blocking call)
stands_by n handles (blocking.Block p) k = k
stands_by n handles (blocking.Poll ps) k = k
stands_by n handles _ k = tt

begun_none : (h : Here) (made : Result Create ErrorCode) → NoWaits h → NoWaits (udp_begun h made)
begun_none h (Ok create) i = i
begun_none h (Err c) i = i

module _ (contexts : List WasiSocketsCtx) (line : ℕ) (origin : Step) (plain : LooksAtPollables origin → ⊥) where
  calls_none : (kind : CallKind) → IsCall kind origin → (handles : List ℕ) → MakesNoWait (Made.Calls kind line handles)
  calls_none OfStreams k handles = tt
  calls_none OfPollables k handles = plain k

  moves_none : (h now : Here) → Move line origin h now → NoWaits h → NoWaits now
  moves_none _ _ (Leaves h) i = (i.0, tt)
  moves_none _ _ (Watches h own) i = (i.0, tt)
  moves_none _ _ (Numbers h) i = (i.0, tt)
  moves_none _ _ (AddsSlot h s) i = (i.0, tt)
  moves_none _ _ (Empties h handle kind q e none) i = (i.0, tt)
  moves_none _ _ (AwaitsCreate h place face create is g) i = (i.0, tt)
  moves_none _ _ (Joins h c handle place r l new peer is of u g e a) i = (i.0, tt)
  moves_none _ _ (JoinsPlain h c listener remaining place r l new peer is of u g e a) i = (i.0, tt)
  moves_none _ _ (JoinsFault h place r l c u g e a) i = (i.0, tt)
  moves_none _ _ (Frees h place made) i = (i.0, tt)
  moves_none _ _ (IsUnheld h place r g free) i = (i.0, tt)
  moves_none _ _ (RemembersListen h marks place r is under g none) i = (i.0, tt)
  moves_none _ _ (RecallsListen h ids place marks e) i = (i.0, tt)
  moves_none _ _ (StandsListen h ids place marks r quiet at made g k) i = (tt, i.1)
  moves_none _ _ (Unstands h over) i = (tt, i.1)
  moves_none _ _ (Stands h ids call r quiet at g k) i = (goes_none r call k, i.1)
  moves_none _ _ (StandsUdpBind h ids place face o op quiet at g e) i = (tt, i.1)
  moves_none _ _ (StandsUdpCreate h ids place face create quiet made g its) i = (tt, i.1)
  moves_none _ _ (StandsDropOutgoing h ids place o quiet at g e) i = (tt, i.1)
  moves_none _ _ (RemembersStreams h c handle place remote is of o g none) i = (i.0, tt)
  moves_none _ _ (RecallsStreams h ids place handle e own) i = (i.0, tt)
  moves_none _ _ (StandsConnect h ids place o op quiet at past g e) i = (tt, i.1)
  moves_none _ _ (StandsUdpConnect h ids place handle o op quiet at made g e) i = (tt, i.1)
  moves_none _ _ (CallsHandles h kind calls quiet) i = (i.0, calls_none kind calls _)
  moves_none _ _ (RecallsCall h ids call e) i = (i.0, makes_by ids.line _ call (subst NoWaitStands e i.0))
  moves_none _ _ (StandsBlocking h ids call handles made its) i =
      (stands_by ids.line handles call (subst MakesNoWait made i.1), i.1)
  moves_none _ _ _ i = i

  handles_none : {h : Here} {kind : Kind} {parent : Option ℕ} {made : Made} → Handles origin h kind parent made →
      MakesNoWait h.made → MakesNoWait made
  handles_none (OfLine kind parent sock m) i = i
  handles_none (OfError n handle place handles m k e) i = i
  handles_none _ i = tt

  no_room : (made : Made) → HasNoRoom made → MakesNoWait made
  no_room Past none = tt
  no_room (ToSend n handle reached) none = tt
  no_room _ none = absurd none

  becomes_none : (h now : Here) → Becomes contexts line origin h now → NoWaits h → NoWaits now
  becomes_none h _ (UdpBegun face ctx family r c u m) i = begun_none h (udp_after_create (own_of line) ctx.name family r) i
  becomes_none h _ (HasHandle kind parent made k) i = (i.0, handles_none k i.1)
  becomes_none h _ (NoRoom made none) i = (i.0, no_room made none)
  becomes_none h _ (Writing _ (InCall place n r s half permit bytes at g e w within used)) i = i
  becomes_none h _ _ i = i

  abbrev none_waits : OfState contexts line origin (λ es h. ⊤)
  none_waits = record {
    Holds = NoWaits;
    moves = λ es h now m b i. moves_none h now m i;
    becomes = λ es h now k b i. becomes_none h now k i;
    polls = λ es h op after held b i.
        whatever (λ end. NoWaits (after end)) (λ end. polled_same
        (λ t made standing. NoWaitStands standing × MakesNoWait made) h op after held end i) es (poll_asks op);
    turns = λ es h place r s g e b i. whatever (λ done. NoWaits h) (λ done. i) es (turn_asks s.writer);
  }

  -- a line that looks at no pollable leaves no wait pending, where none was
  stays_none : (m : Machine) → NoWaitStands m.store.standing → Allows Anything
      (λ fs done. NoWaitStands done.1.store.standing) [] (machine_asks contexts m line origin)
  stays_none m i = gives_more (λ fs done. NoWaitStands done.1.store.standing × ⊤)
      (λ fs done. NoWaitStands done.1.store.standing) (λ fs done k. k.0) [] (machine_asks contexts m line origin)
      ((machine_walks line origin {law = of_state none_waits} (begins_state none_waits) m m.store.standing refl).along
      [] (i, tt))

-- == what is pending would begin nothing
abbrev pub Quiet : Machine → Type 0
Quiet m = IfSome m.store.standing (λ s. BeginsNone m (waits_for s.call))

free_quiet : (m : Machine) → m.store.standing ≡ None → Quiet m
free_quiet m free = subst (λ (o : Option Standing). IfSome o (λ s. BeginsNone m (waits_for s.call))) (sym free) tt

none_quiet : (m : Machine) (o : Option Standing) → NoWaitStands o → IfSome o (λ s. BeginsNone m (waits_for s.call))
none_quiet m None i = tt
none_quiet m (Some s) i = by_call s.call i
  where
    by_call : (call : StandingCall) → IsNoWait call → BeginsNone m (waits_for call)
    by_call (StandingCall.Blocking (blocking.Block p)) i = absurd i
    by_call (StandingCall.Blocking (blocking.Poll ps)) i = absurd i
    by_call _ i = λ p none. absurd none

-- == a wait for one
module _ (contexts : List WasiSocketsCtx) (m : Machine) (c : ℕ) (p : ℕ) (fits : AcceptsFit m.store.records)
    (free : m.store.standing ≡ None) where
  looks_so : (line : ℕ) {look : Look} → MayBegin look m (p ∷ []) → (b : Bool) {es : List Entry} {r : Reply}
      {after : Machine} → r ≡ reply.Ok (truth_fields b) → LooksAs contexts m c line p look es r after → StaysQuiet m
      after × (begins_at after p ≡ false)
  looks_so line may b e (on.LooksFirst es r after w) = finds_none m fits (first_ids line) p {look = First} tt es b after
      ((first_so contexts m line c p free es b after).1
      (subst (λ (x : Reply). Answered contexts m line (step.Call c (guest.Pollable (pollable_call.Ready p))) es x after) e w))
  looks_so line may b e (on.LooksAgain es r after none w) = finds_none m fits (first_ids line) p {look = First} tt es b
      after ((first_so contexts m line c p free es b after).1
      (subst (λ (x : Reply). Answered contexts m line (step.Call c (guest.Pollable (pollable_call.Ready p))) es x after) e w))
  looks_so line may b e (on.WouldBegin begins) = absurd (let none = may p (inl refl) in cc)

  block_quiet : (ids : Ids) {look : Look} → MayBegin look m (p ∷ []) → {es : List Entry} {r : Reply} {after : Machine} →
      BlocksOn contexts m c ids p look es r after → Quiet after
  block_quiet ids may (on.IsReady es after looks) = free_quiet after
      ((looks_so ids.line may true refl looks).0.standing ∙ free)
  block_quiet ids may (on.IsUnready es after looks) = let none = (looks_so ids.line may false refl looks).1 in λ q has.
      elim has [ inl same ↦ subst (λ (i : ℕ). begins_at after i ≡ false) same none | inr nothing ↦ absurd nothing ]
  block_quiet ids may (on.IsMissing missing looks) = free_quiet m free

-- == a wait for several
module _ (m : Machine) (fits : AcceptsFit m.store.records) (free : m.store.standing ≡ None) where
  may_different : (look : Look) (ps : List ℕ) → MayBegin look m ps → MayBegin look m (different ps)
  may_different First ps may = tt
  may_different Later ps may = λ q has. may q ((same_ones ps q).0 has)

  may_before : (look : Look) (ps before others : List ℕ) (p : ℕ) → different ps ≡ before ++ p ∷ others → MayBegin look m
      (different ps) → MayBegin look m before
  may_before First ps before others p cut may = tt
  may_before Later ps before others p cut may = λ q has. may q
      (subst (λ (xs : List ℕ). Has xs q) (sym cut) (has_front before (p ∷ others) q has))

  list_quiet : (ids : Ids) (ps : List ℕ) {look : Look} → MayBegin look m ps → {es : List Entry} {r : Reply}
      {after : Machine} → WaitsOn m ids ps look es r after → Quiet after
  list_quiet ids ps {look} may (on.SomeAreReady es found first others after looks e) = free_quiet after
      ((turn_none {look = look} m fits ids (different ps) (may_different look ps may) es found after looks).0.standing ∙
      free)
  list_quiet ids ps {look} may (on.NoneIsReady es found after looks e) = let k = turn_none {look = look} m fits ids
      (different ps) (may_different look ps may) es found after looks in λ q has. k.1 q ((same_ones ps q).1 has)
  list_quiet ids ps {look} may (on.OneIsMissing before others p es found mid cut looks missing) = free_quiet mid
      ((turn_none {look = look} m fits ids before (may_before look ps before others p cut (may_different look ps may))
      es found mid looks).0.standing
      ∙ free)

  begun_quiet : (line : ℕ) (ps : List ℕ) {es : List Entry} {r : Reply} {after : Machine} → BeginsToWait m line ps es r
      after → Quiet after
  begun_quiet line ps (on.ForNone e) = free_quiet m free
  begun_quiet line ps (on.NoPollable some none) = free_quiet m free
  begun_quiet line ps (on.AllPollables es r after some all k) = list_quiet (first_ids line) ps {look = First} tt k

-- == of a step
module _ (contexts : List WasiSocketsCtx) (m : Machine) (line : ℕ) (fits : AcceptsFit m.store.records) (fitted : Fitted m)
    (go : AllGo m.store.records) (quiet : Quiet m) where
  nothing_pending : (s : Step) → IsSome (context_of s) → (IsHeldUp contexts m line s → ⊥) → (o : Option Standing) →
      m.store.standing ≡ o → m.store.standing ≡ None
  nothing_pending s guest free None e = e
  nothing_pending s guest free (Some c) e = absurd (free (rw e refl, inl guest))

  -- it looks at no pollable, and no wait is pending
  by_others : (s : Step) → (LooksAtPollables s → ⊥) → NoWaitStands m.store.standing → (es : List Entry) (r : Reply)
      (after : Machine) → Answered contexts m line s es r after → Quiet after
  by_others s plain none es r after w = none_quiet after after.store.standing (met
      {Row = λ gs done. NoWaitStands done.1.store.standing} {a = (r, after)}
      (record { along = stays_none contexts line s plain m none }) w)

  by_guest : (s : Step) → IsSome (context_of s) → (LooksAtPollables s → ⊥) → (IsHeldUp contexts m line s → ⊥) →
      (es : List Entry) (r : Reply) (after : Machine) → Answered contexts m line s es r after → Quiet after
  by_guest s guest plain free = by_others s plain
      (subst NoWaitStands (sym (nothing_pending s guest free m.store.standing refl)) tt)

  -- a turn
  turned : (o : Option Standing) → Meets (λ es done. BeginsNoMore m.store.records done.1.store.records) []
      (asks_while contexts m line step.Turn o)
  turned None = onto _ (turn_no_more m go)
  turned (Some s) = onto _ (turn_no_more m go)

  turn_quiet : (es : List Entry) (r : Reply) (after : Machine) → Answered contexts m line step.Turn es r after → Outcome
      contexts m line step.Turn es r after → Quiet after
  turn_quiet es r after w row = subst (λ (o : Option Standing). IfSome o (λ s. BeginsNone after (waits_for s.call)))
      (sym row.0.pending) (by_standing m.store.standing quiet)
    where
      no_more : BeginsNoMore m.store.records after.store.records
      no_more = met {Row = λ gs done. BeginsNoMore m.store.records done.1.store.records} {a = (r, after)}
          (turned m.store.standing) w

      by_standing : (o : Option Standing) → IfSome o (λ s. BeginsNone m (waits_for s.call)) → IfSome o
          (λ s. BeginsNone after (waits_for s.call))
      by_standing None k = tt
      by_standing (Some s) k = λ p has. still_none m after no_more row.0.handles p (k p has)

  -- a call beside others is given up
  over_quiet : (n place : ℕ) (o : OpenUdp) {es : List Entry} {after : Machine} → DatagramOver m n place o es after → Quiet after
  over_quiet n place o (IsStillHeld held) = quiet
  over_quiet n place o (IsHeldNoMore held) = by_standing m.store.standing quiet
    where
      by_standing : (s : Option Standing) → IfSome s (λ s. BeginsNone m (waits_for s.call)) → IfSome s (λ s. BeginsNone (giving_back (call_over m n) place) (waits_for s.call))
      by_standing None k = tt
      by_standing (Some s) k = λ p has. still_none m (giving_back (call_over m n) place) (no_more_gone m.store.records place) refl p (k p has)

  beside_quiet : (n : ℕ) (es : List Entry) (after : Machine) → BesideCancelled m n es after → Quiet after
  beside_quiet n es after left = by_beside (beside_of m.store n) refl left.1
    where
      by_call : (b : Beside) (call : BesideCall) → FitBeside m.store.records b.line call → LeavesBeside m n es after call → Quiet after
      by_call b (Connect place) fit k = subst Quiet (sym k.1) quiet
      by_call b (Resolve host) fit k = subst Quiet (sym k.1) quiet
      by_call b (Send place op) fit k = over_quiet n place fit.0.was (k fit.0.was (ap open_of fit.0.at))
      by_call b (Receive place op) fit k = over_quiet n place fit.0.was (k fit.0.was (ap open_of fit.0.at))

      by_beside : (o : Option Beside) → beside_of m.store n ≡ o → IsSomeAnd o (λ b. LeavesBeside m n es after b.call) → Quiet after
      by_beside None e k = absurd k
      by_beside (Some b) e k = by_call b b.call (beside_fits m fitted n b e).0 k

  -- a cancel
  cancel_quiet : (n : ℕ) (es : List Entry) (r : Reply) (after : Machine) → Outcome contexts m line (step.Cancel n) es r
      after → Quiet after
  cancel_quiet n es r after row = by_under (stands_under m.store n) refl
    where
      by_under : (b : Bool) → stands_under m.store n ≡ b → Quiet after
      by_under true e =
          let k = subst (λ (x : Reply). Outcome contexts m line (step.Cancel n) es x after) (row.0.1.1 e) row in
          elim k.1.1 [
            | inl left ↦ free_quiet after left.1
            | inr beside ↦ beside_quiet n es after beside
          ]
      by_under false e = let k = subst (λ (x : Reply). Outcome contexts m line (step.Cancel n) es x after)
          (row.0.0.1 e) row in subst Quiet (sym k.1.1.1) quiet

  -- a poll
  module _ (n : ℕ) (es : List Entry) (r : Reply) (after : Machine)
      (free : IsHeldUp contexts m line (step.Poll n) → ⊥) (w : Answered contexts m line (step.Poll n) es r after)
      (row : Outcome contexts m line (step.Poll n) es r after) where
    its_wait : (s : Standing) → m.store.standing ≡ Some s → (call : BlockingCall) → s.call ≡ StandingCall.Blocking call
        → IsShort call
        → (BlocksAs contexts (nothing_stands m) 0 s.ids call es r after → BeginsNone m
        (waits_for (StandingCall.Blocking call)) → Quiet after) → Quiet after
    its_wait s e call is short goes = one_of_three m n
        (λ on. goes (row.0.2 0 s.ids call stands
        (eqb-true s.ids.line n (ap (λ (o : Option Standing). stands_as o n) (sym e) ∙ on)) short) none)
        (λ off. let k = subst (λ (x : Reply). Outcome contexts m line (step.Poll n) es x after) (row.0.0.1 off) row in
        subst Quiet (sym k.1.1.1) quiet)
        (λ beside. absurd (free (rw e refl, inr (polled_beside m n beside))))
      where
        stands : m.store.standing ≡ Some (standing_as s.ids (StandingCall.Blocking call))
        stands = e ∙ ap (λ (c : StandingCall). Some (standing_as s.ids c)) is

        none : BeginsNone m (waits_for (StandingCall.Blocking call))
        none = subst (λ (o : Option Standing). IfSome o (λ s. BeginsNone m (waits_for s.call))) stands quiet

    by_call : (s : Standing) → m.store.standing ≡ Some s → (call : StandingCall) → s.call ≡ call → Quiet after
    by_call s e (StandingCall.Blocking (blocking.Block p)) is = its_wait s e (blocking.Block p) is tt
        (λ k none. block_quiet contexts (nothing_stands m) 0 p fits refl s.ids {look = Later} none k)
    by_call s e (StandingCall.Blocking (blocking.Poll ps)) is = its_wait s e (blocking.Poll ps) is tt
        (λ k none. list_quiet (nothing_stands m) fits refl (first_ids s.ids.line) ps {look = Later} none k)
    by_call s e _ is = by_others (step.Poll n) (λ k. k) (subst NoWaitStands (sym e) (subst IsNoWait (sym is) tt)) es r
        after w

    poll_quiet : (o : Option Standing) → m.store.standing ≡ o → Quiet after
    poll_quiet None e = by_others (step.Poll n) (λ k. k) (subst NoWaitStands (sym e) tt) es r after w
    poll_quiet (Some s) e = by_call s e s.call refl

  module _ (es : List Entry) (r : Reply) (after : Machine) where
    quiet_after : (s : Step) → (IsHeldUp contexts m line s → ⊥) → Answered contexts m line s es r after → Outcome
        contexts m line s es r after → Quiet after
    quiet_after step.Turn free w row = turn_quiet es r after w row
    quiet_after (step.Poll n) free w row = poll_quiet n es r after free w row m.store.standing refl
    quiet_after (step.Cancel n) free w row = cancel_quiet n es r after row
    quiet_after (step.Call c (guest.Pollable (pollable_call.Ready p))) free w row = free_quiet after (ready_free contexts m line c p
        (nothing_pending (step.Call c (guest.Pollable (pollable_call.Ready p))) refl free m.store.standing refl) es r after w)
    quiet_after (step.Call c (guest.Pollable (pollable_call.Block p))) free w row =
        let none = nothing_pending (step.Call c (guest.Pollable (pollable_call.Block p))) refl free m.store.standing refl in block_quiet contexts
        m c p fits none (first_ids line) {look = First} tt (row.0 none)
    quiet_after (step.Call c (guest.Pollable (pollable_call.PollList ps))) free w row = begun_quiet m fits
        (nothing_pending (step.Call c (guest.Pollable (pollable_call.PollList ps))) refl free m.store.standing refl) line ps row.0
    quiet_after s free w row = by_guest s refl (λ k. k) free es r after w

  by_answer : (s : Step) (es : List Entry) (r : Reply) (after : Machine) → Answered contexts m line s es r after →
      Answers contexts m line s es r after → Quiet after
  by_answer s _ _ _ w (IsBusy held) = quiet
  by_answer s _ _ _ w (IsItsOwn es r after free row) = quiet_after es r after s free w row

  lasts : (s : Step) → Meets (λ es done. Quiet done.1) [] (machine_asks contexts m line s)
  lasts s = by_left (machine_asks contexts m line s)
      (λ es done w. by_answer s es done.0 done.1 w (answers contexts m line s es done.0 done.1 w))

-- == of a run
abbrev Between : ℕ → List Entry → Machine → Type 0
Between line es m = Fitted m × (AllGo m.store.records × Quiet m)

accepts_of : (m : Machine) → Fitted m → AcceptsFit m.store.records
accepts_of m f k r at = (f.2.records k r at).1

line_quiet : (contexts : List WasiSocketsCtx) (line : ℕ) (s : Step) (m : Machine) (es : List Entry) → Between line es m
    → Allows Anything (λ fs done. Between (line + 1) fs done.1) es (machine_asks contexts m line s)
line_quiet contexts line s m es i =
    (both (record { along = line_fitted contexts line s m es i.0 }) (both (record {
      along = line_goes contexts line s m es
          i.1.0;
    })
    (widen (λ gs done k. k.row) (shifted es (lasts contexts m line (accepts_of m i.0) i.0 i.1.0 i.1.1 s))))).along

module _ (contexts : List WasiSocketsCtx) (steps : List Step) (log : List Entry) (replies : List Reply) (m : Machine)
    (w : Left (run contexts [] first_state 1 steps) log (Give (replies, m))) where
  holds : Between 0 log m
  holds = (run_ends contexts Anything Between (line_quiet contexts) (first_fitted, (first_go, tt)) steps log replies m w).1

  module _ (ids : Ids) (call : StandingCall) (stands : m.store.standing ≡ Some (standing_as ids call)) where
    -- no pollable of what is pending would begin anything
    pub waits_begin_none : BeginsNone m (waits_for call)
    waits_begin_none = subst (λ (o : Option Standing). IfSome o (λ s. BeginsNone m (waits_for s.call))) stands holds.1.1

  pub accepts_fit : AcceptsFit m.store.records
  accepts_fit = accepts_of m holds.0

-- == so a later look is as a first one
looks_first : (contexts : List WasiSocketsCtx) (m : Machine) (c line p : ℕ) → begins_at m p ≡ false → {es : List Entry}
    {r : Reply} {after : Machine} → LooksAs contexts m c line p Later es r after → LooksAs contexts m c line p First es
    r after
looks_first contexts m c line p none (on.LooksAgain es r after same w) = on.LooksFirst es r after w
looks_first contexts m c line p none (on.WouldBegin begins) = absurd (cc)

pub block_first : (contexts : List WasiSocketsCtx) (m : Machine) (c : ℕ) (ids : Ids) (p : ℕ) → begins_at m p ≡ false →
    {es : List Entry} {r : Reply} {after : Machine} → BlocksOn contexts m c ids p Later es r after → BlocksOn contexts m
    c ids p First es r after
block_first contexts m c ids p none (on.IsReady es after looks) = on.IsReady es after
    (looks_first contexts m c ids.line p none looks)
block_first contexts m c ids p none (on.IsUnready es after looks) = on.IsUnready es after
    (looks_first contexts m c ids.line p none looks)
block_first contexts m c ids p none (on.IsMissing missing looks) = on.IsMissing missing
    (looks_first contexts m c ids.line p none looks)

find_first : (m : Machine) (ids : Ids) (p : ℕ) → begins_at m p ≡ false → {es : List Entry} {b : Bool} {mid : Machine} →
    Finds m ids p Later es b mid → Finds m ids p First es b mid
find_first m ids p none (on.FindsAgain es b mid same w) = on.FindsFirst es b mid w
find_first m ids p none (on.FindsToBegin begins) = absurd (cc)

turn_first : (m : Machine) → AcceptsFit m.store.records → (ids : Ids) (ps : List ℕ) → BeginsNone m ps →
    {es : List Entry} {found : Found} {after : Machine} → LooksInTurn Later m ids ps es found after → LooksInTurn First
    m ids ps es found after
turn_first m fits _ _ none (on.NoMore _ ids) = on.NoMore m ids
turn_first m fits _ _ none (on.OneMore _ mid after ids p others es fs b found k looks) =
    let here : begins_at m p ≡ false = none p (inl refl) in
    let one = finds_none m fits ids p {look = Later}
    (λ q has. none q (elim has [ inl same ↦ inl same | inr nothing ↦ absurd nothing ])) es b mid k in
    on.OneMore m mid after ids p others es fs b found (find_first m ids p here k)
    (subst (λ (x : Ids). LooksInTurn First mid x others fs found after) (sym (takes_so ids m p false here))
    (turn_first mid one.0.fits ids others (λ q has. still_none m mid one.0.no_more one.0.table q (none q (inr has)))
    looks))

pub list_first : (m : Machine) → AcceptsFit m.store.records → (ids : Ids) (ps : List ℕ) → BeginsNone m ps →
    {es : List Entry} {r : Reply} {after : Machine} → WaitsOn m ids ps Later es r after → WaitsOn m ids ps First es r
    after
list_first m fits ids ps none (on.SomeAreReady es found first others after looks e) = on.SomeAreReady es found first
    others after (turn_first m fits ids (different ps) (λ q has. none q ((same_ones ps q).0 has)) looks) e
list_first m fits ids ps none (on.NoneIsReady es found after looks e) = on.NoneIsReady es found after
    (turn_first m fits ids (different ps) (λ q has. none q ((same_ones ps q).0 has)) looks) e
list_first m fits ids ps none (on.OneIsMissing before others p es found mid cut looks missing) =
    on.OneIsMissing before others p es found mid cut (turn_first m fits ids before
    (λ q has. none q
    ((same_ones ps q).0 (subst (λ (xs : List ℕ). Has xs q) (sym cut) (has_front before (p ∷ others) q has)))) looks)
    missing
