-- What a listen that was pending leaves: while it is in progress its socket is closed, and its code is Other.
use Rattle.wasi_records.specs.Records.{tcp2_at}
use Rattle.tcp_records.specs.declared.tcp_listening.Listening.TheVariants as listening
use Rattle.tcp_records.specs.Listening.{with_listening}
use Rattle.host_store.specs.declared.store.StandingCall.TheVariants as standing
use Rattle.wasi_tcp.specs.declared.socket.TcpState.TheVariants as state
use Rattle.wasi_addr.specs.declared.code.ErrorCode.TheVariants.{Other}
use Rattle.wasi_world.specs.declared.ids.Ids.{Ids}
use Rattle.wasi_causes.proofs.operations.PendingListens.{it_listens}
use Rattle.wasi_causes.proofs.Words.{Answered, CallFails, CodeWord, Entry, ErrorCode, Give, HoldsCall, IfSome}
use Rattle.wasi_causes.proofs.Words.{IsListening, IsSomeAnd, Left, List, ListenFailed, Listening, Machine, None, Option}
use Rattle.wasi_causes.proofs.Words.{Reply, Some, Standing, StandingCall, Step, TcpRecord, TcpState, WasiSocketsCtx}
use Rattle.wasi_causes.proofs.Words.{[], ap, eq-eqb, first_state, inl, inr, stands_as, true, nothing_stands, putting, refl, run, subst, sym, ℕ}
use Rattle.wasi_causes.proofs.Words.{◌∙◌, ◌≡◌}
use Rattle.wasi_causes.proofs.Beside.{not_beside}
use Rattle.wasi_causes.proofs.Runs.{fits, runs_bind}
use Rattle.wasi_causes.proofs.Steady.{AsksToListen, runs_are_steady}
use Rattle.wasi_causes.proofs.tables.Steps.{its_own, other_free, unheld}
use Rattle.wasi_causes.specs.Cancelled.{CancelsBy}
use Rattle.wasi_causes.specs.Failed.{FailureLeaves, left_failed}
use Rattle.wasi_causes.specs.Reached.{IsBeginning, IsClosedByListen, ListensNoMore}
use Rattle.host_store.specs.Standing.{standing_as}
use Rattle.wasi_steps.specs.declared.reply.Field.{Field}
use Rattle.wasi_steps.specs.declared.reply.Reply.TheVariants as reply
use Rattle.wasi_steps.specs.declared.step.Step.TheVariants as step
use Rattle.wasi_walks.proofs.Places.{put_finds, tcp_sort}

module _ (contexts : List WasiSocketsCtx) (steps : List Step) (log : List Entry) (replies : List Reply) (m : Machine) (ran : Left (run contexts [] first_state 1 steps) log (Give (replies, m))) where
  closed_so : (s : TcpState) (l : Listening) → IsBeginning l → AsksToListen s l → s ≡ state.Closed Other
  closed_so s (listening.Begins op) begins k = k.2
  closed_so s _ none k = absurd none

  -- while a listen is in progress
  pub begins_closed : (place : ℕ) (r : TcpRecord) → tcp2_at m.store.records place ≡ Some r → IsBeginning r.listening
      → r.inner.state ≡ state.Closed Other
  begins_closed place r at begins = closed_so r.inner.state r.listening begins (runs_are_steady contexts steps log replies m ran place r at).2.1

  -- a pending listen is one in progress
  is_begun : (s : TcpState) (l : Listening) → IsListening s l → IsBeginning l
  is_begun s (listening.Begins op) k = tt
  is_begun s _ k = absurd k

  -- of which the record is left without it
  left_closed : (place : ℕ) (r : TcpRecord) → tcp2_at m.store.records place ≡ Some r → IsBeginning r.listening
      → (after : Machine) → after ≡ putting (nothing_stands m) place (with_listening r listening.Not)
      → IsClosedByListen after place × ListensNoMore after place
  left_closed place r at begins after left = rw left (rw (put_finds tcp_sort m.store.records place r (with_listening r listening.Not) at) (begins_closed place r at begins, refl))

  -- it failed
  failed_closed : (entries : List Entry) (call : StandingCall) (place : ℕ) (marks : Option ℕ) → call ≡ standing.Listen place marks
      → (c : ErrorCode) (why : CallFails m entries call c) (after : Machine) → after ≡ left_failed m why
      → IsClosedByListen after place × ListensNoMore after place
  failed_closed entries _ place marks same c (ListenFailed its other r op _ at is ends) after left = let e : its ≡ place = cc in subst (λ k. IsClosedByListen after k × ListensNoMore after k) e (left_closed its r at (subst IsBeginning (sym is) tt) after left)
  failed_closed entries _ place marks same c _ after left = absurd (cc)

  stands_its : (ids : Ids) (call : StandingCall) → m.store.standing ≡ Some (standing_as ids call) → stands_as m.store.standing ids.line ≡ true
  stands_its ids call stands = ap (λ (o : Option Standing). stands_as o ids.line) stands ∙ eq-eqb ids.line ids.line refl

  same_call : (x y : Standing) → Some x ≡ Some y → x.call ≡ y.call
  same_call x y e = let same : x ≡ y = cc in ap (λ (s : Standing). s.call) same

  pub fails_closed : (line place : ℕ) (marks : Option ℕ) (ids : Ids) (entries : List Entry) (word : CodeWord) (after : Machine)
      → m.store.standing ≡ Some (standing_as ids (standing.Listen place marks))
      → Answered contexts m line (step.Poll ids.line) entries (reply.Err word) after
      → IsClosedByListen after place × ListensNoMore after place
  fails_closed line place marks ids entries word after stands w =
      let stood = stands_its ids (standing.Listen place marks) stands in
      let fails : FailureLeaves m ids.line entries word after = elim (its_own contexts m line (step.Poll ids.line) entries (reply.Err word) after w (λ e. cc)).1.1.0 [ inl why ↦ why (runs_bind contexts steps log replies m ran) | inr beside ↦ absurd (not_beside m ids.line stood beside) ] in
      let same : fails.fails.call ≡ standing.Listen place marks = same_call (record { ids = fails.fails.ids; call = fails.fails.call }) (standing_as ids (standing.Listen place marks)) (sym fails.fails.stands ∙ stands) in
      failed_closed entries fails.fails.call place marks same fails.fails.code fails.fails.cause after fails.left

  -- it was cancelled
  module _ (line place : ℕ) (marks : Option ℕ) (ids : Ids) (entries : List Entry) (fields : List Field) (after : Machine) (stands : m.store.standing ≡ Some (standing_as ids (standing.Listen place marks))) where
    begun_at : (o : Option TcpRecord) → tcp2_at m.store.records place ≡ o
        → IfSome o (λ r. IsListening r.inner.state r.listening) → CancelsBy m entries after (standing.Listen place marks)
        → IsClosedByListen after place × ListensNoMore after place
    begun_at None at held gives = absurd (let its = (fits contexts steps log replies m ran).stands (standing_as ids (standing.Listen place marks)) stands in let there = its.at in cc)
    begun_at (Some r) at held gives = left_closed place r at (is_begun r.inner.state r.listening held) after (gives r at).left

    pub cancels_closed : Answered contexts m line (step.Cancel ids.line) entries (reply.Ok fields) after
        → IsClosedByListen after place × ListensNoMore after place
    cancels_closed w =
        let gives : IsSomeAnd m.store.standing (λ s. CancelsBy m entries after s.call) = elim (unheld contexts m line (step.Cancel ids.line) (other_free contexts m line (step.Cancel ids.line) refl refl) entries (reply.Ok fields) after w).1.1 [ inl left ↦ left.0 | inr beside ↦ absurd (not_beside m ids.line (stands_its ids (standing.Listen place marks) stands) beside.0) ] in
        begun_at (tcp2_at m.store.records place) refl (it_listens m place marks (subst (λ (o : Option Standing). IfSome o (λ s. HoldsCall m s.call)) stands (runs_bind contexts steps log replies m ran))) (subst (λ (o : Option Standing). IsSomeAnd o (λ s. CancelsBy m entries after s.call)) stands gives)
