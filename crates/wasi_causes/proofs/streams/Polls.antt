-- A poll of a pending call that blocks, and of one of a stream.
use Rattle.wasi_causes.proofs.Words.{◌≡◌, ◌≢◌, ◌∙◌, ℕ, Answer, List, [], Option, Some, None, Ok, Err, Pending, Ready, refl, sym, subst, ap, inl, inr, IsSomeAnd, Entry, Machine, CallStop, Reply, true, false, Result, Standing, StandingCall, Stop, WasiSocketsCtx, eq-eqb, no_fields, nothing_stands, number_fields, own_of, CallWaits, stands_as, standing_as}
use Rattle.std.specs.Prelude.{◌⊎◌}
use Rattle.host_store.specs.Beside.{stands_under}
use Rattle.wasi_causes.proofs.Beside.{exclusive_call, not_beside, not_both}
use Rattle.wasi_world.specs.declared.ids.Ids.{Ids}
use Rattle.host_store.specs.declared.store.BlockingCall.{BlockingCall}
use Rattle.host_store.specs.declared.store.BlockingCall.TheVariants as blocking
use Rattle.wasi_host.specs.declared.pending.Outcome.{Outcome as Given}
use Rattle.wasi_host.specs.declared.pending.Outcome.TheVariants as given
use Rattle.host_streams.specs.Blocking.{Blocked}
use Rattle.host_store.specs.CallStops.{Closed, Failed, Traps as TrapsBy}
use Rattle.wasi_host.specs.Pending.{blocked_outcome, nothing_given, resumed, unblock_asks}
use Rattle.wasi_machine.specs.Machine.{blocked_reply_of, outcome_reply, resumed_reply}
use Rattle.wasi_steps.specs.Reply.{bytes_fields, no_values}
use Rattle.wasi_steps.specs.declared.reply.Field.{Field}
use Rattle.wasi_steps.specs.declared.reply.Reply.TheVariants as reply
use Rattle.wasi_steps.specs.declared.step.Step.TheVariants as step
use Rattle.wasi_walks.specs.Missing.{MissesOutput, MissesStream}
use Rattle.wasi_causes.proofs.streams.BlockedSplices.{splices_on}
use Rattle.wasi_causes.proofs.streams.BlockedWrites.{Ahead, WriteFrame, flush_rows, last_rows, rounds}
use Rattle.wasi_causes.proofs.streams.Blocks.{Frame, reads_on, skips_on}
use Rattle.wasi_causes.proofs.streams.Composed.{IsComposed}
use Rattle.wasi_causes.proofs.streams.Settles.{Settled, flushes_settle, lasts_settle, reads_settle, rounds_settle, skips_settle, splices_settle}
use Rattle.wasi_causes.proofs.tables.Meets.{Meets, Rows, both, granted_each, onto, widen}
use Rattle.wasi_causes.proofs.tables.Routes.{apart}
use Rattle.wasi_causes.specs.Blocking.{BlockingCallStands, BlocksAs, GivesOf, IsCallOfStream, IsShort, StreamCallStands, waiting}
use Rattle.wasi_causes.specs.Datagrams.{HasItsHandle}
use Rattle.wasi_causes.specs.Udp.{GivesBy}
use Rattle.wasi_causes.specs.MayAnswer.{AreLike}
use Rattle.wasi_causes.specs.Outcomes.{Outcome, Replies}
use Rattle.wasi_steps.specs.Replies.{kinds_of}

the_same : {x y : Standing} → Some x ≡ Some y → x ≡ y
the_same e = cc

the_call : {x y : BlockingCall} → StandingCall.Blocking x ≡ StandingCall.Blocking y → x ≡ y
the_call e = cc

module _ (contexts : List WasiSocketsCtx) (m : Machine) (line : ℕ) (ids : Ids) (call : BlockingCall) (stands : m.store.standing ≡ Some (standing_as ids (StandingCall.Blocking call))) where
  abbrev n : ℕ
  n = ids.line

  blocking_stands : BlockingCallStands m
  blocking_stands = rw stands tt

  its_call : (P : Standing → Type 0) → P (standing_as ids (StandingCall.Blocking call)) → IsSomeAnd m.store.standing P
  its_call P p = subst (λ (o : Option Standing). IsSomeAnd o P) (sym stands) p

  -- the fields are of those that a poll may give
  like : (its : BlockingCall) (fields : List Field) → GivesOf its fields → AreLike (kinds_of (step.Poll n)) fields
  like (blocking.Read input len) fields g = rw g.1 (inl (inr (inr (inr (inl (tt, tt))))))
  like (blocking.Skip input len) fields g = rw g.1 (inl (inr (inl (tt, tt))))
  like (blocking.Splice to from len) fields g = rw g.1 (inl (inr (inl (tt, tt))))
  like (blocking.Write output rest) fields g = rw g (inl (inl tt))
  like (blocking.Finish output) fields g = rw g (inl (inl tt))
  like (blocking.Flush output) fields g = rw g (inl (inl tt))
  like (blocking.Block pollable) fields g = rw g (inl (inl tt))
  like (blocking.Poll pollables) fields g = inr (inl (g.0, g.1, g.2))

  pub gives_so : (es : List Entry) (fields : List Field) (after : Machine) → GivesOf call fields → after.table ≡ m.table → Replies contexts m line (step.Poll n) es (reply.Ok fields) after
  gives_so es fields after g same = (like call fields g, inl (its_call (λ s. GivesBy m fields after s.call) (g, same)))

  pub pends_so : (es : List Entry) (after : Machine) → after.table ≡ m.table → IsSomeAnd after.store.standing (λ c. c.ids.line ≡ n) → Replies contexts m line (step.Poll n) es (reply.Pending n) after
  pends_so es after same on = ((refl, inl on), (inl (λ fits. its_call (λ s. CallWaits m (own_of n) es s.call) tt), same, λ other. absurd (other blocking_stands)))

  -- == of a stream
  module _ (of : IsCallOfStream call) where
    stream_stands : StreamCallStands m
    stream_stands = rw stands of

    composed : IsComposed contexts m line (step.Poll n)
    composed = record { stream = tt; makes = tt; ends = λ es after. stream_stands; fails = λ es w handle after. stream_stands; full = λ es after. inr (inr stream_stands) }

    frame : Frame contexts m line (step.Poll n) (nothing_stands m) ids call
    frame = record {
      is = composed;
      table = refl;
      gives = λ es fields after g same. gives_so es fields after g same;
      pends = λ es now mid same. pends_so es (waiting mid ids now) same refl;
      misses = λ missing. inl (rw (stands, eq-eqb n n refl) missing);
      quiet = λ live. (refl, rw (stands, eq-eqb n n refl) refl);
    }

    -- of a call that gives nothing
    write_frame : GivesOf call no_fields → WriteFrame contexts m line (step.Poll n) ids
    write_frame none = record {
      is = composed;
      gives = λ es after same. gives_so es no_fields after none same;
      pends = λ es now mid same. pends_so es (waiting mid ids now) same refl;
    }

    -- before anything was done of it
    begun : {f : WriteFrame contexts m line (step.Poll n) ids} (c output : ℕ) → (MissesOutput (nothing_stands m) output → MissesStream (nothing_stands m) call) → Ahead contexts m line (step.Poll n) c ids output f [] (nothing_stands m)
    begun c output so = record { table = refl; unmarked = refl; misses = λ missing. (frame.misses (so missing), frame.quiet) }

  -- == as the poll reports it
  abbrev pub PolledRow : Rows (Result (Answer Given) Stop × Machine)
  PolledRow es done = Outcome contexts m line (step.Poll n) es (resumed_reply n (resumed done).0) (resumed done).1

  abbrev Continues : {A : Type 0} → (A → List Field) → Rows (Blocked A)
  Continues fields es done = ((c : ℕ) → IsShort call → BlocksAs contexts (nothing_stands m) c ids call es (blocked_reply_of fields n done.0) done.1) × Replies contexts m line (step.Poll n) es (blocked_reply_of fields n done.0) done.1

  goes_on : (es : List Entry) (r : Reply) (after : Machine) → ((c : ℕ) → IsShort call → BlocksAs contexts (nothing_stands m) c ids call es r after) → (c : ℕ) (other : Ids) (its : BlockingCall) → m.store.standing ≡ Some (standing_as other (StandingCall.Blocking its)) → other.line ≡ n → IsShort its → BlocksAs contexts (nothing_stands m) c other its es r after
  goes_on es r after so c other its on same =
      let one : standing_as ids (StandingCall.Blocking call) ≡ standing_as other (StandingCall.Blocking its) = the_same (sym stands ∙ on) in
      let same_ids : ids ≡ other = ap (λ (s : Standing). s.ids) one in
      let same_call : call ≡ its = the_call (ap (λ (s : Standing). s.call) one) in
      subst (λ (i : Ids). IsShort its → BlocksAs contexts (nothing_stands m) c i its es r after) same_ids (subst (λ (b : BlockingCall). IsShort b → BlocksAs contexts (nothing_stands m) c ids b es r after) same_call (so c))

  its_on : stands_as m.store.standing n ≡ true
  its_on = ap (λ (o : Option Standing). stands_as o n) stands ∙ eq-eqb n n refl

  stands_so : stands_under m.store n ≡ false → ⊥
  stands_so none = not_both (stands_under m.store n) (exclusive_call m n its_on) none

  -- what it leaves pending
  pub its_answer : (es : List Entry) (r : Reply) (after : Machine) → r ≢ reply.NoSuchCall → (r ≡ reply.Pending n) ⊎ (after.store.standing ≡ None) → ((c : ℕ) → IsShort call → BlocksAs contexts (nothing_stands m) c ids call es r after) → Replies contexts m line (step.Poll n) es r after → Outcome contexts m line (step.Poll n) es r after
  its_answer es r after other left so row = ((apart other stands_so, λ same. left, goes_on es r after so, λ beside. absurd (not_beside m n its_on beside)), row)

  polled : {A : Type 0} (fields : A → List Field) (gives : A → Given) → ((value : A) → outcome_reply n (Ready (gives value)) ≡ reply.Ok (fields value)) → (es : List Entry) (given : Result (Answer A) CallStop) (after : Machine) → Continues fields es (given, after) → Settled (nothing_stands m) es (given, after) → PolledRow es (blocked_outcome gives (given, after))
  polled fields gives same es (Ok (Ready value)) after k free = subst (λ (r : Reply). Outcome contexts m line (step.Poll n) es r after) (sym (same value)) (its_answer es (reply.Ok (fields value)) after (λ e. cc) (inr free) k.0 k.1)
  polled fields gives same es (Ok Pending) after k free = its_answer es (reply.Pending n) after (λ e. cc) (inl refl) k.0 k.1
  polled fields gives same es (Err Closed) after k free = its_answer es reply.Closed after (λ e. cc) (inr free) k.0 k.1
  polled fields gives same es (Err (Failed code handle)) after k free = its_answer es _ after (λ e. cc) (inr free) k.0 k.1
  polled fields gives same es (Err (TrapsBy kind)) after k free = its_answer es (reply.Trap kind) after (λ e. cc) (inr free) k.0 k.1

-- by the call
pub stream_goes_on : (contexts : List WasiSocketsCtx) (m : Machine) (line : ℕ) (ids : Ids) (call : BlockingCall) (stands : m.store.standing ≡ Some (standing_as ids (StandingCall.Blocking call))) → IsCallOfStream call → Meets (PolledRow contexts m line ids call stands) [] (unblock_asks (nothing_stands m) ids call)
stream_goes_on contexts m line ids (blocking.Read input len) stands of =
    onto _ (widen (λ es done k. polled contexts m line ids (blocking.Read input len) stands bytes_fields given.Bytes (λ v. refl) es done.0 done.1 (λ c short. (k.0 c).0 refl, (k.0 0).1) k.1)
    (both (granted_each (λ (c : ℕ). reads_on contexts m line (step.Poll ids.line) (nothing_stands m) c ids input len (frame contexts m line ids (blocking.Read input len) stands tt))) (reads_settle (nothing_stands m) ids input len)))
stream_goes_on contexts m line ids (blocking.Skip input len) stands of =
    onto _ (widen (λ es done k. polled contexts m line ids (blocking.Skip input len) stands number_fields given.Count (λ v. refl) es done.0 done.1 (λ c short. (k.0 c).0 refl, (k.0 0).1) k.1)
    (both (granted_each (λ (c : ℕ). skips_on contexts m line (step.Poll ids.line) (nothing_stands m) c ids input len (frame contexts m line ids (blocking.Skip input len) stands tt))) (skips_settle (nothing_stands m) ids input len)))
stream_goes_on contexts m line ids (blocking.Splice to from len) stands of =
    onto _ (widen (λ es done k. polled contexts m line ids (blocking.Splice to from len) stands number_fields given.Count (λ v. refl) es done.0 done.1 (λ c short. (k.0 c).0 refl, (k.0 0).1) k.1)
    (both (granted_each (λ (c : ℕ). splices_on contexts m line (step.Poll ids.line) (nothing_stands m) c ids to from len (frame contexts m line ids (blocking.Splice to from len) stands tt) (λ readable missing es after live. absurd (let its : HasItsHandle m (StandingCall.Blocking (blocking.Splice to from len)) = rw stands at live in its.0 (inr missing))))) (splices_settle (nothing_stands m) ids to from len)))
stream_goes_on contexts m line ids (blocking.Write output rest) stands of =
    onto _ (widen (λ es done k. polled contexts m line ids (blocking.Write output rest) stands no_values nothing_given (λ v. refl) es done.0 done.1 (λ c short. (k.0 c).0 short refl, (k.0 0).1) k.1)
    (both (granted_each (λ (c : ℕ). rounds contexts m line (step.Poll ids.line) c ids output (write_frame contexts m line ids (blocking.Write output rest) stands tt refl) 4095 (nothing_stands m) [] (begun contexts m line ids (blocking.Write output rest) stands tt c output (λ missing. missing)) rest)) (rounds_settle (nothing_stands m) ids output 4096 (nothing_stands m) refl rest [])))
stream_goes_on contexts m line ids (blocking.Finish output) stands of =
    onto _ (widen (λ es done k. polled contexts m line ids (blocking.Finish output) stands no_values nothing_given (λ v. refl) es done.0 done.1 (λ c short. (k.0 c).0 refl, (k.0 0).1) k.1)
    (both (granted_each (λ (c : ℕ). last_rows contexts m line (step.Poll ids.line) c ids output (write_frame contexts m line ids (blocking.Finish output) stands tt refl) (nothing_stands m) [] (begun contexts m line ids (blocking.Finish output) stands tt c output (λ missing. missing)))) (lasts_settle (nothing_stands m) ids output)))
stream_goes_on contexts m line ids (blocking.Flush output) stands of =
    onto _ (widen (λ es done k. polled contexts m line ids (blocking.Flush output) stands no_values nothing_given (λ v. refl) es done.0 done.1 (λ c short. (k.0 c).0 refl, (k.0 0).1) k.1)
    (both (granted_each (λ (c : ℕ). flush_rows contexts m line (step.Poll ids.line) c ids output (write_frame contexts m line ids (blocking.Flush output) stands tt refl) (nothing_stands m) [] (begun contexts m line ids (blocking.Flush output) stands tt c output (λ missing. missing)))) (flushes_settle (nothing_stands m) ids output)))
stream_goes_on contexts m line ids (blocking.Block pollable) stands of = absurd of
stream_goes_on contexts m line ids (blocking.Poll pollables) stands of = absurd of
