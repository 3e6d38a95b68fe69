-- A poll of a pending wait for pollables, and of any pending call that blocks.
use Rattle.wasi_causes.proofs.Words.{◌≡◌, ◌∙◌, ℕ, Answer, List, [], Some, Ok, Err, Pending, Ready, Result, refl, sym, subst, ap, inl, inr, eq-eqb, IsSomeAnd, Entry, Machine, NoSuchHandle, StandingCall, Stop, Trap, WasiSocketsCtx, no_fields, nothing_stands, standing_as}
use Rattle.wasi_world.specs.declared.ids.Ids.{Ids}
use Rattle.host_store.specs.declared.store.BlockingCall.{BlockingCall}
use Rattle.host_store.specs.declared.store.BlockingCall.TheVariants as blocking
use Rattle.wasi_host.specs.declared.polling.Look.TheVariants.{Later}
use Rattle.record_common.specs.Names.{first_ids}
use Rattle.wasi_host.specs.Pending.{gone_on, places_on, unblock_asks}
use Rattle.wasi_steps.specs.declared.reply.Reply.TheVariants as reply
use Rattle.wasi_steps.specs.Reply.{numbers_fields}
use Rattle.wasi_causes.proofs.pollables.Looks.{missed_before, missed_one, stay_same}
use Rattle.wasi_causes.proofs.pollables.Waits.{BlockRow, WaitRow, blocks_on, waits_on}
use Rattle.wasi_causes.proofs.streams.Polls.{PolledRow, gives_so, its_answer, pends_so, stream_goes_on}
use Rattle.wasi_causes.proofs.tables.Meets.{Meets, granted_each, onto, widen}
use Rattle.wasi_causes.specs.Datagrams.{HasItsHandle}

module _ (contexts : List WasiSocketsCtx) (m : Machine) (line : ℕ) (ids : Ids) where
  -- == for one
  module _ (p : ℕ) (stands : m.store.standing ≡ Some (standing_as ids (StandingCall.Blocking (blocking.Block p)))) where
    abbrev one : BlockingCall
    one = blocking.Block p

    said : (es : List Entry) (done : Result (Answer (Unit {0})) Stop × Machine) → ((c : ℕ) → BlockRow contexts (nothing_stands m) c ids p Later es done) → PolledRow contexts m line ids one stands es (gone_on done)
    said es (Ok (Ready given), after) k =
        its_answer contexts m line ids one stands es (reply.Ok no_fields) after (λ e. cc) (inr (k 0).1.standing) (λ c short. (k c).0 refl) (gives_so contexts m line ids one stands es no_fields after refl (k 0).1.table)
    said es (Ok Pending, after) k =
        let on = (k 0).1 in
        its_answer contexts m line ids one stands es (reply.Pending ids.line) after (λ e. cc) (inl refl) (λ c short. (k c).0 refl)
        (pends_so contexts m line ids one stands es after (ap (λ (x : Machine). x.table) on.left ∙ on.keeps.table) (subst (λ (x : Machine). IsSomeAnd x.store.standing (λ call. call.ids.line ≡ ids.line)) (sym on.left) refl))
    said es (Err (Trap NoSuchHandle), after) k =
        its_answer contexts m line ids one stands es (reply.Trap NoSuchHandle) after (λ e. cc) (inr (ap (λ (x : Machine). x.store.standing) (k 0).3)) (λ c short. (k c).0 refl)
        (inl (rw (stands, eq-eqb ids.line ids.line refl) (missed_before m (nothing_stands m) (stay_same m.store.records) refl p (k 0).1)), λ live. ((k 0).2, rw (stands, eq-eqb ids.line ids.line refl) (k 0).3))
    said es (Err _, after) k = absurd (k 0)

    block_goes_on : Meets (PolledRow contexts m line ids one stands) [] (unblock_asks (nothing_stands m) ids one)
    block_goes_on = onto _ (widen said (granted_each (λ (c : ℕ). blocks_on contexts (nothing_stands m) c ids p Later)))

  -- == for several
  module _ (ps : List ℕ) (stands : m.store.standing ≡ Some (standing_as ids (StandingCall.Blocking (blocking.Poll ps)))) where
    abbrev several : BlockingCall
    several = blocking.Poll ps

    told : (es : List Entry) (done : Result (Answer (List ℕ)) Stop × Machine) → WaitRow Later (nothing_stands m) (first_ids ids.line) ps es done → PolledRow contexts m line ids several stands es (places_on done)
    told es (Ok (Ready places), after) k =
        its_answer contexts m line ids several stands es (reply.Ok (numbers_fields places)) after (λ e. cc) (inr k.1.standing) (λ c short. k.0)
        (gives_so contexts m line ids several stands es (numbers_fields places) after (k.2.0, k.2.1, ap numbers_fields k.2.2) k.1.table)
    told es (Ok Pending, after) k =
        its_answer contexts m line ids several stands es (reply.Pending ids.line) after (λ e. cc) (inl refl) (λ c short. k.0)
        (pends_so contexts m line ids several stands es after (ap (λ (x : Machine). x.table) k.1.left ∙ k.1.keeps.table) (subst (λ (x : Machine). IsSomeAnd x.store.standing (λ call. call.ids.line ≡ ids.line)) (sym k.1.left) refl))
    told es (Err (Trap NoSuchHandle), after) k =
        let missing = missed_one m (nothing_stands m) (stay_same m.store.records) refl ps k.1 in
        its_answer contexts m line ids several stands es (reply.Trap NoSuchHandle) after (λ e. cc) (inr k.2.standing) (λ c short. k.0)
        (inl (rw (stands, eq-eqb ids.line ids.line refl) missing), λ live. absurd (let its : HasItsHandle m (StandingCall.Blocking several) = rw stands at live in its.0 missing))
    told es (Err _, after) k = absurd k

    list_goes_on : Meets (PolledRow contexts m line ids several stands) [] (unblock_asks (nothing_stands m) ids several)
    list_goes_on = onto _ (widen told (waits_on Later (nothing_stands m) (first_ids ids.line) ps))

-- == by the call
pub blocked_goes_on : (contexts : List WasiSocketsCtx) (m : Machine) (line : ℕ) (ids : Ids) (call : BlockingCall) (stands : m.store.standing ≡ Some (standing_as ids (StandingCall.Blocking call))) → Meets (PolledRow contexts m line ids call stands) [] (unblock_asks (nothing_stands m) ids call)
blocked_goes_on contexts m line ids (blocking.Block p) stands = block_goes_on contexts m line ids p stands
blocked_goes_on contexts m line ids (blocking.Poll ps) stands = list_goes_on contexts m line ids ps stands
blocked_goes_on contexts m line ids (blocking.Read input len) stands = stream_goes_on contexts m line ids (blocking.Read input len) stands tt
blocked_goes_on contexts m line ids (blocking.Skip input len) stands = stream_goes_on contexts m line ids (blocking.Skip input len) stands tt
blocked_goes_on contexts m line ids (blocking.Write output rest) stands = stream_goes_on contexts m line ids (blocking.Write output rest) stands tt
blocked_goes_on contexts m line ids (blocking.Finish output) stands = stream_goes_on contexts m line ids (blocking.Finish output) stands tt
blocked_goes_on contexts m line ids (blocking.Flush output) stands = stream_goes_on contexts m line ids (blocking.Flush output) stands tt
blocked_goes_on contexts m line ids (blocking.Splice to from len) stands = stream_goes_on contexts m line ids (blocking.Splice to from len) stands tt
