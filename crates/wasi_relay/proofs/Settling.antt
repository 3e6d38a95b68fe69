-- The calls of the setup, one after another.
use Rattle.std.proofs.Common.{◌≡◌, ℕ, zero, suc, ◌-◌, ◌<◌, refl, Result, Ok, Err, arith}
use Rattle.std.specs.Result.{IsErrAnd}
use Rattle.wasi_steps.specs.declared.reply.CodeWord.{CodeWord}
use Rattle.wasi_steps.specs.declared.reply.Reply.{Reply}
use Rattle.wasi_steps.specs.declared.reply.Reply.TheVariants as replied
use Rattle.wasi_steps.specs.declared.step.Step.TheVariants.{Turn, Poll}
use Rattle.wasi_session.specs.declared.error.StepError.{StepError}
use Rattle.wasi_session.specs.State.{State}
use Rattle.wasi_relay.specs.declared.setup.Stop.{Stop}
use Rattle.wasi_relay.specs.declared.setup.Stop.TheVariants.{Ended, Step}
use Rattle.wasi_relay.specs.declared.service.RelayEnd.{RelayEnd}
use Rattle.wasi_relay.specs.declared.service.RelayEnd.TheVariants.{Budget}
use Rattle.wasi_relay.specs.Guest.{one, give}
use Rattle.wasi_relay.specs.Guest.{◌>>=◌ as ◌>>>◌}
use Rattle.wasi_relay.specs.Went.{Went}
use Rattle.wasi_relay.specs.Setup.{Setup, Settled, or_end, ◌>>=◌, polled, after_poll, after_call, at_turns_end, with_left, handle_in, outcome}
use Rattle.wasi_relay.proofs.Going.{went_give, went_then, went_stop, Comes, comes_as, comes_on, comes_went}

-- a step without a reply ends the setup
pub stop_is : {A B : Type 0} (view : A → B) (e : StepError) (result : Result A Stop) → IsErrAnd result (λ stop. stop ≡ Step e) → outcome view result ≡ Err e
stop_is view e (Ok a) h = absurd h
stop_is view e (Err stop) h = rw h refl

setup_ends : {A B C D : Type 0} {s t : State} {part : Setup B} (view : A → B) (seen : D → C) (more : B → Setup C) (stop : Stop) → Went part s t (outcome view (Err stop)) → Went (part >>= more) s t (outcome seen (Err stop))
setup_ends view seen more (Ended end) h = went_then (or_end more) h (went_give (Err end))
setup_ends view seen more (Step e) h = went_stop (or_end more) h

-- what ended one call of the setup ends it
pub setup_quits : {A B C D : Type 0} {s t : State} {part : Setup B} (view : A → B) (seen : D → C) (more : B → Setup C) (stop : Stop) (result : Result D Stop) → IsErrAnd result (λ x. x ≡ stop) → Went part s t (outcome view (Err stop)) → Went (part >>= more) s t (outcome seen result)
setup_quits view seen more stop (Ok d) is h = absurd is
setup_quits view seen more stop (Err x) is h = rw is (setup_ends view seen more stop h)

pub setup_then : {B C : Type 0} {s t u : State} {part : Setup B} (more : B → Setup C) {b : B} {result : Result (Result C RelayEnd) StepError} → Went part s t (Ok (Ok b)) → Went (more b) t u result → Went (part >>= more) s u result
setup_then more h k = went_then (or_end more) h k

-- == a call
pub after_other_call : (left : ℕ) (reply : Reply) → ((code : CodeWord) → reply ≡ replied.Err code → ⊥) → ((line : ℕ) → reply ≡ replied.Pending line → ⊥) → after_call left reply ≡ give (Ok (with_left left (handle_in reply)))
after_other_call left (replied.Err code) a b = absurd (a code refl)
after_other_call left (replied.Pending line) a b = absurd (b line refl)
after_other_call left _ a b = refl

-- == polls
pub after_other_poll : (again : Setup Settled) (left : ℕ) (reply : Reply) → ((code : CodeWord) → reply ≡ replied.Err code → ⊥) → ((line : ℕ) → reply ≡ replied.Pending line → ⊥) → after_poll again left reply ≡ give (at_turns_end left reply)
after_other_poll again left (replied.Err code) a b = absurd (a code refl)
after_other_poll again left (replied.Pending line) a b = absurd (b line refl)
after_other_poll again left _ a b = refl

abbrev polled_by : ℕ → ℕ → Reply → Setup Settled
polled_by line left reply = after_poll (polled line left) left reply

less_one : (n : ℕ) → suc n - 1 ≡ n
less_one n = omega arith

poll_is : (line left : ℕ) → 0 < left → polled line left ≡ (one Turn >>> λ turned. one (Poll line) >>> polled_by line (left - 1))
poll_is line zero h = absurd (omega arith)
poll_is line (suc left) h = rw (less_one left) refl

module _ {old s : State} (line first left : ℕ) (h : Comes (polled line first) (polled line left) old s) where
  to_poll : 0 < left → Comes (polled line first) (one Turn >>> λ turned. one (Poll line) >>> polled_by line (left - 1)) old s
  to_poll some = comes_as (poll_is line left some) h

  pub poll_unturned : {A : Type 0} {t : State} (view : A → Settled) (e : StepError) (result : Result A Stop) → IsErrAnd result (λ stop. stop ≡ Step e) → 0 < left → Went (one Turn) s t (Err e) → Went (polled line first) old t (outcome view result)
  poll_unturned view e result is some went = rw (stop_is view e result is) (comes_went (to_poll some) (went_stop (λ turned. one (Poll line) >>> polled_by line (left - 1)) went))

  turned_on : {t : State} {turned : Reply} → 0 < left → Went (one Turn) s t (Ok turned) → Comes (polled line first) (one (Poll line) >>> polled_by line (left - 1)) old t
  turned_on some went = comes_on (λ turned. one (Poll line) >>> polled_by line (left - 1)) (to_poll some) went

  pub poll_unmade : {A : Type 0} {t u : State} {turned : Reply} (view : A → Settled) (e : StepError) (result : Result A Stop) → IsErrAnd result (λ stop. stop ≡ Step e) → 0 < left → Went (one Turn) s t (Ok turned) → Went (one (Poll line)) t u (Err e) → Went (polled line first) old u (outcome view result)
  poll_unmade view e result is some went poll = rw (stop_is view e result is) (comes_went (turned_on some went) (went_stop (polled_by line (left - 1)) poll))

  pub poll_made : {t u : State} {turned reply : Reply} → 0 < left → Went (one Turn) s t (Ok turned) → Went (one (Poll line)) t u (Ok reply) → Comes (polled line first) (after_poll (polled line (left - 1)) (left - 1) reply) old u
  poll_made some went poll = comes_on (polled_by line (left - 1)) (turned_on some went) poll

  pub poll_out : left ≡ 0 → Went (polled line first) old s (Ok (Err Budget))
  poll_out none =
      let e : polled line left ≡ give (Err Budget) = rw none refl in
      comes_went (comes_as e h) (went_give (Err Budget))
