-- A turn, and turn after turn.
use Rattle.std.proofs.Common.{◌≡◌, ℕ, zero, suc, ◌+◌, ◌-◌, ◌<◌, List, [], ◌∷◌, ◌++◌, if◌then◌else◌, true, false, refl, Option, Some, None, Result, Ok, Err, arith}
use Rattle.std.specs.Result.{IsErr}
use Rattle.wasi_steps.specs.declared.reply.Field.{Field}
use Rattle.wasi_steps.specs.declared.reply.Reply.{Reply}
use Rattle.wasi_steps.specs.declared.reply.Reply.TheVariants as replied
use Rattle.wasi_steps.specs.declared.step.Step.TheVariants.{Turn}
use Rattle.wasi_session.specs.declared.error.StepError.{StepError}
use Rattle.wasi_session.specs.State.{State}
use Rattle.wasi_relay.specs.declared.order.Order.{Order}
use Rattle.wasi_relay.specs.declared.setup.Listener.{Listener}
use Rattle.wasi_relay.specs.declared.pair.Peer.{Peer}
use Rattle.wasi_relay.specs.declared.pair.Pair.{Pair}
use Rattle.wasi_relay.specs.declared.service.RelayEnd.{RelayEnd}
use Rattle.wasi_relay.specs.Guest.{Part, one, give, ◌>>=◌, ◌>>◌}
use Rattle.wasi_relay.specs.Went.{Went, given}
use Rattle.wasi_relay.specs.Pair.{first_pair}
use Rattle.wasi_relay.specs.Replies.{handle_at}
use Rattle.wasi_relay.specs.Serving.{served_each}
use Rattle.wasi_relay.specs.Turns.{Course, finish, begun, after_create, unpaired, with_pairs, with_taken, taken_after, paired, after_accept, accepted, accepted_beside, turned, is_served, served_end, rounds, last_end, finished}
use Rattle.wasi_relay.proofs.Going.{went_give, went_then, went_quits, went_quits_given, went_maps, Comes, comes_as, comes_on, comes_went}

-- == by a reply
pub created : {s t : State} {result : Result Course StepError} (order : Order) (listener : Listener) (client : Peer) (at : Course) (reply : Reply) (fields : List Field) (target : ℕ) → reply ≡ replied.Ok fields → target ≡ handle_at fields 0 → Went (begun order listener target >> give (with_pairs (at.pairs ++ first_pair client target ∷ []) at)) s t result → Went (after_create order listener client at reply) s t result
created order listener client at reply fields target is e h = rw (is, ← e) h

pub uncreated : {s t : State} {result : Result Course StepError} (order : Order) (listener : Listener) (client : Peer) (at : Course) (reply : Reply) → ((fields : List Field) → reply ≡ replied.Ok fields → ⊥) → Went (unpaired client at reply) s t result → Went (after_create order listener client at reply) s t result
uncreated order listener client at (replied.Ok fields) other h = absurd (other fields refl)
uncreated order listener client at _ other h = h

pub arrived : {s t : State} {result : Result Course StepError} (order : Order) (listener : Listener) (at : Course) (reply : Reply) (fields : List Field) (socket input output : ℕ) → reply ≡ replied.Ok fields → socket ≡ handle_at fields 0 → input ≡ handle_at fields 1 → output ≡ handle_at fields 2 → Went (paired order listener (record { socket = socket; input = input; output = output }) (with_taken (at.taken + 1) at)) s t result → Went (after_accept order listener at reply) s t result
arrived order listener at reply fields socket input output is a b d h = rw (is, ← a, ← b, ← d) h

pub not_arrived : {s : State} (order : Order) (listener : Listener) (at : Course) (reply : Reply) → ((fields : List Field) → reply ≡ replied.Ok fields → ⊥) → Went (after_accept order listener at reply) s s (Ok (with_taken (taken_after order at reply) at))
not_arrived order listener at (replied.Ok fields) other = absurd (other fields refl)
not_arrived order listener at reply other = went_give (with_taken (taken_after order at reply) at)

-- == which arrival goes first
pub waiting_first : {s t : State} {result : Result Course StepError} (order : Order) (listener : Listener) (at : Course) (waiting : Option Peer) (client : Peer) → waiting ≡ Some client → Went (paired order listener client at) s t result → Went (accepted_beside waiting order listener at) s t result
waiting_first order listener at waiting client is h = rw is h

pub next_one : {s t : State} {result : Result Course StepError} (order : Order) (listener : Listener) (at : Course) (waiting : Option Peer) → waiting ≡ None → Went (accepted_beside None order listener at) s t result → Went (accepted_beside waiting order listener at) s t result
next_one order listener at waiting is h = rw is h

-- == a turn
abbrev serve_then : Course → Part Course
serve_then new = served_each new.pairs >>= λ pairs. give (record { taken = new.taken; pairs = pairs; waiting = new.waiting })

pub turn_stops : {T : Type 0} {s t u : State} {reply : Reply} {e : StepError} (order : Order) (listener : Listener) (at : Course) (new : Course) (result : Result T StepError) → IsErr result → Went (one Turn) s t (Ok reply) → Went (accepted order listener at) t u (Err e) → Went (turned order listener at) s u (given new result)
turn_stops order listener at new result is h k = went_then (λ r. accepted order listener at >>= serve_then) h (went_quits_given serve_then new result is k)

pub turn_ends : {T : Type 0} {s t u v : State} {reply : Reply} (order : Order) (listener : Listener) (at new : Course) (pairs : List Pair) (result : Result T StepError) → Went (one Turn) s t (Ok reply) → Went (accepted order listener at) t u (Ok new) → Went (served_each new.pairs) u v (given pairs result) → Went (turned order listener at) s v (given (record { taken = new.taken; pairs = pairs; waiting = new.waiting }) result)
turn_ends order listener at new pairs result h k l =
    went_then (λ r. accepted order listener at >>= serve_then) h (went_then serve_then k (went_maps (λ ps. record { taken = new.taken; pairs = ps; waiting = new.waiting }) pairs result l))

pub turn_breaks : {T : Type 0} {s t u v : State} {reply : Reply} {e : StepError} (order : Order) (listener : Listener) (at new after : Course) (result : Result T StepError) → IsErr result → Went (one Turn) s t (Ok reply) → Went (accepted order listener at) t u (Ok new) → Went (served_each new.pairs) u v (Err e) → Went (turned order listener at) s v (given after result)
turn_breaks order listener at new after result is h k l =
    went_then (λ r. accepted order listener at >>= serve_then) h (went_then serve_then k (went_quits_given (λ ps. give (record { taken = new.taken; pairs = ps; waiting = new.waiting })) after result is l))

-- == turn after turn
less_one : (n : ℕ) → suc n - 1 ≡ n
less_one n = omega arith

round_is : (order : Order) (listener : Listener) (left : ℕ) (at : Course) → 0 < left → rounds order listener left at ≡ (if is_served order at then give (finish (served_end order at) at) else (turned order listener at >>= rounds order listener (left - 1)))
round_is order listener zero at h = absurd (omega arith)
round_is order listener (suc left) at h = rw (less_one left) refl

module _ {old s : State} (order : Order) (listener : Listener) (turns left : ℕ) (first at : Course) (h : Comes (rounds order listener turns first) (rounds order listener left at) old s) where
  pub round_served : 0 < left → is_served order at ≡ true → Went (rounds order listener turns first) old s (Ok (finish (served_end order at) at))
  round_served some done =
      let e : rounds order listener left at ≡ give (finish (served_end order at) at) = rw (round_is order listener left at some, done) refl in
      comes_went (comes_as e h) (went_give (finish (served_end order at) at))

  to_turn : 0 < left → is_served order at ≡ false → Comes (rounds order listener turns first) (turned order listener at >>= rounds order listener (left - 1)) old s
  to_turn some open_ =
      let e : rounds order listener left at ≡ (turned order listener at >>= rounds order listener (left - 1)) = rw (round_is order listener left at some, open_) refl in
      comes_as e h

  pub round_on : {t : State} {new : Course} → 0 < left → is_served order at ≡ false → Went (turned order listener at) s t (Ok new) → Comes (rounds order listener turns first) (rounds order listener (left - 1) new) old t
  round_on some open_ went = comes_on (rounds order listener (left - 1)) (to_turn some open_) went

  pub round_stops : {t : State} {e : StepError} (new : Course) (result : Result RelayEnd StepError) → IsErr result → 0 < left → is_served order at ≡ false → Went (turned order listener at) s t (Err e) → Went (rounds order listener turns first) old t (finished new result)
  round_stops new (Ok end) is some open_ went = absurd (cc)
  round_stops new (Err e) is some open_ went = comes_went (to_turn some open_) (went_quits (rounds order listener (left - 1)) (Err e) is went)

  pub round_last : left ≡ 0 → Went (rounds order listener turns first) old s (Ok (finish (last_end order at) at))
  round_last none =
      let e : rounds order listener left at ≡ give (finish (last_end order at) at) = rw none refl in
      comes_went (comes_as e h) (went_give (finish (last_end order at) at))
