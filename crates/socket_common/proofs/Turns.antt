-- One round of a poll, and the next.
use Rattle.std.specs.Prelude.{◌≡◌, ℕ, suc, ◌-◌, ◌+◌, ◌<◌, ◌≤◌, true, Option, Some, None, Result, Ok, Err, refl, IsErrAnd}
use Rattle.std.specs.declared.alloc.AllocError.{AllocError}
use Rattle.std.proofs.Common.{arith, sym, subst, ◌∙◌}
use Rattle.wasi_world.specs.declared.outcome.Answer.{Answer}
use Rattle.wasi_world.specs.declared.outcome.Answer.TheVariants.{Pending}
use Rattle.wasi_world.specs.declared.outcome.Refusal.{Refusal}
use Rattle.wasi_world.specs.declared.outcome.Refusal.TheVariants as refusal
use Rattle.wasi_world.specs.Seen.{Seen}
use Rattle.wasi_world.specs.Asks.{Reaches}
use Rattle.wasi_world.specs.Operation.{Given, Operation, polls, poll_asks}
use Rattle.wasi_world.proofs.Walks.{reaches_all, reaches_then}
use Rattle.socket_common.specs.Rounds.{is_going, round_rest, round_going, RoundFor, PollsRounds}

-- nothing was asked, for lack of memory
pub round_none : {T : Type 0} (old : Operation) {s t : Seen} {gives : T → Given} {kept : Given} {d : AllocError} {r : Result (Option (Answer T)) Refusal} → IsErrAnd r (λ x. x ≡ refusal.Memory d) → t ≡ s → is_going old ≡ true → RoundFor gives kept old old s t r
round_none old {r = Ok x} h e g = absurd h
round_none old {s} {t} {gives} {kept} {r = Err x} h e g =
    let P : Refusal → Type 0 = λ y. RoundFor gives kept old old s t (Err y) in
    subst P (sym h) (record { who = refl; reached = λ n. rw e (reaches_all (polls (suc n) old.who old.left) s); going = g })

-- the round came to its end
pub round_end : {T : Type 0} {old new : Operation} {s t : Seen} {gives : T → Given} {kept : Given} {r : Result (Option (Answer T)) Refusal} → new.who ≡ old.who → is_going new ≡ round_going r → ((n : ℕ) → Reaches (polls (suc n) old.who old.left) (round_rest gives kept n new r) s t) → RoundFor gives kept old new s t r
round_end w g h = record { who = w; reached = h; going = g }

-- the round continues
pub round_on : {T : Type 0} {old mid new : Operation} {s t u : Seen} {gives : T → Given} {kept : Given} {r : Result (Option (Answer T)) Refusal} → mid.who ≡ old.who → ((n : ℕ) → Reaches (polls (suc n) old.who old.left) (polls (suc n) mid.who mid.left) s t) → RoundFor gives kept mid new t u r → RoundFor gives kept old new s u r
round_on w h k = record { who = k.who ∙ w; reached = λ n. reaches_then (h n) (k.reached n); going = k.going }

one_less : (n i : ℕ) → i < n → n - i ≡ suc (n - (i + 1))
one_less n i h = omega arith

none_left : (n i : ℕ) → n ≤ i → n - i ≡ 0
none_left n i h = omega arith

-- == in a poll
module _ {T : Type 0} {gives : T → Given} {kept : Given} (old now : Operation) (i : ℕ) {s t : Seen} where
  -- the round was refused
  pub rounds_more : {new : Operation} {u : Seen} → Reaches (poll_asks old) (polls (64 - i) now.who now.left) s t → i < 64 → RoundFor gives kept now new t u (Ok None) → Reaches (poll_asks old) (polls (64 - (i + 1)) new.who new.left) s u
  rounds_more r h k = reaches_then (rw (one_less 64 i h) at r) (k.reached (64 - (i + 1)))

  -- it ended the poll
  pub rounds_end : {new : Operation} {u : Seen} {a : Answer T} → now.who ≡ old.who → Reaches (poll_asks old) (polls (64 - i) now.who now.left) s t → i < 64 → RoundFor gives kept now new t u (Ok (Some a)) → PollsRounds gives kept old new s u (Ok a)
  rounds_end w r h k = record { who = k.who ∙ w; ended = reaches_then (rw (one_less 64 i h) at r) (k.reached (64 - (i + 1))); going = k.going }

  -- with a code, or for lack of memory
  rounds_err : {new : Operation} {u : Seen} (x : Refusal) → now.who ≡ old.who → Reaches (poll_asks old) (polls (64 - i) now.who now.left) s t → i < 64 → RoundFor gives kept now new t u (Err x) → PollsRounds gives kept old new s u (Err x)
  rounds_err (refusal.Code c) w r h k = record { who = k.who ∙ w; ended = reaches_then (rw (one_less 64 i h) at r) (k.reached (64 - (i + 1))); going = k.going }
  rounds_err (refusal.Memory e) w r h k = record {
    who = k.who ∙ w;
    ended = record { rounds_left = 64 - (i + 1); reached = reaches_then (rw (one_less 64 i h) at r) (k.reached (64 - (i + 1))) };
    going = k.going;
  }

  pub rounds_stop : {new : Operation} {u : Seen} {x : Refusal} {r : Result (Answer T) Refusal} → now.who ≡ old.who → Reaches (poll_asks old) (polls (64 - i) now.who now.left) s t → i < 64 → RoundFor gives kept now new t u (Err x) → IsErrAnd r (λ y. y ≡ x) → PollsRounds gives kept old new s u r
  rounds_stop {r = Ok a} w p h k e = absurd e
  rounds_stop {new} {u} {x} {r = Err y} w p h k e =
      let P : Refusal → Type 0 = λ z. PollsRounds gives kept old new s u (Err z) in
      subst P (sym e) (rounds_err x w p h k)

  -- no round is left
  pub rounds_none : now.who ≡ old.who → Reaches (poll_asks old) (polls (64 - i) now.who now.left) s t → 64 ≤ i → is_going now ≡ true → PollsRounds gives kept old now s t (Ok Pending)
  unfolding polls
  rounds_none w r h g = record { who = w; ended = rw (none_left 64 i h) at r; going = g }
