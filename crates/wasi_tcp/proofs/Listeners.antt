-- Turns of a listener's accept, as parts of its calls.
use Rattle.std.specs.Prelude.{◌≡◌, ℕ, suc, Result, Ok, Err, refl, IsErrAnd, OnErr}
use Rattle.std.specs.declared.alloc.AllocError.{AllocError}
use Rattle.std.proofs.Common.{ap, sym, subst, ◌∙◌}
use Rattle.wasi_addr.specs.declared.address.IpSocketAddress.{IpSocketAddress}
use Rattle.wasi_world.specs.declared.ids.OpId.{OpId}
use Rattle.wasi_world.specs.declared.outcome.Answer.{Answer}
use Rattle.wasi_world.specs.declared.outcome.Answer.TheVariants.{Ready, Pending}
use Rattle.wasi_world.specs.declared.outcome.Refusal.{Refusal}
use Rattle.wasi_world.specs.declared.outcome.Refusal.TheVariants.{Code, Memory}
use Rattle.wasi_world.specs.Seen.{Seen}
use Rattle.wasi_world.specs.Asks.{Asks, Give, bind, Reaches, AsksFor}
use Rattle.wasi_world.specs.Operation.{Nothing, Who, Operation, polls}
use Rattle.wasi_world.proofs.Walks.{reaches_all, reaches_in, reaches_on, asks_err, asks_ok}
use Rattle.wasi_tcp.specs.declared.accept.AcceptStage.TheVariants as stage
use Rattle.wasi_tcp.specs.declared.listener.Accepting.{Accepting}
use Rattle.wasi_tcp.specs.declared.listener.Accepting.TheVariants as accepting
use Rattle.socket_common.specs.Rounds.{PollsRounds}
use Rattle.wasi_tcp.specs.Accept.{accept_operation, connection_of, IsAccept}
use Rattle.wasi_tcp.specs.Listener.{accept_ended, accept_asks, StandsAccept, IsAcceptOn, HoldsAccept, settled, memory_of, TurnFor}
use Rattle.wasi_tcp.proofs.Accepts.{is_accept}

-- what a poll of the accept came to
turned : (op : Operation) {new : Operation} {s t : Seen} (r : Result (Answer (OpId × IpSocketAddress)) Refusal) → PollsRounds connection_of Nothing op new s t r → TurnFor (accepting.Asking op) (settled (accepting.Asking new) r) s t (memory_of r)
turned op (Ok (Ready x)) h = record { end = _; reached = h.ended; now_is = refl }
turned op (Ok Pending) h = record { end = _; reached = h.ended; now_is = rw (← h.who) refl }
turned op (Err (Code c)) h = record { end = _; reached = h.ended; now_is = refl }
turned op {new} (Err (Memory e)) h = record { left = new; who = h.who; now_is = refl; stands = h.ended }

pub turn_asking : {a mid now : Accepting} {res : Result (Unit {0}) AllocError} (op : Operation) {new : Operation} {s t : Seen} (r : Result (Answer (OpId × IpSocketAddress)) Refusal) → mid ≡ a → mid ≡ accepting.Asking op → now ≡ settled (accepting.Asking new) r → res ≡ memory_of r → PollsRounds connection_of Nothing op new s t r → TurnFor a now s t res
turn_asking op r b e n m h = rw (← b, e, n, m) (turned op r h)

-- nothing is polled
pub turn_idle : {a mid : Accepting} (s : Seen) → mid ≡ a → mid ≡ accepting.Idle → TurnFor a mid s s (Ok tt)
turn_idle s b e = rw (← b, e) (refl, refl)

pub turn_arrived : {a mid : Accepting} {new : OpId} {peer : IpSocketAddress} (s : Seen) → mid ≡ a → mid ≡ accepting.Arrived new peer → TurnFor a mid s s (Ok tt)
turn_arrived s b e = rw (← b, e) (refl, refl)

-- it stays the listener's accept
held : (side : OpId) (maker : ℕ) (op : Operation) {new : Operation} {s t : Seen} (r : Result (Answer (OpId × IpSocketAddress)) Refusal) → IsAcceptOn side maker op → PollsRounds connection_of Nothing op new s t r → IsAccept new → HoldsAccept side maker (settled (accepting.Asking new) r)
held side maker op (Ok (Ready x)) k h i = tt
held side maker op (Ok Pending) k h i = record { accept = i; of_side = ap (λ (w : Who). w.side) h.who ∙ k.of_side; of_maker = ap (λ (w : Who). w.context) h.who ∙ k.of_maker; going = h.going }
held side maker op (Err (Code c)) k h i = tt
held side maker op (Err (Memory e)) k h i = record { accept = i; of_side = ap (λ (w : Who). w.side) h.who ∙ k.of_side; of_maker = ap (λ (w : Who). w.context) h.who ∙ k.of_maker; going = h.going }

pub holds_settled : (side : OpId) (maker : ℕ) {mid now : Accepting} (op : Operation) {new : Operation} {s t : Seen} (r : Result (Answer (OpId × IpSocketAddress)) Refusal) → HoldsAccept side maker mid → mid ≡ accepting.Asking op → now ≡ settled (accepting.Asking new) r → PollsRounds connection_of Nothing op new s t r → IsAccept new → HoldsAccept side maker now
holds_settled side maker op r k e n h i = rw n (held side maker op r (rw e at k) h i)

pub holds_going : (side : OpId) (maker : ℕ) {mid : Accepting} (op : Operation) → HoldsAccept side maker mid → mid ≡ accepting.Asking op → IsAcceptOn side maker op
holds_going side maker op k e = rw e at k

-- a new one
pub holds_new : (op side : OpId) (maker : ℕ) → IsAcceptOn side maker (accept_operation (record { op = op; side = side; maker = maker }) stage.Accept)
holds_new op side maker = record { accept = is_accept (record { op = op; side = side; maker = maker }) stage.Accept; of_side = refl; of_maker = refl; going = refl }

-- == as a part of a call
turn_reaches : {A : Type 0} (ends : Accepting → A) (a : Accepting) {now : Accepting} {s t : Seen} {x : Unit {0}} → TurnFor a now s t (Ok x) → Reaches (accept_asks ends a) (Give (ends now)) s t
turn_reaches ends accepting.Idle {s} h = rw (h.0, h.1) (reaches_all (Give (ends accepting.Idle)) s)
turn_reaches ends (accepting.Asking op) h = rw h.now_is (reaches_on (λ ended. Give (ends (accept_ended op.who ended))) h.reached)
turn_reaches ends (accepting.Arrived new peer) {s} h = rw (h.0, h.1) (reaches_all (Give (ends (accepting.Arrived new peer))) s)
turn_reaches ends (accepting.Failed c) {s} h = rw (h.0, h.1) (reaches_all (Give (ends (accepting.Failed c))) s)

turn_stands : {A : Type 0} (ends : Accepting → A) (a : Accepting) {now : Accepting} {s t : Seen} {d : AllocError} → TurnFor a now s t (Err d) → StandsAccept (accept_asks ends a) ends now s t
turn_stands ends accepting.Idle h = absurd h
turn_stands ends (accepting.Asking op) {s} {t} h =
    let P : Who → Type 0 = λ w. Reaches (accept_asks ends (accepting.Asking op)) (bind (polls (suc h.stands.rounds_left) h.left.who h.left.left) (λ ended. Give (ends (accept_ended w ended)))) s t in
    record {
      op = h.left;
      asking = h.now_is;
      rounds_left = h.stands.rounds_left;
      reached = subst P (sym h.who) (reaches_in (λ ended. Give (ends (accept_ended op.who ended))) h.stands.reached);
    }
turn_stands ends (accepting.Arrived new peer) h = absurd h
turn_stands ends (accepting.Failed c) h = absurd h

-- the call gives what it makes of the accept
pub turn_ends : {A T : Type 0} (ends : Accepting → A) (a : Accepting) {now : Accepting} {s t : Seen} {view : T → A} {x : Unit {0}} {y : T} → TurnFor a now s t (Ok x) → ends now ≡ view y → AsksFor (accept_asks ends a) s t view (Ok y)
turn_ends ends a {s} {t} h e =
    let P : Asks _ → Type 0 = λ rest. Reaches (accept_asks ends a) rest s t in
    asks_ok (subst P (ap Give e) (turn_reaches ends a h))

-- out of memory
pub turn_exit : {A T : Type 0} (ends : Accepting → A) (a now : Accepting) (Q : AllocError → Type 0) {s t : Seen} {view : T → A} {d : AllocError} {r : Result T AllocError} → IsErrAnd r Q → TurnFor a now s t (Err d) → AsksFor (accept_asks ends a) s t view r
turn_exit ends a now Q {r = Ok x} e h = absurd e
turn_exit ends a now Q {r = Err d} e h = asks_err _ ((turn_stands ends a h).reached)

pub turn_left_over : {A T : Type 0} (ends : Accepting → A) (a now : Accepting) (s t : Seen) {d : AllocError} (r : Result T AllocError) → TurnFor a now s t (Err d) → OnErr r (StandsAccept (accept_asks ends a) ends now s t)
turn_left_over ends a now s t (Ok x) h = tt
turn_left_over ends a now s t (Err d) h = turn_stands ends a h
