-- What a call on a listener makes of the network sockets that its record holds, and what an accept gives.
use Rattle.std.proofs.Common.{◌≡◌, ℕ, suc, ◌+◌, Bool, List, refl, ap, subst, arith}
use Rattle.std.specs.Prelude.{Result, Ok, Err, OnErr, IsErrAnd}
use Rattle.std.specs.declared.alloc.AllocError.{AllocError}
use Rattle.wasi_world.specs.declared.call.Entry.{Entry}
use Rattle.wasi_world.specs.declared.ids.Ids.{Ids}
use Rattle.wasi_world.specs.declared.outcome.Answer.{Answer}
use Rattle.wasi_world.specs.declared.outcome.Refusal.{Refusal}
use Rattle.wasi_world.specs.Seen.{Seen, Passes}
use Rattle.wasi_world.specs.Asks.{Asks, Give, bind, Reaches, AsksFor}
use Rattle.wasi_world.specs.Operation.{polls}
use Rattle.wasi_world.proofs.Walks.{reaches_in, asks_end, asks_err}
use Rattle.wasi_tcp.specs.declared.listener.Accepting.{Accepting}
use Rattle.wasi_tcp.specs.declared.listener.Accepting.TheVariants as accepting
use Rattle.wasi_tcp.specs.Listener.{Listener, HoldsAccept, IsListener, StandsAccept, accept_ended, listener_asks, listener_ready_asks, listener_accept_asks, ready_end, accept_end, untaken_side}
use Rattle.wasi_tcp.specs.Shape.{Socket}
use Rattle.tcp_records.specs.declared.tcp_listening.Listening.{Listening}
use Rattle.tcp_records.specs.declared.tcp_listening.Listening.TheVariants.{Accepts}
use Rattle.tcp_records.specs.declared.socket.TcpRecord.{TcpRecord}
use Rattle.record_common.specs.Stops.{Stop}
use Rattle.tcp_records.specs.Listening.{with_listening, side_in, Accepted, Connects, Fails}
use Rattle.tcp_records.specs.Looks.{accept_looked, read_told}
use Rattle.record_common.specs.Sides.{Weight, Tally, each, no_socket, tally, made_in, closed_in}
use Rattle.tcp_records.specs.Sides.{given_by, Balances}
use Rattle.record_common.proofs.SideCounts.{Any}
use Rattle.tcp_records.proofs.AcceptCounts.{weighed_left, weighed_once, weigh_rest, weigh_listener}

-- == a call on a listener
-- Such network sockets were held before, and such are held or given away then.
pub record Evens (before after : Seen) (was now : Tally) : Type 0 where
  pub entries : List Entry
  pub passed : Passes before entries after
  pub balance : (w : Weight) → closed_in entries w + now w ≡ made_in entries w + was w

-- what a call makes of the accept holds or gives away the network socket that the accept had; and this holds of what the call
-- gives
abbrev pub Keeps : {A : Type 0} → (A → Tally) → (A → Type 0) → (Accepting → A) → Type 0
Keeps held P ends = (a : Accepting) → ((w : Weight) → held (ends a) w ≡ tally (untaken_side a) w) × P (ends a)

abbrev Even : {A : Type 0} → Weight → (A → Tally) → (A → Type 0) → ℕ → ℕ → A → Type 0
Even w held P m n x = (n + held x w ≡ m) × P x

module _ {A : Type 0} (held : A → Tally) (P : A → Type 0) (ends : Accepting → A) (keeps : Keeps held P ends) where
  even : (w : Weight) (m n : ℕ) (a : Accepting) → n + tally (untaken_side a) w ≡ m → Even w held P m n (ends a)
  even w m n a h = let k = (keeps a).0 w in (omega arith, (keeps a).1)

  weighed : (w : Weight) (l : Listener) (ids : Ids) {x : A} {s t : Seen} → IsListener l → (r : Reaches (listener_asks ends l ids) (Give x) s t) → Even w held P (tally (untaken_side l.accept) w + made_in r.entries w) (0 + closed_in r.entries w) x
  weighed w l ids {x} h r = weighed_left w (Even w held P) (tally (untaken_side l.accept) w) 0 (listener_asks ends l ids) r.entries (Give x) (weigh_listener w ends (Even w held P) (even w) l ids h) r.left

  -- the call came to its end
  pub evens_done : (l : Listener) (ids : Ids) {x : A} {s t : Seen} → IsListener l → Reaches (listener_asks ends l ids) (Give x) s t → Evens s t (tally (untaken_side l.accept)) (held x)
  evens_done l ids h r = record { entries = r.entries; passed = r.passed; balance = λ w. (let k = (weighed w l ids h r).0 in omega arith) }

  pub given_done : (l : Listener) (ids : Ids) {x : A} {s t : Seen} → IsListener l → Reaches (listener_asks ends l ids) (Give x) s t → P x
  given_done l ids h r = (weighed each l ids h r).1

  -- or memory ran out, and the accept stays in progress
  pub evens_stands : (l new : Listener) (ids : Ids) {s t : Seen} → IsListener l → IsListener new → StandsAccept (listener_asks ends l ids) ends new.accept s t → Evens s t (tally (untaken_side l.accept)) (tally (untaken_side new.accept))
  evens_stands l new ids h k stands = record { entries = stands.reached.entries; passed = stands.reached.passed; balance = even_for } where
    even_for : (w : Weight) → closed_in stands.reached.entries w + tally (untaken_side new.accept) w ≡ made_in stands.reached.entries w + tally (untaken_side l.accept) w
    even_for w =
        let op = stands.op in
        let rest : Asks A = bind (polls (suc stands.rounds_left) op.who op.left) (λ ended. Give (ends (accept_ended op.who ended))) in
        let own = (subst (HoldsAccept new.side new.maker) stands.asking k).accept in
        let left = weighed_left w (Even w held P) (tally (untaken_side l.accept) w) 0 (listener_asks ends l ids) stands.reached.entries rest (weigh_listener w ends (Even w held P) (even w) l ids h) stands.reached.left in
        let same : tally (untaken_side new.accept) w ≡ 0 = ap (λ (a : Accepting). tally (untaken_side a) w) stands.asking in
        let once = weighed_once w (Even w held P) (λ m n i j x p q. let a = p.0 in let b = q.0 in omega arith) (tally (untaken_side l.accept) w + made_in stands.reached.entries w) (0 + closed_in stands.reached.entries w) 0 0 rest left (weigh_rest w ends (Even w held P) (even w) (suc stands.rounds_left) op own) in omega arith

-- == the record of a listener
record_evens : (r : TcpRecord) (l new : Listener) (given : Tally) {s t : Seen} → r.listening ≡ Accepts l → Evens s t (tally (untaken_side l.accept)) (λ w. tally (untaken_side new.accept) w + given w) → Balances s t given r (with_listening r (Accepts new))
record_evens r l new given e h = record {
  entries = h.entries;
  passed = h.passed;
  balance = λ w. (let held : tally (side_in r.listening) w ≡ tally (untaken_side l.accept) w = ap (λ (g : Listening). tally (side_in g) w) e in let b = h.balance w in omega arith);
}

more_evens : {s t : Seen} (was now given : Tally) → given ≡ no_socket → Evens s t was now → Evens s t was (λ w. now w + given w)
more_evens was now given e h = record { entries = h.entries; passed = h.passed; balance = λ w. (let none = ap (λ (t : Tally). t w) e in let b = h.balance w in omega arith) }

-- == a look
abbrev looked_tally : Answer (Unit {0}) × Listener → Tally
looked_tally done = tally (untaken_side done.1.accept)

looked_evens : (l new : Listener) (ids : Ids) (looked : Result (Answer (Unit {0})) AllocError) {s t : Seen} → IsListener l → IsListener new → AsksFor (listener_ready_asks l ids) s t (λ answer. (answer, new)) looked
    → OnErr looked (StandsAccept (listener_ready_asks l ids) (ready_end l) new.accept s t) → Evens s t (tally (untaken_side l.accept)) (tally (untaken_side new.accept))
looked_evens l new ids (Ok answer) h k asked stands = evens_done looked_tally Any (ready_end l) (λ a. (λ w. refl, tt)) l ids h asked.ok
looked_evens l new ids (Err e) h k asked stands = evens_stands looked_tally Any (ready_end l) (λ a. (λ w. refl, tt)) l new ids h k stands

pub looked_balances : (r : TcpRecord) (l new : Listener) (ids : Ids) (looked : Result (Answer (Unit {0})) AllocError) {s t : Seen} → r.listening ≡ Accepts l → IsListener l → IsListener new → AsksFor (listener_ready_asks l ids) s t (λ answer. (answer, new)) looked
    → OnErr looked (StandsAccept (listener_ready_asks l ids) (ready_end l) new.accept s t) → Balances s t no_socket r (with_listening r (Accepts new))
looked_balances r l new ids looked e h k asked stands = record_evens r l new no_socket e (more_evens _ _ no_socket refl (looked_evens l new ids looked h k asked stands))

-- how it is reported
pub accept_over : (r : TcpRecord) (l new : Listener) (ids : Ids) {s t : Seen} (looked : Result (Answer (Unit {0})) AllocError) → AsksFor (listener_ready_asks l ids) s t (λ answer. (answer, new)) looked
    → AsksFor {A = Result Bool Stop × TcpRecord} (bind (listener_ready_asks l ids) (λ done. Give (accept_looked r done))) s t (λ (ready : Result Bool Stop). (ready, with_listening r (Accepts new))) (read_told looked)
accept_over r l new ids (Ok answer) h = asks_end _ h.ok refl
accept_over r l new ids (Err e) h = asks_err (bind h.err.rest _) (reaches_in _ h.err.reached)

-- == an accept
abbrev accepted_tally : Answer Socket × Listener → Tally
accepted_tally done w = tally (untaken_side done.1.accept) w + given_by (Ok done.0) w

abbrev IsTaken : Answer Socket × Listener → Type 0
IsTaken done = Accepted (Ok done.0)

accept_keeps : (l : Listener) → Keeps accepted_tally IsTaken (accept_end l)
accept_keeps l accepting.Idle = (λ w. refl, tt)
accept_keeps l (accepting.Asking op) = (λ w. refl, tt)
accept_keeps l (accepting.Arrived new peer) = (λ w. omega arith, Connects l.family l.maker new peer)
accept_keeps l (accepting.Failed c) = (λ w. refl, Fails l.family l.maker c)

pub accepted_balances : (r : TcpRecord) (l new : Listener) (ids : Ids) (answer : Answer Socket) {s t : Seen} → r.listening ≡ Accepts l → IsListener l → Reaches (listener_accept_asks l ids) (Give (answer, new)) s t → Balances s t (given_by (Ok answer)) r (with_listening r (Accepts new))
accepted_balances r l new ids answer e h reached = record_evens r l new (given_by (Ok answer)) e (evens_done accepted_tally IsTaken (accept_end l) (accept_keeps l) l ids h reached)

pub accepted_is : (l new : Listener) (ids : Ids) (answer : Answer Socket) {s t : Seen} → IsListener l → Reaches (listener_accept_asks l ids) (Give (answer, new)) s t → Accepted (Ok answer)
accepted_is l new ids answer h reached = given_done accepted_tally IsTaken (accept_end l) (accept_keeps l) l ids h reached

given_none : (Q : Refusal → Type 0) (result : Result (Answer Socket) Refusal) → IsErrAnd result Q → given_by result ≡ no_socket
given_none Q (Ok answer) h = absurd h
given_none Q (Err x) h = refl

-- for lack of memory
pub stood_balances : (Q : Refusal → Type 0) (r : TcpRecord) (l new : Listener) (ids : Ids) (result : Result (Answer Socket) Refusal) {s t : Seen} → IsErrAnd result Q → r.listening ≡ Accepts l → IsListener l → IsListener new
    → StandsAccept (listener_accept_asks l ids) (accept_end l) new.accept s t → Balances s t (given_by result) r (with_listening r (Accepts new))
stood_balances Q r l new ids result x e h k stands = record_evens r l new (given_by result) e (more_evens _ _ (given_by result) (given_none Q result x) (evens_stands accepted_tally IsTaken (accept_end l) (accept_keeps l) l new ids h k stands))
