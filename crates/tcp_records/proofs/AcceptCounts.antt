-- What an accept makes of the network sockets that are held: one is made where a connection is handed over, and none is closed.
use Rattle.std.proofs.Common.{◌≡◌, ℕ, zero, suc, ◌+◌, List, [], ◌∷◌, refl, sym, ap, subst, arith}
use Rattle.wasi_addr.specs.declared.address.IpSocketAddress.{IpSocketAddress}
use Rattle.wasi_addr.specs.declared.code.ErrorCode.{ErrorCode}
use Rattle.wasi_world.specs.declared.call.Call.{Call}
use Rattle.wasi_world.specs.declared.call.Call.TheVariants as call
use Rattle.wasi_world.specs.declared.call.Told.{Told}
use Rattle.wasi_world.specs.declared.call.Told.TheVariants as told
use Rattle.wasi_world.specs.declared.call.Entry.{Entry}
use Rattle.wasi_world.specs.declared.ids.Ids.{Ids}
use Rattle.wasi_world.specs.declared.ids.OpId.{OpId}
use Rattle.wasi_world.specs.Asks.{Asks, Give, Ask, AskWrite, bind, Left}
use Rattle.wasi_world.specs.Fits.{Fits, IsDone}
use Rattle.wasi_world.specs.Operation.{Nothing, Connection, Item, Accept, CheckArrival, Hand, Refuse, LastAsk, NothingLast, Who, Operation, End, Goes, last_ask, after, round, polls, accept_front, admitted_front}
use Rattle.wasi_world.specs.Typed.{told_arrival, told_verdict}
use Rattle.wasi_tcp.specs.Accept.{IsAccept, IsLeftOfAccept, Unarrived, Arrived, Admitted, Unwanted, Ended}
use Rattle.wasi_tcp.specs.declared.listener.Accepting.{Accepting}
use Rattle.wasi_tcp.specs.declared.listener.Accepting.TheVariants as accepting
use Rattle.wasi_tcp.specs.Listener.{Listener, HoldsAccept, IsListener, begun, accept_asks, accept_ended, listener_asks, untaken_side}
use Rattle.wasi_tcp.proofs.Listeners.{holds_new}
use Rattle.record_common.specs.Sides.{Weight, tally, made_by, closed_by, made_in, closed_in}

-- == trees that make and close network sockets, of which each counts for so much: so much is held or was made, so much was
-- closed, and this holds of both at the end
-- what a hand is answered is done
abbrev pub Suits : Call → Told → Type 0
Suits (call.Hand sock peer) t = IsDone t
Suits _ t = Unit {0}

suits : (c : Call) (t : Told) → Fits c t → Suits c t
suits (call.Hand sock peer) t h = h
suits _ t h = tt

done_suits : (c : Call) → Suits c told.Done
done_suits (call.Hand sock peer) = tt
done_suits _ = tt

abbrev pub Weighed : {A : Type 0} → Weight → (ℕ → ℕ → A → Type 0) → ℕ → ℕ → Asks A → Type 0
Weighed w Q m n (Give a) = Q m n a
Weighed w Q m n (Ask op call next) = (t : Told) → Suits call t → Weighed w Q (m + made_by op call t w) (n + tally (closed_by call) w) (next t)
Weighed w Q m n (AskWrite op sock bytes next) = (t : Told) → Weighed w Q m n (next t)

module _ (w : Weight) where
  pub weighed_then : {A B : Type 0} (R : ℕ → ℕ → A → Type 0) (Q : ℕ → ℕ → B → Type 0) (m n : ℕ) (asks : Asks A) (f : A → Asks B) → Weighed w R m n asks → ((j k : ℕ) (a : A) → R j k a → Weighed w Q j k (f a)) → Weighed w Q m n (bind asks f)
  unfolding bind
  weighed_then R Q m n (Give a) f h k = k m n a h
  weighed_then R Q m n (Ask op call next) f h k = λ t s. weighed_then R Q (m + made_by op call t w) (n + tally (closed_by call) w) (next t) f (h t s) k
  weighed_then R Q m n (AskWrite op sock bytes next) f h k = λ t. weighed_then R Q m n (next t) f (h t) k

  -- the same of other numbers
  weighed_at : {A : Type 0} (Q : ℕ → ℕ → A → Type 0) (m n : ℕ) {j k : ℕ} (asks : Asks A) → m ≡ j → n ≡ k → Weighed w Q m n asks → Weighed w Q j k asks
  weighed_at Q m n {j} {k} asks p q h = subst (λ (i : ℕ). Weighed w Q j i asks) q (subst (λ (i : ℕ). Weighed w Q i n asks) p h)

  -- what is left of it after a walk
  pub weighed_left : {A : Type 0} (Q : ℕ → ℕ → A → Type 0) (m n : ℕ) (asks : Asks A) (es : List Entry) (rest : Asks A) → Weighed w Q m n asks → Left asks es rest → Weighed w Q (m + made_in es w) (n + closed_in es w) rest
  weighed_left Q m n asks [] rest h walk = weighed_at Q m n rest (omega arith) (omega arith) (subst (Weighed w Q m n) walk h)
  weighed_left Q m n (Give a) (e ∷ es) rest h walk = absurd walk
  weighed_left Q m n (Ask op call next) (e ∷ es) rest h walk =
      let r = weighed_left Q (m + made_by op call e.answer w) (n + tally (closed_by call) w) (next e.answer) es rest (h e.answer (suits call e.answer walk.0.2)) walk.1 in
      let p : made_by e.op e.call e.answer w ≡ made_by op call e.answer w = rw (walk.0.0, walk.0.1) refl in
      let q : tally (closed_by e.call) w ≡ tally (closed_by call) w = ap (λ (c : Call). tally (closed_by c) w) walk.0.1 in
      weighed_at Q (m + made_by op call e.answer w + made_in es w) (n + tally (closed_by call) w + closed_in es w) rest (omega arith) (omega arith) r
  weighed_left Q m n (AskWrite op sock bytes next) (e ∷ es) rest h walk =
      let r = weighed_left Q m n (next e.answer) es rest (h e.answer) walk.2 in
      let p : made_by e.op e.call e.answer w ≡ 0 = rw walk.0.1 refl in
      let q : tally (closed_by e.call) w ≡ 0 = rw walk.0.1 refl in
      weighed_at Q (m + made_in es w) (n + closed_in es w) rest (omega arith) (omega arith) r

  -- where the end reports how much more was made than closed, there is one such number
  pub weighed_once : {A : Type 0} (Q : ℕ → ℕ → A → Type 0) → ((m n j k : ℕ) (a : A) → Q m n a → Q j k a → n + j ≡ k + m) → (m n j k : ℕ) (asks : Asks A) → Weighed w Q m n asks → Weighed w Q j k asks → n + j ≡ k + m
  weighed_once Q one m n j k (Give a) h g = one m n j k a h g
  weighed_once Q one m n j k (Ask op call next) h g =
      let e = weighed_once Q one (m + made_by op call told.Done w) (n + tally (closed_by call) w) (j + made_by op call told.Done w) (k + tally (closed_by call) w) (next told.Done) (h told.Done (done_suits call)) (g told.Done (done_suits call)) in omega arith
  weighed_once Q one m n j k (AskWrite op sock bytes next) h g = weighed_once Q one m n j k (next told.Done) (h told.Done) (g told.Done)

-- == a poll of an accept
-- it made one network socket where it ended with a connection, and closed none
abbrev Makes : Weight → Who → ℕ → ℕ → End × List Item → Type 0
Makes w who m n end = n + tally (untaken_side (accept_ended who end)) w ≡ m

module _ (w : Weight) (who : Who) (last : who.last ≡ NothingLast) (again : List Item → Asks (End × List Item)) (anew : Weighed w (Makes w who) 0 0 (again (Accept ∷ []))) where
  fails : (c : ErrorCode) → Weighed w (Makes w who) 0 0 (last_ask who who.last c Nothing)
  fails c = subst (λ (l : LastAsk). Weighed w (Makes w who) 0 0 (last_ask who l c Nothing)) (sym last) refl

  -- an arrival that is admitted
  told_hand : (peer : IpSocketAddress) (t : Told) → IsDone t → Weighed w (Makes w who) (0 + made_by who.id (call.Hand who.side peer) t w) 0 (after again who [] (λ g. round again who g []) (Goes (Connection who.id peer)))
  told_hand peer told.Done s = refl
  told_hand peer _ s = absurd s

  hands : (peer : IpSocketAddress) → Weighed w (Makes w who) 0 0 (round again who Nothing (Hand peer ∷ []))
  unfolding bind
  hands peer = λ t s. told_hand peer t s

  -- one that isn't is refused, and then it accepts anew
  refuses : (peer : IpSocketAddress) → Weighed w (Makes w who) 0 0 (round again who Nothing (Refuse peer ∷ []))
  unfolding bind
  refuses peer = λ t s. anew

  told_check : (peer : IpSocketAddress) (t : Told) → Weighed w (Makes w who) 0 0 (bind (admitted_front who peer (told_verdict t)) (after again who [] (λ g. round again who g [])))
  unfolding bind
  told_check peer told.Yes = hands peer
  told_check peer told.No = refuses peer
  told_check peer _ = refl

  checks : (peer : IpSocketAddress) → Weighed w (Makes w who) 0 0 (round again who Nothing (CheckArrival peer ∷ []))
  unfolding bind
  checks peer = λ t s. told_check peer t

  told_accept : (t : Told) → Weighed w (Makes w who) 0 0 (bind (accept_front who (told_arrival t)) (after again who [] (λ g. round again who g [])))
  unfolding bind
  told_accept (told.Arrived peer) = checks peer
  told_accept (told.Code c) = fails c
  told_accept _ = refl

  weigh_round : (items : List Item) → IsLeftOfAccept items → Weighed w (Makes w who) 0 0 (round again who Nothing items)
  unfolding bind
  weigh_round _ Unarrived = λ t s. told_accept t
  weigh_round _ (Arrived peer) = checks peer
  weigh_round _ (Admitted peer) = hands peer
  weigh_round _ (Unwanted peer) = refuses peer
  weigh_round _ Ended = refl

-- of any number of rounds
pub weigh_polls : (w : Weight) (k : ℕ) (who : Who) (items : List Item) → who.last ≡ NothingLast → IsLeftOfAccept items → Weighed w (Makes w who) 0 0 (polls k who items)
unfolding polls
weigh_polls w zero who items last h = refl
weigh_polls w (suc k) who items last h = weigh_round w who last (polls k who) (weigh_polls w k who (Accept ∷ []) last Unarrived) items h

-- == a call on a listener
-- the accept that it polls is its own
holds_begun : (side : OpId) (maker : ℕ) (ids : Ids) (a : Accepting) → HoldsAccept side maker a → HoldsAccept side maker (begun side maker ids a)
holds_begun side maker ids accepting.Idle h = holds_new (record { step = ids.line; part = ids.next_part }) side maker
holds_begun side maker ids (accepting.Asking op) h = h
holds_begun side maker ids (accepting.Arrived new peer) h = tt
holds_begun side maker ids (accepting.Failed c) h = tt

-- and holds as many network sockets
untaken_begun : (side : OpId) (maker : ℕ) (ids : Ids) (a : Accepting) → untaken_side (begun side maker ids a) ≡ untaken_side a
untaken_begun side maker ids accepting.Idle = refl
untaken_begun side maker ids (accepting.Asking op) = refl
untaken_begun side maker ids (accepting.Arrived new peer) = refl
untaken_begun side maker ids (accepting.Failed c) = refl

module _ (w : Weight) {A : Type 0} (ends : Accepting → A) (Q : ℕ → ℕ → A → Type 0) (kept : (m n : ℕ) (a : Accepting) → n + tally (untaken_side a) w ≡ m → Q m n (ends a)) where
  -- a poll of so many rounds, and what the call makes of it
  pub weigh_rest : (k : ℕ) (op : Operation) → IsAccept op → Weighed w Q 0 0 (bind (polls k op.who op.left) (λ ended. Give (ends (accept_ended op.who ended))))
  weigh_rest k op h = weighed_then w (Makes w op.who) Q 0 0 (polls k op.who op.left) _ (weigh_polls w k op.who op.left h.last h.left) (λ m n ended e. kept m n (accept_ended op.who ended) e)

  weigh_accept : (side : OpId) (maker : ℕ) (a : Accepting) → HoldsAccept side maker a → Weighed w Q (tally (untaken_side a) w) 0 (accept_asks ends a)
  weigh_accept side maker accepting.Idle h = kept 0 0 accepting.Idle refl
  weigh_accept side maker (accepting.Asking op) h = weigh_rest 64 op h.accept
  weigh_accept side maker (accepting.Arrived new peer) h = kept (w new) 0 (accepting.Arrived new peer) (omega arith)
  weigh_accept side maker (accepting.Failed c) h = kept 0 0 (accepting.Failed c) refl

  pub weigh_listener : (l : Listener) (ids : Ids) → IsListener l → Weighed w Q (tally (untaken_side l.accept) w) 0 (listener_asks ends l ids)
  weigh_listener l ids h =
      weighed_at w Q _ 0 (listener_asks ends l ids) (ap (λ side. tally side w) (untaken_begun l.side l.maker ids l.accept)) refl
      (weigh_accept l.side l.maker (begun l.side l.maker ids l.accept) (holds_begun l.side l.maker ids l.accept h))
