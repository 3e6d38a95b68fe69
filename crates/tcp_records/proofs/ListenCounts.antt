-- What a listen makes of the network sockets that are held: one that is refused closes its network socket, and one that is done
-- gives it back.
use Rattle.std.proofs.Common.{◌≡◌, Bool, true, false, if◌then◌else◌, ℕ, ◌+◌, List, [], ◌∷◌, Option, Some, None, is_some, refl, sym, ap, subst, arith}
use Rattle.std.specs.Prelude.{Result, Ok, Err, OnErr}
use Rattle.wasi_addr.specs.declared.address.IpSocketAddress.{IpSocketAddress}
use Rattle.wasi_addr.specs.declared.address.SocketAddrUse.{SocketAddrUse}
use Rattle.wasi_addr.specs.declared.address.SocketAddrUse.TheVariants.{TcpBind, TcpListen}
use Rattle.wasi_addr.specs.declared.code.ErrorCode.{ErrorCode}
use Rattle.wasi_addr.specs.declared.code.ErrorCode.TheVariants.{AccessDenied, InvalidState, Other}
use Rattle.wasi_world.specs.declared.asks.Verdict.{Verdict}
use Rattle.wasi_world.specs.declared.asks.Verdict.TheVariants as verdict
use Rattle.wasi_world.specs.declared.call.Told.TheVariants as told
use Rattle.wasi_world.specs.declared.ids.OpId.{OpId}
use Rattle.wasi_world.specs.declared.outcome.Answer.{Answer}
use Rattle.wasi_world.specs.declared.outcome.Answer.TheVariants.{Ready, Pending}
use Rattle.wasi_world.specs.declared.outcome.Refusal.{Refusal}
use Rattle.wasi_world.specs.declared.outcome.Refusal.TheVariants as refusal
use Rattle.wasi_world.specs.Seen.{Seen}
use Rattle.wasi_world.specs.Asks.{Asks, Give, bind, Reaches, AsksFor, outcome}
use Rattle.wasi_world.specs.Typed.{told_verdict, told_done, told_addr}
use Rattle.wasi_world.specs.Operation.{Nothing, Item, Check, CheckLocal, Bind, Listen, CloseLast, LastAsk, Who, Operation, End, Waits, Done, Refused, last_ask, after, round, polls, poll_asks, verdict_front, done_front, local_front}
use Rattle.wasi_tcp.specs.Shape.{Socket}
use Rattle.wasi_tcp.specs.Socket.{side_of}
use Rattle.wasi_tcp.specs.Listen.{IsListen, IsLeftOfListen, BoundBefore, AddressTold, Unbound, BindChecked, Checked, Bound, ToClose, Ended, is_over, none_left, held_side}
use Rattle.socket_common.specs.Rounds.{some_left, is_going, stays_going}
use Rattle.wasi_tcp.specs.Listening.{listen_ended, listen_goes_on, listen_poll_asks}
use Rattle.wasi_tcp.specs.Listener.{Listener}
use Rattle.tcp_records.specs.declared.tcp_listening.Listening.{Listening}
use Rattle.tcp_records.specs.declared.tcp_listening.Listening.TheVariants.{Begins}
use Rattle.tcp_records.specs.declared.socket.TcpRecord.{TcpRecord}
use Rattle.tcp_records.specs.Listening.{side_in, listen_polled, listen_settled, listen_told, poll_begun, poll_listening, closed_listening, poll_listen_asks}
use Rattle.record_common.specs.Sides.{Weight, each, no_socket, tally, closed_in}
use Rattle.tcp_records.specs.Sides.{holds, Balances}
use Rattle.wasi_world.proofs.Walks.{asks_at, asks_end, reaches_in, asks_err}
use Rattle.record_common.proofs.ConnectCounts.{Counted, counted_then, counted_left}

-- == a poll of a listen
-- refused, it closed its network socket; pending, there is an ask left; done or pending, it closed none
abbrev Stops : ℕ → ℕ → End × List Item → Type 0
Stops one n (Waits, items) = (n ≡ 0) × (none_left items ≡ false)
Stops one n (Done given, items) = n ≡ 0
Stops one n (Refused c given, items) = n ≡ one

module _ (w : Weight) (who : Who) (last : who.last ≡ CloseLast) (again : List Item → Asks (End × List Item)) where
  abbrev Counts : List Item → Type 0
  Counts items = Counted w (Stops (w who.side)) 0 (round again who Nothing items)

  closes : (c : ErrorCode) → Counted w (Stops (w who.side)) 0 (last_ask who who.last c Nothing)
  unfolding bind
  closes c = subst (λ (l : LastAsk). Counted w (Stops (w who.side)) 0 (last_ask who l c Nothing)) (sym last) ((λ t. refl), λ t. omega arith)

  after_verdict : (i : Item) (items : List Item) (v : Verdict) → Counts items → Counted w (Stops (w who.side)) 0 (after again who items (λ g. round again who g items) (verdict_front i v))
  after_verdict i items verdict.Yes h = h
  after_verdict i items verdict.No h = closes AccessDenied
  after_verdict i items verdict.Pending h = (refl, refl)

  after_done : (items : List Item) (r : Result (Unit {0}) ErrorCode) → Counts items → Counted w (Stops (w who.side)) 0 (after again who items (λ g. round again who g items) (done_front r))
  after_done items (Ok d) h = h
  after_done items (Err c) h = closes c

  checks : (a : IpSocketAddress) (usage : SocketAddrUse) (items : List Item) → Counts items → Counts (Check a usage ∷ items)
  unfolding bind
  checks a usage items h = ((λ t. refl), λ t. after_verdict (Check a usage) items (told_verdict t) h)

  listens : (backlog : ℕ) → Counts (Listen backlog ∷ [])
  unfolding bind
  listens backlog = ((λ t. refl), λ t. after_done [] (told_done t) refl)

  binds : (a : IpSocketAddress) (backlog : ℕ) → Counts (Bind a ∷ Listen backlog ∷ [])
  unfolding bind
  binds a backlog = ((λ t. refl), λ t. after_done (Listen backlog ∷ []) (told_done t) (listens backlog))

  after_local : (items : List Item) (r : Result IpSocketAddress ErrorCode) → Counts items → Counted w (Stops (w who.side)) 0 (bind (local_front who TcpListen r) (after again who items (λ g. round again who g items)))
  unfolding bind
  after_local items (Ok a) h = checks a TcpListen items h
  after_local items (Err c) h = closes c

  locals : (items : List Item) → Counts items → Counts (CheckLocal TcpListen ∷ items)
  unfolding bind
  locals items h = ((λ t. refl), λ t. after_local items (told_addr t) h)

  count_round : (items : List Item) → IsLeftOfListen items → Counts items
  unfolding bind
  count_round _ (BoundBefore backlog) = locals (Listen backlog ∷ []) (listens backlog)
  count_round _ (AddressTold a backlog) = checks a TcpListen (Listen backlog ∷ []) (listens backlog)
  count_round _ (Unbound a backlog) = checks a TcpBind (Check a TcpListen ∷ Bind a ∷ Listen backlog ∷ []) (checks a TcpListen (Bind a ∷ Listen backlog ∷ []) (binds a backlog))
  count_round _ (BindChecked a backlog) = checks a TcpListen (Bind a ∷ Listen backlog ∷ []) (binds a backlog)
  count_round _ (Checked a backlog) = binds a backlog
  count_round _ (Bound backlog) = listens backlog
  count_round _ (ToClose c) = closes c
  count_round _ Ended = refl

count_poll : (w : Weight) (op : Operation) → IsListen op → Counted w (Stops (w op.who.side)) 0 (poll_asks op)
unfolding polls
count_poll w op h = count_round w op.who h.last (polls 63 op.who) op.left h.left

-- == what the record holds after it
abbrev Ending : Type 0
Ending = Result (Answer Listener) ErrorCode × (Operation × Socket)

abbrev Balanced : Weight → TcpRecord → ℕ → ℕ → Ending → Type 0
Balanced w r before n done = n + holds (listen_polled r done).1 w ≡ before

-- one that isn't over holds its network socket
pub held_going : (w : Weight) (op : Operation) → is_over op ≡ false → tally (held_side op) w ≡ w op.who.side
held_going w op h = rw h refl

count_end : (w : Weight) (r : TcpRecord) (socket : Socket) (who : Who) (n : ℕ) (end : End × List Item) → side_of socket ≡ None → Stops (w who.side) n end → Balanced w r (w who.side) n (listen_ended who socket end)
count_end w r socket who n (Waits, items) e h = let z : tally (side_of socket) w ≡ 0 = ap (λ o. tally o w) e in let p = held_going w (record { who = who; left = items }) h.1 in let m = h.0 in omega arith
count_end w r socket who n (Done given, items) e h = rw h (omega arith)
count_end w r socket who n (Refused c given, items) e h = let z : tally (side_of socket) w ≡ 0 = ap (λ o. tally o w) e in omega arith

count_goes_on : (w : Weight) (r : TcpRecord) (op : Operation) (socket : Socket) → side_of socket ≡ None → IsListen op → Counted w (Balanced w r (w op.who.side)) 0 (listen_goes_on op socket)
count_goes_on w r op socket e h = counted_then w (Stops (w op.who.side)) (Balanced w r (w op.who.side)) 0 (poll_asks op) _ (count_poll w op h) (λ n end s. count_end w r socket op.who n end e s)

count_asks : (w : Weight) (r : TcpRecord) (op : Operation) (socket : Socket) → side_of socket ≡ None → IsListen op → Counted w (Balanced w r (tally (held_side op) w)) 0 (listen_poll_asks op socket)
count_asks w r op socket e h = by (is_over op)
  where
    by : (over : Bool) → Counted w (Balanced w r (tally (if over then None else Some op.who.side) w)) 0 (if over then Give (Err InvalidState, (op, socket)) else listen_goes_on op socket)
    by true = let z : tally (side_of socket) w ≡ 0 = ap (λ o. tally o w) e in omega arith
    by false = count_goes_on w r op socket e h

-- the poll came to its end
balances_done : (r : TcpRecord) (op now : Operation) (socket : Socket) (answer : Result (Answer Listener) ErrorCode) {s t : Seen} → r.listening ≡ Begins op → side_of r.inner ≡ None → IsListen op → Reaches (listen_poll_asks op r.inner) (Give (answer, (now, socket))) s t
    → Balances s t no_socket r (listen_polled r (answer, (now, socket))).1
balances_done r op now socket answer l e h reached = record {
  entries = reached.entries;
  passed = reached.passed;
  balance = λ w. (let walk = counted_left w (Balanced w r (tally (held_side op) w)) 0 (listen_poll_asks op r.inner) reached.entries (Give (answer, (now, socket))) (count_asks w r op r.inner e h) reached.left in
      let z : tally (side_of r.inner) w ≡ 0 = ap (λ o. tally o w) e in
      let p : tally (side_in r.listening) w ≡ tally (held_side op) w = ap (λ (x : Listening). tally (side_in x) w) l in
      let m = walk.made in
      let b = walk.left in omega arith);
}

-- == or memory ran out
-- one that isn't over may be refused, with its network socket closed
record Refuses (Q : ℕ → Ending → Type 0) (k : ℕ) (who : Who) (socket : Socket) : Type 0 where
  code : ErrorCode
  holds_of : Q k (Err code, (record { who = who; left = [] }, socket))

module _ (w : Weight) where
  refused_so : (Q : ℕ → Ending → Type 0) (k n : ℕ) (who : Who) (socket : Socket) (c : ErrorCode) → who.last ≡ CloseLast → n ≡ k → Counted w Q n (bind (last_ask who who.last c Nothing) (λ end. Give (listen_ended who socket end))) → Refuses Q (k + w who.side) who socket
  unfolding bind
  refused_so Q k n who socket c l e h =
      record {
        code = c;
        holds_of = subst (λ (m : ℕ). Q (m + w who.side) (Err c, (record { who = who; left = [] }, socket))) e
            ((subst (λ (last : LastAsk). Counted w Q n (bind (last_ask who last c Nothing) (λ end. Give (listen_ended who socket end)))) l h).1 told.Done);
      }

  refuses : (Q : ℕ → Ending → Type 0) (k : ℕ) (who : Who) (socket : Socket) (items : List Item) → who.last ≡ CloseLast → IsLeftOfListen items → some_left items ≡ true → Counted w Q k (listen_goes_on (record { who = who; left = items }) socket) → Refuses Q (k + w who.side) who socket
  unfolding bind polls
  refuses Q k who socket _ l (BoundBefore backlog) g h = refused_so Q k (k + 0) who socket Other l (omega arith) (h.1 (told.Code Other))
  refuses Q k who socket _ l (AddressTold a backlog) g h = refused_so Q k (k + 0) who socket AccessDenied l (omega arith) (h.1 told.No)
  refuses Q k who socket _ l (Unbound a backlog) g h = refused_so Q k (k + 0) who socket AccessDenied l (omega arith) (h.1 told.No)
  refuses Q k who socket _ l (BindChecked a backlog) g h = refused_so Q k (k + 0) who socket AccessDenied l (omega arith) (h.1 told.No)
  refuses Q k who socket _ l (Checked a backlog) g h = refused_so Q k (k + 0) who socket Other l (omega arith) (h.1 (told.Code Other))
  refuses Q k who socket _ l (Bound backlog) g h = refused_so Q k (k + 0) who socket Other l (omega arith) (h.1 (told.Code Other))
  refuses Q k who socket _ l (ToClose c) g h = refused_so Q k k who socket c l refl h
  refuses Q k who socket _ l Ended g h = absurd (cc)

-- one that is over before asks nothing, so after it no ask is left
abbrev IsDone : ℕ → Ending → Type 0
IsDone n (Ok a, rest) = Unit {0}
IsDone n (Err c, rest) = ⊥

was_going : (op now : Operation) (socket after : Socket) {s t : Seen} → IsListen now → is_going now ≡ true → Reaches (listen_goes_on op socket) (listen_goes_on now after) s t → is_over op ≡ false
unfolding bind polls
was_going op now socket after h g reached = by op.left reached
  where
    by : (items : List Item) {s t : Seen} → Reaches (listen_goes_on (record { who = op.who; left = items }) socket) (listen_goes_on now after) s t → none_left items ≡ false
    by [] reached =
        let walk = counted_left each IsDone 0 (listen_goes_on (record { who = op.who; left = [] }) socket) reached.entries (listen_goes_on now after) tt reached.left in
        absurd ((refuses each IsDone (0 + closed_in reached.entries each) now.who after now.left h.last h.left g walk.left).holds_of)
    by (item ∷ items) reached = refl

stays_held : (items : List Item) → some_left items ≡ true → none_left items ≡ false
stays_held [] h = absurd (cc)
stays_held (item ∷ items) h = refl

balances_memory : (r : TcpRecord) (op now : Operation) (socket : Socket) {s t : Seen} → r.listening ≡ Begins op → side_of r.inner ≡ None → IsListen op → IsListen now → is_going now ≡ true → Reaches (listen_goes_on op r.inner) (listen_goes_on now socket) s t
    → Balances s t no_socket r (record r { inner = socket; listening = Begins now })
balances_memory r op now socket l e h k g reached = record {
  entries = reached.entries;
  passed = reached.passed;
  balance = λ w. (let walk = counted_left w (Balanced w r (w op.who.side)) 0 (listen_goes_on op r.inner) reached.entries (listen_goes_on now socket) (count_goes_on w r op r.inner e h) reached.left in
      let b = (refuses w (Balanced w r (w op.who.side)) (0 + closed_in reached.entries w) now.who socket now.left k.last k.left g walk.left).holds_of in
      let z : tally (side_of r.inner) w ≡ 0 = ap (λ o. tally o w) e in
      let p : tally (side_in r.listening) w ≡ tally (held_side op) w = ap (λ (x : Listening). tally (side_in x) w) l in
      let q = held_going w op (was_going op now r.inner socket k g reached) in
      let d = held_going w now (stays_held now.left g) in
      let m = walk.made in omega arith);
}

-- == a record whose listen was polled
pub listen_balances : (r : TcpRecord) (op now : Operation) (socket : Socket) (p : Result (Answer Listener) Refusal) {s t : Seen} → r.listening ≡ Begins op → side_of r.inner ≡ None → IsListen op → IsListen now → is_going now ≡ stays_going p
    → AsksFor (listen_poll_asks op r.inner) s t (λ answer. (answer, (now, socket))) (outcome p) → OnErr (outcome p) (Reaches (listen_goes_on op r.inner) (listen_goes_on now socket) s t)
    → Balances s t no_socket r (listen_settled (record r { inner = socket; listening = Begins now }) p)
listen_balances r op now socket (Ok (Ready listener)) l e h k g asked err = balances_done r op now socket (Ok (Ready listener)) l e h asked.ok
listen_balances r op now socket (Ok Pending) l e h k g asked err = balances_done r op now socket (Ok Pending) l e h asked.ok
listen_balances r op now socket (Err (refusal.Code c)) l e h k g asked err = balances_done r op now socket (Err c) l e h asked.ok
listen_balances r op now socket (Err (refusal.Memory d)) l e h k g asked err = balances_memory r op now socket l e h k g err

begun_asked : (r : TcpRecord) (op now : Operation) (socket : Socket) (p : Result (Answer Listener) Refusal) {s t : Seen} → AsksFor (listen_poll_asks op r.inner) s t (λ answer. (answer, (now, socket))) (outcome p)
    → AsksFor (poll_begun r op) s t (λ answer. (answer, listen_settled (record r { inner = socket; listening = Begins now }) p)) (outcome (listen_told p))
begun_asked r op now socket (Ok (Ready listener)) h = asks_end _ h.ok refl
begun_asked r op now socket (Ok Pending) h = asks_end _ h.ok refl
begun_asked r op now socket (Err (refusal.Code c)) h = asks_end _ h.ok refl
begun_asked r op now socket (Err (refusal.Memory e)) h = asks_err (bind h.err.rest (λ done. Give (listen_polled r done))) (reaches_in _ h.err.reached)

pub listen_asked : (r : TcpRecord) (op now : Operation) (socket : Socket) (p : Result (Answer Listener) Refusal) {s t : Seen} → r.listening ≡ Begins op → side_of r.inner ≡ None → AsksFor (listen_poll_asks op r.inner) s t (λ answer. (answer, (now, socket))) (outcome p)
    → AsksFor (poll_listen_asks r) s t (λ answer. (answer, listen_settled (record r { inner = socket; listening = Begins now }) p)) (outcome (listen_told p))
listen_asked r op now socket p l e h = asks_at (closed_listening r) e (asks_at (poll_listening r) l (begun_asked r op now socket p h))

-- there is no network socket where the test of it fails
pub none_of : (side : Option OpId) → is_some side ≡ false → side ≡ None
none_of None h = refl
none_of (Some side) h = absurd (cc)
