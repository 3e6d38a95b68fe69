-- What a connect makes of the network sockets that are held: one that is refused closes its network socket.
use Rattle.std.proofs.Common.{◌≡◌, Bool, true, false, ℕ, ◌+◌, List, [], ◌∷◌, Some, refl, sym, ap, subst, ◌∙◌, arith}
use Rattle.wasi_addr.specs.declared.address.IpSocketAddress.{IpSocketAddress}
use Rattle.wasi_addr.specs.declared.address.SocketAddrUse.TheVariants.{TcpBind, TcpConnect}
use Rattle.wasi_addr.specs.declared.code.ErrorCode.{ErrorCode}
use Rattle.wasi_addr.specs.declared.code.ErrorCode.TheVariants.{AccessDenied}
use Rattle.std.specs.Prelude.{Result, Ok, Err, OnErr}
use Rattle.wasi_world.specs.declared.call.Told.{Told}
use Rattle.wasi_world.specs.declared.call.Told.TheVariants as told
use Rattle.wasi_world.specs.declared.outcome.Answer.{Answer}
use Rattle.wasi_world.specs.declared.outcome.Answer.TheVariants.{Ready, Pending}
use Rattle.wasi_world.specs.declared.outcome.Refusal.{Refusal}
use Rattle.wasi_world.specs.declared.outcome.Refusal.TheVariants as refusal
use Rattle.wasi_world.specs.Seen.{Seen}
use Rattle.wasi_world.specs.Asks.{Asks, Give, bind, Reaches, AsksFor, outcome}
use Rattle.wasi_world.specs.Typed.{told_verdict, told_polled}
use Rattle.wasi_world.specs.Operation.{Given, Nothing, Item, Check, Connect, LastAsk, CloseLast, Who, Operation, End, Waits, Done, Refused, last_ask, after, round, polls, poll_asks, verdict_front, polled_front}
use Rattle.wasi_tcp.specs.declared.halves.TcpReceiveStream.{TcpReceiveStream}
use Rattle.wasi_tcp.specs.declared.halves.TcpSendStream.{TcpSendStream}
use Rattle.wasi_tcp.specs.declared.socket.Connection.{Connection}
use Rattle.wasi_tcp.specs.declared.socket.TcpState.{TcpState}
use Rattle.wasi_tcp.specs.declared.socket.TcpState.TheVariants as state
use Rattle.wasi_tcp.specs.Shape.{Socket}
use Rattle.wasi_tcp.specs.Socket.{side_in, side_of}
use Rattle.wasi_tcp.specs.Addresses.{still_connected}
use Rattle.wasi_tcp.specs.Halves.{taken_receive, taken_send, take_receive, take_send}
use Rattle.wasi_tcp.specs.Connect.{IsConnect, IsLeftOfConnect, Unbound, Unchecked, Checked, ToClose, Ended}
use Rattle.wasi_tcp.specs.Connecting.{HoldsConnect, connect_ended, finish_in, in_socket, finish_connect_asks}
use Rattle.tcp_records.specs.declared.socket.TcpRecord.{TcpRecord}
use Rattle.wasi_world.proofs.Walks.{asks_end, reaches_in, asks_err}
use Rattle.tcp_records.specs.Sockets.{with_inner, opened_send, opened_receive, opened, connect_polled, connect_settled, connect_told, poll_connect_asks}
use Rattle.record_common.specs.Sides.{Weight, Tally, no_socket, tally, closed_in}
use Rattle.tcp_records.specs.Sides.{holds, Balances}
use Rattle.tcp_records.proofs.SideCounts.{holds-same}
use Rattle.record_common.proofs.ConnectCounts.{Counted, counted_then, counted_left, counted_once}

-- == a poll of a connect
-- refused, it closed its network socket; else it closed none
abbrev Closes : ℕ → ℕ → End × List Item → Type 0
Closes one n (Waits, items) = n ≡ 0
Closes one n (Done given, items) = n ≡ 0
Closes one n (Refused c given, items) = n ≡ one

module _ (w : Weight) (who : Who) (last : who.last ≡ CloseLast) (again : List Item → Asks (End × List Item)) where
  closes : (c : ErrorCode) → Counted w (Closes (w who.side)) 0 (last_ask who who.last c Nothing)
  unfolding bind
  closes c = subst (λ (l : LastAsk). Counted w (Closes (w who.side)) 0 (last_ask who l c Nothing)) (sym last) ((λ t. refl), λ t. omega arith)

  told_connect : (a : IpSocketAddress) (t : Told) → Counted w (Closes (w who.side)) 0 (after again who [] (λ g. round again who g []) (polled_front (Connect a) (told_polled t)))
  told_connect a told.Done = refl
  told_connect a (told.Code c) = closes c
  told_connect a _ = refl

  connects : (a : IpSocketAddress) (given : Given) → Counted w (Closes (w who.side)) 0 (round again who given (Connect a ∷ []))
  unfolding bind
  connects a given = ((λ t. refl), λ t. told_connect a t)

  told_check : (a : IpSocketAddress) (t : Told) → Counted w (Closes (w who.side)) 0 (after again who (Connect a ∷ []) (λ g. round again who g (Connect a ∷ [])) (verdict_front (Check a TcpConnect) (told_verdict t)))
  told_check a told.Yes = connects a Nothing
  told_check a told.No = closes AccessDenied
  told_check a _ = refl

  checks : (a : IpSocketAddress) (given : Given) → Counted w (Closes (w who.side)) 0 (round again who given (Check a TcpConnect ∷ Connect a ∷ []))
  unfolding bind
  checks a given = ((λ t. refl), λ t. told_check a t)

  told_wildcard : (wildcard a : IpSocketAddress) (t : Told) → Counted w (Closes (w who.side)) 0 (after again who (Check a TcpConnect ∷ Connect a ∷ []) (λ g. round again who g (Check a TcpConnect ∷ Connect a ∷ [])) (verdict_front (Check wildcard TcpBind) (told_verdict t)))
  told_wildcard wildcard a told.Yes = checks a Nothing
  told_wildcard wildcard a told.No = closes AccessDenied
  told_wildcard wildcard a _ = refl

  count_round : (items : List Item) → IsLeftOfConnect items → Counted w (Closes (w who.side)) 0 (round again who Nothing items)
  unfolding bind
  count_round _ (Unbound wildcard a) = ((λ t. refl), λ t. told_wildcard wildcard a t)
  count_round _ (Unchecked a) = checks a Nothing
  count_round _ (Checked a) = connects a Nothing
  count_round _ (ToClose c) = closes c
  count_round _ Ended = refl

count_poll : (w : Weight) (op : Operation) → IsConnect op → Counted w (Closes (w op.who.side)) 0 (poll_asks op)
unfolding polls
count_poll w op h = count_round w op.who h.last (polls 63 op.who) op.left h.left

-- == the state of a socket
abbrev held : TcpState → Tally
held s = tally (side_in s)

abbrev Balanced : Weight → ℕ → ℕ → Result (Answer (Unit {0})) ErrorCode × Socket → Type 0
Balanced w before n done = n + held done.1.state w ≡ before

count_ended : (w : Weight) (socket : Socket) (op : Operation) (n : ℕ) (end : End × List Item) → Closes (w op.who.side) n end → Balanced w (w op.who.side) n (in_socket socket (connect_ended op.who end))
count_ended w socket op n (Waits, items) h = rw h (omega arith)
count_ended w socket op n (Done given, items) h = rw h (omega arith)
count_ended w socket op n (Refused c given, items) h = rw h (omega arith)

count_finish : (w : Weight) (socket : Socket) (s : TcpState) → HoldsConnect s → Counted w (λ n done. Balanced w (held s w) n (in_socket socket done)) 0 (finish_in s)
count_finish w socket (state.Default side) h = omega arith
count_finish w socket (state.Listening side) h = omega arith
count_finish w socket (state.Connecting op) h = counted_then w (Closes (w op.who.side)) (λ n done. Balanced w (w op.who.side) n (in_socket socket done)) 0 (poll_asks op) _ (count_poll w op h) (λ n end c. count_ended w socket op n end c)
count_finish w socket (state.Connected c) h = omega arith
count_finish w socket (state.Closed c) h = omega arith

count_socket : (w : Weight) (socket : Socket) → HoldsConnect socket.state → Counted w (Balanced w (held socket.state w)) 0 (finish_connect_asks socket)
count_socket w socket h =
    counted_then w (λ n done. Balanced w (held socket.state w) n (in_socket socket done)) (Balanced w (held socket.state w)) 0 (finish_in socket.state) _ (count_finish w socket socket.state h) (λ n done c. c)

-- the poll came to its end
closes_done : (r : TcpRecord) {answer : Result (Answer (Unit {0})) ErrorCode} {now : Socket} {s t : Seen} → HoldsConnect r.inner.state → Reaches (finish_connect_asks r.inner) (Give (answer, now)) s t → Balances s t no_socket r (with_inner r now)
closes_done r {answer} {now} h e = record {
  entries = e.entries;
  passed = e.passed;
  balance = λ w. (let walk = counted_left w (Balanced w (held r.inner.state w)) 0 (finish_connect_asks r.inner) e.entries (Give (answer, now)) (count_socket w r.inner h) e.left in
      let balance = walk.left in
      let made = walk.made in omega arith);
}

-- or memory ran out
closes_memory : (r : TcpRecord) (now : Socket) {s t : Seen} → HoldsConnect r.inner.state → HoldsConnect now.state → side_of now ≡ side_of r.inner → Reaches (finish_connect_asks r.inner) (finish_connect_asks now) s t → Balances s t no_socket r (with_inner r now)
closes_memory r now h k e f = record {
  entries = f.entries;
  passed = f.passed;
  balance = λ w. (let same : held now.state w ≡ held r.inner.state w = ap (λ o. tally o w) e in
      let walk = counted_left w (Balanced w (held r.inner.state w)) 0 (finish_connect_asks r.inner) f.entries (finish_connect_asks now) (count_socket w r.inner h) f.left in
      let own = subst (λ (b : ℕ). Counted w (Balanced w b) 0 (finish_connect_asks now)) same (count_socket w now k) in
      let none = counted_once w (Balanced w (held r.inner.state w)) (Balanced w (held r.inner.state w)) 0 0 (λ n m done p q. omega arith) (0 + closed_in f.entries w) 0 (finish_connect_asks now) walk.left own in
      let made = walk.made in omega arith);
}

-- == a record whose connect was polled
pub poll_asked : (r : TcpRecord) (now : Socket) (p : Result (Answer (Unit {0})) Refusal) {s t : Seen} → AsksFor (finish_connect_asks r.inner) s t (λ answer. (answer, now)) (outcome p)
    → AsksFor (poll_connect_asks r) s t (λ done. (done, connect_settled (with_inner r now) p)) (connect_told (with_inner r now) p)
poll_asked r now (Ok Pending) h = asks_end _ h.ok refl
poll_asked r now (Ok (Ready done)) h = asks_end _ h.ok refl
poll_asked r now (Err (refusal.Code c)) h = asks_end _ h.ok refl
poll_asked r now (Err (refusal.Memory e)) h = asks_err (bind h.err.rest (λ done. Give (connect_polled r done))) (reaches_in _ h.err.reached)

-- taking a half leaves the network socket
receive_keeps : (s : TcpState) → side_in (take_receive s).1 ≡ side_in s
receive_keeps (state.Default side) = refl
receive_keeps (state.Listening side) = refl
receive_keeps (state.Connecting op) = refl
receive_keeps (state.Connected c) = by_taken c c.receive_taken
  where
    by_taken : (c : Connection) (taken : Bool) → side_in (still_connected (taken_receive c taken)).1 ≡ Some c.side
    by_taken c true = refl
    by_taken c false = refl
receive_keeps (state.Closed c) = refl

send_keeps : (s : TcpState) → side_in (take_send s).1 ≡ side_in s
send_keeps (state.Default side) = refl
send_keeps (state.Listening side) = refl
send_keeps (state.Connecting op) = refl
send_keeps (state.Connected c) = by_taken c c.send_taken
  where
    by_taken : (c : Connection) (taken : Bool) → side_in (still_connected (taken_send c taken)).1 ≡ Some c.side
    by_taken c true = refl
    by_taken c false = refl
send_keeps (state.Closed c) = refl

opened_send_side : (r : TcpRecord) (receive : TcpReceiveStream) (done : Result TcpSendStream ErrorCode × Socket) → side_of (opened_send r receive done).1.inner ≡ side_of done.1
opened_send_side r receive (Ok send, socket) = refl
opened_send_side r receive (Err c, socket) = refl

opened_receive_side : (r : TcpRecord) (done : Result TcpReceiveStream ErrorCode × Socket) → side_of (opened_receive r done).1.inner ≡ side_of done.1
opened_receive_side r (Ok receive, socket) = opened_send_side r receive (in_socket socket (take_send socket.state)) ∙ send_keeps socket.state
opened_receive_side r (Err c, socket) = refl

pub opened_side : (r : TcpRecord) (socket : Socket) → side_of (opened r socket).1.inner ≡ side_of socket
opened_side r socket = opened_receive_side r (in_socket socket (take_receive socket.state)) ∙ receive_keeps socket.state

settled_side : (r : TcpRecord) (p : Result (Answer (Unit {0})) Refusal) → side_of (connect_settled r p).inner ≡ side_of r.inner
settled_side r (Ok Pending) = refl
settled_side r (Ok (Ready done)) = opened_side r r.inner
settled_side r (Err (refusal.Code c)) = refl
settled_side r (Err (refusal.Memory e)) = refl

-- nor does it touch what the record listens by
opened_send_listening : (r : TcpRecord) (receive : TcpReceiveStream) (done : Result TcpSendStream ErrorCode × Socket) → (opened_send r receive done).1.listening ≡ r.listening
opened_send_listening r receive (Ok send, socket) = refl
opened_send_listening r receive (Err c, socket) = refl

opened_receive_listening : (r : TcpRecord) (done : Result TcpReceiveStream ErrorCode × Socket) → (opened_receive r done).1.listening ≡ r.listening
opened_receive_listening r (Ok receive, socket) = opened_send_listening r receive (in_socket socket (take_send socket.state))
opened_receive_listening r (Err c, socket) = refl

pub opened_listening : (r : TcpRecord) (socket : Socket) → (opened r socket).1.listening ≡ r.listening
opened_listening r socket = opened_receive_listening r (in_socket socket (take_receive socket.state))

settled_listening : (r : TcpRecord) (p : Result (Answer (Unit {0})) Refusal) → (connect_settled r p).listening ≡ r.listening
settled_listening r (Ok Pending) = refl
settled_listening r (Ok (Ready done)) = opened_listening r r.inner
settled_listening r (Err (refusal.Code c)) = refl
settled_listening r (Err (refusal.Memory e)) = refl

-- another record that holds as many network sockets
pub balances_as : {s t : Seen} {given : Tally} {old now : TcpRecord} (other : TcpRecord) → holds other ≡ holds now → Balances s t given old now → Balances s t given old other
balances_as other e c = record { entries = c.entries; passed = c.passed; balance = λ w. (let b = c.balance w in let same = ap (λ (held : Tally). held w) e in omega arith) }

pub closed_by_poll : (r : TcpRecord) (now : Socket) (p : Result (Answer (Unit {0})) Refusal) {s t : Seen} → HoldsConnect r.inner.state → HoldsConnect now.state → AsksFor (finish_connect_asks r.inner) s t (λ answer. (answer, now)) (outcome p)
    → OnErr (outcome p) (Reaches (finish_connect_asks r.inner) (finish_connect_asks now) s t) → OnErr (outcome p) (side_of now ≡ side_of r.inner) → Balances s t no_socket r (with_inner r now)
closed_by_poll r now (Ok a) h k asked e side = closes_done r h asked.ok
closed_by_poll r now (Err (refusal.Code c)) h k asked e side = closes_done r h asked.ok
closed_by_poll r now (Err (refusal.Memory d)) h k asked e side = closes_memory r now h k side e

pub poll_closes : (r : TcpRecord) (now : Socket) (p : Result (Answer (Unit {0})) Refusal) {s t : Seen} → HoldsConnect r.inner.state → HoldsConnect now.state → AsksFor (finish_connect_asks r.inner) s t (λ answer. (answer, now)) (outcome p)
    → OnErr (outcome p) (Reaches (finish_connect_asks r.inner) (finish_connect_asks now) s t) → OnErr (outcome p) (side_of now ≡ side_of r.inner) → Balances s t no_socket r (connect_settled (with_inner r now) p)
poll_closes r now p h k asked e side =
    balances_as (connect_settled (with_inner r now) p) (holds-same (with_inner r now) (connect_settled (with_inner r now) p) (settled_side (with_inner r now) p) (settled_listening (with_inner r now) p)) (closed_by_poll r now p h k asked e side)
