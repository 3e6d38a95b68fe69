-- Records that are released: each network socket that one held is closed once.
use Rattle.std.proofs.Common.{◌≡◌, ℕ, ◌+◌, Bool, true, false, if◌then◌else◌, Option, Some, None, refl, sym, ap, subst, arith}
use Rattle.std.specs.Prelude.{Result, Ok, Err, OnErr}
use Rattle.std.specs.declared.alloc.AllocError.{AllocError}
use Rattle.wasi_addr.specs.declared.address.IpSocketAddress.{IpSocketAddress}
use Rattle.wasi_world.specs.declared.ids.OpId.{OpId}
use Rattle.wasi_world.specs.Seen.{Seen}
use Rattle.wasi_world.specs.Asks.{Asks, Give, Ask, AskWrite, bind, Reaches, AsksFor}
use Rattle.wasi_world.specs.Operation.{Operation, Who}
use Rattle.wasi_world.specs.Typed.{ask_close}
use Rattle.wasi_tcp.specs.declared.listener.Accepting.{Accepting}
use Rattle.wasi_tcp.specs.declared.listener.Accepting.TheVariants as accepting
use Rattle.wasi_tcp.specs.Accept.{in_hand, refuse_in}
use Rattle.wasi_tcp.specs.Closing.{close_in, close_asks}
use Rattle.wasi_tcp.specs.Listen.{is_over, cancel_asks, held_side}
use Rattle.wasi_tcp.specs.Listener.{give_up_in, untaken_side}
use Rattle.wasi_tcp.specs.Shape.{Socket}
use Rattle.wasi_tcp.specs.Socket.{side_of}
use Rattle.tcp_records.specs.declared.tcp_listening.Listening.{Listening}
use Rattle.tcp_records.specs.declared.tcp_listening.Listening.TheVariants.{Not, Begins, Accepts, Unclosed}
use Rattle.tcp_records.specs.declared.tcp_binding.InProgress.TheVariants.{Nothing}
use Rattle.tcp_records.specs.declared.socket.TcpRecord.{TcpRecord}
use Rattle.tcp_records.specs.Releasing.{give_streams_up, gone, close_record, release_connection}
use Rattle.tcp_records.specs.Listening.{side_in, give_up_asks, unclosed, with_listening}
use Rattle.record_common.specs.Sides.{Weight, Tally, no_socket, tally, closed_by}
use Rattle.tcp_records.specs.Sides.{holds, Balances}
use Rattle.record_common.proofs.SideCounts.{Calm, Any, same_tally}
use Rattle.tcp_records.proofs.SideCounts.{balances_walk, balances_none}
use Rattle.record_common.proofs.ConnectCounts.{Counted, counted_then, counted_left}
use Rattle.tcp_records.proofs.ConnectCounts.{balances_as}
use Rattle.tcp_records.proofs.Looks.{calm_give_up}

-- so much is closed at the end
abbrev Closed : {A : Type 0} → ℕ → ℕ → A → Type 0
Closed m n a = n ≡ m

-- == the connection
module _ (w : Weight) where
  -- a calm tree is counted as it was
  counted_calm : {A : Type 0} (n : ℕ) (asks : Asks A) → Calm Any asks → Counted w (λ m a. m ≡ n) n asks
  counted_calm n (Give a) h = refl
  counted_calm n (Ask op call next) h =
      let z : tally (closed_by call) w ≡ 0 = ap (λ o. tally o w) h.0.1 in
      let e : n ≡ n + tally (closed_by call) w = omega arith in
      (h.0.0, λ t. subst (λ (m : ℕ). Counted w (λ k a. k ≡ n) m (next t)) e (counted_calm n (next t) (h.1 t)))
  counted_calm n (AskWrite op sock bytes next) h = λ t. counted_calm n (next t) (h t)

  -- a network socket that was there is closed once
  count_close : (op : OpId) (socket : Socket) (o : Option OpId) → side_of socket ≡ o → Counted w (λ n done. n + tally (side_of done.1) w ≡ tally (side_of socket) w) 0 (close_in op socket o)
  unfolding bind
  count_close op socket None e = omega arith
  count_close op socket (Some side) e = ((λ t. refl), λ t. rw e (omega arith))

  abbrev Releases : TcpRecord → ℕ → Unit {0} × TcpRecord → Type 0
  Releases r n done = n + holds done.1 w ≡ tally (side_of r.inner) w

  count_record : (op : OpId) (r : TcpRecord) → Counted w (Releases r) 0 (close_record op r)
  count_record op r = counted_then w (λ n done. n + tally (side_of done.1) w ≡ tally (side_of r.inner) w) (Releases r) 0 (close_asks op r.inner) _ (count_close op r.inner (side_of r.inner) refl) (λ n done k. omega arith)

  count_connection : (op : OpId) (r : TcpRecord) → Counted w (Releases r) 0 (release_connection op r)
  count_connection op r =
      counted_then w (λ n done. n ≡ 0) (Releases r) 0 (give_streams_up op r.streams) _ (counted_calm 0 (give_streams_up op r.streams) (calm_give_up op r.streams)) (λ n done k. subst (λ (m : ℕ). Counted w (Releases r) m (close_record op r)) (sym k) (count_record op r))

-- it is closed, unless memory ran out before
pub connection_closes : (op : OpId) (r now : TcpRecord) {s t u : Seen} (result : Result (Unit {0}) AllocError) → r.listening ≡ Not → Reaches (give_streams_up op r.streams) (Give tt) s t
    → AsksFor (release_connection op r) s u (λ done. (done, now)) result → OnErr result (now ≡ record r { streams = None }) → OnErr result (u ≡ t) → Balances s u no_socket r now
connection_closes op r now (Ok done) l g h e q = record {
  entries = h.ok.entries;
  passed = h.ok.passed;
  balance = λ w. (let walk = counted_left w (Releases w r) 0 (release_connection op r) h.ok.entries (Give (done, now)) (count_connection w op r) h.ok.left in
      let balance = walk.left in
      let made = walk.made in
      let not = ap (λ (l : Listening). tally (side_in l) w) l in omega arith);
}
connection_closes op r now (Err d) l g h e q = rw (e, q) (balances_walk (calm_give_up op r.streams) g refl)

-- one that doesn't listen is gone with its socket, its operation and its streams
pub gone_as : (r : TcpRecord) (socket : Socket) → r.listening ≡ Not → ◌≡◌ {A = Asks (Unit {0} × TcpRecord)} (Give (tt, gone r socket)) (Give (tt, record r { inner = socket; in_progress = Nothing; streams = None }))
gone_as r socket l = ap (λ (l : Listening). let n : TcpRecord = record r { inner = socket; in_progress = Nothing; listening = l; streams = None } in let done : Asks (Unit {0} × TcpRecord) = Give (tt, n) in done) (sym l)

-- == what it listens by
module _ (w : Weight) where
  count_side_closed : (op side : OpId) → Counted w (Closed (w side)) 0 (ask_close op side)
  unfolding bind
  count_side_closed op side = ((λ t. refl), λ t. omega arith)

  count_cancel : (op : Operation) → Counted w (Closed (tally (held_side op) w)) 0 (cancel_asks op)
  count_cancel op = by (is_over op)
    where
      by : (over : Bool) → Counted w (Closed (tally (if over then None else Some op.who.side) w)) 0 (if over then Give tt else ask_close op.who.id op.who.side)
      by true = refl
      by false = count_side_closed op.who.id op.who.side

  count_refuse : (who : Who) (o : Option IpSocketAddress) → Counted w (Closed 0) 0 (refuse_in who o)
  unfolding bind
  count_refuse who (Some peer) = ((λ t. refl), λ t. refl)
  count_refuse who None = refl

  count_untaken : (a : Accepting) → Counted w (Closed (tally (untaken_side a) w)) 0 (give_up_in a)
  count_untaken accepting.Idle = refl
  count_untaken (accepting.Asking op) = count_refuse op.who (in_hand op.left)
  count_untaken (accepting.Arrived new peer) = count_side_closed new new
  count_untaken (accepting.Failed c) = refl

  -- the network socket that it held is closed, and no other
  count_given_up : (l : Listening) → Counted w (Closed (tally (side_in l) w)) 0 (give_up_asks l)
  count_given_up Not = refl
  count_given_up (Begins op) = count_cancel op
  count_given_up (Accepts l) = count_untaken l.accept
  count_given_up (Unclosed side) = count_side_closed side side

pub given_up_closes : (r : TcpRecord) {s t : Seen} → Reaches (give_up_asks r.listening) (Give tt) s t → Balances s t no_socket r (with_listening r Not)
given_up_closes r h = record {
  entries = h.entries;
  passed = h.passed;
  balance = λ w. (let walk = counted_left w (Closed (tally (side_in r.listening) w)) 0 (give_up_asks r.listening) h.entries (Give tt) (count_given_up w r.listening) h.left in
      let closed = walk.left in
      let made = walk.made in omega arith);
}

-- out of memory it is held still
unclosed_side : (o : Option OpId) → side_in (unclosed o) ≡ o
unclosed_side None = refl
unclosed_side (Some side) = refl

pub unclosed_holds : (r : TcpRecord) (s : Seen) → Balances s s no_socket r (with_listening r (unclosed (side_in r.listening)))
unclosed_holds r s = balances_as (with_listening r (unclosed (side_in r.listening))) (ap {B = Tally} (λ (o : Option OpId) w. tally (side_of r.inner) w + tally o w) (unclosed_side (side_in r.listening))) (balances_none r s)

-- a socket that is closed and doesn't listen holds none
pub none_held : (side : Option OpId) (listening : Listening) → side ≡ None → listening ≡ Not → ◌≡◌ {A = Tally} (λ w. tally side w + tally (side_in listening) w) no_socket
none_held side listening gone not = same_tally (λ w. (let inner : tally side w ≡ 0 = ap (λ o. tally o w) gone in let listens : tally (side_in listening) w ≡ 0 = ap (λ l. tally (side_in l) w) not in omega arith))
