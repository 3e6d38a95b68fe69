-- One poll of a receive: each round receives one datagram at most, and checks one sender.
use Rattle.std.specs.Prelude.{ℕ, zero, suc, ◌+◌, ◌≤◌, ◌≡◌, Bool, true, false, if◌then◌else◌, List, [], ◌∷◌, Option, None}
use Rattle.std.proofs.Common.{arith}
use Rattle.wasi_addr.specs.declared.address.IpSocketAddress.{IpSocketAddress}
use Rattle.wasi_addr.specs.declared.address.SocketAddrUse.TheVariants.{UdpReceive}
use Rattle.wasi_addr.specs.declared.code.ErrorCode.{ErrorCode}
use Rattle.wasi_world.specs.declared.ids.OpId.{OpId}
use Rattle.wasi_world.specs.declared.call.Call.{Call}
use Rattle.wasi_world.specs.declared.call.Call.TheVariants as call
use Rattle.wasi_world.specs.declared.call.Told.{Told}
use Rattle.wasi_world.specs.declared.call.Told.TheVariants as told
use Rattle.wasi_world.specs.declared.call.Entry.{Entry}
use Rattle.wasi_world.specs.declared.asks.Verdict.{Verdict}
use Rattle.wasi_world.specs.declared.asks.Verdict.TheVariants as verdict
use Rattle.wasi_world.specs.Asks.{Asks, bind, Left}
use Rattle.wasi_world.specs.Typed.{told_verdict, told_datagram}
use Rattle.wasi_world.specs.Operation.{Item, Last, Receive, CheckPeer, Nothing, Datagram, End, Front, Goes, Again, Who, NothingLast, Operation, polls, poll_asks, round, after, is_wanted, receive_front, check_peer_front, received_front}
use Rattle.wasi_udp.specs.Receive.{IsReceive, IsLeftOfReceive, ToRefuse, Unreceived, Received, Ended}
use Rattle.wasi_laws.specs.Bounds.{number_of, one_datagram, receives, checks_sender, drops, dropped_of, datagrams_held, received_in, senders_checked_in, wanted_sender, dropped_in}
use Rattle.wasi_laws.proofs.bounds.Most.{Most, most_in, none_last}

-- What is counted is so once a round at most, at the receive and the check together; and `check` times at most at the check.
record Counts (check : ℕ) (each : Call → Told → ℕ) : Type 0 where
  receive : (sock : OpId) (t : Told) → each (call.Recv sock) t + check ≤ 1
  sender : (ctx : ℕ) (peer : IpSocketAddress) (t : Told) → each (call.Check ctx peer UdpReceive) t ≤ check

module _ (wanted : Option IpSocketAddress) (check : ℕ) (each : Call → Told → ℕ) (counts : Counts check each) (who : Who) (last : who.last ≡ NothingLast) where
  -- what follows a front ask of a receive
  abbrev then_after : (List Item → Asks (End × List Item)) → Front → Asks (End × List Item)
  then_after again f = after again who [] (λ g. round again who g []) f

  module _ (again : List Item → Asks (End × List Item)) (n : ℕ) (most : Most each n (again (Receive wanted ∷ []))) where
    by_wanted : (bytes : List ℕ) (a : IpSocketAddress) (w : Bool) → Most each n (then_after again (if w then Goes (Datagram bytes a) else Again (Receive wanted)))
    by_wanted bytes a true = tt
    by_wanted bytes a false = most

    by_verdict : (bytes : List ℕ) (a : IpSocketAddress) (v : Verdict) → Most each n (then_after again (received_front wanted bytes a v))
    by_verdict bytes a verdict.Yes = by_wanted bytes a (is_wanted wanted a)
    by_verdict bytes a verdict.No = most
    by_verdict bytes a verdict.Pending = tt

    check_most : (bytes : List ℕ) (a : IpSocketAddress) → Most each (check + n) (bind (check_peer_front who wanted bytes a) (then_after again))
    unfolding bind
    check_most bytes a = λ t. (n, let c = counts.sender who.context a t in omega (arith, c), by_verdict bytes a (told_verdict t))

    silent : (t : Told) → each (call.Recv who.side) t + 0 ≤ suc n
    silent t = let c = counts.receive who.side t in omega (arith, c)

    receive_most : (t : Told) → (m : ℕ) × (each (call.Recv who.side) t + m ≤ suc n) × Most each m (bind (receive_front who wanted (told_datagram t)) (then_after again))
    unfolding bind
    receive_most (told.Datagram bytes a) = (check + n, let c = counts.receive who.side (told.Datagram bytes a) in omega (arith, c), check_most bytes a)
    receive_most (told.Code c) = (0, silent (told.Code c), none_last each who who.last c Nothing 0 last)
    receive_most t = (0, silent t, tt)

  rounds_most : (n : ℕ) → Most each n (polls n who (Receive wanted ∷ []))
  unfolding polls bind
  rounds_most zero = tt
  rounds_most (suc n) = receive_most (polls n who) n (rounds_most n)

  held_most : (n : ℕ) (bytes : List ℕ) (a : IpSocketAddress) → Most each (check + n) (polls (suc n) who (CheckPeer wanted bytes a ∷ []))
  unfolding polls bind
  held_most n bytes a = check_most (polls n who) n (rounds_most n) bytes a

  refuse_most : (m n : ℕ) (c : ErrorCode) → Most each m (polls (suc n) who (Last c Nothing ∷ []))
  unfolding polls bind
  refuse_most m n c = none_last each who who.last c Nothing m last

-- what is over asks nothing
none_left : (each : Call → Told → ℕ) (who : Who) → Most each 64 (polls 64 who [])
unfolding polls
none_left each who = tt

-- a poll of 64 rounds, whatever is left of the receive
module _ (each : Option IpSocketAddress → Call → Told → ℕ) (check : ℕ) (counts : (wanted : Option IpSocketAddress) → Counts check (each wanted)) where
  -- so many of the 64 may come: all, or without the one in hand, where only the receive counts
  abbrev may_come : List Item → ℕ
  may_come (CheckPeer wanted bytes peer ∷ items) = check + 63
  may_come _ = 64

  poll_most : (who : Who) (left : List Item) → who.last ≡ NothingLast → IsLeftOfReceive left → Most (each (wanted_sender left)) (may_come left) (poll_asks (record { who = who; left = left }))
  poll_most who _ last (ToRefuse c) = refuse_most None check (each None) (counts None) who last 64 63 c
  poll_most who _ last (Unreceived wanted) = rounds_most wanted check (each wanted) (counts wanted) who last 64
  poll_most who _ last (Received wanted bytes peer) = held_most wanted check (each wanted) (counts wanted) who last 63 bytes peer
  poll_most who _ last Ended = none_left (each None) who

  poll_in : (op : Operation) (entries : List Entry) (rest : Asks (End × List Item)) → IsReceive op → Left (poll_asks op) entries rest → number_of (each (wanted_sender op.left)) entries ≤ may_come op.left
  poll_in op entries rest is l = most_in (each (wanted_sender op.left)) (poll_asks op) rest entries (may_come op.left) (poll_most op.who op.left is.last is.left) l

-- == what is received
received_counts : (wanted : Option IpSocketAddress) → Counts 0 receives
received_counts wanted = record { receive = λ sock t. of_told t; sender = λ ctx peer t. omega arith }
  where
    of_told : (t : Told) → one_datagram t + 0 ≤ 1
    of_told (told.Datagram bytes a) = omega arith
    of_told _ = omega arith

with_held : (left : List Item) (n : ℕ) → IsLeftOfReceive left → n ≤ may_come (λ (w : Option IpSocketAddress). receives) 0 received_counts left → datagrams_held left + n ≤ 64
with_held _ n (ToRefuse c) h = omega (arith, h)
with_held _ n (Unreceived wanted) h = omega (arith, h)
with_held _ n (Received wanted bytes peer) h = omega (arith, h)
with_held _ n Ended h = omega (arith, h)

pub received_most : (op : Operation) (entries : List Entry) (rest : Asks (End × List Item)) → IsReceive op → Left (poll_asks op) entries rest → datagrams_held op.left + received_in entries ≤ 64
received_most op entries rest is l = with_held op.left (received_in entries) is.left (poll_in (λ (w : Option IpSocketAddress). receives) 0 received_counts op entries rest is l)

-- == whose sender is checked
-- what counts at the check alone
at_check : (each : Option IpSocketAddress → Call → Told → ℕ) (counts : (wanted : Option IpSocketAddress) → Counts 1 (each wanted)) (left : List Item) (n : ℕ) → IsLeftOfReceive left → n ≤ may_come each 1 counts left → n ≤ 64
at_check each counts _ n (ToRefuse c) h = h
at_check each counts _ n (Unreceived wanted) h = h
at_check each counts _ n (Received wanted bytes peer) h = h
at_check each counts _ n Ended h = h

checked_counts : (wanted : Option IpSocketAddress) → Counts 1 checks_sender
checked_counts wanted = record { receive = λ sock t. omega arith; sender = λ ctx peer t. omega arith }

pub checked_most : (op : Operation) (entries : List Entry) (rest : Asks (End × List Item)) → IsReceive op → Left (poll_asks op) entries rest → senders_checked_in entries ≤ 64
checked_most op entries rest is l = at_check (λ (w : Option IpSocketAddress). checks_sender) checked_counts op.left (senders_checked_in entries) is.left (poll_in (λ (w : Option IpSocketAddress). checks_sender) 1 checked_counts op entries rest is l)

-- == what is dropped
dropped_counts : (wanted : Option IpSocketAddress) → Counts 1 (drops wanted)
dropped_counts wanted = record { receive = λ sock t. omega arith; sender = λ ctx peer t. of_told peer t }
  where
    by_wanted : (w : Bool) → (if w then 0 else 1) ≤ 1
    by_wanted true = omega arith
    by_wanted false = omega arith

    of_told : (peer : IpSocketAddress) (t : Told) → dropped_of wanted peer t ≤ 1
    of_told peer told.Yes = by_wanted (is_wanted wanted peer)
    of_told peer told.No = omega arith
    of_told peer _ = omega arith

pub dropped_most : (op : Operation) (entries : List Entry) (rest : Asks (End × List Item)) → IsReceive op → Left (poll_asks op) entries rest → dropped_in (wanted_sender op.left) entries ≤ 64
dropped_most op entries rest is l = at_check drops dropped_counts op.left (dropped_in (wanted_sender op.left) entries) is.left (poll_in drops 1 dropped_counts op entries rest is l)
