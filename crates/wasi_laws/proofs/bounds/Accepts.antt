-- One poll of an accept: in each round one connection arrives at most, and one is refused.
use Rattle.std.specs.Prelude.{ℕ, zero, suc, ◌+◌, ◌≤◌, ◌≡◌, List, [], ◌∷◌}
use Rattle.std.proofs.Common.{arith, refl}
use Rattle.wasi_addr.specs.declared.address.IpSocketAddress.{IpSocketAddress}
use Rattle.wasi_addr.specs.declared.address.SocketAddrUse.TheVariants.{TcpAccept}
use Rattle.wasi_world.specs.declared.ids.OpId.{OpId}
use Rattle.wasi_world.specs.declared.call.Call.{Call}
use Rattle.wasi_world.specs.declared.call.Call.TheVariants as call
use Rattle.wasi_world.specs.declared.call.Told.{Told}
use Rattle.wasi_world.specs.declared.call.Told.TheVariants as told
use Rattle.wasi_world.specs.declared.call.Entry.{Entry}
use Rattle.wasi_world.specs.declared.asks.Verdict.{Verdict}
use Rattle.wasi_world.specs.declared.asks.Verdict.TheVariants as verdict
use Rattle.wasi_world.specs.Asks.{Asks, bind, Left}
use Rattle.wasi_world.specs.Typed.{told_verdict, told_arrival}
use Rattle.wasi_world.specs.Operation.{Item, Accept, CheckArrival, Hand, Refuse, Nothing, End, Front, Who, NothingLast, Operation, polls, poll_asks, round, after, accept_front, arrival_front, admitted_front, hand_front, refuse_front}
use Rattle.wasi_tcp.specs.Accept.{IsAccept, IsLeftOfAccept, Unarrived, Arrived, Admitted, Unwanted, Ended}
use Rattle.wasi_laws.specs.Bounds.{number_of, one_arrival, arrives, refuses, arrivals_held, arrived_in, refused_in}
use Rattle.wasi_laws.proofs.bounds.Most.{Most, most_in, none_last}

-- What is counted is so once a round at most, at the accept and the refusal together; and `refusal` times at most at the refusal.
record Counts (refusal : ℕ) (each : Call → Told → ℕ) : Type 0 where
  accept : (sock : OpId) (t : Told) → each (call.Accept sock) t + refusal ≤ 1
  arrival : (ctx : ℕ) (peer : IpSocketAddress) (t : Told) → each (call.Check ctx peer TcpAccept) t ≡ 0
  hand : (sock : OpId) (peer : IpSocketAddress) (t : Told) → each (call.Hand sock peer) t ≡ 0
  refuse : (sock : OpId) (peer : IpSocketAddress) (t : Told) → each (call.Refuse sock peer) t ≤ refusal

module _ (refusal : ℕ) (each : Call → Told → ℕ) (counts : Counts refusal each) (who : Who) (last : who.last ≡ NothingLast) where
  -- what follows a front ask of an accept
  abbrev then_after : (List Item → Asks (End × List Item)) → Front → Asks (End × List Item)
  then_after again f = after again who [] (λ g. round again who g []) f

  module _ (again : List Item → Asks (End × List Item)) (n : ℕ) (most : Most each n (again (Accept ∷ []))) where
    hand_most : (m : ℕ) (peer : IpSocketAddress) → Most each m (bind (hand_front who peer) (then_after again))
    unfolding bind
    hand_most m peer = λ t. (0, let c = counts.hand who.side peer t in omega (arith, c), tt)

    refuse_most : (peer : IpSocketAddress) → Most each (refusal + n) (bind (refuse_front who peer) (then_after again))
    unfolding bind
    refuse_most peer = λ t. (n, let c = counts.refuse who.side peer t in omega (arith, c), most)

    by_verdict : (peer : IpSocketAddress) (v : Verdict) → Most each (refusal + n) (bind (admitted_front who peer v) (then_after again))
    unfolding bind
    by_verdict peer verdict.Yes = hand_most (refusal + n) peer
    by_verdict peer verdict.No = refuse_most peer
    by_verdict peer verdict.Pending = tt

    arrival_most : (peer : IpSocketAddress) → Most each (refusal + n) (bind (arrival_front who peer) (then_after again))
    unfolding bind
    arrival_most peer = λ t. (refusal + n, let c = counts.arrival who.context peer t in omega (arith, c), by_verdict peer (told_verdict t))

    silent : (t : Told) → each (call.Accept who.side) t + 0 ≤ suc n
    silent t = let c = counts.accept who.side t in omega (arith, c)

    accept_most : (t : Told) → (m : ℕ) × (each (call.Accept who.side) t + m ≤ suc n) × Most each m (bind (accept_front who (told_arrival t)) (then_after again))
    unfolding bind
    accept_most (told.Arrived peer) = (refusal + n, let c = counts.accept who.side (told.Arrived peer) in omega (arith, c), arrival_most peer)
    accept_most (told.Code c) = (0, silent (told.Code c), none_last each who who.last c Nothing 0 last)
    accept_most t = (0, silent t, tt)

  rounds_most : (n : ℕ) → Most each n (polls n who (Accept ∷ []))
  unfolding polls bind
  rounds_most zero = tt
  rounds_most (suc n) = accept_most (polls n who) n (rounds_most n)

  arrived_most : (n : ℕ) (peer : IpSocketAddress) → Most each (refusal + n) (polls (suc n) who (CheckArrival peer ∷ []))
  unfolding polls bind
  arrived_most n peer = arrival_most (polls n who) n (rounds_most n) peer

  admitted_most : (n : ℕ) (peer : IpSocketAddress) → Most each (refusal + n) (polls (suc n) who (Hand peer ∷ []))
  unfolding polls bind
  admitted_most n peer = hand_most (polls n who) n (rounds_most n) (refusal + n) peer

  unwanted_most : (n : ℕ) (peer : IpSocketAddress) → Most each (refusal + n) (polls (suc n) who (Refuse peer ∷ []))
  unfolding polls bind
  unwanted_most n peer = refuse_most (polls n who) n (rounds_most n) peer

  -- what is over asks nothing
  none_left : Most each 64 (polls 64 who [])
  unfolding polls
  none_left = tt

-- a poll of 64 rounds, whatever is left of the accept
module _ (each : Call → Told → ℕ) (refusal : ℕ) (counts : Counts refusal each) where
  -- so many of the 64 may come: all, or without the one in hand, where only the arrival counts
  abbrev may_come : List Item → ℕ
  may_come (CheckArrival peer ∷ items) = refusal + 63
  may_come (Hand peer ∷ items) = refusal + 63
  may_come (Refuse peer ∷ items) = refusal + 63
  may_come _ = 64

  poll_most : (who : Who) (left : List Item) → who.last ≡ NothingLast → IsLeftOfAccept left → Most each (may_come left) (poll_asks (record { who = who; left = left }))
  poll_most who _ last Unarrived = rounds_most refusal each counts who last 64
  poll_most who _ last (Arrived peer) = arrived_most refusal each counts who last 63 peer
  poll_most who _ last (Admitted peer) = admitted_most refusal each counts who last 63 peer
  poll_most who _ last (Unwanted peer) = unwanted_most refusal each counts who last 63 peer
  poll_most who _ last Ended = none_left refusal each counts who last

  poll_in : (op : Operation) (entries : List Entry) (rest : Asks (End × List Item)) → IsAccept op → Left (poll_asks op) entries rest → number_of each entries ≤ may_come op.left
  poll_in op entries rest is l = most_in each (poll_asks op) rest entries (may_come op.left) (poll_most op.who op.left is.last is.left) l

-- == what arrives
arrived_counts : Counts 0 arrives
arrived_counts = record { accept = λ sock t. of_told t; arrival = λ ctx peer t. refl; hand = λ sock peer t. refl; refuse = λ sock peer t. omega arith }
  where
    of_told : (t : Told) → one_arrival t + 0 ≤ 1
    of_told (told.Arrived peer) = omega arith
    of_told _ = omega arith

with_held : (left : List Item) (n : ℕ) → IsLeftOfAccept left → n ≤ may_come arrives 0 arrived_counts left → arrivals_held left + n ≤ 64
with_held _ n Unarrived h = omega (arith, h)
with_held _ n (Arrived peer) h = omega (arith, h)
with_held _ n (Admitted peer) h = omega (arith, h)
with_held _ n (Unwanted peer) h = omega (arith, h)
with_held _ n Ended h = omega (arith, h)

pub all_arrived : (op : Operation) (entries : List Entry) (rest : Asks (End × List Item)) → IsAccept op → Left (poll_asks op) entries rest → arrivals_held op.left + arrived_in entries ≤ 64
all_arrived op entries rest is l = with_held op.left (arrived_in entries) is.left (poll_in arrives 0 arrived_counts op entries rest is l)

-- == what is refused
refused_counts : Counts 1 refuses
refused_counts = record { accept = λ sock t. omega arith; arrival = λ ctx peer t. refl; hand = λ sock peer t. refl; refuse = λ sock peer t. omega arith }

at_refusal : (left : List Item) (n : ℕ) → IsLeftOfAccept left → n ≤ may_come refuses 1 refused_counts left → n ≤ 64
at_refusal _ n Unarrived h = h
at_refusal _ n (Arrived peer) h = h
at_refusal _ n (Admitted peer) h = h
at_refusal _ n (Unwanted peer) h = h
at_refusal _ n Ended h = h

pub all_refused : (op : Operation) (entries : List Entry) (rest : Asks (End × List Item)) → IsAccept op → Left (poll_asks op) entries rest → refused_in entries ≤ 64
all_refused op entries rest is l = at_refusal op.left (refused_in entries) is.left (poll_in refuses 1 refused_counts op entries rest is l)
