-- A network that has a datagram or a connection each time, and a host that allows none: the bounds are reached.
use Rattle.std.specs.Prelude.{◌≡◌, ℕ, zero, suc, ◌+◌, List, [], ◌∷◌, Option}
use Rattle.std.proofs.Common.{arith, refl}
use Rattle.wasi_addr.specs.declared.address.IpSocketAddress.{IpSocketAddress}
use Rattle.wasi_addr.specs.declared.address.SocketAddressFamily.TheVariants as family
use Rattle.wasi_addr.specs.declared.address.SocketAddrUse.TheVariants.{UdpReceive, TcpAccept}
use Rattle.wasi_addr.specs.Address.{wildcard}
use Rattle.wasi_world.specs.declared.call.Call.{Call}
use Rattle.wasi_world.specs.declared.call.Call.TheVariants as call
use Rattle.wasi_world.specs.declared.call.Told.{Told}
use Rattle.wasi_world.specs.declared.call.Told.TheVariants as told
use Rattle.wasi_world.specs.declared.call.Entry.{Entry}
use Rattle.wasi_world.specs.Asks.{Give, Left, bind}
use Rattle.wasi_world.specs.Operation.{Item, Accept, CheckArrival, Refuse, Receive, CheckPeer, Waits, Who, Operation, polls}
use Rattle.wasi_tcp.specs.Accept.{IsAccept, IsLeftOfAccept, Unarrived, Arrived, Unwanted}
use Rattle.wasi_udp.specs.Receive.{IsReceive, IsLeftOfReceive, Unreceived, Received}
use Rattle.wasi_walks.specs.Licence.{entry}
use Rattle.wasi_laws.specs.Bounds.{number_of, receives, checks_sender, drops, IsReceiving, MayDrop, arrives, refuses, IsRefusing, MayRefuse}

-- some address
abbrev somewhere : IpSocketAddress
somewhere = wildcard family.Ipv4

module _ (who : Who) where
  -- == datagrams
  abbrev no_sender : IpSocketAddress → Entry
  no_sender peer = entry who.id (call.Check who.context peer UdpReceive) told.No

  -- in each round one is received, and its sender isn't allowed
  abbrev all_dropped : ℕ → List Entry
  all_dropped zero = []
  all_dropped (suc n) = entry who.id (call.Recv who.side) (told.Datagram [] somewhere) ∷ no_sender somewhere ∷ all_dropped n

  dropped_left : (wanted : Option IpSocketAddress) (n : ℕ) → Left (polls n who (Receive wanted ∷ [])) (all_dropped n) (Give (Waits, Receive wanted ∷ []))
  unfolding polls bind
  dropped_left wanted zero = refl
  dropped_left wanted (suc n) = ((refl, refl, tt), ((refl, refl, tt), dropped_left wanted n))

  held_left : (wanted : Option IpSocketAddress) (bytes : List ℕ) (peer : IpSocketAddress) (n : ℕ) → Left (polls (suc n) who (CheckPeer wanted bytes peer ∷ [])) (no_sender peer ∷ all_dropped n) (Give (Waits, Receive wanted ∷ []))
  unfolding polls bind
  held_left wanted bytes peer n = ((refl, refl, tt), dropped_left wanted n)

  -- of what is so once a round, so many
  dropped_number : (each : Call → Told → ℕ) → each (call.Recv who.side) (told.Datagram [] somewhere) + each (call.Check who.context somewhere UdpReceive) told.No ≡ 1 → (n : ℕ) → number_of each (all_dropped n) ≡ n
  dropped_number each once zero = refl
  dropped_number each once (suc n) = let rest = dropped_number each once n in omega (arith, once, rest)

  may_drop : (left : List Item) → IsLeftOfReceive left → IsReceiving left → MayDrop 64 (record { who = who; left = left })
  may_drop _ (Unreceived wanted) i =
      record { entries = all_dropped 64; left = dropped_left wanted 64; received = dropped_number receives refl 64; checked = dropped_number checks_sender refl 64; dropped = dropped_number (drops wanted) refl 64 }
  may_drop _ (Received wanted bytes peer) i =
      let received = dropped_number receives refl 63 in
      let checked = dropped_number checks_sender refl 63 in
      let dropped = dropped_number (drops wanted) refl 63 in
      record { entries = no_sender peer ∷ all_dropped 63; left = held_left wanted bytes peer 63; received = omega (arith, received); checked = omega (arith, checked); dropped = omega (arith, dropped) }
  may_drop _ _ i = absurd i

  -- == connections
  abbrev no_arrival : IpSocketAddress → Entry
  no_arrival peer = entry who.id (call.Check who.context peer TcpAccept) told.No

  abbrev refusal : IpSocketAddress → Entry
  refusal peer = entry who.id (call.Refuse who.side peer) told.Done

  -- in each round one arrives, isn't allowed, and is refused
  abbrev all_refused : ℕ → List Entry
  all_refused zero = []
  all_refused (suc n) = entry who.id (call.Accept who.side) (told.Arrived somewhere) ∷ no_arrival somewhere ∷ refusal somewhere ∷ all_refused n

  refused_left : (n : ℕ) → Left (polls n who (Accept ∷ [])) (all_refused n) (Give (Waits, Accept ∷ []))
  unfolding polls bind
  refused_left zero = refl
  refused_left (suc n) = ((refl, refl, tt), ((refl, refl, tt), ((refl, refl, tt), refused_left n)))

  arrived_left : (peer : IpSocketAddress) (n : ℕ) → Left (polls (suc n) who (CheckArrival peer ∷ [])) (no_arrival peer ∷ refusal peer ∷ all_refused n) (Give (Waits, Accept ∷ []))
  unfolding polls bind
  arrived_left peer n = ((refl, refl, tt), ((refl, refl, tt), refused_left n))

  unwanted_left : (peer : IpSocketAddress) (n : ℕ) → Left (polls (suc n) who (Refuse peer ∷ [])) (refusal peer ∷ all_refused n) (Give (Waits, Accept ∷ []))
  unfolding polls bind
  unwanted_left peer n = ((refl, refl, tt), refused_left n)

  refused_number : (each : Call → Told → ℕ) → each (call.Accept who.side) (told.Arrived somewhere) + (each (call.Check who.context somewhere TcpAccept) told.No + each (call.Refuse who.side somewhere) told.Done) ≡ 1 → (n : ℕ) → number_of each (all_refused n) ≡ n
  refused_number each once zero = refl
  refused_number each once (suc n) = let rest = refused_number each once n in omega (arith, once, rest)

  may_refuse : (left : List Item) → IsLeftOfAccept left → IsRefusing left → MayRefuse 64 (record { who = who; left = left })
  may_refuse _ Unarrived i = record { entries = all_refused 64; left = refused_left 64; arrived = refused_number arrives refl 64; refused = refused_number refuses refl 64 }
  may_refuse _ (Arrived peer) i =
      let arrived = refused_number arrives refl 63 in
      let refused = refused_number refuses refl 63 in
      record { entries = no_arrival peer ∷ refusal peer ∷ all_refused 63; left = arrived_left peer 63; arrived = omega (arith, arrived); refused = omega (arith, refused) }
  may_refuse _ (Unwanted peer) i =
      let arrived = refused_number arrives refl 63 in
      let refused = refused_number refuses refl 63 in
      record { entries = refusal peer ∷ all_refused 63; left = unwanted_left peer 63; arrived = omega (arith, arrived); refused = omega (arith, refused) }
  may_refuse _ _ i = absurd i

pub drops_reached : (op : Operation) → IsReceive op → IsReceiving op.left → MayDrop 64 op
drops_reached op is i = may_drop op.who op.left is.left i

pub refusals_reached : (op : Operation) → IsAccept op → IsRefusing op.left → MayRefuse 64 op
refusals_reached op is i = may_refuse op.who op.left is.left i
