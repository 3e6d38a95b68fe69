-- A stream that keeps a remote address holds only what came from there: so it stays where a receive is polled.
use Rattle.wasi_walks.proofs.Words.{Allows, Bool, Done, End, Entry, ErrorCode, Given, IpSocketAddress, Item, LastAsk, List, Nothing, NothingLast, Operation, Option, Some, None, Told, [], allows_polls, bind, false, front, if◌then◌else◌, last_ask, poll_asks, refl, subst, sym, told_verdict, true, ℕ, ⊤, ◌∷◌, ◌≡◌}
use Rattle.wasi_world.specs.Operation.{Again, CheckPeer, Datagram, Front, Goes, Last, Receive, check_peer_front, is_wanted, receive_front, received_front}
use Rattle.wasi_world.specs.Typed.{told_datagram}
use Rattle.wasi_udp.specs.Receive.{Ended, IsLeftOfReceive, IsReceive, Received, ToRefuse, Unreceived, wanted_in, wanting}
use Rattle.udp_records.specs.Receiving.{receive_left}
use Rattle.udp_records.specs.declared.datagrams.Incoming.{Incoming as IncomingStream}
use Rattle.udp_records.specs.declared.datagrams.Receiving.{Receiving}
use Rattle.wasi_walks.proofs.Words.{FrontKeeps}
use Rattle.wasi_walks.proofs.fits.Polls.{Anything}

-- what has come is from the address, where there is one
abbrev pub ReceivingWanted : Option IpSocketAddress → Receiving → Type 0
ReceivingWanted only (Receiving.Came d) = is_wanted only d.remote_address ≡ true
ReceivingWanted only _ = ⊤

abbrev pub IncomingWanted : Option IncomingStream → Type 0
IncomingWanted (Some inc) = ReceivingWanted inc.remote inc.receiving
IncomingWanted None = ⊤

-- == a receive is polled
-- what may be left of one that wants this address
pub data IsLeft (only : Option IpSocketAddress) : List Item → Type 0 where
  LeftToRefuse : (c : ErrorCode) → IsLeft only (Last c Nothing ∷ [])
  LeftToReceive : IsLeft only (Receive only ∷ [])
  LeftToCheck : (bytes : List ℕ) (peer : IpSocketAddress) → IsLeft only (CheckPeer only bytes peer ∷ [])
  LeftOver : IsLeft only []

pub is_left : (only : Option IpSocketAddress) (items : List Item) → IsLeftOfReceive items → IsLeft only (wanted_in only items)
is_left only _ (ToRefuse c) = LeftToRefuse c
is_left only _ (Unreceived any) = LeftToReceive
is_left only _ (Received any bytes peer) = LeftToCheck bytes peer
is_left only _ Ended = LeftOver

-- what it gave is from there
abbrev GivenWanted : Option IpSocketAddress → Given → Type 0
GivenWanted only (Datagram bytes a) = is_wanted only a ≡ true
GivenWanted only _ = ⊤

module _ (op : Operation) (only : Option IpSocketAddress) (quiet : op.who.last ≡ NothingLast) where
  abbrev Before : List Entry → Given → List Item → Type 0
  Before es given items = IsLeft only items × GivenWanted only given

  abbrev After : List Entry → End × List Item → Type 0
  After es ended = ReceivingWanted only (receive_left op ended)

  abbrev Keeps : List Item → List Entry → Front → Type 0
  Keeps items es f = FrontKeeps Anything op.who Before After items es f

  -- a code ends it
  ends : (es : List Entry) (c : ErrorCode) (given : Given) → Allows Anything After es (last_ask op.who op.who.last c given)
  ends es c given = subst (λ (l : LastAsk). Allows Anything After es (last_ask op.who l c given)) (sym quiet) tt

  -- the sender's check was answered
  checked : (es : List Entry) (bytes : List ℕ) (a : IpSocketAddress) (t : Told) → Keeps [] es (received_front only bytes a (told_verdict t))
  checked es bytes a Told.Yes = by_test (is_wanted only a) refl
    where
      by_test : (b : Bool) → is_wanted only a ≡ b → Keeps [] es (if b then Goes (Datagram bytes a) else Again (Receive only))
      by_test true e = (LeftOver, e)
      by_test false e = (LeftToReceive, tt)
  checked es bytes a Told.No = (LeftToReceive, tt)
  checked es bytes a _ = (LeftToCheck bytes a, tt)

  checks : (es : List Entry) (bytes : List ℕ) (a : IpSocketAddress) → Allows Anything (λ fs f. Keeps [] fs f) es (check_peer_front op.who only bytes a)
  unfolding bind
  checks es bytes a = (tt, λ t fits. checked _ bytes a t)

  -- the receive was
  received : (es : List Entry) (t : Told) → Allows Anything (λ fs f. Keeps [] fs f) es (receive_front op.who only (told_datagram t))
  received es (Told.Datagram bytes a) = checks es bytes a
  received es (Told.Code c) = ends es c Nothing
  received es _ = (LeftToReceive, tt)

  fronts : (es : List Entry) (given : Given) (item : Item) (items : List Item) → IsLeft only (item ∷ items) → Allows Anything (λ fs f. Keeps items fs f) es (front op.who item)
  unfolding bind
  fronts es given _ _ (LeftToRefuse c) = ends es c Nothing
  fronts es given _ _ LeftToReceive = (tt, λ t fits. received _ t)
  fronts es given _ _ (LeftToCheck bytes peer) = checks es bytes peer

  over : (given : Given) → GivenWanted only given → ReceivingWanted only (receive_left op (Done given, []))
  over (Datagram bytes a) k = k
  over _ k = tt

-- a poll of a receive gives only a datagram from the address
pub poll_wanted : (op : Operation) (only : Option IpSocketAddress) (es : List Entry) → IsReceive op → Allows Anything (λ fs ended. ReceivingWanted only (receive_left op ended)) es (poll_asks (wanting only op))
poll_wanted op only es its =
    allows_polls Anything op.who (Before op only its.last) (After op only its.last) (λ fs given item items h. fronts op only its.last fs given item items h.0) (λ fs items h. tt) (λ fs given h. over op only its.last given h.1) 64 (wanted_in only op.left) es (is_left only op.left its.left, tt)
