-- A receive is polled: what its stream received is what it had, and the datagram that comes; none is left out, and none comes twice.
use Rattle.wasi_causes.proofs.Words.{Allows, Bool, Call, Done, End, Entry, ErrorCode, Front, FrontKeeps, Given, IfSome, IpSocketAddress, Item, LastAsk, List, None, Nothing, NothingLast, OpId, Operation, Option, Some, Told, Waits, [], allows_polls, ap, append-nil, bind, check_peer_front, entry, false, front, if◌then◌else◌, last_ask, poll_asks, receive_front, refl, subst, sym, told_datagram, told_verdict, true, ℕ, ◌++◌, ◌∷◌, ◌≡◌}
use Rattle.wasi_addr.specs.declared.address.SocketAddrUse.TheVariants.{UdpReceive}
use Rattle.wasi_world.specs.declared.asks.Verdict.{Verdict}
use Rattle.wasi_world.specs.declared.datagram.IncomingDatagram.{IncomingDatagram}
use Rattle.wasi_world.specs.Operation.{Again, CheckPeer, Datagram, Goes, Receive, is_wanted, received_front}
use Rattle.wasi_udp.specs.Receive.{Ended, IsLeftOfReceive, IsReceive, Received, ToRefuse, Unreceived, wanted_in, wanting}
use Rattle.udp_records.specs.Receiving.{is_receiving, receive_left}
use Rattle.udp_records.specs.declared.datagrams.Receiving.{Receiving}
use Rattle.wasi_walks.proofs.fits.Polls.{Anything}
use Rattle.wasi_walks.proofs.received.Wanted.{IsLeft, LeftOver, LeftToCheck, LeftToReceive, LeftToRefuse, is_left}
use Rattle.wasi_walks.specs.Allowed.{Has}
use Rattle.wasi_causes.specs.ReceivedList.{InHand, received_if, served_if, unless_answered}
use Rattle.wasi_causes.proofs.receiving.Along.{Along, along_more, along_quiet, checked, free, holding, told_none, told_one}

-- what is in hand where these items are left
abbrev pub hand_in : OpId → List Item → Option InHand
hand_in op (CheckPeer only bytes a ∷ items) = Some (holding op bytes a)
hand_in op _ = None

abbrev pub hand_of : Receiving → Option InHand
hand_of (Receiving.InProgress op) = hand_in op.who.id op.left
hand_of _ = None

-- the name of the receive in progress
abbrev pub receiver_of : Receiving → Option OpId
receiver_of (Receiving.InProgress op) = Some op.who.id
receiver_of _ = None

-- none is, while no receive is in progress
pub none_over : (r : Receiving) → is_receiving r ≡ false → hand_of r ≡ None
none_over Receiving.Nothing e = refl
none_over (Receiving.InProgress op) e = absurd (cc)
none_over (Receiving.Came d) e = refl
none_over (Receiving.Failed c) e = refl

-- with what waits
abbrev pub with_waiting : List IncomingDatagram → Receiving → List IncomingDatagram
with_waiting list (Receiving.Came d) = list ++ d ∷ []
with_waiting list _ = list

-- what the stream of the handle received is what was taken, and what waits; and in hand is what its receive has
abbrev pub Exact : ℕ → OpId → Option IpSocketAddress → List Entry → List IncomingDatagram → Receiving → Type 0
Exact handle side kept es list r = Along handle side kept es (with_waiting list r) (hand_of r) (receiver_of r)

module _ (handle : ℕ) (only : Option IpSocketAddress) (list : List IncomingDatagram) (op : Operation) (quiet : op.who.last ≡ NothingLast) where
  -- what is known of the stream
  abbrev SoBy : List Entry → List IncomingDatagram → Option InHand → Option OpId → Type 0
  SoBy es ds hand name = Along handle op.who.side only es ds hand name

  -- its operation received nothing yet
  abbrev So : List Entry → List IncomingDatagram → Option InHand → Type 0
  So es ds hand = SoBy es ds hand (Some op.who.id)

  -- which is over
  over : (es : List Entry) (ds : List IncomingDatagram) → So es ds None → SoBy es ds None None
  over es ds k = record { later = k.later; marked = k.marked; reported = k.reported; exactly = k.exactly; all = k.all; left = k.left; one = k.one; each = k.each; free = tt; mine = k.mine; new = tt }

  -- before each ask
  abbrev Holds : List Entry → Given → List Item → Type 0
  Holds es (Datagram bytes a) [] = Exact handle op.who.side only es list (receive_left op (Done (Datagram bytes a), []))
  Holds es given [] = So es list None
  Holds es given (item ∷ items) = So es list (hand_in op.who.id (item ∷ items))

  abbrev Before : List Entry → Given → List Item → Type 0
  Before es given items = IsLeft only items × Holds es given items

  -- after the poll
  abbrev After : List Entry → End × List Item → Type 0
  After es ended = Exact handle op.who.side only es list (receive_left op ended)

  abbrev Keeps : List Item → List Entry → Front → Type 0
  Keeps items es f = FrontKeeps Anything op.who Before After items es f

  -- a code ends it
  ends : (es : List Entry) (c : ErrorCode) (given : Given) → So es list None → Allows Anything After es (last_ask op.who op.who.last c given)
  ends es c given k = subst (λ (l : LastAsk). Allows Anything After es (last_ask op.who l c given)) (sym quiet) (over es list k)

  module _ (bytes : List ℕ) (a : IpSocketAddress) where
    abbrev d : IncomingDatagram
    d = record { bytes = bytes; remote_address = a }

    abbrev held : InHand
    held = holding op.who.id bytes a

    abbrev answered : Told → Entry
    answered t = entry op.who.id (Call.Check op.who.context a UdpReceive) t

    -- its operation goes on, where it doesn't receive it
    abbrev GoesOn : Option OpId → List OpId → Type 0
    GoesOn named ops = IfSome named (λ x. (Some op.who.id ≡ Some x) × (Has ops x → ⊥))

    same_ops : (named : Option OpId) (a b : List OpId) → a ≡ b → GoesOn named b → GoesOn named a
    same_ops named a b e k = subst (GoesOn named) (sym e) k

    -- what the answer about its sender does
    answers : (es : List Entry) (t : Told) → So es list (Some held) → (named : Option OpId) → GoesOn named (served_if only held (told_verdict t)) → SoBy (es ++ answered t ∷ []) (list ++ received_if only d (told_verdict t)) (unless_answered held (told_verdict t)) named
    answers es t k named goes =
        along_more handle op.who.side only es (answered t) list _ (Some held) _ (Some op.who.id) named k tt
        (ap (λ (v : Verdict). unless_answered held v) (checked op.who.side op.who.id bytes a op.who.context t))
        (ap (λ (v : Verdict). list ++ received_if only d v) (checked op.who.side op.who.id bytes a op.who.context t))
        (λ q. absurd (cc)) (same_ops named _ _ (ap (λ (v : Verdict). served_if only held v) (checked op.who.side op.who.id bytes a op.who.context t)) goes) tt

    -- a yes: it has come, or is dropped
    allowed : (es : List Entry) (b : Bool) → ((named : Option OpId) → GoesOn named (if b then op.who.id ∷ [] else []) → SoBy es (list ++ (if b then d ∷ [] else [])) None named) → Keeps [] es (if b then Goes (Datagram bytes a) else Again (Receive only))
    allowed es true k = (LeftOver, k None tt)
    allowed es false k = (LeftToReceive, subst (λ (ds : List IncomingDatagram). So es ds None) (append-nil list) (k (Some op.who.id) (refl, λ h. h)))

    by_answer : (es : List Entry) (t : Told) → So es list (Some held) → Keeps [] (es ++ answered t ∷ []) (received_front only bytes a (told_verdict t))
    by_answer es t k = by_verdict (es ++ answered t ∷ []) (told_verdict t) (answers es t k)
      where
        by_verdict : (fs : List Entry) (v : Verdict) → ((named : Option OpId) → GoesOn named (served_if only held v) → SoBy fs (list ++ received_if only d v) (unless_answered held v) named) → Keeps [] fs (received_front only bytes a v)
        by_verdict fs Verdict.Yes k = allowed fs (is_wanted only a) k
        by_verdict fs Verdict.No k = (LeftToReceive, subst (λ (ds : List IncomingDatagram). So fs ds None) (append-nil list) (k (Some op.who.id) (refl, λ h. h)))
        by_verdict fs Verdict.Pending k = (LeftToCheck bytes a, subst (λ (ds : List IncomingDatagram). So fs ds (Some held)) (append-nil list) (k (Some op.who.id) (refl, λ h. h)))

    checks : (es : List Entry) → So es list (Some held) → Allows Anything (λ fs f. Keeps [] fs f) es (check_peer_front op.who only bytes a)
    unfolding bind
    checks es k = (tt, λ t fits. by_answer es t k)

  -- the network socket was asked
  told : (es : List Entry) (t : Told) → So es list None → Allows Anything (λ fs f. Keeps [] fs f) (es ++ entry op.who.id (Call.Recv op.who.side) t ∷ []) (receive_front op.who only (told_datagram t))
  told es (Told.Datagram bytes a) k = checks bytes a _ (along_more handle op.who.side only es (entry op.who.id (Call.Recv op.who.side) (Told.Datagram bytes a)) list list None (Some (holding op.who.id bytes a)) (Some op.who.id) (Some op.who.id) k (free _) (told_one op.who.side op.who.id bytes a) (append-nil list) (λ q. (refl, refl)) (refl, λ h. h) tt)
  told es (Told.Code c) k = ends _ c Nothing (along_quiet handle op.who.side only es _ list None (Some op.who.id) (told_none op.who.side only None op.who.id (Told.Code c) tt) (λ q. (refl, refl)) tt k)
  told es t k = (LeftToReceive, along_quiet handle op.who.side only es _ list None (Some op.who.id) (told_none op.who.side only None op.who.id t tt) (λ q. (refl, refl)) tt k)

  fronts : (es : List Entry) (given : Given) (item : Item) (items : List Item) → IsLeft only (item ∷ items) → Holds es given (item ∷ items) → Allows Anything (λ fs f. Keeps items fs f) es (front op.who item)
  unfolding bind
  fronts es given _ _ (LeftToRefuse c) k = ends es c Nothing k
  fronts es given _ _ LeftToReceive k = (tt, λ t fits. told es t k)
  fronts es given _ _ (LeftToCheck bytes peer) k = checks bytes peer es k

  done : (es : List Entry) (given : Given) → Holds es given [] → After es (Done given, [])
  done es (Datagram bytes a) k = k
  done es _ k = over es list k

  waits : (es : List Entry) (items : List Item) → Holds es Nothing items → After es (Waits, items)
  waits es [] k = k
  waits es (item ∷ items) k = k

  -- what it holds where another address is wanted
  starts : (es : List Entry) (items : List Item) → IsLeftOfReceive items → So es list (hand_in op.who.id items) → Holds es Nothing (wanted_in only items)
  starts es _ (ToRefuse c) k = k
  starts es _ (Unreceived any) k = k
  starts es _ (Received any bytes peer) k = k
  starts es _ Ended k = k

-- one poll
pub poll_exact : (handle : ℕ) (only : Option IpSocketAddress) (list : List IncomingDatagram) (op : Operation) (es : List Entry) → IsReceive op → Along handle op.who.side only es list (hand_in op.who.id op.left) (Some op.who.id)
    → Allows Anything (λ fs ended. Exact handle op.who.side only fs list (receive_left op ended)) es (poll_asks (wanting only op))
poll_exact handle only list op es its k =
    allows_polls Anything op.who (Before handle only list op its.last) (After handle only list op its.last)
    (λ fs given item items h. fronts handle only list op its.last fs given item items h.0 h.1) (λ fs items h. waits handle only list op its.last fs items h.1) (λ fs given h. done handle only list op its.last fs given h.1) 64 (wanted_in only op.left) es
    (is_left only op.left its.left, starts handle only list op its.last es op.left its.left k)
