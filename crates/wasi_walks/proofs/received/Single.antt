-- A receive of 0.3: what it has in hand its own operation was told last, and so is what a poll of it gives, whose sender was allowed.
use Rattle.wasi_walks.proofs.Words.{Allows, Bool, Call, End, Entry, ErrorCode, Front, FrontKeeps, Given, Has, IpSocketAddress, IsMaker, Item}
use Rattle.wasi_walks.proofs.Words.{LastAsk, List, Nothing, NothingLast, OpId, Operation, Option, Refused, SocketAddressFamily, Told, Done, Waits, [], allows_polls, bind}
use Rattle.wasi_walks.proofs.Words.{entry, false, front, if◌then◌else◌, inl, inr, last_ask, poll_asks, refl, subst, sym, told_verdict, true, ⊤, ℕ, ◌++◌, ◌∷◌, ◌≡◌}
use Rattle.wasi_addr.specs.declared.address.SocketAddrUse.TheVariants.{UdpReceive}
use Rattle.wasi_world.specs.Operation.{Again, CheckPeer, Datagram, Goes, Receive, check_peer_front, is_wanted, receive_front, received_front}
use Rattle.wasi_world.specs.Typed.{told_datagram}
use Rattle.wasi_udp.specs.Receive.{Ended, IsLeftOfReceive, IsReceive, Received, ToRefuse, Unreceived, wanted_in, wanting}
use Rattle.wasi_walks.specs.Licence.{HasYes}
use Rattle.wasi_walks.proofs.Lists.{Cut, cut_more, entry_call, has_front, has_last, has_parts}
use Rattle.wasi_walks.proofs.fits.DatagramPolls.{wanted_left}
use Rattle.wasi_walks.proofs.licence.Frames.{maker_more}

-- none of these entries asks the network socket for a datagram by this operation
abbrev pub RecvsNone : OpId → OpId → List Entry → Type 0
RecvsNone op side fs = (told : Told) → Has fs (entry op (Call.Recv side) told) → ⊥

-- any call but such a one
abbrev NoRecv : Call → Type 0
NoRecv (Call.Recv x) = ⊥
NoRecv _ = ⊤

one_none : (op side at : OpId) (c : Call) (t : Told) → NoRecv c → RecvsNone op side (entry at c t ∷ [])
one_none op side at c t n told (inl e) = subst NoRecv (entry_call (entry at c t) (entry op (Call.Recv side) told) e) n
one_none op side at c t n told (inr h) = h

pub close_none : (op side at x : OpId) (t : Told) → RecvsNone op side (entry at (Call.Close x) t ∷ [])
close_none op side at x t = one_none op side at (Call.Close x) t tt

-- The operation's last `recv` on the network socket reported this datagram.
pub record LastTold (es : List Entry) (op side : OpId) (bytes : List ℕ) (peer : IpSocketAddress) : Type 0 where
  pub cut : Cut es (entry op (Call.Recv side) (Told.Datagram bytes peer))
  pub last : RecvsNone op side cut.back

pub told_more : (es fs : List Entry) (op side : OpId) (bytes : List ℕ) (peer : IpSocketAddress) → RecvsNone op side fs → LastTold es op side bytes peer → LastTold (es ++ fs) op side bytes peer
told_more es fs op side bytes peer n k = record {
  cut = record { front = k.cut.front; back = k.cut.back ++ fs; is = cut_more es fs k.cut.front k.cut.back _ k.cut.is };
  last = λ told h. elim (has_parts k.cut.back fs _ h) [ inl i ↦ k.last told i | inr i ↦ n told i ];
}

-- so it is of what a receive has in hand
abbrev pub InHand : List Entry → OpId → OpId → List Item → Type 0
InHand es op side (CheckPeer only bytes peer ∷ items) = LastTold es op side bytes peer
InHand es op side _ = ⊤

pub in_hand_more : (es fs : List Entry) (op side : OpId) (items : List Item) → RecvsNone op side fs → InHand es op side items → InHand (es ++ fs) op side items
in_hand_more es fs op side (CheckPeer only bytes peer ∷ items) n k = told_more es fs op side bytes peer n k
in_hand_more es fs op side _ n k = tt

-- It was told, and then there was a yes for its sender.
pub record IsAllowedOne (es : List Entry) (op side : OpId) (bytes : List ℕ) (peer : IpSocketAddress) : Type 0 where
  pub told : LastTold es op side bytes peer
  pub yes : HasYes es told.cut.back op side peer UdpReceive

pub allowed_one_more : (es fs : List Entry) (op side : OpId) (bytes : List ℕ) (peer : IpSocketAddress) → RecvsNone op side fs → IsAllowedOne es op side bytes peer → IsAllowedOne (es ++ fs) op side bytes peer
unfolding told_more
allowed_one_more es fs op side bytes peer n k = record {
  told = told_more es fs op side bytes peer n k.told;
  yes = record { ctx = k.yes.ctx; family = k.yes.family; maker = maker_more es fs k.yes.ctx k.yes.family side k.yes.maker; checked = has_front k.told.cut.back fs _ k.yes.checked };
}

-- of what a poll gives
abbrev pub GivenOne : List Entry → OpId → OpId → Given → Type 0
GivenOne es op side (Datagram bytes peer) = IsAllowedOne es op side bytes peer
GivenOne es op side _ = ⊤

-- what a poll leaves, or gives
abbrev pub PolledOne : List Entry → OpId → OpId → End × List Item → Type 0
PolledOne es op side (Waits, items) = InHand es op side items
PolledOne es op side (Done given, items) = GivenOne es op side given
PolledOne es op side (Refused c given, items) = ⊤

-- a `recv` is by this operation
abbrev pub RecvBy : OpId → List Entry → OpId → Call → Type 0
RecvBy op es o (Call.Recv side) = o ≡ op
RecvBy op es o _ = ⊤

module _ (op : Operation) (family : SocketAddressFamily) (quiet : op.who.last ≡ NothingLast) where
  abbrev Made : List Entry → Type 0
  Made es = IsMaker es op.who.context family op.who.side

  abbrev Its : List Entry → OpId → Call → Type 0
  Its es o c = RecvBy op.who.id es o c

  -- before each ask
  abbrev Before : List Entry → Given → List Item → Type 0
  Before es given items = Made es × IsLeftOfReceive items × InHand es op.who.id op.who.side items × GivenOne es op.who.id op.who.side given

  -- after the poll
  abbrev After : List Entry → End × List Item → Type 0
  After es ended = PolledOne es op.who.id op.who.side ended

  -- what comes of the front ask
  abbrev Keeps : List Item → List Entry → Front → Type 0
  Keeps items es f = FrontKeeps Its op.who Before After items es f

  made_on : (es : List Entry) (c : Call) (t : Told) → Made es → Made (es ++ entry op.who.id c t ∷ [])
  made_on es c t m = maker_more es _ op.who.context family op.who.side m

  -- a code ends it
  ends : (es : List Entry) (c : ErrorCode) (given : Given) → Allows Its After es (last_ask op.who op.who.last c given)
  ends es c given = subst (λ (l : LastAsk). Allows Its After es (last_ask op.who l c given)) (sym quiet) tt

  -- nothing is in hand
  waits_on : (es : List Entry) (only : Option IpSocketAddress) → Made es → Before es Nothing (Receive only ∷ [])
  waits_on es only m = (m, Unreceived only, tt, tt)

  module _ (wanted : Option IpSocketAddress) (bytes : List ℕ) (a : IpSocketAddress) where
    abbrev IsTold : List Entry → Type 0
    IsTold es = LastTold es op.who.id op.who.side bytes a

    -- the sender is allowed
    allowed : (es : List Entry) → Made es → IsTold es → IsAllowedOne (es ++ entry op.who.id (Call.Check op.who.context a UdpReceive) Told.Yes ∷ []) op.who.id op.who.side bytes a
    unfolding told_more
    allowed es m h =
        let e : Entry = entry op.who.id (Call.Check op.who.context a UdpReceive) Told.Yes in
        record {
          told = told_more es (e ∷ []) op.who.id op.who.side bytes a (one_none op.who.id op.who.side op.who.id _ Told.Yes tt) h;
          yes = record { ctx = op.who.context; family = family; maker = made_on es _ Told.Yes m; checked = has_last h.cut.back e };
        }

    -- the check of the sender
    checked : (es : List Entry) (t : Told) → Made es → IsTold es → Keeps [] (es ++ entry op.who.id (Call.Check op.who.context a UdpReceive) t ∷ []) (received_front wanted bytes a (told_verdict t))
    checked es Told.Yes m h = by_test (is_wanted wanted a)
      where
        by_test : (b : Bool) → Keeps [] (es ++ entry op.who.id (Call.Check op.who.context a UdpReceive) Told.Yes ∷ []) (if b then Goes (Datagram bytes a) else Again (Receive wanted))
        by_test true = (made_on es _ Told.Yes m, Ended, tt, allowed es m h)
        by_test false = waits_on _ wanted (made_on es _ Told.Yes m)
    checked es Told.No m h = waits_on _ wanted (made_on es _ Told.No m)
    checked es t m h = (made_on es _ t m, Received wanted bytes a, told_more es _ op.who.id op.who.side bytes a (one_none op.who.id op.who.side op.who.id _ t tt) h, tt)

    checks : (es : List Entry) → Made es → IsTold es → Allows Its (λ fs f. Keeps [] fs f) es (check_peer_front op.who wanted bytes a)
    unfolding bind
    checks es m h = (tt, λ t fits. checked es t m h)

  -- what was received
  received : (es : List Entry) (wanted : Option IpSocketAddress) (t : Told) → Made es → Allows Its (λ fs f. Keeps [] fs f) (es ++ entry op.who.id (Call.Recv op.who.side) t ∷ []) (receive_front op.who wanted (told_datagram t))
  received es wanted (Told.Datagram bytes a) m = checks wanted bytes a _ (made_on es _ _ m) (record { cut = record { front = es; back = []; is = refl }; last = λ told h. h })
  received es wanted (Told.Code c) m = ends _ c Nothing
  received es wanted t m = waits_on _ wanted (made_on es _ t m)

  -- each front ask
  receive_item : (es : List Entry) (given : Given) (item : Item) (items : List Item) → Made es → IsLeftOfReceive (item ∷ items) → InHand es op.who.id op.who.side (item ∷ items) → Allows Its (λ fs f. Keeps items fs f) es (front op.who item)
  unfolding bind
  receive_item es given _ _ m (ToRefuse c) h = ends es c Nothing
  receive_item es given _ _ m (Unreceived only) h = (refl, λ t fits. received es only t m)
  receive_item es given _ _ m (Received only bytes peer) h = checks only bytes peer es m h

-- what is in hand stays so where another address is wanted
wanting_same : (es : List Entry) (own side : OpId) (only : Option IpSocketAddress) (items : List Item) → IsLeftOfReceive items → InHand es own side items → InHand es own side (wanted_in only items)
wanting_same es own side only _ (ToRefuse c) k = tt
wanting_same es own side only _ (Unreceived any) k = tt
wanting_same es own side only _ (Received any bytes peer) k = k
wanting_same es own side only _ Ended k = tt

-- a poll of a receive leaves one whose datagram was told last, or gives it
pub poll_one : (op : Operation) (only : Option IpSocketAddress) (family : SocketAddressFamily) (es : List Entry) → IsReceive op → IsMaker es op.who.context family op.who.side → InHand es op.who.id op.who.side op.left
    → Allows (RecvBy op.who.id) (λ fs ended. PolledOne fs op.who.id op.who.side ended) es (poll_asks (wanting only op))
poll_one op only family es its made k =
    allows_polls (RecvBy op.who.id) op.who (Before op family its.last) (After op family its.last)
    (λ fs given item items h. receive_item op family its.last fs given item items h.0 h.1 h.2)
    (λ fs items h. h.2) (λ fs given h. h.3) 64 (wanted_in only op.left) es
    (made, wanted_left only op.left its.left, wanting_same es op.who.id op.who.side only op.left its.left k, tt)
