-- What an incoming stream holds was received from a place of the log on: so it stays under more entries, and where a receive is polled.
use Rattle.wasi_walks.proofs.Words.{Allows, Bool, Call, End, Entry, ErrorCode, Front, FrontKeeps, Given, IpSocketAddress, IsMaker, Item}
use Rattle.wasi_walks.proofs.Words.{LastAsk, List, Nothing, NothingLast, OpId, Operation, Option, Some, None, SocketAddressFamily, Told, Done, [], allows_polls, bind}
use Rattle.wasi_walks.proofs.Words.{ap, append_assoc, arith, entry, false, front, if◌then◌else◌, last_ask, length, length-append, poll_asks, refl, subst, sym, told_verdict, true, ℕ, ⊤, ◌+◌, ◌++◌, ◌∙◌, ◌∷◌, ◌≡◌, ◌≤◌}
use Rattle.wasi_addr.specs.declared.address.SocketAddrUse.TheVariants.{UdpReceive}
use Rattle.wasi_world.specs.declared.datagram.IncomingDatagram.{IncomingDatagram}
use Rattle.wasi_world.specs.Operation.{Again, CheckPeer, Datagram, Goes, Receive, check_peer_front, is_wanted, receive_front, received_front}
use Rattle.wasi_world.specs.Typed.{told_datagram}
use Rattle.wasi_udp.specs.Receive.{Ended, IsLeftOfReceive, IsReceive, Received, ToRefuse, Unreceived, wanted_in, wanting}
use Rattle.udp_records.specs.Receiving.{receive_left}
use Rattle.udp_records.specs.declared.datagrams.Incoming.{Incoming as IncomingStream}
use Rattle.udp_records.specs.declared.datagrams.Receiving.{Receiving}
use Rattle.wasi_walks.specs.Received.{IsAllowed, ReceivesNone}
use Rattle.wasi_walks.proofs.Lists.{Cut, cut_more}
use Rattle.wasi_walks.proofs.fits.DatagramPolls.{wanted_left}
use Rattle.wasi_walks.proofs.licence.Frames.{maker_more}

-- == calls that ask for datagrams
-- any call but a `recv` of this network socket
abbrev pub NoRecvOf : OpId → Call → Type 0
NoRecvOf side (Call.Recv x) = x ≡ side → ⊥
NoRecvOf side _ = ⊤

-- a `recv` is of this network socket alone
abbrev pub OnlyOf : OpId → List Entry → OpId → Call → Type 0
OnlyOf side es op (Call.Recv x) = x ≡ side
OnlyOf side es op _ = ⊤

no_recv : (side : OpId) (c : Call) → NoRecvOf side c → c ≡ Call.Recv side → ⊥
no_recv side c n e = let f : NoRecvOf side (Call.Recv side) = subst (NoRecvOf side) e n in f refl

-- one entry more
pub one_none : (side : OpId) (op : OpId) (c : Call) (told : Told) → NoRecvOf side c → ReceivesNone side (entry op c told ∷ [])
one_none side op c told n = (no_recv side c n, tt)

pub only_other : (x side : OpId) (es : List Entry) (op : OpId) (c : Call) → (x ≡ side → ⊥) → OnlyOf x es op c → NoRecvOf side c
only_other x side es op (Call.Recv y) n e = λ q. n (sym e ∙ q)
only_other x side es op _ n e = tt

none_both : (side : OpId) (es fs : List Entry) → ReceivesNone side es → ReceivesNone side fs → ReceivesNone side (es ++ fs)
none_both side [] fs k l = l
none_both side (e ∷ es) fs k l = (k.0, none_both side es fs k.1 l)

-- == what is held
-- the datagram was received and allowed, from this place on
abbrev pub ReceivedLate : ℕ → List Entry → OpId → IncomingDatagram → Type 0
ReceivedLate from es side d = IsAllowed es side from (length es) d

-- The receive was told it, from this place on.
pub record HandLate (from : ℕ) (es : List Entry) (op side : OpId) (bytes : List ℕ) (peer : IpSocketAddress) : Type 0 where
  pub cut : Cut es (entry op (Call.Recv side) (Told.Datagram bytes peer))
  pub late : from ≤ length cut.front
  pub clear : ReceivesNone side cut.back

-- what a receive has in hand
abbrev pub InHandLate : ℕ → List Entry → OpId → OpId → List Item → Type 0
InHandLate from es op side (CheckPeer only bytes peer ∷ items) = HandLate from es op side bytes peer
InHandLate from es op side _ = ⊤

-- that, or what has come
abbrev pub ReceivingLate : ℕ → List Entry → OpId → Receiving → Type 0
ReceivingLate from es side (Receiving.InProgress op) = InHandLate from es op.who.id side op.left
ReceivingLate from es side (Receiving.Came d) = ReceivedLate from es side d
ReceivingLate from es side _ = ⊤

abbrev pub IncomingLate : ℕ → List Entry → OpId → Option IncomingStream → Type 0
IncomingLate from es side (Some inc) = ReceivingLate from es side inc.receiving
IncomingLate from es side None = ⊤

-- == under more entries
pub long_more : (from : ℕ) (es fs : List Entry) → from ≤ length es → from ≤ length (es ++ fs)
long_more from es fs k = simp length-append (omega arith)

pub allowed_more : (from upto : ℕ) (es fs : List Entry) (side : OpId) (d : IncomingDatagram) → IsAllowed es side from upto d → IsAllowed (es ++ fs) side from upto d
allowed_more from upto es fs side d r = record {
  op = r.op;
  ctx = r.ctx;
  family = r.family;
  maker = maker_more es fs r.ctx r.family side r.maker;
  front = r.front;
  between = r.between;
  back = r.back ++ fs;
  cut = (let told : Entry = entry r.op (Call.Recv side) (Told.Datagram d.bytes d.remote_address) in let yes : Entry = entry r.op (Call.Check r.ctx d.remote_address UdpReceive) Told.Yes in cut_more es fs r.front (r.between ++ yes ∷ r.back) told r.cut ∙ ap (λ (gs : List Entry). r.front ++ told ∷ gs) (append_assoc r.between (yes ∷ r.back) fs));
  alone = r.alone;
  late = r.late;
  past = r.past;
}

-- up to a later place
further : (from upto later : ℕ) (es : List Entry) (side : OpId) (d : IncomingDatagram) → upto ≤ later → IsAllowed es side from upto d → IsAllowed es side from later d
further from upto later es side d l r = record { op = r.op; ctx = r.ctx; family = r.family; maker = r.maker; front = r.front; between = r.between; back = r.back; cut = r.cut; alone = r.alone; late = r.late; past = (let p = r.past in omega arith) }

pub received_late_more : (from : ℕ) (es fs : List Entry) (side : OpId) (d : IncomingDatagram) → ReceivedLate from es side d → ReceivedLate from (es ++ fs) side d
received_late_more from es fs side d k = further from (length es) (length (es ++ fs)) (es ++ fs) side d (long_more (length es) es fs (omega arith)) (allowed_more from (length es) es fs side d k)

pub hand_late_more : (from : ℕ) (es fs : List Entry) (op side : OpId) (bytes : List ℕ) (peer : IpSocketAddress) → ReceivesNone side fs → HandLate from es op side bytes peer → HandLate from (es ++ fs) op side bytes peer
hand_late_more from es fs op side bytes peer n k = record { cut = record { front = k.cut.front; back = k.cut.back ++ fs; is = cut_more es fs k.cut.front k.cut.back _ k.cut.is }; late = k.late; clear = none_both side k.cut.back fs k.clear n }

in_hand_late_more : (from : ℕ) (es fs : List Entry) (op side : OpId) (items : List Item) → ReceivesNone side fs → InHandLate from es op side items → InHandLate from (es ++ fs) op side items
in_hand_late_more from es fs op side (CheckPeer only bytes peer ∷ items) n k = hand_late_more from es fs op side bytes peer n k
in_hand_late_more from es fs op side _ n k = tt

pub receiving_late_more : (from : ℕ) (es fs : List Entry) (side : OpId) (r : Receiving) → ReceivesNone side fs → ReceivingLate from es side r → ReceivingLate from (es ++ fs) side r
receiving_late_more from es fs side (Receiving.InProgress op) n k = in_hand_late_more from es fs op.who.id side op.left n k
receiving_late_more from es fs side (Receiving.Came d) n k = received_late_more from es fs side d k
receiving_late_more from es fs side _ n k = tt

pub incoming_late_more : (from : ℕ) (es fs : List Entry) (side : OpId) (inc : Option IncomingStream) → ReceivesNone side fs → IncomingLate from es side inc → IncomingLate from (es ++ fs) side inc
incoming_late_more from es fs side (Some inc) n k = receiving_late_more from es fs side inc.receiving n k
incoming_late_more from es fs side None n k = tt

-- both entries are in the log
within : (front between back es : List Entry) (told last : Entry) → es ≡ front ++ told ∷ (between ++ last ∷ back) → length front + length between + 2 ≤ length es
within before between back es told last e = omega (arith, ap length e, length-append before (told ∷ (between ++ last ∷ back)), length-append between (last ∷ back))

-- == a receive is polled
-- What is in hand is known where this is wanted.
module _ (Exact : Type 0) (from : ℕ) (op : Operation) (family : SocketAddressFamily) (quiet : op.who.last ≡ NothingLast) where
  -- the network socket's maker, and the log reaches the place
  abbrev Made : List Entry → Type 0
  Made es = IsMaker es op.who.context family op.who.side × (from ≤ length es)

  -- before each ask
  abbrev Before : List Entry → Given → List Item → Type 0
  Before es given items = Made es × IsLeftOfReceive items × (Exact → InHandLate from es op.who.id op.who.side items) × (Exact → ReceivingLate from es op.who.side (receive_left op (Done given, [])))

  -- after the poll
  abbrev After : List Entry → End × List Item → Type 0
  After es ended = Exact → ReceivingLate from es op.who.side (receive_left op ended)

  -- what comes of the front ask
  abbrev Keeps : List Item → List Entry → Front → Type 0
  Keeps items es f = FrontKeeps (OnlyOf op.who.side) op.who Before After items es f

  -- an ask leaves both
  made_on : (es : List Entry) (c : Call) (t : Told) → Made es → Made (es ++ entry op.who.id c t ∷ [])
  made_on es c t m = (maker_more es _ op.who.context family op.who.side m.0, long_more from es _ m.1)

  -- a code ends it
  ends : (es : List Entry) (c : ErrorCode) (given : Given) → Allows (OnlyOf op.who.side) After es (last_ask op.who op.who.last c given)
  ends es c given = subst (λ (l : LastAsk). Allows (OnlyOf op.who.side) After es (last_ask op.who l c given)) (sym quiet) (λ x. tt)

  -- nothing is in hand
  waits_on : (es : List Entry) (only : Option IpSocketAddress) → Made es → Before es Nothing (Receive only ∷ [])
  waits_on es only m = (m, Unreceived only, (λ x. tt), (λ x. tt))

  module _ (wanted : Option IpSocketAddress) (bytes : List ℕ) (a : IpSocketAddress) where
    -- the datagram was told
    abbrev IsTold : List Entry → Type 0
    IsTold es = Exact → HandLate from es op.who.id op.who.side bytes a

    -- and its sender allowed afterwards
    allowed : (es : List Entry) → Made es → IsTold es → Exact → ReceivedLate from (es ++ entry op.who.id (Call.Check op.who.context a UdpReceive) Told.Yes ∷ []) op.who.side (record { bytes = bytes; remote_address = a })
    allowed es m h x =
        let told : Entry = entry op.who.id (Call.Recv op.who.side) (Told.Datagram bytes a) in
        let e : Entry = entry op.who.id (Call.Check op.who.context a UdpReceive) Told.Yes in
        let c : Cut es told = (h x).cut in
        let whole : es ++ e ∷ [] ≡ c.front ++ told ∷ (c.back ++ e ∷ []) = cut_more es (e ∷ []) c.front c.back told c.is in
        record { op = op.who.id; ctx = op.who.context; family = family; maker = (made_on es _ Told.Yes m).0; front = c.front; between = c.back; back = []; cut = whole; alone = (h x).clear; late = (h x).late; past = within c.front c.back [] _ told e whole }

    -- the check of the sender
    checked : (es : List Entry) (t : Told) → Made es → IsTold es → Keeps [] (es ++ entry op.who.id (Call.Check op.who.context a UdpReceive) t ∷ []) (received_front wanted bytes a (told_verdict t))
    checked es Told.Yes m h = by_test (is_wanted wanted a)
      where
        by_test : (b : Bool) → Keeps [] (es ++ entry op.who.id (Call.Check op.who.context a UdpReceive) Told.Yes ∷ []) (if b then Goes (Datagram bytes a) else Again (Receive wanted))
        by_test true = (made_on es _ Told.Yes m, Ended, (λ x. tt), allowed es m h)
        by_test false = waits_on _ wanted (made_on es _ Told.Yes m)
    checked es Told.No m h = waits_on _ wanted (made_on es _ Told.No m)
    checked es t m h = (made_on es _ t m, Received wanted bytes a, (λ x. hand_late_more from es _ op.who.id op.who.side bytes a (one_none op.who.side op.who.id (Call.Check op.who.context a UdpReceive) t tt) (h x)), (λ x. tt))

    -- it is asked for
    checks : (es : List Entry) → Made es → IsTold es → Allows (OnlyOf op.who.side) (λ fs f. Keeps [] fs f) es (check_peer_front op.who wanted bytes a)
    unfolding bind
    checks es m h = (tt, λ t fits. checked es t m h)

  -- what was received
  received : (es : List Entry) (wanted : Option IpSocketAddress) (t : Told) → Made es → Allows (OnlyOf op.who.side) (λ fs f. Keeps [] fs f) (es ++ entry op.who.id (Call.Recv op.who.side) t ∷ []) (receive_front op.who wanted (told_datagram t))
  received es wanted (Told.Datagram bytes a) m = checks wanted bytes a _ (made_on es _ _ m) (λ x. record { cut = record { front = es; back = []; is = refl }; late = m.1; clear = tt })
  received es wanted (Told.Code c) m = ends _ c Nothing
  received es wanted t m = waits_on _ wanted (made_on es _ t m)

  -- each front ask
  receive_item : (es : List Entry) (given : Given) (item : Item) (items : List Item) → Made es → IsLeftOfReceive (item ∷ items) → (Exact → InHandLate from es op.who.id op.who.side (item ∷ items)) → Allows (OnlyOf op.who.side) (λ fs f. Keeps items fs f) es (front op.who item)
  unfolding bind
  receive_item es given _ _ m (ToRefuse c) h = ends es c Nothing
  receive_item es given _ _ m (Unreceived only) h = (refl, λ t fits. received es only t m)
  receive_item es given _ _ m (Received only bytes peer) h = checks only bytes peer es m h

-- what is in hand stays so where another address is wanted
wanting_late : (from : ℕ) (es : List Entry) (own side : OpId) (only : Option IpSocketAddress) (items : List Item) → IsLeftOfReceive items → InHandLate from es own side items → InHandLate from es own side (wanted_in only items)
wanting_late from es own side only _ (ToRefuse c) k = tt
wanting_late from es own side only _ (Unreceived any) k = tt
wanting_late from es own side only _ (Received any bytes peer) k = k
wanting_late from es own side only _ Ended k = tt

-- a poll of a receive leaves one whose datagram was received from the place on, or gives it
pub poll_late : (Exact : Type 0) (from : ℕ) (op : Operation) (only : Option IpSocketAddress) (family : SocketAddressFamily) (es : List Entry) → IsReceive op → IsMaker es op.who.context family op.who.side → from ≤ length es → (Exact → InHandLate from es op.who.id op.who.side op.left) → Allows (OnlyOf op.who.side) (λ fs ended. Exact → ReceivingLate from fs op.who.side (receive_left op ended)) es (poll_asks (wanting only op))
poll_late Exact from op only family es its made long k =
    allows_polls (OnlyOf op.who.side) op.who (Before Exact from op family its.last) (After Exact from op family its.last)
    (λ fs given item items h. receive_item Exact from op family its.last fs given item items h.0 h.1 h.2)
    (λ fs items h. h.2) (λ fs given h. h.3) 64 (wanted_in only op.left) es
    ((made, long), wanted_left only op.left its.left, (λ x. wanting_late from es op.who.id op.who.side only op.left its.left (k x)), (λ x. tt))
