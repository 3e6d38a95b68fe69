-- A `udp-receive` hands out what was received on its network socket from a place of the log on, in order, and leaves the records so
-- that what comes later is from the place after that on.
use Rattle.wasi_walks.proofs.Words.{Allows, Answer, Asks, Bool, End, Entry, Err, ErrorCode, IpSocketAddress, IsMaker}
use Rattle.wasi_walks.proofs.Words.{Item, List, None, Ok, OpId, Operation, Option, Pending, Ready, Result, Some}
use Rattle.wasi_walks.proofs.Words.{Stop, [], allows_if, allows_keep, allows_then, arith}
use Rattle.wasi_walks.proofs.Words.{bind, false, if◌then◌else◌, is_wildcard, length, min, poll_asks}
use Rattle.wasi_walks.proofs.Words.{refl, subst, suc, sym, told_addr, true, zero, ℕ, ◌++◌, ◌∷◌, ◌≡◌, ◌≤◌}
use Rattle.std.specs.Prelude.{◌-◌}
use Rattle.wasi_world.specs.declared.datagram.IncomingDatagram.{IncomingDatagram}
use Rattle.wasi_world.specs.declared.ids.Ids.{Ids}
use Rattle.wasi_udp.specs.Receive.{receive_asks, receive_start, wanting}
use Rattle.wasi_udp.specs.Shape.{Socket}
use Rattle.wasi_udp.specs.Socket.{after_local, bound_asks}
use Rattle.record_common.specs.Names.{next_name}
use Rattle.udp_records.specs.Receiving.{all_received, fetch_asks, fetch_names, poll_receive_asks, receive_after, receive_all, receive_datagrams_asks, receive_left, receive_next_asks, received_told, taken}
use Rattle.udp_records.specs.declared.datagrams.Incoming.{Incoming}
use Rattle.udp_records.specs.declared.datagrams.Receiving.{Receiving}
use Rattle.udp_records.specs.declared.udp.OpenUdp.{OpenUdp}
use Rattle.wasi_walks.specs.Received.{InOrder, IsAllowed, NoMore, OneMore}
use Rattle.wasi_walks.proofs.fits.Records.{ReceiveOn}
use Rattle.wasi_walks.proofs.fits.UdpFits.{begun_receive}
use Rattle.wasi_walks.proofs.licence.Frames.{maker_more}
use Rattle.wasi_walks.proofs.received.Late.{OnlyOf, InHandLate, IncomingLate, ReceivedLate, ReceivingLate, allowed_more, long_more, poll_late}

-- == in order
-- under more entries
pub order_more : (es fs : List Entry) (side : OpId) (from upto : ℕ) (ds : List IncomingDatagram) → InOrder es side from ds upto → InOrder (es ++ fs) side from ds upto
order_more es fs side _ _ _ (NoMore from) = NoMore from
order_more es fs side _ _ _ (OneMore from mid upto d ds a rest) = OneMore from mid upto d ds (allowed_more from mid es fs side d a) (order_more es fs side mid upto ds rest)

-- one more of them
one_later : (es : List Entry) (side : OpId) (from mid upto : ℕ) (ds : List IncomingDatagram) (d : IncomingDatagram) → InOrder es side from ds mid → IsAllowed es side mid upto d → InOrder es side from (ds ++ d ∷ []) upto
one_later es side _ _ upto _ d (NoMore from) a = OneMore from upto upto d [] a (NoMore upto)
one_later es side _ _ upto _ d (OneMore from next mid x ds b rest) a = OneMore from next upto x (ds ++ d ∷ []) b (one_later es side next mid upto ds d rest a)

-- none of them
none_later : (es : List Entry) (side : OpId) (from upto : ℕ) → InOrder es side from [] upto → upto ≡ from
none_later es side _ _ (NoMore from) = refl

-- What is held is known where this is wanted.
module _ (Exact : Type 0) (side : OpId) (from : ℕ) where
  -- what is given is in order, up to this place; where nothing is given it is where it was
  abbrev pub GivesUpto : {E : Type 0} → List Entry → ℕ → Result (List IncomingDatagram) E → Type 0
  GivesUpto es upto (Ok ds) = Exact → InOrder es side from ds upto
  GivesUpto es upto (Err why) = Exact → upto ≡ from

  -- the socket is on the network socket, and knows its creator
  abbrev pub SocketOn : List Entry → Socket → Type 0
  SocketOn es socket = (socket.side ≡ side) × IsMaker es socket.maker socket.family side

  -- and its stream holds what was received from the place on
  abbrev pub Holds : ℕ → List Entry → Socket × Incoming → Type 0
  Holds at es s = SocketOn es s.0 × (at ≤ length es) × (Exact → ReceivingLate at es side s.1.receiving)

  on_more : (socket : Socket) (es fs : List Entry) → SocketOn es socket → SocketOn (es ++ fs) socket
  on_more socket es fs k = (k.0, maker_more es fs socket.maker socket.family side k.1)

  -- A receive that begins is on the network socket, and has nothing in hand.
  record Begun (at : ℕ) (es : List Entry) (begun : Operation × Socket) : Type 0 where
    pub on : SocketOn es begun.1
    pub long : at ≤ length es
    pub receive : ReceiveOn side begun.0
    pub made : IsMaker es begun.0.who.context begun.1.family begun.0.who.side
    pub hand : Exact → InHandLate at es begun.0.who.id begun.0.who.side begun.0.left

  -- with what is learnt of whether it is bound it is the same
  learnt : (es : List Entry) (socket : Socket) (told : Result IpSocketAddress ErrorCode) → SocketOn es socket → SocketOn es (after_local socket told).1
  learnt es socket (Ok a) k = by_test (is_wildcard socket.family a)
    where
      by_test : (b : Bool) → (let answer : Bool × Socket = if b then (false, socket) else (true, record socket { bound = true }) in SocketOn es answer.1)
      by_test true = k
      by_test false = k
  learnt es socket (Err c) k = k

  -- it is asked whether it is bound
  bounds : (at : ℕ) (es : List Entry) (op : OpId) (socket : Socket) → SocketOn es socket → at ≤ length es → Allows (OnlyOf side) (λ fs b. SocketOn fs b.1 × (at ≤ length fs)) es (bound_asks op socket)
  unfolding bind
  bounds at es op socket k l = allows_if (OnlyOf side) (λ fs b. SocketOn fs b.1 × (at ≤ length fs)) es socket.bound _ _ (λ yes. (k, l)) (λ no. (tt, λ t fits. (learnt _ socket (told_addr t) (on_more socket es _ k), long_more at es _ l)))

  starts : (at : ℕ) (es : List Entry) (op : OpId) (b : Bool) (socket : Socket) → SocketOn es socket → at ≤ length es → Begun at es (receive_start op socket b, socket)
  starts at es op b socket k l = record {
    on = k;
    long = l;
    receive = subst (λ (x : OpId). ReceiveOn x (receive_start op socket b)) k.0 (begun_receive op socket b);
    made = subst (IsMaker es socket.maker socket.family) (sym k.0) k.1;
    hand = λ x. nothing b;
  }
    where
      nothing : (b : Bool) → InHandLate at es op socket.side (receive_start op socket b).left
      nothing true = tt
      nothing false = tt

  -- it begins
  begins : (at : ℕ) (es : List Entry) (op : OpId) (socket : Socket) → SocketOn es socket → at ≤ length es → Allows (OnlyOf side) (λ fs begun. Begun at fs begun) es (receive_asks op socket)
  begins at es op socket k l = allows_then (OnlyOf side) (λ fs b. SocketOn fs b.1 × (at ≤ length fs)) (λ fs begun. Begun at fs begun) es (bound_asks op socket) _ (bounds at es op socket k l) (λ fs b m. starts at fs op b.0 b.1 m.0 m.1)

  -- and is polled
  polled : (at : ℕ) (es : List Entry) (inc : Incoming) (begun : Operation × Socket) → Begun at es begun → Allows (OnlyOf side) (λ fs s. Holds at fs s) es (poll_receive_asks begun.1 inc begun.0)
  polled at es inc begun k =
      let asks : Asks (End × List Item) = poll_asks (wanting inc.remote begun.0) in
      allows_then (OnlyOf side) (λ fs ended. (SocketOn fs begun.1 × (at ≤ length fs)) × (Exact → ReceivingLate at fs side (receive_left begun.0 ended))) (λ fs s. Holds at fs s) es asks _
      (allows_keep (OnlyOf side) (OnlyOf side) (λ fs. SocketOn fs begun.1 × (at ≤ length fs)) (λ fs ended. Exact → ReceivingLate at fs side (receive_left begun.0 ended)) (λ fs op c t fits m n. (on_more begun.1 fs _ m.0, long_more at fs _ m.1)) (λ fs op c n. n) es asks (k.on, k.long)
      (subst (λ (x : OpId). Allows (OnlyOf x) (λ fs ended. Exact → ReceivingLate at fs x (receive_left begun.0 ended)) es asks) k.receive.of_side (poll_late Exact at begun.0 inc.remote begun.1.family es k.receive.receive k.made k.long k.hand)))
      (λ fs ended m. (m.0.0, m.0.1, m.1))

  -- where none is in progress and none has ended
  fetches : (at : ℕ) (es : List Entry) (op : OpId) (s : Socket × Incoming) (receiving : Receiving) → Holds at es s → Allows (OnlyOf side) (λ fs t. Holds at fs t) es (fetch_asks op receiving s)
  fetches at es op s Receiving.Nothing k = allows_then (OnlyOf side) (λ fs begun. Begun at fs begun) (λ fs t. Holds at fs t) es (receive_asks op s.0) _ (begins at es op s.0 k.0 k.1) (λ fs begun m. polled at fs s.1 begun m)
  fetches at es op s _ k = k

  -- what has come is taken: then nothing is held, so any later place will do
  abbrev Takes : ℕ → List Entry → Result (Answer IncomingDatagram) ErrorCode → Receiving → Type 0
  Takes at es (Ok (Ready d)) r = (Exact → ReceivedLate at es side d) × (Exact → ReceivingLate (length es) es side r)
  Takes at es _ r = Exact → ReceivingLate at es side r

  takes : (at : ℕ) (es : List Entry) (receiving : Receiving) → (Exact → ReceivingLate at es side receiving) → Takes at es (taken receiving).0 (taken receiving).1
  takes at es Receiving.Nothing k = λ x. tt
  takes at es (Receiving.InProgress op) k = k
  takes at es (Receiving.Came d) k = (k, λ x. tt)
  takes at es (Receiving.Failed c) k = λ x. tt

  -- the next datagram
  abbrev Next : ℕ → List Entry → Result (Answer IncomingDatagram) ErrorCode × (Socket × Incoming) → Type 0
  Next at es done = SocketOn es done.1.0 × (at ≤ length es) × Takes at es done.0 done.1.1.receiving

  nexts : (at : ℕ) (es : List Entry) (op : OpId) (s : Socket × Incoming) → Holds at es s → Allows (OnlyOf side) (λ fs done. Next at fs done) es (receive_next_asks op s)
  nexts at es op s k =
      allows_then (OnlyOf side) (λ fs t. Holds at fs t) (λ fs done. Next at fs done) es (fetch_asks op s.1.receiving s) _ (fetches at es op s s.1.receiving k)
      (λ fs t m. (m.0, m.1, takes at fs t.1.receiving m.2))

  -- == datagrams in turn
  -- what all of them leave
  abbrev pub Ends : List Entry → Result (List IncomingDatagram) ErrorCode × (Socket × Incoming) → Type 0
  Ends es done = (upto : ℕ) × (GivesUpto es upto done.0 × Holds upto es done.1)

  -- a code ends the list
  ends : (at : ℕ) (es : List Entry) (so_far : List IncomingDatagram) (c : ErrorCode) → (Exact → InOrder es side from so_far at) → GivesUpto es at (received_told so_far c)
  ends at es [] c r = λ x. none_later es side from at (r x)
  ends at es (d ∷ ds) c r = r

  -- what is received, once one was asked for
  follows : (at : ℕ) (es : List Entry) (so_far : List IncomingDatagram) (more : IncomingDatagram → Socket × Incoming → Asks (Result (List IncomingDatagram) ErrorCode × (Socket × Incoming)))
      → ((d : IncomingDatagram) (s : Socket × Incoming) → (Exact → InOrder es side from (so_far ++ d ∷ []) (length es)) → Holds (length es) es s → Allows (OnlyOf side) (λ fs done. Ends fs done) es (more d s))
      → (done : Result (Answer IncomingDatagram) ErrorCode × (Socket × Incoming)) → (Exact → InOrder es side from so_far at) → Next at es done → Allows (OnlyOf side) (λ fs done. Ends fs done) es (receive_after so_far more done)
  follows at es so_far more again (Ok (Ready d), s) r k = again d s (λ x. one_later es side from at (length es) so_far d (r x) (k.2.0 x)) (k.0, omega arith, k.2.1)
  follows at es so_far more again (Ok Pending, s) r k = (at, (r, k))
  follows at es so_far more again (Err why, s) r k = (at, (ends at es so_far why r, k))

  -- all of them
  pub all_in_order : (n room : ℕ) (ids : Ids) (so_far : List IncomingDatagram) (s : Socket × Incoming) (at : ℕ) (es : List Entry) → (Exact → InOrder es side from so_far at) → Holds at es s → Allows (OnlyOf side) (λ fs done. Ends fs done) es (receive_all n room ids so_far s)
  all_in_order zero room ids so_far s at es r k = (at, (r, k))
  all_in_order (suc n) zero ids so_far s at es r k = (at, (r, k))
  all_in_order (suc n) (suc room) ids so_far s at es r k =
      allows_then (OnlyOf side) (λ fs done. (Exact → InOrder fs side from so_far at) × Next at fs done) (λ fs done. Ends fs done) es (receive_next_asks (next_name ids) s) _
      (allows_keep (OnlyOf side) (OnlyOf side) (λ fs. Exact → InOrder fs side from so_far at) (λ fs done. Next at fs done) (λ fs op c t fits m n. λ x. order_more fs _ side from at so_far (m x)) (λ fs op c n. n) es _ r (nexts at es (next_name ids) s k))
      (λ fs done m. follows at fs so_far _ (λ d t x y. all_in_order n (room - length d.bytes) (fetch_names s.1.receiving ids) (so_far ++ d ∷ []) t (length fs) fs x y) done m.0 m.1)

-- == a socket's datagrams
-- What a receive of the socket leaves: from the place on, up to another one.
pub record Leaves (Exact : Type 0) (from : ℕ) (es : List Entry) (o : OpenUdp) (r : Result (List IncomingDatagram) Stop) (now : OpenUdp) : Type 0 where
  pub upto : ℕ
  pub gives : GivesUpto Exact o.inner.side from es upto r
  pub on : now.inner.side ≡ o.inner.side
  pub long : upto ≤ length es
  pub later : Exact → IncomingLate upto es o.inner.side now.incoming

answers : (Exact : Type 0) (from : ℕ) (es : List Entry) (o : OpenUdp) (done : Result (List IncomingDatagram) ErrorCode × (Socket × Incoming)) → Ends Exact o.inner.side from es done → Leaves Exact from es o (all_received o done).0 (all_received o done).1
answers Exact from es o (Ok ds, s) k = record { upto = k.0; gives = k.1.0; on = k.1.1.0.0; long = k.1.1.1; later = k.1.1.2 }
answers Exact from es o (Err c, s) k = record { upto = k.0; gives = k.1.0; on = k.1.1.0.0; long = k.1.1.1; later = k.1.1.2 }

-- from its stream, where it is there
pub receives : (Exact : Type 0) (from : ℕ) (es : List Entry) (ids : Ids) (most : ℕ) (o : OpenUdp) (inc : Option Incoming) → o.incoming ≡ inc → IsMaker es o.inner.maker o.inner.family o.inner.side → from ≤ length es → (Exact → IncomingLate from es o.inner.side inc) → Allows (OnlyOf o.inner.side) (λ fs done. Leaves Exact from fs o done.0 done.1) es (receive_datagrams_asks ids most o inc)
receives Exact from es ids most o None e m l k = record { upto = from; gives = λ x. refl; on = refl; long = l; later = λ x. subst (IncomingLate from es o.inner.side) (sym e) tt }
receives Exact from es ids most o (Some inc) e m l k =
    allows_then (OnlyOf o.inner.side) (λ fs done. Ends Exact o.inner.side from fs done) (λ fs done. Leaves Exact from fs o done.0 done.1) es (receive_all (min most 16) 65536 ids [] (o.inner, inc)) _
    (all_in_order Exact o.inner.side from (min most 16) 65536 ids [] (o.inner, inc) from es (λ x. NoMore from) ((refl, m), l, k)) (λ fs done g. answers Exact from fs o done g)
