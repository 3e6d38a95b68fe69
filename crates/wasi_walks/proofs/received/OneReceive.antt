-- What a receive of 0.3 replies and leaves: a datagram that its own operation was told last, whose sender was allowed then, and no call;
-- or its call, which has in hand what it was told last.
use Rattle.std.specs.Prelude.{◌≡◌, ⊤, ℕ, Bool, true, false, if◌then◌else◌, List, [], ◌∷◌, ◌++◌, Option, Some, None, Result, Ok, Err, refl}
use Rattle.std.proofs.Common.{ap, subst, sym, ◌∙◌}
use Rattle.wasi_addr.specs.declared.address.IpSocketAddress.{IpSocketAddress}
use Rattle.wasi_addr.specs.declared.address.SocketAddressFamily.{SocketAddressFamily}
use Rattle.wasi_addr.specs.declared.code.ErrorCode.{ErrorCode}
use Rattle.wasi_world.specs.declared.call.Call.TheVariants as call
use Rattle.wasi_world.specs.declared.call.Entry.{Entry}
use Rattle.wasi_world.specs.declared.call.Told.{Told as Answered}
use Rattle.wasi_world.specs.declared.datagram.IncomingDatagram.{IncomingDatagram}
use Rattle.wasi_world.specs.declared.ids.OpId.{OpId}
use Rattle.wasi_world.specs.declared.outcome.Answer.{Answer}
use Rattle.wasi_world.specs.declared.outcome.Answer.TheVariants.{Ready}
use Rattle.wasi_world.specs.Asks.{bind}
use Rattle.wasi_world.specs.Operation.{Datagram, Done, End, Given, Item, Operation, Refused, Waits, poll_asks}
use Rattle.wasi_world.proofs.Allowed.{Allows, allows_if, allows_then}
use Rattle.wasi_udp.specs.Receive.{IsReceive, receive_asks, receive_start, wanting}
use Rattle.wasi_udp.specs.Shape.{Socket}
use Rattle.wasi_udp.specs.Socket.{after_local, bound_asks}
use Rattle.wasi_world.specs.Typed.{told_addr}
use Rattle.wasi_addr.specs.Address.{is_wildcard}
use Rattle.udp_records.specs.declared.udp.OpenUdp.{OpenUdp}
use Rattle.udp_records.specs.declared.udp.UdpRecord.{UdpRecord}
use Rattle.record_common.specs.Binding.{left_of}
use Rattle.record_common.specs.Names.{own_of}
use Rattle.wasi_records.specs.Records.{open_at, udp2_at}
use Rattle.record_common.specs.Stops.{Code}
use Rattle.udp_records.specs.Udp.{close_udp_asks}
use Rattle.host_store.specs.declared.beside.Beside.{Beside}
use Rattle.host_store.specs.declared.beside.BesideCall.{BesideCall}
use Rattle.host_store.specs.declared.beside.BesideCall.TheVariants.{Receive}
use Rattle.host_store.specs.BaseStops.{BaseStop}
use Rattle.host_store.specs.Block.{Call, Does, after_call, goes_on, or_stop, or_trap}
use Rattle.host_store.specs.Beside.{beside_as, beside_in, beside_with, beside_without, unbeside}
use Rattle.host_udp.specs.SocketDatagrams.{Begun, as_base, asked_so, begun_so, drop_datagram, is_udp_held, polled, polled_so, receive_begins, receive_of, receive_polls, received_answer, rereceive_of, udp_goes}
use Rattle.host_store.specs.Store.{Records}
use Rattle.host_udp.specs.UdpCalls.{release_udp_at, udp_left}
use Rattle.host_store.specs.Store.{with_open_udp}
use Rattle.wasi_walks.specs.Licence.{IsMaker}
use Rattle.wasi_walks.proofs.BesideLists.{push_at, with_at, without_at}
use Rattle.wasi_walks.proofs.Words.{entry}
use Rattle.wasi_walks.proofs.Gives.{allows_ask}
use Rattle.wasi_walks.proofs.fits.Polls.{Anything}
use Rattle.wasi_walks.proofs.fits.UdpFits.{begun_receive}
use Rattle.wasi_walks.proofs.licence.Frames.{maker_more}
use Rattle.wasi_walks.proofs.received.Single.{InHand, IsAllowedOne, PolledOne, RecvBy, allowed_one_more, close_none, poll_one}

-- The operation is a receive of this name on this network socket, and what it has in hand it was told last.
pub record IsOne (es : List Entry) (own side : OpId) (op : Operation) : Type 0 where
  pub id : op.who.id ≡ own
  pub on : op.who.side ≡ side
  pub receive : IsReceive op
  pub family : SocketAddressFamily
  pub made : IsMaker es op.who.context family op.who.side
  pub hand : InHand es own side op.left

-- a call beside others that is a receive has in hand what it was told last
abbrev pub CallHolds : List Entry → OpId → OpId → BesideCall → Type 0
CallHolds es own side (Receive place op) = (op.who.id ≡ own) × (op.who.side ≡ side) × InHand es own side op.left
CallHolds es own side _ = ⊤

abbrev pub FoundHolds : List Entry → OpId → OpId → Option Beside → Type 0
FoundHolds es own side (Some b) = CallHolds es own side b.call
FoundHolds es own side None = ⊤

-- what is given: a datagram that may be handed out, and then no call of the line stands; else what is left of its call may stand
abbrev pub Gives : List Entry → OpId → OpId → Result (Answer IncomingDatagram) BaseStop → Option Beside → Type 0
Gives es own side (Ok (Ready d)) left = IsAllowedOne es own side d.bytes d.remote_address × (left ≡ None)
Gives es own side _ left = FoundHolds es own side left

pub none_holds : (es : List Entry) (own side : OpId) (left : Option Beside) → left ≡ None → FoundHolds es own side left
none_holds es own side None e = tt
none_holds es own side (Some b) e = absurd (cc)

-- one that doesn't wait
abbrev GivesAt : List Entry → OpId → OpId → End → Type 0
GivesAt es own side (Done (Datagram bytes a)) = IsAllowedOne es own side bytes a
GivesAt es own side _ = ⊤

given_one : (es : List Entry) (own side : OpId) (given : Given) (left : Option Beside) → left ≡ None → GivesAt es own side (Done given) → Gives es own side (as_base (received_answer (Done given))) left
given_one es own side (Datagram bytes a) left none k = (k, none)
given_one es own side _ left none k = none_holds es own side left none

-- what a poll of one gives
polled_at : (es : List Entry) (own side : OpId) (given : Given) (items : List Item) → PolledOne es own side (Done given, items) → GivesAt es own side (Done given)
polled_at es own side (Datagram bytes a) items k = k
polled_at es own side _ items k = tt

polls_so : (op : Operation) (es : List Entry) (own side : OpId) → IsOne es own side op → Allows Anything (λ fs ended. PolledOne fs own side ended) es (poll_asks (wanting None op))
polls_so op es own side k =
    let hand : InHand es op.who.id op.who.side op.left = subst (λ (x : OpId). InHand es x op.who.side op.left) (sym k.id) (subst (λ (x : OpId). InHand es own x op.left) (sym k.on) k.hand) in
    let polls = allows_ask (RecvBy op.who.id) Anything (λ fs ended. PolledOne fs op.who.id op.who.side ended) (λ fs o c h. tt) es (poll_asks (wanting None op)) (poll_one op None k.family es k.receive k.made hand) in
    subst (λ (x : OpId). Allows Anything (λ fs ended. PolledOne fs x side ended) es (poll_asks (wanting None op))) k.id (subst (λ (x : OpId). Allows Anything (λ fs ended. PolledOne fs op.who.id x ended) es (poll_asks (wanting None op))) k.on polls)

-- the poll as a line of a block
abbrev Told : Type 0
Told = Result (End × List Item) BaseStop × Unit {0}

abbrev ToldOne : List Entry → OpId → OpId → Result (End × List Item) BaseStop → Type 0
ToldOne es own side (Ok ended) = PolledOne es own side ended
ToldOne es own side (Err stop) = ⊥

polls_told : (op : Operation) (o : OpenUdp) (es : List Entry) (own side : OpId) → IsOne es own side op → Allows Anything (λ fs done. ToldOne fs own side done.0) es (asked_so (receive_polls o op) tt)
polls_told op o es own side k = allows_then Anything (λ fs ended. PolledOne fs own side ended) (λ fs done. ToldOne fs own side done.0) es (receive_polls o op) _ (polls_so op es own side k) (λ fs ended m. m)

-- == one that begins
module _ (line place : ℕ) (store : Records) (free : beside_in store.beside line ≡ None) where
  -- pending, it is the last of the calls; else it never stood
  abbrev pub BeginsSo : OpId → List Entry → Result (Answer IncomingDatagram) BaseStop × Records → Type 0
  BeginsSo side es done = (done.1.standing ≡ store.standing) × Gives es (own_of line) side done.0 (beside_in done.1.beside line)

  begun_leaves : (es : List Entry) (side : OpId) (op : Operation) → op.who.id ≡ own_of line → op.who.side ≡ side → (ended : End × List Item) (now : Records) → now.standing ≡ store.standing → now.beside ≡ store.beside → PolledOne es (own_of line) side ended
      → Allows Anything (λ fs done. BeginsSo side fs done) es (begun_so received_answer line (Receive place) op ended now)
  begun_leaves es side op id on (Waits, items) now s b k = (s, last (beside_in (now.beside ++ beside_as line (Receive place (left_of op items)) ∷ []) line) refl)
    where
      last : (found : Option Beside) → beside_in (now.beside ++ beside_as line (Receive place (left_of op items)) ∷ []) line ≡ found → FoundHolds es (own_of line) side found
      last None e = tt
      last (Some x) e =
          let its : x ≡ beside_as line (Receive place (left_of op items)) = push_at now.beside (beside_as line (Receive place (left_of op items))) x (ap (λ (bs : List Beside). beside_in bs line) b ∙ free) e in
          subst (λ (y : Beside). CallHolds es (own_of line) side y.call) (sym its) (id, on, k)
  begun_leaves es side op id on (Done given, items) now s b k = (s, given_one es (own_of line) side given _ (ap (λ (bs : List Beside). beside_in bs line) b ∙ free) (polled_at es (own_of line) side given items k))
  begun_leaves es side op id on (Refused c given, items) now s b k = (s, none_holds _ (own_of line) _ _ (ap (λ (bs : List Beside). beside_in bs line) b ∙ free))

  module _ (o : OpenUdp) where
    -- the socket is on its network socket, which has its creator
    abbrev OnIt : List Entry → Socket → Type 0
    OnIt es s = (s.side ≡ o.inner.side) × IsMaker es s.maker s.family o.inner.side

    learnt : (es : List Entry) (s : Socket) (told : Result IpSocketAddress ErrorCode) → OnIt es s → OnIt es (after_local s told).1
    learnt es s (Ok a) k = by_test (is_wildcard s.family a)
      where
        by_test : (b : Bool) → (let answer : Bool × Socket = if b then (false, s) else (true, record s { bound = true }) in OnIt es answer.1)
        by_test true = k
        by_test false = k
    learnt es s (Err c) k = k

    bounds : (es : List Entry) → OnIt es o.inner → Allows Anything (λ fs b. OnIt fs b.1) es (bound_asks (own_of line) o.inner)
    unfolding bind
    bounds es k = allows_if Anything (λ fs b. OnIt fs b.1) es o.inner.bound _ _ (λ yes. k) (λ no. (tt, λ t fits. learnt _ o.inner (told_addr t) (k.0, maker_more es _ o.inner.maker o.inner.family o.inner.side k.1)))

    starts : (es : List Entry) (b : Bool) (s : Socket) → OnIt es s → IsOne es (own_of line) o.inner.side (receive_start (own_of line) s b)
    starts es b s k = record {
      id = refl;
      on = k.0;
      receive = (begun_receive (own_of line) s b).receive;
      family = s.family;
      made = subst (IsMaker es s.maker s.family) (sym k.0) k.1;
      hand = nothing b;
    }
      where
        nothing : (b : Bool) → InHand es (own_of line) o.inner.side (receive_start (own_of line) s b).left
        nothing true = tt
        nothing false = tt

    abbrev BegunOne : List Entry → Begun → Type 0
    BegunOne es (Ok (op, now), left) = IsOne es (own_of line) o.inner.side op
    BegunOne es (Err c, left) = ⊤

    begins : (es : List Entry) → OnIt es o.inner → Allows Anything (λ fs begun. BegunOne fs begun) es (receive_begins (own_of line) o)
    begins es k =
        allows_then Anything (λ fs begun. IsOne fs (own_of line) o.inner.side begun.0) (λ fs begun. BegunOne fs begun) es (receive_asks (own_of line) o.inner) _
        (allows_then Anything (λ fs b. OnIt fs b.1) (λ fs begun. IsOne fs (own_of line) o.inner.side begun.0) es (bound_asks (own_of line) o.inner) _ (bounds es k) (λ fs b m. starts fs b.0 b.1 m))
        (λ fs begun m. m)

    -- and is polled
    abbrev then_polled : Operation × OpenUdp → Does ErrorCode Records (Answer IncomingDatagram)
    then_polled begun = goes_on (polled (receive_polls begun.1 begun.0)) (λ ended. begun_so received_answer line (Receive place) begun.0 ended)

    told : (es : List Entry) (op : Operation) (now : Records) → now.standing ≡ store.standing → now.beside ≡ store.beside → IsOne es (own_of line) o.inner.side op → (fs : List Entry) (done : Told) → ToldOne fs (own_of line) o.inner.side done.0
        → Allows Anything (λ gs left. BeginsSo o.inner.side gs left) fs (after_call (λ stop. stop) (λ store none. store) (λ ended. begun_so received_answer line (Receive place) op ended) now done)
    told es op now s b k fs (Ok ended, none) m = begun_leaves fs o.inner.side op k.id k.on ended now s b m
    told es op now s b k fs (Err stop, none) m = absurd m

    polls : (es : List Entry) (begun : Begun) (now : Records) → now.standing ≡ store.standing → now.beside ≡ store.beside → BegunOne es begun
        → Allows Anything (λ fs done. BeginsSo o.inner.side fs done) es (or_stop Code then_polled begun.0 now)
    polls es (Err c, left) now s b k = (s, none_holds _ (own_of line) _ _ (ap (λ (bs : List Beside). beside_in bs line) b ∙ free))
    polls es (Ok (op, o2), left) now s b k =
        allows_then Anything (λ fs done. ToldOne fs (own_of line) o.inner.side done.0) (λ fs left. BeginsSo o.inner.side fs left) es (asked_so (receive_polls o2 op) tt) _
        (polls_told op o2 es (own_of line) o.inner.side k) (told es op now s b k)

    begins_open : (es : List Entry) → OnIt es o.inner → Allows Anything (λ fs done. BeginsSo o.inner.side fs done) es (or_trap (λ o. goes_on (Call Code (λ store. o) (λ store now. with_open_udp store place now) (receive_begins (own_of line))) then_polled) store (Some o))
    begins_open es k =
        allows_then Anything (λ fs begun. BegunOne fs begun) (λ fs done. BeginsSo o.inner.side fs done) es (receive_begins (own_of line) o) _
        (begins es k) (λ fs begun m. polls fs begun (with_open_udp store place begun.1) refl refl m)

  -- of the record at this place
  pub receive_begins_so : (side : OpId) (es : List Entry) → ((o : OpenUdp) → open_at store.records place ≡ Some o → (o.inner.side ≡ side) × IsMaker es o.inner.maker o.inner.family o.inner.side) → Allows Anything (λ fs done. BeginsSo side fs done) es (receive_of line place store)
  receive_begins_so side es k = by_record (open_at store.records place) k
    where
      by_record : (found : Option OpenUdp) → ((o : OpenUdp) → found ≡ Some o → (o.inner.side ≡ side) × IsMaker es o.inner.maker o.inner.family o.inner.side)
          → Allows Anything (λ fs done. BeginsSo side fs done) es (or_trap (λ o. goes_on (Call Code (λ store. o) (λ store now. with_open_udp store place now) (receive_begins (own_of line))) (then_polled o)) store found)
      by_record None k = (refl, none_holds _ (own_of line) _ _ free)
      by_record (Some o) k = let q = k o refl in subst (λ (x : OpId). Allows Anything (λ fs done. BeginsSo x fs done) es (or_trap (λ o. goes_on (Call Code (λ store. o) (λ store now. with_open_udp store place now) (receive_begins (own_of line))) (then_polled o)) store (Some o))) q.0 (begins_open o es (refl, q.1))

-- == one that is polled where it stands
module _ (n place : ℕ) (store : Records) where
  -- what is asked once it is over: nothing of it asks for a datagram
  abbrev After : OpId → OpId → End → List Entry → Unit {0} × Records → Type 0
  After own side ended es done = (done.1.beside ≡ beside_without store.beside n) × GivesAt es own side ended × (done.1.standing ≡ store.standing)

  kept : (es : List Entry) (own side at : OpId) (ended : End) (x : OpId) (t : Answered) → GivesAt es own side ended → GivesAt (es ++ entry at (call.Close x) t ∷ []) own side ended
  kept es own side at (Done (Datagram bytes a)) x t k = allowed_one_more es _ own side bytes a (close_none own side at x t) k
  kept es own side at _ x t k = k

  closes : (es : List Entry) (own side at : OpId) (ended : End) → GivesAt es own side ended → (u : UdpRecord) → Allows Anything (λ fs done. GivesAt fs own side ended) es (close_udp_asks at u)
  unfolding bind
  closes es own side at ended k (UdpRecord.Open o) = (tt, λ t fits. kept es own side at ended o.inner.side t k)
  closes es own side at ended k (UdpRecord.Creating create) = k
  closes es own side at ended k (UdpRecord.Closed x) = k

  released : (es : List Entry) (own side at : OpId) (ended : End) → GivesAt es own side ended → (found : Option UdpRecord) → Allows Anything (λ fs done. After own side ended fs done) es (release_udp_at (unbeside store n) at place found)
  released es own side at ended k None = (refl, k, refl)
  released es own side at ended k (Some u) =
      allows_then Anything (λ fs done. GivesAt fs own side ended) (λ fs done. After own side ended fs done) es (close_udp_asks at u) _ (closes es own side at ended k u) (λ fs done m. ((left done.1).0, m, (left done.1).1))
    where
      left : (u : UdpRecord) → ((udp_left (unbeside store n) place u).beside ≡ beside_without store.beside n) × ((udp_left (unbeside store n) place u).standing ≡ store.standing)
      left (UdpRecord.Open o) = (refl, refl)
      left (UdpRecord.Creating create) = (refl, refl)
      left (UdpRecord.Closed x) = (refl, refl)

  drops : (es : List Entry) (own side : OpId) (ended : End) → GivesAt es own side ended → Allows Anything (λ fs done. After own side ended fs done) es (drop_datagram n place store)
  drops es own side ended k = by_held (is_udp_held (unbeside store n) place)
    where
      by_held : (held : Bool) → Allows Anything (λ fs done. After own side ended fs done) es (udp_goes (own_of n) place (unbeside store n) held)
      by_held true = (refl, k, refl)
      by_held false = released es own side (own_of n) ended k (udp2_at (unbeside store n).records place)

  -- what a poll of it gives, and leaves of its call
  abbrev pub PollsSo : OpId → List Entry → Result (Answer IncomingDatagram) BaseStop × Records → Type 0
  PollsSo side es done = (done.1.standing ≡ store.standing) × Gives es (own_of n) side done.0 (beside_in done.1.beside n)

  polled_leaves : (es : List Entry) (side : OpId) (op : Operation) → op.who.id ≡ own_of n → op.who.side ≡ side → (ended : End × List Item) → PolledOne es (own_of n) side ended
      → Allows Anything (λ fs done. PollsSo side fs done) es (polled_so received_answer n place (Receive place) op ended store)
  polled_leaves es side op id on (Waits, items) k = (refl, by_found (beside_in (beside_with store.beside n (Receive place (left_of op items))) n) refl)
    where
      by_found : (found : Option Beside) → beside_in (beside_with store.beside n (Receive place (left_of op items))) n ≡ found → FoundHolds es (own_of n) side found
      by_found None e = tt
      by_found (Some x) e = subst (CallHolds es (own_of n) side) (sym (with_at store.beside n (Receive place (left_of op items)) x e)) (id, on, k)
  polled_leaves es side op id on (Done given, items) k =
      allows_then Anything (λ fs done. After (own_of n) side (Done given) fs done) (λ fs done. PollsSo side fs done) es (drop_datagram n place store) _ (drops es (own_of n) side (Done given) (polled_at es (own_of n) side given items k))
      (λ fs done m. (m.2, given_one fs (own_of n) side given _ (ap (λ (bs : List Beside). beside_in bs n) m.0 ∙ without_at store.beside n) m.1))
  polled_leaves es side op id on (Refused c given, items) k =
      allows_then Anything (λ fs done. After (own_of n) side (Refused c given) fs done) (λ fs done. PollsSo side fs done) es (drop_datagram n place store) _ (drops es (own_of n) side (Refused c given) tt)
      (λ fs done m. (m.2, none_holds fs (own_of n) side _ (ap (λ (bs : List Beside). beside_in bs n) m.0 ∙ without_at store.beside n)))

  -- of the record at its place
  pub receive_polls_so : (side : OpId) (op : Operation) (es : List Entry) → IsOne es (own_of n) side op → FoundHolds es (own_of n) side (beside_in store.beside n) → Allows Anything (λ fs done. PollsSo side fs done) es (rereceive_of n place op store)
  receive_polls_so side op es k stands = by_record (open_at store.records place)
    where
      told : (fs : List Entry) (done : Told) → ToldOne fs (own_of n) side done.0
          → Allows Anything (λ gs left. PollsSo side gs left) fs (after_call (λ stop. stop) (λ store none. store) (λ ended. polled_so received_answer n place (Receive place) op ended) store done)
      told fs (Ok ended, none) m = polled_leaves fs side op k.id k.on ended m
      told fs (Err stop, none) m = absurd m

      by_record : (found : Option OpenUdp) → Allows Anything (λ fs done. PollsSo side fs done) es (or_trap (λ o. goes_on (polled (receive_polls o op)) (λ ended. polled_so received_answer n place (Receive place) op ended)) store found)
      by_record None = (refl, stands)
      by_record (Some o) =
          allows_then Anything (λ fs done. ToldOne fs (own_of n) side done.0) (λ fs left. PollsSo side fs left) es (asked_so (receive_polls o op) tt) _
          (polls_told op o es (own_of n) side k) told
