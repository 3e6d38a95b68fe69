-- The handles of incoming datagram streams: what is live has its stream in the record of an open UDP socket, and no other handle of
-- that record is one. While a line makes the streams of a socket, or a pending call is to, none of them has its handle. It is kept where
-- records change, and where handles are made and taken out.
use Rattle.wasi_causes.proofs.Words.{End, Err, ErrorCode, HandleTable, Item, Kind, List, None, Ok, Operation, Option, Result, Some, Standing, StandingCall, TcpRecord}
use Rattle.wasi_causes.proofs.Words.{ap, inl, inr, is_some, kind_at, refl, subst, sym, true, false, with_handle, without_handle, ℕ, ⊤, ◌∙◌, ◌≡◌, ◌⊎◌}
use Rattle.wasi_table.specs.Table.{Live}
use Rattle.wasi_udp.specs.Create.{Create}
use Rattle.wasi_world.specs.Operation.{Done, Refused, Waits}
use Rattle.udp_records.specs.Datagrams.{has_streams, udp_connect_left, udp_reconnect_left}
use Rattle.host_store.specs.Kinds.{udp_kind, udp_of}
use Rattle.wasi_records.specs.Records.{tcp2_pushed, udp2_at, udp2_put}
use Rattle.udp_records.specs.declared.datagrams.Incoming.{Incoming as IncomingStream}
use Rattle.host_store.specs.declared.kind.Kind.TheVariants.{Incoming}
use Rattle.lookup_records.specs.declared.name_lookup.LookupOp.{LookupOp}
use Rattle.wasi_records.specs.declared.records.Record.{Record}
use Rattle.udp_records.specs.declared.udp.OpenUdp.{OpenUdp}
use Rattle.udp_records.specs.declared.udp.UdpRecord.{UdpRecord}
use Rattle.wasi_walks.specs.Licence.{Has}
use Rattle.wasi_walks.proofs.received.Handles.{MakesUnder, Under, makes_more, under_so}
use Rattle.wasi_walks.proofs.walks.Moves.{Interface, P2, P3, tcp_kind, Found, FoundUdp, NoStartIn, NoStartStands, HasNewStream, Here, Made, MarksNext, SameSockets, ToSend, put, put_udp, udp_begun}
use Rattle.wasi_causes.proofs.Slots.{SlotOf, has_without, is_another, new_slot, one_of, slot_of, value_of}
use Rattle.wasi_walks.proofs.Places.{push_still, put_stays, put_still, tcp_sort, udp_sort}

-- == what is live
-- The record is that of an open UDP socket, whose incoming stream is there.
pub record HasIncoming (records : List Record) (place : ℕ) : Type 0 where
  pub socket : OpenUdp
  pub at : udp2_at records place ≡ Some (UdpRecord.Open socket)
  pub stream : IncomingStream
  pub has : socket.incoming ≡ Some stream

-- A live incoming stream is there, and is one of its own.
pub record StreamsLive (t : HandleTable) (records : List Record) : Type 0 where
  pub there : (a : Live Kind) (place : ℕ) → Has t.live a → a.value ≡ Incoming place → HasIncoming records place
  pub single : (a b : Live Kind) (place : ℕ) → Has t.live a → Has t.live b → a.value ≡ Incoming place → b.value ≡ Incoming place → a.handle ≡ b.handle

-- no incoming stream of the record is live
abbrev pub NoIncoming : HandleTable → ℕ → Type 0
NoIncoming t place = (a : Live Kind) → Has t.live a → a.value ≡ Incoming place → ⊥

-- streams that are made have no handle yet, and one that is dropped has none any more
abbrev pub MadeSo : HandleTable → Made → Type 0
MadeSo t (Made.ToStream n handle place) = NoIncoming t place
MadeSo t (Made.Emptied (Incoming place)) = NoIncoming t place
MadeSo t _ = ⊤

abbrev pub CallSo : HandleTable → StandingCall → Type 0
CallSo t (StandingCall.UdpConnect place handle) = NoIncoming t place
CallSo t _ = ⊤

abbrev pub StandsSo : HandleTable → Option Standing → Type 0
StandsSo t None = ⊤
StandsSo t (Some s) = CallSo t s.call

-- All of this.
pub record Streams (t : HandleTable) (records : List Record) (made : Made) (standing : Option Standing) : Type 0 where
  pub apart : StreamsLive t records
  pub makes : MadeSo t made
  pub stands : StandsSo t standing

abbrev pub Parts : Here → Type 0
Parts h = Streams h.machine.table h.machine.store.records h.made h.machine.store.standing

abbrev pub Both : Here → Type 0
Both h = Parts h × Under h

-- == records change
-- what is there has its stream
pub some_is : {A : Type 0} (o : Option A) → is_some o ≡ true → (x : A) × (o ≡ Some x)
some_is None e = absurd (cc)
some_is (Some x) e = (x, refl)

abbrev pub Stays : HandleTable → List Record → List Record → Type 0
Stays t old now = (a : Live Kind) (place : ℕ) → Has t.live a → a.value ≡ Incoming place → HasIncoming old place → HasIncoming now place

pub stay : (t : HandleTable) (old now : List Record) (made : Made) (standing : Option Standing) → Stays t old now → Streams t old made standing → Streams t now made standing
stay t old now made standing still i = record { apart = record { there = λ a k l e. still a k l e (i.apart.there a k l e); single = i.apart.single }; makes = i.makes; stands = i.stands }

-- with something else made
pub remade : (t : HandleTable) (records : List Record) (was made : Made) (standing : Option Standing) → MadeSo t made → Streams t records was standing → Streams t records made standing
remade t records was made standing so i = record { apart = i.apart; makes = so; stands = i.stands }

-- and another call pending
pub restood : (t : HandleTable) (records : List Record) (made : Made) (was standing : Option Standing) → StandsSo t standing → Streams t records made was → Streams t records made standing
restood t records made was standing so i = record { apart = i.apart; makes = i.makes; stands = so }

pub put_tcp : (h : Here) (place : ℕ) (r : TcpRecord) → Found h place r → (now : TcpRecord) → Parts h → Parts (put h place now)
put_tcp h place r g now i = stay h.machine.table _ _ h.made h.machine.store.standing (λ a k l e has. record { socket = has.socket; at = put_still tcp_sort udp_sort (λ t. refl) h.machine.store.records place r now k _ g has.at; stream = has.stream; has = has.has }) i

pub push_tcp : (t : HandleTable) (records : List Record) (new : TcpRecord) (made : Made) (standing : Option Standing) → Streams t records made standing → Streams t (tcp2_pushed records new) made standing
push_tcp t records new made standing i = stay t _ _ made standing (λ a k l e has. record { socket = has.socket; at = push_still tcp_sort udp_sort records new k _ has.at; stream = has.stream; has = has.has }) i

-- where a stream of it is live, the record keeps that
module _ (h : Here) (place : ℕ) (now : UdpRecord) where
  abbrev Keeps : Type 0
  Keeps = (a : Live Kind) → Has h.machine.table.live a → a.value ≡ Incoming place → HasIncoming h.machine.store.records place → (o : OpenUdp) × ((now ≡ UdpRecord.Open o) × (is_some o.incoming ≡ true))

  put_by : Keeps → Parts h → Parts (put_udp h place now)
  put_by keeps i = stay h.machine.table _ _ h.made h.machine.store.standing still i
    where
      still : Stays h.machine.table h.machine.store.records (udp2_put h.machine.store.records place now)
      still a k l e has = elim (put_stays udp_sort h.machine.store.records place now k (UdpRecord.Open has.socket) has.at) [
        | inl same ↦ record { socket = has.socket; at = same; stream = has.stream; has = has.has }
        | inr its ↦ (let q = keeps a l (subst (λ (x : ℕ). a.value ≡ Incoming x) its.0 e) (subst (HasIncoming h.machine.store.records) its.0 has) in let s = some_is q.0.incoming q.1.1 in record { socket = q.0; at = its.1 ∙ ap (λ (u : UdpRecord). Some u) q.1.0; stream = s.0; has = s.1 })
      ]

  -- none of it is live
  pub put_none : NoIncoming h.machine.table place → Parts h → Parts (put_udp h place now)
  put_none none i = put_by (λ a l e has. absurd (none a l e)) i

pub put_open : (h : Here) (place : ℕ) (o now : OpenUdp) → FoundUdp h place (UdpRecord.Open o) → (is_some o.incoming ≡ true → is_some now.incoming ≡ true) → Parts h → Parts (put_udp h place (UdpRecord.Open now))
put_open h place o now g keeps i =
    put_by h place (UdpRecord.Open now)
    (λ a l e has. (now, (refl, keeps (let same : has.socket ≡ o = (let at = has.at in cc) in ap (λ (x : OpenUdp). is_some x.incoming) (sym same) ∙ ap (λ x. is_some x) has.has)))) i

pub changed : (h : Here) (place : ℕ) (o now : OpenUdp) → FoundUdp h place (UdpRecord.Open o) → (is_some o.incoming ≡ true → is_some now.incoming ≡ true) ⊎ (h.made ≡ Made.Emptied (Incoming place)) → Parts h → Parts (put_udp h place (UdpRecord.Open now))
changed h place o now g k i = elim k [ inl keeps ↦ put_open h place o now g keeps i | inr gone ↦ put_none h place (UdpRecord.Open now) (subst (MadeSo h.machine.table) gone i.makes) i ]

-- no stream of a create is live, nor of a socket that has none
pub not_yet : (h : Here) (place : ℕ) (create : Create) → FoundUdp h place (UdpRecord.Creating create) → Parts h → NoIncoming h.machine.table place
not_yet h place create g i a l e = let has = i.apart.there a place l e in let at = has.at in absurd (cc)

pub has_none : (h : Here) (place : ℕ) (o : OpenUdp) → FoundUdp h place (UdpRecord.Open o) → has_streams o ≡ false → Parts h → NoIncoming h.machine.table place
has_none h place o g none i a l e =
    let has = i.apart.there a place l e in
    let same : has.socket ≡ o = (let at = has.at in cc) in
    let some : o.incoming ≡ Some has.stream = subst (λ (x : OpenUdp). x.incoming ≡ Some has.stream) same has.has in
    let its : has_streams o ≡ true = rw some refl in
    absurd (cc)

pub begun : (h : Here) (made : Result Create ErrorCode) → Parts h → Parts (udp_begun h made)
begun h (Ok create) i = stay h.machine.table _ _ h.made h.machine.store.standing (λ a k l e has. record { socket = has.socket; at = push_still udp_sort udp_sort h.machine.store.records (UdpRecord.Creating create) k _ has.at; stream = has.stream; has = has.has }) i
begun h (Err c) i = i

-- other lookups, whichever
pub found : {new : LookupOp → Type 0} (h : Here) (records : List Record) → SameSockets new h.machine.store.records records → Parts h → Streams h.machine.table records h.made h.machine.store.standing
found h records same i = stay h.machine.table _ _ h.made h.machine.store.standing (λ a k l e has. record { socket = has.socket; at = same.udp k ∙ has.at; stream = has.stream; has = has.has }) i

-- a poll of a connect keeps a stream
pub connect_keeps : (op : Operation) (o : OpenUdp) (end : End × List Item) → is_some o.incoming ≡ true → is_some (udp_connect_left op o end).incoming ≡ true
connect_keeps op o (Waits, items) e = e
connect_keeps op o (Done given, items) e = refl
connect_keeps op o (Refused c given, items) e = e

pub reconnect_keeps : (op : Operation) (o : OpenUdp) (end : End × List Item) → is_some o.incoming ≡ true → is_some (udp_reconnect_left op o end).incoming ≡ true
reconnect_keeps op o (Waits, items) e = e
reconnect_keeps op o (Done given, items) e = e
reconnect_keeps op o (Refused c given, items) e = e

-- == a handle is made
-- any kind but that of an incoming stream
abbrev pub IsOther : Kind → Type 0
IsOther (Incoming place) = ⊥
IsOther _ = ⊤

-- a TCP socket's, of either interface
pub tcp_other : (face : Interface) (place : ℕ) → IsOther (tcp_kind face place)
tcp_other P2 place = tt
tcp_other P3 place = tt

-- and a UDP socket's
pub udp_other : (face : Interface) (place : ℕ) → IsOther (udp_kind face place)
udp_other P2 place = tt
udp_other P3 place = tt

module _ (t : HandleTable) (kind : Kind) (parent : Option ℕ) where
  abbrev after : HandleTable
  after = with_handle t kind parent

  -- of another kind
  module _ (other : IsOther kind) where
    was_live : (a : Live Kind) (place : ℕ) → Has after.live a → a.value ≡ Incoming place → Has t.live a
    was_live a place l e = elim (one_of t kind parent a l) [ inl was ↦ was | inr n ↦ absurd (subst IsOther (value_of t kind parent a (Incoming place) n e) other) ]

    none_still : (place : ℕ) → NoIncoming t place → NoIncoming after place
    none_still place none a l e = none a (was_live a place l e) e

    makes_still : (made : Made) → MadeSo t made → MadeSo after made
    makes_still (Made.ToStream n handle place) k = none_still place k
    makes_still (Made.Emptied (Incoming place)) k = none_still place k
    makes_still _ k = tt

    call_still : (call : StandingCall) → CallSo t call → CallSo after call
    call_still (StandingCall.UdpConnect place handle) k = none_still place k
    call_still _ k = tt

    stands_still : (standing : Option Standing) → StandsSo t standing → StandsSo after standing
    stands_still None k = tt
    stands_still (Some s) k = call_still s.call k

    made_other : (records : List Record) (was made : Made) (standing : Option Standing) → MadeSo after made → Streams t records was standing → Streams after records made standing
    made_other records was made standing so i = record {
      apart = record { there = λ a k l e. i.apart.there a k (was_live a k l e) e; single = λ a b k l m d e. i.apart.single a b k (was_live a k l d) (was_live b k m e) d e };
      makes = so;
      stands = stands_still standing i.stands;
    }

-- the first handle of a stream that is there, where no start is pending
module _ (t : HandleTable) (place : ℕ) (parent : Option ℕ) (none : NoIncoming t place) where
  abbrev more : HandleTable
  more = with_handle t (Incoming place) parent

  its_place : (a : Live Kind) (k : ℕ) → new_slot t (Incoming place) parent ≡ a → a.value ≡ Incoming k → place ≡ k
  its_place a k n e = let p : Incoming place ≡ Incoming k = value_of t (Incoming place) parent a (Incoming k) n e in cc

  single_now : (records : List Record) → StreamsLive t records → (a b : Live Kind) (k : ℕ) → Has t.live a ⊎ (new_slot t (Incoming place) parent ≡ a) → Has t.live b ⊎ (new_slot t (Incoming place) parent ≡ b) → a.value ≡ Incoming k → b.value ≡ Incoming k → a.handle ≡ b.handle
  single_now records i a b k (inl l) (inl m) d e = i.single a b k l m d e
  single_now records i a b k (inl l) (inr m) d e = absurd (none a l (d ∙ ap (λ (x : ℕ). Incoming x) (sym (its_place b k m e))))
  single_now records i a b k (inr l) (inl m) d e = absurd (none b m (e ∙ ap (λ (x : ℕ). Incoming x) (sym (its_place a k l d))))
  single_now records i a b k (inr l) (inr m) d e = ap (λ (s : Live Kind). s.handle) (sym l ∙ m)

  made_new : (records : List Record) → HasIncoming records place → StreamsLive t records → StreamsLive more records
  made_new records has i = record {
    there = λ a k l e. elim (one_of t (Incoming place) parent a l) [ inl was ↦ i.there a k was e | inr n ↦ subst (HasIncoming records) (its_place a k n e) has ];
    single = λ a b k l m d e. single_now records i a b k (one_of t (Incoming place) parent a l) (one_of t (Incoming place) parent b m) d e;
  }

abbrev pub with_one : Here → Kind → Option ℕ → Made → Here
with_one h kind parent made = record h { machine = record h.machine { table = with_handle h.machine.table kind parent }; made = made }

module _ (h : Here) (kind : Kind) (parent : Option ℕ) where
  abbrev fuller : HandleTable
  fuller = with_handle h.machine.table kind parent

  -- with what the line has made afterwards
  pub has_handle : (made : Made) → IsOther kind → MadeSo fuller made → MakesUnder fuller made → Both h
      → Both (with_one h kind parent made)
  has_handle made other so under i = (
    made_other h.machine.table kind parent other h.machine.store.records h.made made h.machine.store.standing so i.0,
    under_so h.machine.table kind parent made h.machine.store.standing i.1.older under i.1.stands,
  )

  pub has_other : IsOther kind → Both h → Both (with_one h kind parent h.made)
  has_other other i = has_handle h.made other (makes_still h.machine.table kind parent other h.made i.0.makes) (makes_more h.machine.table kind parent h.made i.1.makes) i

-- that of a new stream, which the handle is of
no_start : (t : HandleTable) (standing : Option Standing) → NoStartStands standing → StandsSo t standing
no_start t None q = tt
no_start t (Some s) q = by_call s.call q
  where
    by_call : (call : StandingCall) → NoStartIn call → CallSo t call
    by_call (StandingCall.UdpConnect place handle) q = absurd q
    by_call _ q = tt

module _ (h : Here) (n handle reached : ℕ) (new : HasNewStream h.machine.store reached) where
  has_new : NoIncoming h.machine.table reached → Both h
      → Both (with_one h (Incoming reached) (Some handle) (ToSend n handle reached))
  has_new none i = (
    record {
      apart = made_new h.machine.table reached (Some handle) none h.machine.store.records (record { socket = new.socket; at = new.at; stream = _; has = new.new }) i.0.apart;
      makes = tt;
      stands = no_start (with_handle h.machine.table (Incoming reached) (Some handle)) h.machine.store.standing new.quiet;
    },
    under_so h.machine.table (Incoming reached) (Some handle) (ToSend n handle reached) h.machine.store.standing i.1.older tt i.1.stands,
  )

  pub has_next : (place : ℕ) (kind : Kind) → MarksNext h.made n handle reached kind place
      → udp_of (kind_at h.machine.table handle) ≡ Some place
      → Both h → Both (with_one h kind (Some handle) (ToSend n handle reached))
  has_next place kind (inl (e, made)) of i =
      let same : place ≡ reached = (subst (MakesUnder h.machine.table) made i.1.makes).of place of in
      let its : kind ≡ Incoming reached = e ∙ ap (λ (x : ℕ). Incoming x) same in
      subst (λ (k : Kind). Both (with_one h k (Some handle) (ToSend n handle reached))) (sym its)
      (has_new (subst (MadeSo h.machine.table) made i.0.makes) i)
  has_next place kind (inr (e, made)) of i =
      has_handle h kind (Some handle) (ToSend n handle reached) (subst IsOther (sym e) tt) tt tt i

-- == a handle is taken out
module _ (t : HandleTable) (records : List Record) (handle : ℕ) where
  none_left : (place : ℕ) → NoIncoming t place → NoIncoming (without_handle t handle) place
  none_left place none a l e = none a (has_without t.live handle a l) e

  pub makes_left : (made : Made) → MadeSo t made → MadeSo (without_handle t handle) made
  makes_left (Made.ToStream n socket place) k = none_left place k
  makes_left (Made.Emptied (Incoming place)) k = none_left place k
  makes_left _ k = tt

  call_left : (call : StandingCall) → CallSo t call → CallSo (without_handle t handle) call
  call_left (StandingCall.UdpConnect place socket) k = none_left place k
  call_left _ k = tt

  stands_left : (standing : Option Standing) → StandsSo t standing → StandsSo (without_handle t handle) standing
  stands_left None k = tt
  stands_left (Some s) k = call_left s.call k

  pub taken : (was made : Made) (standing : Option Standing) → MadeSo (without_handle t handle) made → Streams t records was standing → Streams (without_handle t handle) records made standing
  taken was made standing so i = record {
    apart = record { there = λ a k l e. i.apart.there a k (has_without t.live handle a l) e; single = λ a b k l m d e. i.apart.single a b k (has_without t.live handle a l) (has_without t.live handle b m) d e };
    makes = so;
    stands = stands_left standing i.stands;
  }

  -- where it was a stream's, that has none any more
  pub emptied : (kind : Kind) → kind_at t handle ≡ Some kind → StreamsLive t records → MadeSo (without_handle t handle) (Made.Emptied kind)
  emptied (Incoming place) e i = λ a l is.
      let its : SlotOf t.live handle (Incoming place) = slot_of t.live handle (Incoming place) e in
      is_another t.live handle a l (i.single a its.slot place (has_without t.live handle a l) its.live_one is its.value ∙ its.its)
  emptied _ e i = tt
