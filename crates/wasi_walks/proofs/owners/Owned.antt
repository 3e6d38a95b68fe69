-- What is live of each record: one handle is of it, and its streams and what watches them are under that.
use Rattle.wasi_walks.proofs.Words.{HandleTable, Input, Kind, List, None, Option, Output, Pollable, Some, Standing, StandingCall, Tcp2, Watched, ap, arith, inl, inr, kind_at, refl, slice_get, subst, sym, table_parent, true, watched_by, with_handle, without_handle, ℕ, ⊤, ◌∙◌, ◌≡◌, ◌≤◌, ◌⊎◌}
use Rattle.wasi_table.specs.Table.{Live}
use Rattle.host_store.specs.Kinds.{has_no_child}
use Rattle.host_store.specs.Machine.{first_state}
use Rattle.host_store.specs.declared.kind.Kind.TheVariants.{Incoming, Listen3, Lookup, Outgoing, PlainInput, PlainOutput, Result3, Tcp3, Udp2, Udp3}
use Rattle.wasi_records.specs.Records.{slot_at}
use Rattle.host_store.specs.declared.kind.PlainInput.TheVariants as plain_input
use Rattle.host_store.specs.declared.kind.PlainOutput.TheVariants as plain_output
use Rattle.wasi_records.specs.declared.records.Record.{Record}
use Rattle.wasi_walks.specs.Licence.{Has}
use Rattle.wasi_walks.proofs.Lists.{has_front, value_front}
use Rattle.wasi_walks.proofs.Slots.{SlotOf, has_still, has_without, is_another, new_slot, no_child, one_of, slot_of, value_of}
use Rattle.wasi_walks.proofs.walks.Moves.{Awaited, Emptied, Faulted, Freed, IsMadeUnder, IsRecord, Joined, Made, Marked, NoStartIn, NoStartStands, Numbered, P2, P3, ToListen, ToResult, ToStream, record_of, tcp_place, udp_place, udp_record_of}
use Rattle.std.specs.Prelude.{IsSome}
use Rattle.wasi_records.specs.Records.{tcp2_at}
use Rattle.wasi_walks.specs.Answered.{streams_in}
pub use Rattle.wasi_walks.proofs.owners.Kinds.{IsOf, listener_of, owner_of, stream_place}
use Rattle.wasi_walks.proofs.owners.Names.{Names, names_record, socket_in}

-- Of a pollable that watches this: its parent is a live handle of it.
pub record Above (t : HandleTable) (parent : Option ℕ) (w : Watched) : Type 0 where
  pub slot : Live Kind
  pub live_one : Has t.live slot
  pub its : parent ≡ Some slot.handle
  pub watched : watched_by (Some slot.value) ≡ Some w

-- Each record has one handle at most, its streams are under that, and a pollable is under what it watches; the records are there. A
-- record has one listener at most, and beside that no other handle than one of 0.3.
pub record Owned (t : HandleTable) (records : List Record) : Type 0 where
  pub one : (a b : Live Kind) (place : ℕ) → Has t.live a → Has t.live b → owner_of a.value ≡ Some place → owner_of b.value ≡ Some place → a ≡ b
  pub under : (a b : Live Kind) (place : ℕ) → Has t.live a → Has t.live b → stream_place a.value ≡ Some place → owner_of b.value ≡ Some place → a.parent ≡ Some b.handle
  pub there : (a : Live Kind) (place : ℕ) → Has t.live a → IsOf a.value place → Names a.value (slice_get records place)
  pub watches : (a : Live Kind) (w : Watched) → Has t.live a → a.value ≡ Pollable w → Above t a.parent w
  pub beside : (a b : Live Kind) (place : ℕ) → Has t.live a → Has t.live b → owner_of a.value ≡ Some place → listener_of b.value ≡ Some place → a.value ≡ Tcp3 place
  pub alone : (a b : Live Kind) (place : ℕ) → Has t.live a → Has t.live b → listener_of a.value ≡ Some place → listener_of b.value ≡ Some place → a.handle ≡ b.handle

-- nothing of the record is live, or but for this handle
abbrev pub NoneOf : HandleTable → ℕ → Type 0
NoneOf t place = (a : Live Kind) → Has t.live a → IsOf a.value place → ⊥

abbrev pub OneOwner : HandleTable → ℕ → ℕ → Type 0
OneOwner t handle place = (a : Live Kind) → Has t.live a → owner_of a.value ≡ Some place → a.handle ≡ handle

-- it has no listener; and nothing else of it is live
abbrev pub NoListenerOf : HandleTable → ℕ → Type 0
NoListenerOf t place = (a : Live Kind) → Has t.live a → listener_of a.value ≡ Some place → ⊥

abbrev pub NoSocketOf : HandleTable → ℕ → Type 0
NoSocketOf t place = (a : Live Kind) → Has t.live a → (owner_of a.value ≡ Some place) ⊎ (stream_place a.value ≡ Some place) → ⊥

pub none_of : (t : HandleTable) (place : ℕ) → NoSocketOf t place → NoListenerOf t place → NoneOf t place
none_of t place socket listener a l (inl e) = socket a l (inl e)
none_of t place socket listener a l (inr (inl e)) = socket a l (inr e)
none_of t place socket listener a l (inr (inr e)) = listener a l e

-- the record of which no listener is live where a handle of this kind was dropped: of a socket of 0.3 one may be
abbrev pub ends_listener : Kind → Option ℕ
ends_listener (Tcp3 place) = None
ends_listener (Listen3 place) = Some place
ends_listener kind = owner_of kind

abbrev pub EmptiedSo : HandleTable → Kind → Type 0
EmptiedSo t kind = ((place : ℕ) → owner_of kind ≡ Some place → NoSocketOf t place) × ((place : ℕ) → ends_listener kind ≡ Some place → NoListenerOf t place)

-- what is made has no handle yet, and what was dropped has none any more
abbrev pub HasSocket : List Record → ℕ → Type 0
HasSocket records place = IsSome (socket_in (tcp2_at records place))

abbrev pub HasStreams : List Record → ℕ → Type 0
HasStreams records place = IsSome (streams_in (socket_in (tcp2_at records place)))

abbrev pub HasSlot : List Record → ℕ → Type 0
HasSlot records place = IsSome (slot_at records place)

abbrev pub MadeSo : HandleTable → List Record → Made → Type 0
MadeSo t records (Joined P2 place) = NoneOf t place × HasStreams records place
MadeSo t records (Joined P3 place) = NoneOf t place × HasSocket records place
MadeSo t records (Faulted place) = NoneOf t place × HasSocket records place
MadeSo t records (Marked handle place) = OneOwner t handle place × HasStreams records place
MadeSo t records (ToListen n marks place) = NoListenerOf t place × IsMadeUnder t marks place
MadeSo t records (Emptied kind) = EmptiedSo t kind
MadeSo t records (Freed place) = NoneOf t place
MadeSo t records (Awaited face side place) = NoneOf t place
MadeSo t records (ToResult slot) = NoneOf t slot × HasSlot records slot
MadeSo t records (Numbered place next) = (next ≤ t.next) × (t.next ≡ next → NoneOf t place)
MadeSo t records (ToStream n handle place) = kind_at t handle ≡ Some (Udp2 place)
MadeSo t records _ = ⊤

-- where a listen is pending, its listener has no handle yet, and that of its socket is live; and so is that of a socket which makes streams
abbrev pub CallSo : HandleTable → StandingCall → Type 0
CallSo t (StandingCall.Listen place marks) = NoListenerOf t place × IsMadeUnder t marks place
CallSo t (StandingCall.UdpConnect place handle) = kind_at t handle ≡ Some (Udp2 place)
CallSo t _ = ⊤

abbrev pub StandsSo : HandleTable → Option Standing → Type 0
StandsSo t None = ⊤
StandsSo t (Some s) = CallSo t s.call

pub quiet_so : (t : HandleTable) (standing : Option Standing) → NoStartStands standing → StandsSo t standing
quiet_so t None q = tt
quiet_so t (Some s) q = by_call s.call q
  where
    by_call : (call : StandingCall) → NoStartIn call → CallSo t call
    by_call (StandingCall.Listen place marks) q = absurd q
    by_call (StandingCall.UdpConnect place handle) q = absurd q
    by_call _ q = tt

-- streams that were there are, and so are sockets and slots
pub made_stays : (t : HandleTable) (old now : List Record)
    → ((place : ℕ) → HasStreams old place → HasStreams now place) → ((place : ℕ) → HasSocket old place → HasSocket now place) → ((place : ℕ) → HasSlot old place → HasSlot now place) → (made : Made) → MadeSo t old made
    → MadeSo t now made
made_stays t old now s w v (Joined P2 place) k = (k.0, s place k.1)
made_stays t old now s w v (Joined P3 place) k = (k.0, w place k.1)
made_stays t old now s w v (Faulted place) k = (k.0, w place k.1)
made_stays t old now s w v (Marked handle place) k = (k.0, s place k.1)
made_stays t old now s w v (ToListen n marks place) k = k
made_stays t old now s w v (Emptied kind) k = k
made_stays t old now s w v (Freed place) k = k
made_stays t old now s w v (Awaited face side place) k = k
made_stays t old now s w v (ToResult slot) k = (k.0, v slot k.1)
made_stays t old now s w v (Numbered place next) k = k
made_stays t old now s w v (ToStream n handle place) k = k
made_stays t old now s w v _ k = tt

-- nothing is live in the first state
pub first_owned : {records : List Record} → Owned first_state.table records
first_owned = record { one = λ a b place l k d e. absurd l; under = λ a b place l k d e. absurd l; there = λ a place l e. absurd l; watches = λ a w l e. absurd l; beside = λ a b place l k d e. absurd l; alone = λ a b place l k d e. absurd l }

-- == records change
pub owned_still : (t : HandleTable) (old now : List Record) → ((a : Live Kind) (place : ℕ) → Has t.live a → IsOf a.value place → Names a.value (slice_get old place) → Names a.value (slice_get now place)) → Owned t old → Owned t now
owned_still t old now still i = record { one = i.one; under = i.under; there = λ a place l e. still a place l e (i.there a place l e); watches = i.watches; beside = i.beside; alone = i.alone }

-- == a handle is made
-- What a new handle has to be: the first of its record, a stream under that, its listener beside at most one of 0.3, or a pollable
-- under what it watches.
pub record IsNew (t : HandleTable) (records : List Record) (kind : Kind) (parent : Option ℕ) : Type 0 where
  pub owner : (place : ℕ) → owner_of kind ≡ Some place → NoneOf t place × Names kind (slice_get records place)
  pub stream : (place : ℕ) → stream_place kind ≡ Some place → ((b : Live Kind) → Has t.live b → owner_of b.value ≡ Some place → parent ≡ Some b.handle) × Names kind (slice_get records place)
  pub listener : (place : ℕ) → listener_of kind ≡ Some place → NoListenerOf t place × ((b : Live Kind) → Has t.live b → owner_of b.value ≡ Some place → b.value ≡ Tcp3 place) × Names kind (slice_get records place)
  pub watch : (w : Watched) → kind ≡ Pollable w → Above t parent w

-- a kind of handle is of a record as one or the other
pub one_way : (kind : Kind) (place other : ℕ) → stream_place kind ≡ Some place → owner_of kind ≡ Some other → ⊥
one_way (Input n) place other s o = absurd (cc)
one_way (Output n) place other s o = absurd (cc)
one_way (Incoming n) place other s o = absurd (cc)
one_way (Outgoing n) place other s o = absurd (cc)
one_way _ place other s o = absurd (cc)

pub one_role : (kind : Kind) (place other : ℕ) → listener_of kind ≡ Some place → owner_of kind ≡ Some other → ⊥
one_role (Listen3 n) place other s o = absurd (cc)
one_role _ place other s o = absurd (cc)

pub no_stream_listens : (kind : Kind) (place other : ℕ) → listener_of kind ≡ Some place → stream_place kind ≡ Some other → ⊥
no_stream_listens (Listen3 n) place other s o = absurd (cc)
no_stream_listens _ place other s o = absurd (cc)

module _ (t : HandleTable) (records : List Record) (kind : Kind) (parent : Option ℕ) where
  abbrev after : HandleTable
  after = with_handle t kind parent

  abbrev new : Live Kind
  new = new_slot t kind parent

  its_owner : (a : Live Kind) (place : ℕ) → new ≡ a → owner_of a.value ≡ Some place → owner_of kind ≡ Some place
  its_owner a place n e = ap (λ (s : Live Kind). owner_of s.value) n ∙ e

  its_stream : (a : Live Kind) (place : ℕ) → new ≡ a → stream_place a.value ≡ Some place → stream_place kind ≡ Some place
  its_stream a place n e = ap (λ (s : Live Kind). stream_place s.value) n ∙ e

  its_listener : (a : Live Kind) (place : ℕ) → new ≡ a → listener_of a.value ≡ Some place → listener_of kind ≡ Some place
  its_listener a place n e = ap (λ (s : Live Kind). listener_of s.value) n ∙ e

  module _ (fits : IsNew t records kind (table_parent kind parent)) (i : Owned t records) where
    one_now : (a b : Live Kind) (place : ℕ) → Has t.live a ⊎ (new ≡ a) → Has t.live b ⊎ (new ≡ b) → owner_of a.value ≡ Some place → owner_of b.value ≡ Some place → a ≡ b
    one_now a b place (inl l) (inl k) d e = i.one a b place l k d e
    one_now a b place (inl l) (inr n) d e = absurd ((fits.owner place (its_owner b place n e)).0 a l (inl d))
    one_now a b place (inr n) (inl k) d e = absurd ((fits.owner place (its_owner a place n d)).0 b k (inl e))
    one_now a b place (inr n) (inr m) d e = sym n ∙ m

    under_now : (a b : Live Kind) (place : ℕ) → Has t.live a ⊎ (new ≡ a) → Has t.live b ⊎ (new ≡ b) → stream_place a.value ≡ Some place → owner_of b.value ≡ Some place → a.parent ≡ Some b.handle
    under_now a b place (inl l) (inl k) d e = i.under a b place l k d e
    under_now a b place (inl l) (inr n) d e = absurd ((fits.owner place (its_owner b place n e)).0 a l (inr (inl d)))
    under_now a b place (inr n) (inl k) d e = ap (λ (s : Live Kind). s.parent) (sym n) ∙ (fits.stream place (its_stream a place n d)).0 b k e
    under_now a b place (inr n) (inr m) d e = absurd (one_way kind place place (its_stream a place n d) (its_owner b place m e))

    there_now : (a : Live Kind) (place : ℕ) → Has t.live a ⊎ (new ≡ a) → IsOf a.value place → Names a.value (slice_get records place)
    there_now a place (inl l) e = i.there a place l e
    there_now a place (inr n) (inl e) =
        subst (λ (s : Live Kind). Names s.value (slice_get records place)) n
        (fits.owner place (its_owner a place n e)).1
    there_now a place (inr n) (inr (inl e)) =
        subst (λ (s : Live Kind). Names s.value (slice_get records place)) n
        (fits.stream place (its_stream a place n e)).1
    there_now a place (inr n) (inr (inr e)) =
        subst (λ (s : Live Kind). Names s.value (slice_get records place)) n
        (fits.listener place (its_listener a place n e)).2

    beside_now : (a b : Live Kind) (place : ℕ) → Has t.live a ⊎ (new ≡ a) → Has t.live b ⊎ (new ≡ b) → owner_of a.value ≡ Some place → listener_of b.value ≡ Some place → a.value ≡ Tcp3 place
    beside_now a b place (inl l) (inl k) d e = i.beside a b place l k d e
    beside_now a b place (inl l) (inr n) d e = (fits.listener place (its_listener b place n e)).1 a l d
    beside_now a b place (inr n) (inl k) d e = absurd ((fits.owner place (its_owner a place n d)).0 b k (inr (inr e)))
    beside_now a b place (inr n) (inr m) d e = absurd (one_role kind place place (its_listener b place m e) (its_owner a place n d))

    alone_now : (a b : Live Kind) (place : ℕ) → Has t.live a ⊎ (new ≡ a) → Has t.live b ⊎ (new ≡ b) → listener_of a.value ≡ Some place → listener_of b.value ≡ Some place → a.handle ≡ b.handle
    alone_now a b place (inl l) (inl k) d e = i.alone a b place l k d e
    alone_now a b place (inl l) (inr n) d e = absurd ((fits.listener place (its_listener b place n e)).0 a l d)
    alone_now a b place (inr n) (inl k) d e = absurd ((fits.listener place (its_listener a place n d)).0 b k e)
    alone_now a b place (inr n) (inr m) d e = ap (λ (s : Live Kind). s.handle) (sym n ∙ m)

    above_still : (a : Option ℕ) (w : Watched) → Above t a w → Above after a w
    above_still a w k = record { slot = k.slot; live_one = has_front t.live _ k.slot k.live_one; its = k.its; watched = k.watched }

    watches_now : (a : Live Kind) (w : Watched) → Has t.live a ⊎ (new ≡ a) → a.value ≡ Pollable w → Above after a.parent w
    watches_now a w (inl l) e = above_still a.parent w (i.watches a w l e)
    watches_now a w (inr n) e = let k = fits.watch w (value_of t kind parent a (Pollable w) n e) in above_still a.parent w (record { slot = k.slot; live_one = k.live_one; its = ap (λ (s : Live Kind). s.parent) (sym n) ∙ k.its; watched = k.watched })

    pub made_owned : Owned after records
    made_owned = record {
      one = λ a b place l k d e. one_now a b place (one_of t kind parent a l) (one_of t kind parent b k) d e;
      under = λ a b place l k d e. under_now a b place (one_of t kind parent a l) (one_of t kind parent b k) d e;
      there = λ a place l e. there_now a place (one_of t kind parent a l) e;
      watches = λ a w l e. watches_now a w (one_of t kind parent a l) e;
      beside = λ a b place l k d e. beside_now a b place (one_of t kind parent a l) (one_of t kind parent b k) d e;
      alone = λ a b place l k d e. alone_now a b place (one_of t kind parent a l) (one_of t kind parent b k) d e;
    }

  -- what holds of none, or of one, still does
  none_still : (place : ℕ) → (IsOf kind place → ⊥) → NoneOf t place → NoneOf after place
  none_still place other none a l e = elim (one_of t kind parent a l) [ inl old ↦ none a old e | inr n ↦ other (subst (λ (s : Live Kind). IsOf s.value place) (sym n) e) ]

  pub one_still : (handle place : ℕ) → (owner_of kind ≡ Some place → ⊥) → OneOwner t handle place → OneOwner after handle place
  one_still handle place other one a l e = elim (one_of t kind parent a l) [ inl old ↦ one a old e | inr n ↦ absurd (other (its_owner a place n e)) ]

  no_socket_still : (place : ℕ) → (IsOf kind place → ⊥) → NoSocketOf t place → NoSocketOf after place
  no_socket_still place other none a l e = elim (one_of t kind parent a l) [ inl old ↦ none a old e | inr n ↦ other (subst (λ (s : Live Kind). IsOf s.value place) (sym n) (elim e [ inl o ↦ inl o | inr s ↦ inr (inl s) ])) ]

  no_listener_still : (place : ℕ) → (listener_of kind ≡ Some place → ⊥) → NoListenerOf t place → NoListenerOf after place
  no_listener_still place other none a l e = elim (one_of t kind parent a l) [ inl old ↦ none a old e | inr n ↦ other (its_listener a place n e) ]

  -- a handle that is live is so still
  under_still : (marks : Option ℕ) (place : ℕ) → IsMadeUnder t marks place → IsMadeUnder after marks place
  under_still None place k = tt
  under_still (Some handle) place k = value_front t.live new handle (Tcp3 place) k

  call_still : ((place : ℕ) → listener_of kind ≡ Some place → ⊥) → (call : StandingCall) → CallSo t call → CallSo after call
  call_still other (StandingCall.Listen place marks) k = (no_listener_still place (other place) k.0, under_still marks place k.1)
  call_still other (StandingCall.UdpConnect place handle) k = value_front t.live new handle (Udp2 place) k
  call_still other _ k = tt

  pub stands_still : ((place : ℕ) → listener_of kind ≡ Some place → ⊥) → (standing : Option Standing) → StandsSo t standing → StandsSo after standing
  stands_still other None k = tt
  stands_still other (Some s) k = call_still other s.call k

  pub numbered_still : (place next : ℕ) → MadeSo t records (Numbered place next)
      → MadeSo after records (Numbered place next)
  numbered_still place next k = let small = k.0 in (omega (arith, small), λ e. absurd (omega (arith, small, e)))

  -- whatever the line has made, where the new handle is of no record
  pub other_still : (made : Made) → ((place : ℕ) → IsOf kind place → ⊥) → MadeSo t records made
      → MadeSo after records made
  other_still (Joined P2 place) other k = (none_still place (other place) k.0, k.1)
  other_still (Joined P3 place) other k = (none_still place (other place) k.0, k.1)
  other_still (Faulted place) other k = (none_still place (other place) k.0, k.1)
  other_still (Marked handle place) other k = (one_still handle place (λ e. other place (inl e)) k.0, k.1)
  other_still (ToListen n marks place) other k = (no_listener_still place (λ e. other place (inr (inr e))) k.0, under_still marks place k.1)
  other_still (Emptied gone) other k = (λ place e. no_socket_still place (other place) (k.0 place e), λ place e. no_listener_still place (λ f. other place (inr (inr f))) (k.1 place e))
  other_still (Freed place) other k = none_still place (other place) k
  other_still (Awaited face side place) other k = none_still place (other place) k
  other_still (ToResult slot) other k = (none_still slot (other slot) k.0, k.1)
  other_still (Numbered place next) other k = numbered_still place next k
  other_still (ToStream n handle place) other k = value_front t.live new handle (Udp2 place) k
  other_still _ other k = tt

-- == a handle is taken out
ends_by : (kind : Kind) (place : ℕ) → ends_listener kind ≡ Some place → (listener_of kind ≡ Some place) ⊎ ((owner_of kind ≡ Some place) × (kind ≡ Tcp3 place → ⊥))
ends_by (Tcp3 n) place e = absurd (cc)
ends_by (Listen3 n) place e = inl e
ends_by (Tcp2 n) place e = inr (e, λ q. absurd (cc))
ends_by (Udp2 n) place e = inr (e, λ q. absurd (cc))
ends_by (Udp3 n) place e = inr (e, λ q. absurd (cc))
ends_by (Lookup n) place e = inr (e, λ q. absurd (cc))
ends_by (Result3 n) place e = inr (e, λ q. absurd (cc))
ends_by (PlainInput (plain_input.Pipe n)) place e = inr (e, λ q. absurd (cc))
ends_by (PlainOutput (plain_output.Pipe n)) place e = inr (e, λ q. absurd (cc))
ends_by _ place e = absurd (cc)

module _ (t : HandleTable) (records : List Record) (handle : ℕ) (none : has_no_child t handle ≡ true) where
  pub taken_owned : Owned t records → Owned (without_handle t handle) records
  taken_owned i = record {
    one = λ a b place l k d e. i.one a b place (has_without t.live handle a l) (has_without t.live handle b k) d e;
    under = λ a b place l k d e. i.under a b place (has_without t.live handle a l) (has_without t.live handle b k) d e;
    there = λ a place l e. i.there a place (has_without t.live handle a l) e;
    watches = λ a w l e.
        let was = has_without t.live handle a l in
        let k = i.watches a w was e in
        record { slot = k.slot; live_one = has_still t.live handle k.slot k.live_one (λ same. no_child t.live handle a was (k.its ∙ ap (λ (x : ℕ). Some x) same) none); its = k.its; watched = k.watched };
    beside = λ a b place l k d e. i.beside a b place (has_without t.live handle a l) (has_without t.live handle b k) d e;
    alone = λ a b place l k d e. i.alone a b place (has_without t.live handle a l) (has_without t.live handle b k) d e;
  }

  -- it has no child, so where it was the one of its record nothing of that is left, but for a listener of 0.3
  pub emptied_made : (kind : Kind) → kind_at t handle ≡ Some kind → Owned t records → MadeSo (without_handle t handle) records (Emptied kind)
  emptied_made kind e i = (λ place owns a l is. elim is [ inl owner ↦ no_owner place owns a l owner | inr stream ↦ no_stream place owns a l stream ], λ place ends a l is. no_listener place (ends_by kind place ends) a l is)
    where
      its : SlotOf t.live handle kind
      its = slot_of t.live handle kind e

      it_owns : (place : ℕ) → owner_of kind ≡ Some place → owner_of its.slot.value ≡ Some place
      it_owns place owns = ap owner_of its.value ∙ owns

      no_owner : (place : ℕ) → owner_of kind ≡ Some place → (a : Live Kind) → Has (without_handle t handle).live a → owner_of a.value ≡ Some place → ⊥
      no_owner place owns a l is = is_another t.live handle a l (ap (λ (s : Live Kind). s.handle) (i.one a its.slot place (has_without t.live handle a l) its.live_one is (it_owns place owns)) ∙ its.its)

      no_stream : (place : ℕ) → owner_of kind ≡ Some place → (a : Live Kind) → Has (without_handle t handle).live a → stream_place a.value ≡ Some place → ⊥
      no_stream place owns a l is =
          let was = has_without t.live handle a l in
          no_child t.live handle a was (i.under a its.slot place was its.live_one is (it_owns place owns) ∙ ap (λ (x : ℕ). Some x) its.its) none

      no_listener : (place : ℕ) → (listener_of kind ≡ Some place) ⊎ ((owner_of kind ≡ Some place) × (kind ≡ Tcp3 place → ⊥)) → (a : Live Kind) → Has (without_handle t handle).live a → listener_of a.value ≡ Some place → ⊥
      no_listener place (inl listens) a l is = is_another t.live handle a l (i.alone a its.slot place (has_without t.live handle a l) its.live_one is (ap listener_of its.value ∙ listens) ∙ its.its)
      no_listener place (inr owns) a l is = owns.1 (sym its.value ∙ i.beside its.slot a place its.live_one (has_without t.live handle a l) (it_owns place owns.0) is)

-- == of a live handle
-- a handle of what is watched is a parent
pub parent_of : (t : HandleTable) (handle : ℕ) (w : Watched) → watched_by (kind_at t handle) ≡ Some w → Above t (Some handle) w
parent_of t handle w by = by_kind (kind_at t handle) refl by
  where
    by_kind : (o : Option Kind) → kind_at t handle ≡ o → watched_by o ≡ Some w → Above t (Some handle) w
    by_kind None e is = absurd (cc)
    by_kind (Some kind) e is = let s = slot_of t.live handle kind e in record { slot = s.slot; live_one = s.live_one; its = ap (λ (x : ℕ). Some x) (sym s.its); watched = ap (λ (k : Kind). watched_by (Some k)) s.value ∙ is }

-- the record that is watched
abbrev pub watched_place : Watched → Option ℕ
watched_place (Watched.Socket place) = Some place
watched_place (Watched.Input place) = Some place
watched_place (Watched.Output place) = Some place
watched_place (Watched.Udp place) = Some place
watched_place (Watched.Incoming place) = Some place
watched_place (Watched.Outgoing place) = Some place
watched_place (Watched.Lookup place) = Some place
watched_place Watched.Plain = None

-- the record that a handle names
abbrev pub named_by : Kind → Option ℕ
named_by (Tcp2 place) = Some place
named_by (Tcp3 place) = Some place
named_by (Listen3 place) = Some place
named_by (Udp2 place) = Some place
named_by (Udp3 place) = Some place
named_by (Lookup place) = Some place
named_by (PlainInput (plain_input.Pipe place)) = Some place
named_by (PlainOutput (plain_output.Pipe place)) = Some place
named_by (Input place) = Some place
named_by (Output place) = Some place
named_by (Incoming place) = Some place
named_by (Outgoing place) = Some place
named_by (Pollable w) = watched_place w
named_by _ = None

pub watched_is_of : (kind : Kind) (w : Watched) (place : ℕ) → watched_by (Some kind) ≡ Some w → watched_place w ≡ Some place → IsOf kind place
watched_is_of (Tcp2 n) w place e f = let p : Watched.Socket n ≡ w = cc in inl (ap watched_place p ∙ f)
watched_is_of (Tcp3 n) w place e f = absurd (cc)
watched_is_of (Listen3 n) w place e f = absurd (cc)
watched_is_of (Udp2 n) w place e f = let p : Watched.Udp n ≡ w = cc in inl (ap watched_place p ∙ f)
watched_is_of (Udp3 n) w place e f = absurd (cc)
watched_is_of (Lookup n) w place e f = let p : Watched.Lookup n ≡ w = cc in inl (ap watched_place p ∙ f)
watched_is_of (Input n) w place e f = let p : Watched.Input n ≡ w = cc in inr (inl (ap watched_place p ∙ f))
watched_is_of (Output n) w place e f = let p : Watched.Output n ≡ w = cc in inr (inl (ap watched_place p ∙ f))
watched_is_of (Incoming n) w place e f = let p : Watched.Incoming n ≡ w = cc in inr (inl (ap watched_place p ∙ f))
watched_is_of (Outgoing n) w place e f = let p : Watched.Outgoing n ≡ w = cc in inr (inl (ap watched_place p ∙ f))
watched_is_of (PlainInput n) w place e f = absurd (let p : Watched.Plain ≡ w = cc in let none : None ≡ Some place = ap watched_place p ∙ f in cc)
watched_is_of (PlainOutput n) w place e f = absurd (let p : Watched.Plain ≡ w = cc in let none : None ≡ Some place = ap watched_place p ∙ f in cc)
watched_is_of _ w place e f = absurd (cc)

module _ (t : HandleTable) (records : List Record) (i : Owned t records) where
  -- what names the record is of it, or watches what is
  pub names_live : (handle place : ℕ) (kind : Kind) → kind_at t handle ≡ Some kind → named_by kind ≡ Some place → (a : Live Kind) × (Has t.live a × IsOf a.value place)
  names_live handle place kind e named = let s = slot_of t.live handle kind e in by_kind kind s named
    where
      by_kind : (k : Kind) → SlotOf t.live handle k → named_by k ≡ Some place → (a : Live Kind) × (Has t.live a × IsOf a.value place)
      by_kind (Pollable w) s n = let k = i.watches s.slot w s.live_one s.value in (k.slot, (k.live_one, watched_is_of k.slot.value w place k.watched n))
      by_kind (Tcp2 p) s n = (s.slot, (s.live_one, inl (ap owner_of s.value ∙ n)))
      by_kind (Tcp3 p) s n = (s.slot, (s.live_one, inl (ap owner_of s.value ∙ n)))
      by_kind (Listen3 p) s n = (s.slot, (s.live_one, inr (inr (ap listener_of s.value ∙ n))))
      by_kind (Udp2 p) s n = (s.slot, (s.live_one, inl (ap owner_of s.value ∙ n)))
      by_kind (Udp3 p) s n = (s.slot, (s.live_one, inl (ap owner_of s.value ∙ n)))
      by_kind (Lookup p) s n = (s.slot, (s.live_one, inl (ap owner_of s.value ∙ n)))
      by_kind (PlainInput (plain_input.Pipe p)) s n = (s.slot, (s.live_one, inl (ap owner_of s.value ∙ n)))
      by_kind (PlainOutput (plain_output.Pipe p)) s n = (s.slot, (s.live_one, inl (ap owner_of s.value ∙ n)))
      by_kind (Input p) s n = (s.slot, (s.live_one, inr (inl (ap stream_place s.value ∙ n))))
      by_kind (Output p) s n = (s.slot, (s.live_one, inr (inl (ap stream_place s.value ∙ n))))
      by_kind (Incoming p) s n = (s.slot, (s.live_one, inr (inl (ap stream_place s.value ∙ n))))
      by_kind (Outgoing p) s n = (s.slot, (s.live_one, inr (inl (ap stream_place s.value ∙ n))))
      by_kind _ s n = absurd (cc)

  -- so the record of each live handle is there
  pub named_record : (handle place : ℕ) (kind : Kind) → kind_at t handle ≡ Some kind → named_by kind ≡ Some place → IsRecord (slice_get records place)
  named_record handle place kind e named = let k = names_live handle place kind e named in names_record k.0.value place (slice_get records place) k.1.1 (i.there k.0 place k.1.0 k.1.1)

  -- and is what the handle needs
  pub named_there : (handle place : ℕ) (kind : Kind) → kind_at t handle ≡ Some kind → IsOf kind place → Names kind (slice_get records place)
  named_there handle place kind e its =
      let s = slot_of t.live handle kind e in subst (λ (k : Kind). Names k (slice_get records place)) s.value
      (i.there s.slot place s.live_one (subst (λ (k : Kind). IsOf k place) (sym s.value) its))

  -- and where nothing is of it nothing names it
  pub none_named : (place : ℕ) → NoneOf t place → (handle : ℕ) (kind : Kind) → kind_at t handle ≡ Some kind → named_by kind ≡ Some place → ⊥
  none_named place none handle kind e named = let k = names_live handle place kind e named in none k.0 k.1.0 k.1.1

-- a handle that is of a socket names its record
pub tcp_names : (kind : Kind) (place : ℕ) → record_of (Some kind) ≡ Some place → named_by kind ≡ Some place
tcp_names (Tcp2 n) place e = e
tcp_names (Tcp3 n) place e = e
tcp_names (Listen3 n) place e = e
tcp_names (Input n) place e = e
tcp_names (Output n) place e = e
tcp_names (Pollable w) place e = by_watched w e
  where
    by_watched : (x : Watched) → tcp_place x ≡ Some place → watched_place x ≡ Some place
    by_watched (Watched.Socket n) f = f
    by_watched (Watched.Input n) f = f
    by_watched (Watched.Output n) f = f
    by_watched _ f = absurd (cc)
tcp_names _ place e = absurd (cc)

pub udp_names : (kind : Kind) (place : ℕ) → udp_record_of (Some kind) ≡ Some place → named_by kind ≡ Some place
udp_names (Udp2 n) place e = e
udp_names (Udp3 n) place e = e
udp_names (Incoming n) place e = e
udp_names (Outgoing n) place e = e
udp_names (Pollable w) place e = by_watched w e
  where
    by_watched : (x : Watched) → udp_place x ≡ Some place → watched_place x ≡ Some place
    by_watched (Watched.Udp n) f = f
    by_watched (Watched.Incoming n) f = f
    by_watched (Watched.Outgoing n) f = f
    by_watched _ f = absurd (cc)
udp_names _ place e = absurd (cc)
