-- What a new handle of each kind has to be, and a record that changes plainly.
use Rattle.wasi_walks.proofs.Words.{Has, Listening, StandingCall, false, true, End, ErrorValue, HandleTable, Item, Kind, List, Network, None, Operation, Option, Pollable, Some, GuestCall, Step, TcpRecord, Watched}
use Rattle.wasi_walks.proofs.Words.{ap, inl, inr, kind_at, refl, slice_get, subst, sym, table_parent, with_handle, ℕ, ⊤, ◌∙◌, ◌≡◌, ◌⊎◌}
use Rattle.wasi_table.specs.Table.{Live}
use Rattle.host_store.specs.Kinds.{udp_of}
use Rattle.wasi_records.specs.Records.{tcp2_at, udp2_of}
use Rattle.host_store.specs.declared.kind.Kind.TheVariants.{Send3, Receive3, Listen3, PlainInput, PlainOutput, Tcp3, Udp2}
use Rattle.host_store.specs.declared.kind.PlainInput.TheVariants as plain_input
use Rattle.host_store.specs.declared.kind.PlainOutput.TheVariants as plain_output
use Rattle.wasi_records.specs.declared.records.Record.{Record}
use Rattle.udp_records.specs.declared.udp.UdpRecord.{UdpRecord}
use Rattle.wasi_walks.proofs.Slots.{SlotOf, slot_of}
use Rattle.wasi_walks.proofs.Words.{Done, Refused, Waits}
use Rattle.wasi_walks.proofs.walks.Moves as walk
use Rattle.wasi_walks.proofs.walks.Moves.{ToResult, TakesHalf, Interface, P2, P3, tcp_kind, ToListen, ListenerGoes, Emptied, Faulted, Freed, Found, FoundUdp, Held, Here, IsLeft, IsMadeUnder, IsNumbered, IsOpenUdp, Joined, Made, MakesPlain, Marked, Marks, Move, Numbered, Past, GoesOn, Plain, SameSockets, ToSend, accepting_now, faulted, joined, joined_plain, joins_as, made_so, one_stream, put, put_udp, udp_begun, with_records, without_record}
use Rattle.std.specs.Prelude.{Bool, IsSome, is_some}
use Rattle.tcp_records.specs.Holding.{has_listener}
use Rattle.udp_records.specs.Udp.{open_of}
use Rattle.wasi_walks.proofs.owners.Names.{KeepsHeld, Names, held_udp, listens_in, unless_gone}
use Rattle.wasi_walks.proofs.owners.Owned.{Above, IsOf, NoneOf, OneOwner, one_way, owner_of, stream_place, IsNew, MadeSo, Owned, numbered_still, other_still, NoListenerOf, CallSo, one_role, no_stream_listens, listener_of}
use Rattle.wasi_walks.proofs.owners.Records.{Owns, put_dropped, put_owns}
use Rattle.wasi_steps.specs.declared.guest_call.PipeCall.{PipeCall}

-- == a handle is made
-- a handle of no record, which is no pollable
abbrev pub IsOther : Kind → Type 0
IsOther Network = ⊤
IsOther ErrorValue = ⊤
IsOther (Receive3 end) = ⊤
IsOther (Send3 end) = ⊤
IsOther (PlainInput plain_input.Closed) = ⊤
IsOther (PlainOutput plain_output.Sink) = ⊤
IsOther (PlainOutput plain_output.Closed) = ⊤
IsOther _ = ⊥

pub other_fits : (t : HandleTable) (records : List Record) (kind : Kind) (parent : Option ℕ) → IsOther kind → IsNew t records kind parent
other_fits t records Network parent other = record { owner = λ place e. absurd (cc); stream = λ place e. absurd (cc); listener = λ place e. absurd (cc); watch = λ w e. absurd (cc) }
other_fits t records ErrorValue parent other = record { owner = λ place e. absurd (cc); stream = λ place e. absurd (cc); listener = λ place e. absurd (cc); watch = λ w e. absurd (cc) }
other_fits t records (PlainInput plain_input.Closed) parent other = record { owner = λ place e. absurd (cc); stream = λ place e. absurd (cc); listener = λ place e. absurd (cc); watch = λ w e. absurd (cc) }
other_fits t records (PlainOutput plain_output.Sink) parent other = record { owner = λ place e. absurd (cc); stream = λ place e. absurd (cc); listener = λ place e. absurd (cc); watch = λ w e. absurd (cc) }
other_fits t records (PlainOutput plain_output.Closed) parent other = record { owner = λ place e. absurd (cc); stream = λ place e. absurd (cc); listener = λ place e. absurd (cc); watch = λ w e. absurd (cc) }
other_fits t records (Receive3 end) parent other = record { owner = λ place e. absurd (cc); stream = λ place e. absurd (cc); listener = λ place e. absurd (cc); watch = λ w e. absurd (cc) }
other_fits t records (Send3 end) parent other = record { owner = λ place e. absurd (cc); stream = λ place e. absurd (cc); listener = λ place e. absurd (cc); watch = λ w e. absurd (cc) }
other_fits t records _ parent other = absurd other

pub no_record : (kind : Kind) (place : ℕ) → IsOther kind → IsOf kind place → ⊥
no_record Network place other (inl e) = absurd (cc)
no_record Network place other (inr (inl e)) = absurd (cc)
no_record Network place other (inr (inr e)) = absurd (cc)
no_record ErrorValue place other (inl e) = absurd (cc)
no_record ErrorValue place other (inr (inl e)) = absurd (cc)
no_record ErrorValue place other (inr (inr e)) = absurd (cc)
no_record (PlainInput plain_input.Closed) place other (inl e) = absurd (cc)
no_record (PlainInput plain_input.Closed) place other (inr (inl e)) = absurd (cc)
no_record (PlainInput plain_input.Closed) place other (inr (inr e)) = absurd (cc)
no_record (PlainOutput plain_output.Sink) place other (inl e) = absurd (cc)
no_record (PlainOutput plain_output.Sink) place other (inr (inl e)) = absurd (cc)
no_record (PlainOutput plain_output.Sink) place other (inr (inr e)) = absurd (cc)
no_record (PlainOutput plain_output.Closed) place other (inl e) = absurd (cc)
no_record (PlainOutput plain_output.Closed) place other (inr (inl e)) = absurd (cc)
no_record (PlainOutput plain_output.Closed) place other (inr (inr e)) = absurd (cc)
no_record (Receive3 end) place other (inl e) = absurd (cc)
no_record (Receive3 end) place other (inr (inl e)) = absurd (cc)
no_record (Receive3 end) place other (inr (inr e)) = absurd (cc)
no_record (Send3 end) place other (inl e) = absurd (cc)
no_record (Send3 end) place other (inr (inl e)) = absurd (cc)
no_record (Send3 end) place other (inr (inr e)) = absurd (cc)
no_record _ place other e = other

-- so are the ends of a connection of 0.3
pub end_other : (socket : ℕ) (kind : Kind) (s : Step) → walk.MakesEnd socket kind s → IsOther kind
end_other socket (Receive3 end) s m = tt
end_other socket (Send3 end) s m = tt
end_other socket _ s m = absurd m

pub pollable_fits : (t : HandleTable) (records : List Record) (w : Watched) (parent : Option ℕ) → Above t parent w → IsNew t records (Pollable w) parent
pollable_fits t records w parent above = record { owner = λ place e. absurd (cc); stream = λ place e. absurd (cc); listener = λ place e. absurd (cc); watch = λ x e. (let same : w ≡ x = cc in subst (Above t parent) same above) }

pub no_pollable : (w : Watched) (place : ℕ) → IsOf (Pollable w) place → ⊥
no_pollable w place (inl e) = absurd (cc)
no_pollable w place (inr (inl e)) = absurd (cc)
no_pollable w place (inr (inr e)) = absurd (cc)

-- the one of its record
pub owner_fits : (t : HandleTable) (records : List Record) (kind : Kind) (place : ℕ) (parent : Option ℕ) → owner_of kind ≡ Some place → ((w : Watched) → kind ≡ Pollable w → ⊥) → NoneOf t place → Names kind (slice_get records place) → IsNew t records kind parent
owner_fits t records kind place parent owns not none stays = record {
  owner = λ k e. (let same : place ≡ k = (let p : Some place ≡ Some k = sym owns ∙ e in cc) in (subst (NoneOf t) same none, subst (λ (x : ℕ). Names kind (slice_get records x)) same stays));
  stream = λ k e. absurd (one_way kind k place e owns);
  listener = λ k e. absurd (one_role kind k place e owns);
  watch = λ w e. absurd (not w e);
}

-- a stream under that
pub stream_fits : (t : HandleTable) (records : List Record) (kind : Kind) (place handle : ℕ) → stream_place kind ≡ Some place → ((w : Watched) → kind ≡ Pollable w → ⊥) → OneOwner t handle place → Names kind (slice_get records place) → IsNew t records kind (Some handle)
stream_fits t records kind place handle its not one stays = record {
  owner = λ k e. absurd (one_way kind place k its e);
  listener = λ k e. absurd (no_stream_listens kind k place e its);
  stream = λ k e. (let same : place ≡ k = (let p : Some place ≡ Some k = sym its ∙ e in cc) in (λ b l f. ap (λ (x : ℕ). Some x) (sym (one b l (f ∙ ap (λ (x : ℕ). Some x) (sym same)))), subst (λ (x : ℕ). Names kind (slice_get records x)) same stays));
  watch = λ w e. absurd (not w e);
}

-- the listener of a socket of 0.3, which has none yet
pub listener_fits : (t : HandleTable) (records : List Record) (place handle : ℕ) → kind_at t handle ≡ Some (Tcp3 place) → NoListenerOf t place → listens_in (tcp2_at records place) ≡ true → Owned t records → IsNew t records (Listen3 place) None
listener_fits t records place handle e none listens i = record {
  owner = λ k f. absurd (cc);
  stream = λ k f. absurd (cc);
  listener = λ k f. (let same : place ≡ k = cc in (subst (NoListenerOf t) same none, λ b l o. its k same b l o, subst (λ (x : ℕ). Names (Listen3 place) (slice_get records x)) same listens));
  watch = λ w f. absurd (cc);
}
  where
    slot : SlotOf t.live handle (Tcp3 place)
    slot = slot_of t.live handle (Tcp3 place) e

    its : (k : ℕ) → place ≡ k → (b : Live Kind) → Has t.live b → owner_of b.value ≡ Some k → b.value ≡ Tcp3 k
    its k same b l o = subst (λ (x : ℕ). b.value ≡ Tcp3 x) same (of_slot b l (subst (λ (x : ℕ). owner_of b.value ≡ Some x) (sym same) o))
      where
        of_slot : (b : Live Kind) → Has t.live b → owner_of b.value ≡ Some place → b.value ≡ Tcp3 place
        of_slot b l o = ap (λ (x : Live Kind). x.value) (i.one b slot.slot place l slot.live_one o (ap owner_of slot.value)) ∙ slot.value

-- the handle of a socket is the one of its record
pub one_of_handle : (t : HandleTable) (records : List Record) (handle place : ℕ) (kind : Kind) → kind_at t handle ≡ Some kind → owner_of kind ≡ Some place → Owned t records → OneOwner t handle place
one_of_handle t records handle place kind e owns i a l f = let s = slot_of t.live handle kind e in ap (λ (x : Live Kind). x.handle) (i.one a s.slot place l s.live_one f (ap owner_of s.value ∙ owns)) ∙ s.its

pub owner_there : (t : HandleTable) (records : List Record) (handle place : ℕ) (kind : Kind) → kind_at t handle ≡ Some kind → owner_of kind ≡ Some place → Owned t records → Names kind (slice_get records place)
owner_there t records handle place kind e owns i = let s = slot_of t.live handle kind e in subst (λ (k : Kind). Names k (slice_get records place)) s.value (i.there s.slot place s.live_one (inl (ap owner_of s.value ∙ owns)))

-- the streams of a connection, and those of datagrams
pub two_fits : (t : HandleTable) (records : List Record) (kind a b : Kind) (place handle : ℕ) → (kind ≡ a) ⊎ (kind ≡ b) → IsNew t records a (table_parent a (Some handle)) → IsNew t records b (table_parent b (Some handle)) → IsNew t records kind (table_parent kind (Some handle))
two_fits t records kind a b place handle (inl e) x y = subst (λ (k : Kind). IsNew t records k (table_parent k (Some handle))) (sym e) x
two_fits t records kind a b place handle (inr e) x y = subst (λ (k : Kind). IsNew t records k (table_parent k (Some handle))) (sym e) y

pub two_own_none : (kind a b : Kind) (place : ℕ) → (kind ≡ a) ⊎ (kind ≡ b) → owner_of a ≡ None → owner_of b ≡ None → owner_of kind ≡ Some place → ⊥
two_own_none kind a b place (inl e) x y f = absurd (let p : None ≡ Some place = sym x ∙ (ap owner_of (sym e) ∙ f) in cc)
two_own_none kind a b place (inr e) x y f = absurd (let p : None ≡ Some place = sym y ∙ (ap owner_of (sym e) ∙ f) in cc)

-- an input or an output of no connection
pub plain_fits : (h : Here) (s : Step) (kind : Kind) → MakesPlain s kind → IsNumbered h kind → Owns h → IsNew h.machine.table h.machine.store.records kind (table_parent kind None)
plain_fits h (Step.Call c (GuestCall.Pipe (PipeCall.In bytes))) (PlainInput (plain_input.Pipe place)) makes k i =
    owner_fits h.machine.table h.machine.store.records (PlainInput (plain_input.Pipe place)) place None refl (λ w e. absurd (cc)) ((subst (MadeSo h.machine.table h.machine.store.records) k.0 i.1).1 refl) k.1
plain_fits h (Step.Call c (GuestCall.Pipe (PipeCall.Out capacity))) (PlainOutput (plain_output.Pipe place)) makes k i =
    owner_fits h.machine.table h.machine.store.records (PlainOutput (plain_output.Pipe place)) place None refl (λ w e. absurd (cc)) ((subst (MadeSo h.machine.table h.machine.store.records) k.0 i.1).1 refl) k.1
plain_fits h (Step.Call c (GuestCall.Pipe PipeCall.ClosedIn)) (PlainInput plain_input.Closed) makes k i = other_fits h.machine.table h.machine.store.records (PlainInput plain_input.Closed) None tt
plain_fits h (Step.Call c (GuestCall.Pipe PipeCall.Sink)) (PlainOutput plain_output.Sink) makes k i = other_fits h.machine.table h.machine.store.records (PlainOutput plain_output.Sink) None tt
plain_fits h (Step.Call c (GuestCall.Pipe PipeCall.ClosedOut)) (PlainOutput plain_output.Closed) makes k i = other_fits h.machine.table h.machine.store.records (PlainOutput plain_output.Closed) None tt
plain_fits h _ _ makes k i = absurd makes

-- the line has made what it numbered
pub plain_still : (h : Here) (s : Step) (kind : Kind) → MakesPlain s kind → IsNumbered h kind → MadeSo h.machine.table h.machine.store.records h.made → MadeSo (with_handle h.machine.table kind None) h.machine.store.records h.made
plain_still h (Step.Call c (GuestCall.Pipe (PipeCall.In bytes))) (PlainInput (plain_input.Pipe place)) makes k was =
    subst (MadeSo (with_handle h.machine.table (PlainInput (plain_input.Pipe place)) None) h.machine.store.records) (sym k.0) (numbered_still h.machine.table h.machine.store.records (PlainInput (plain_input.Pipe place)) None place h.machine.table.next (subst (MadeSo h.machine.table h.machine.store.records) k.0 was))
plain_still h (Step.Call c (GuestCall.Pipe (PipeCall.Out capacity))) (PlainOutput (plain_output.Pipe place)) makes k was =
    subst (MadeSo (with_handle h.machine.table (PlainOutput (plain_output.Pipe place)) None) h.machine.store.records) (sym k.0) (numbered_still h.machine.table h.machine.store.records (PlainOutput (plain_output.Pipe place)) None place h.machine.table.next (subst (MadeSo h.machine.table h.machine.store.records) k.0 was))
plain_still h (Step.Call c (GuestCall.Pipe PipeCall.ClosedIn)) (PlainInput plain_input.Closed) makes k was = other_still h.machine.table h.machine.store.records (PlainInput plain_input.Closed) None h.made (λ place e. no_record (PlainInput plain_input.Closed) place tt e) was
plain_still h (Step.Call c (GuestCall.Pipe PipeCall.Sink)) (PlainOutput plain_output.Sink) makes k was = other_still h.machine.table h.machine.store.records (PlainOutput plain_output.Sink) None h.made (λ place e. no_record (PlainOutput plain_output.Sink) place tt e) was
plain_still h (Step.Call c (GuestCall.Pipe PipeCall.ClosedOut)) (PlainOutput plain_output.Closed) makes k was = other_still h.machine.table h.machine.store.records (PlainOutput plain_output.Closed) None h.made (λ place e. no_record (PlainOutput plain_output.Closed) place tt e) was
plain_still h _ _ makes k was = absurd makes

pub is_udp : (k : Option Kind) (place : ℕ) → udp_of k ≡ Some place → k ≡ Some (Udp2 place)
is_udp (Some (Udp2 n)) place e = let p : n ≡ place = cc in ap (λ (x : ℕ). Some (Udp2 x)) p
is_udp _ place e = absurd (cc)

pub created_stays : (o : Option Record) (u : UdpRecord) → udp2_of o ≡ Some u → IsOpenUdp u → IsSome (held_udp (open_of (udp2_of o)))
created_stays o (UdpRecord.Open x) g opens = subst (λ (y : Option UdpRecord). IsSome (held_udp (open_of y))) (sym g) (ap (λ (b : Bool). is_some (unless_gone x b)) opens)
created_stays o (UdpRecord.Creating x) g opens = absurd opens
created_stays o (UdpRecord.Closed x) g opens = absurd opens

pub listened_streams : (op : Operation) (r : TcpRecord) (end : End × List Item) → IsSome r.streams
    → IsSome (walk.listen_after op r end).streams
listened_streams op r (Waits, left) s = s
listened_streams op r (Done given, left) s = s
listened_streams op r (Refused c given, left) s = s

-- no listener is live of a socket that has none
pub listener_lost : (kind : Kind) (place : ℕ) (r : TcpRecord) (was : Listening) → r.listening ≡ was → has_listener was ≡ false → listener_of kind ≡ Some place → Names kind (Some (Record.Tcp r)) → ⊥
listener_lost (Listen3 n) place r was e none l s = absurd (let p : true ≡ false = sym s ∙ (ap has_listener e ∙ none) in cc)
listener_lost _ place r was e none l s = absurd (cc)

-- what a call that stands says of handles: no listen stands so
pub stands_so : (t : HandleTable) (call : StandingCall) (r : TcpRecord) → GoesOn call r → CallSo t call
stands_so t (StandingCall.Listen place marks) r goes = absurd goes
stands_so t (StandingCall.UdpConnect place handle) r goes = absurd goes
stands_so t _ r goes = tt

-- a half is taken: the streams are there
pub taken_keeps : (r now : TcpRecord) → TakesHalf r now → KeepsHeld r now
taken_keeps r _ (walk.OfReceive c e n) = (refl, λ s. refl, λ l. l)
taken_keeps r _ (walk.OfSend c e n) = (refl, λ s. refl, λ l. l)

pub plain_owns : {begins : Type 0} (h : Here) (place : ℕ) (r now : TcpRecord) → Found h place r → Plain (h.made ≡ Emptied (Tcp3 place)) begins r now → Owns h → Owns (put h place now)
plain_owns h place r now g p i = elim p.dropped [
  | inl same ↦ put_owns h place r g now (same, λ s. subst IsSome (sym p.streams) s, λ l. ap has_listener p.listening ∙ l) i
  | inr goes ↦ put_dropped h place r g now (λ l. ap has_listener p.listening ∙ l) goes i
]

-- what an accept took joins the records
