-- What is known of datagrams of 0.3 in progress, whose operations are in their calls, and of the handles of UDP sockets: what the line
-- and the exclusive call work on has its handle, and a datagram in progress is of an open socket, and of none of 0.2.
use Rattle.std.specs.Prelude.{◌≡◌, ◌⊎◌, ◌==◌, ℕ, true, false, ⊤, List, [], Option, Some, None, is_some, option_map, refl}
use Rattle.std.proofs.Common.{ap, inl, inr, subst, sym, ◌∙◌}
use Rattle.std.proofs.lemmas.Bool.{eq-eqb}
use Rattle.wasi_world.specs.declared.ids.OpId.{OpId}
use Rattle.wasi_world.specs.Operation.{Operation}
use Rattle.socket_common.specs.Rounds.{is_going}
use Rattle.wasi_table.specs.Table.{Live}
use Rattle.wasi_udp.specs.Create.{Create}
use Rattle.wasi_udp.specs.Receive.{IsReceive}
use Rattle.wasi_udp.specs.Send.{IsSend}
use Rattle.wasi_records.specs.declared.records.Record.{Record}
use Rattle.udp_records.specs.declared.udp.OpenUdp.{OpenUdp}
use Rattle.udp_records.specs.declared.udp.UdpRecord.{UdpRecord}
use Rattle.record_common.specs.Names.{own_of}
use Rattle.tcp_records.specs.declared.socket.TcpRecord.{TcpRecord}
use Rattle.wasi_records.specs.Numbered.{record_gone}
use Rattle.udp_records.specs.Udp.{open_of}
use Rattle.wasi_records.specs.Records.{tcp2_at, tcp2_put, tcp2_pushed, udp2_at, udp2_of, udp2_put, udp2_pushed}
use Rattle.host_store.specs.declared.beside.Beside.{Beside}
use Rattle.host_store.specs.declared.beside.BesideCall.{BesideCall}
use Rattle.host_store.specs.declared.beside.BesideCall.TheVariants.{Connect, Resolve, Send, Receive}
use Rattle.host_store.specs.declared.kind.Kind.{Kind}
use Rattle.host_store.specs.declared.kind.Kind.TheVariants.{Udp2, Udp3}
use Rattle.host_store.specs.declared.store.Standing.{Standing}
use Rattle.host_store.specs.declared.store.StandingCall.{StandingCall}
use Rattle.host_store.specs.Beside.{has_datagram, is_datagram_of}
use Rattle.host_store.specs.Standing.{call_place, standing_as}
use Rattle.wasi_world.specs.declared.ids.Ids.{Ids}
use Rattle.wasi_walks.specs.Licence.{Has}
use Rattle.wasi_walks.proofs.fits.Besides.{none_has, none_of_it}
use Rattle.wasi_walks.proofs.GoneLists.{stays_there, was_there}
use Rattle.wasi_walks.proofs.Places.{other_push, other_put, push_new, push_still, put_found, put_stays, tcp_sort, udp_sort}
use Rattle.wasi_walks.proofs.walks.Moves.{Awaited, Emptied, Here, Made, Past}

-- the UDP socket at this place, if there is one, has its handle
abbrev pub IsHeldUdp : List Record → ℕ → Type 0
IsHeldUdp records place = (o : OpenUdp) → udp2_at records place ≡ Some (UdpRecord.Open o) → o.dropped ≡ false

-- An open UDP socket that has its handle is at this place.
pub record HasHeldUdp (records : List Record) (place : ℕ) : Type 0 where
  pub was : OpenUdp
  pub at : udp2_at records place ≡ Some (UdpRecord.Open was)
  pub held : was.dropped ≡ false

-- what the exclusive call works on
abbrev pub CallHeld : List Record → StandingCall → Type 0
CallHeld records (StandingCall.UdpCreate place face) = ⊤
CallHeld records (StandingCall.Blocking call) = ⊤
CallHeld records (StandingCall.DropOutgoing place) = HasHeldUdp records place
CallHeld records call = IsHeldUdp records (call_place call)

-- The operation of a datagram in progress is of its line, and is on the network socket of its record, which is open. Something of it
-- is left.
pub record DatagramOn (records : List Record) (line place : ℕ) (op : Operation) : Type 0 where
  pub was : OpenUdp
  pub at : udp2_at records place ≡ Some (UdpRecord.Open was)
  pub of_side : op.who.side ≡ was.inner.side
  pub of_line : op.who.id ≡ own_of line
  pub going : is_going op ≡ true

-- it is a datagram, or a receive
abbrev pub FitBeside : List Record → ℕ → BesideCall → Type 0
FitBeside records line (Send place op) = DatagramOn records line place op × IsSend op
FitBeside records line (Receive place op) = DatagramOn records line place op × IsReceive op
FitBeside records line _ = ⊤

-- what the line drops or makes is no socket that has datagrams in progress
abbrev pub IsMadeOf : Made → ℕ → Type 0
IsMadeOf (Emptied (Udp2 p)) place = p ≡ place
IsMadeOf (Awaited face side p) place = p ≡ place
IsMadeOf _ place = ⊥

-- it is made, and has no handle yet
abbrev pub IsAwaited : Made → ℕ → Type 0
IsAwaited (Awaited face side p) place = p ≡ place
IsAwaited _ place = ⊥

pub awaited_made : (now : Made) (place : ℕ) → IsAwaited now place → IsMadeOf now place
awaited_made (Awaited face side p) place e = e
awaited_made _ place e = absurd e

-- Nothing of 0.3 is of the socket.
pub record IsOld (beside : List Beside) (live : List (Live Kind)) (now : Made) (place : ℕ) : Type 0 where
  pub none : has_datagram beside place ≡ false
  pub handle : (a : Live Kind) → Has live a → a.value ≡ Udp3 place → ⊥
  pub made : IsAwaited now place → ⊥

one_open : (a b : OpenUdp) → Some (UdpRecord.Open a) ≡ Some (UdpRecord.Open b) → a ≡ b
one_open a b e = let p : Some a ≡ Some b = ap open_of e in cc

one_of_open : (a b : OpenUdp) → UdpRecord.Open a ≡ UdpRecord.Open b → a ≡ b
one_of_open a b e = one_open a b (ap (λ (u : UdpRecord). Some u) e)

-- All of it; and a socket with an incoming stream is one of 0.2.
pub record DatagramsOf (records : List Record) (beside : List Beside) (standing : Option Standing) (live : List (Live Kind)) (at : Option (ℕ × ℕ)) (now : Made) : Type 0 where
  pub held : (place n : ℕ) → at ≡ Some (place, n) → IsHeldUdp records place
  pub stands : (s : Standing) → standing ≡ Some s → CallHeld records s.call
  pub besides : (b : Beside) → Has beside b → FitBeside records b.line b.call
  pub apart : (a : Live Kind) (place : ℕ) → Has live a → a.value ≡ Udp2 place → has_datagram beside place ≡ false
  pub made : (place : ℕ) → IsMadeOf now place → has_datagram beside place ≡ false
  pub streams : (place : ℕ) (o : OpenUdp) → udp2_at records place ≡ Some (UdpRecord.Open o) → is_some o.incoming ≡ true → IsOld beside live now place

abbrev pub Datagrams : Here → Type 0
Datagrams h = DatagramsOf h.machine.store.records h.machine.store.beside h.machine.store.standing h.machine.table.live h.at h.made

-- == of the first state, and where a line starts
pub first_datagrams : DatagramsOf [] [] None [] None Past
first_datagrams = record { held = λ place n e. absurd (cc); stands = λ s e. absurd (cc); besides = λ b h. absurd h; apart = λ a place h e. absurd h; made = λ place m. absurd m; streams = λ place o e s. absurd (cc) }

-- == the records change
-- UDP sockets that are open stay so, with the same network socket, but for those of these numbers; and with their handle, too
abbrev pub KeepsSides : (ℕ → Type 0) → List Record → List Record → Type 0
KeepsSides but old now = (k : ℕ) (o : OpenUdp) → (but k → ⊥) → udp2_at old k ≡ Some (UdpRecord.Open o) → (p : OpenUdp) × ((udp2_at now k ≡ Some (UdpRecord.Open p)) × (p.inner.side ≡ o.inner.side))

abbrev pub KeepsUdps : (ℕ → Type 0) → List Record → List Record → Type 0
KeepsUdps but old now = (k : ℕ) (o : OpenUdp) → (but k → ⊥) → udp2_at old k ≡ Some (UdpRecord.Open o) → (p : OpenUdp) × ((udp2_at now k ≡ Some (UdpRecord.Open p)) × (p.inner.side ≡ o.inner.side) × (o.dropped ≡ false → p.dropped ≡ false))

sides_of : (but : ℕ → Type 0) (old now : List Record) → KeepsUdps but old now → KeepsSides but old now
sides_of but old now on k o spares e = let p = on k o spares e in (p.0, (p.1.0, p.1.1))

-- none has lost its handle that hadn't
abbrev pub KeepsHandles : List Record → List Record → Type 0
KeepsHandles old now = (k : ℕ) (p : OpenUdp) → udp2_at now k ≡ Some (UdpRecord.Open p) → (p.dropped ≡ false) ⊎ ((o : OpenUdp) × ((udp2_at old k ≡ Some (UdpRecord.Open o)) × (o.dropped ≡ false → p.dropped ≡ false)))

-- no socket at all
abbrev pub NoNumber : ℕ → Type 0
NoNumber k = ⊥

held_kept : (old now : List Record) → KeepsHandles old now → (place : ℕ) → IsHeldUdp old place → IsHeldUdp now place
held_kept old now back place i p e = elim (back place p e) [ inl free ↦ free | inr was ↦ was.1.1 (i was.0 was.1.0) ]

-- what the exclusive call works on is no socket that goes
abbrev pub SparesCall : (ℕ → Type 0) → StandingCall → Type 0
SparesCall but (StandingCall.DropOutgoing place) = but place → ⊥
SparesCall but _ = ⊤

call_kept : (but : ℕ → Type 0) (old now : List Record) → KeepsUdps but old now → KeepsHandles old now → (call : StandingCall) → SparesCall but call → CallHeld old call → CallHeld now call
call_kept but old now on back (StandingCall.UdpCreate place face) spares k = tt
call_kept but old now on back (StandingCall.Blocking call) spares k = tt
call_kept but old now on back (StandingCall.DropOutgoing place) spares k = let p = on place k.was spares k.at in record { was = p.0; at = p.1.0; held = p.1.2 k.held }
call_kept but old now on back (StandingCall.Bind place face) spares k = held_kept old now back place k
call_kept but old now on back (StandingCall.Listen place marks) spares k = held_kept old now back place k
call_kept but old now on back (StandingCall.DropOutput place) spares k = held_kept old now back place k
call_kept but old now on back (StandingCall.UdpBind place face) spares k = held_kept old now back place k
call_kept but old now on back (StandingCall.UdpConnect place handle) spares k = held_kept old now back place k
call_kept but old now on back (StandingCall.UdpConnect3 place) spares k = held_kept old now back place k

on_kept : (but : ℕ → Type 0) (old now : List Record) → KeepsSides but old now → (line place : ℕ) (op : Operation) → (but place → ⊥) → DatagramOn old line place op → DatagramOn now line place op
on_kept but old now on line place op spares d = let p = on place d.was spares d.at in record { was = p.0; at = p.1.0; of_side = d.of_side ∙ sym p.1.1; of_line = d.of_line; going = d.going }

-- nor is a datagram of one
abbrev pub SparesDatagram : (ℕ → Type 0) → BesideCall → Type 0
SparesDatagram but (Send place op) = but place → ⊥
SparesDatagram but (Receive place op) = but place → ⊥
SparesDatagram but _ = ⊤

pub beside_kept : (but : ℕ → Type 0) (old now : List Record) → KeepsSides but old now → (line : ℕ) (call : BesideCall) → SparesDatagram but call → FitBeside old line call → FitBeside now line call
beside_kept but old now on line (Send place op) spares f = (on_kept but old now on line place op spares f.0, f.1)
beside_kept but old now on line (Receive place op) spares f = (on_kept but old now on line place op spares f.0, f.1)
beside_kept but old now on line (Connect place) spares f = tt
beside_kept but old now on line (Resolve host) spares f = tt

pub spares_none : (call : BesideCall) → SparesDatagram NoNumber call
spares_none (Send place op) = λ n. n
spares_none (Receive place op) = λ n. n
spares_none (Connect place) = tt
spares_none (Resolve host) = tt

spares_no_call : (call : StandingCall) → SparesCall NoNumber call
spares_no_call (StandingCall.DropOutgoing place) = λ n. n
spares_no_call _ = tt

-- so it is known of other records
module _ {beside : List Beside} {standing : Option Standing} {live : List (Live Kind)} {at : Option (ℕ × ℕ)} {made : Made} where
  pub records_but : (but : ℕ → Type 0) (old now : List Record) → KeepsUdps but old now → KeepsHandles old now → ((s : Standing) → standing ≡ Some s → SparesCall but s.call) → ((b : Beside) → Has beside b → SparesDatagram but b.call)
      → ((place : ℕ) (o : OpenUdp) → udp2_at now place ≡ Some (UdpRecord.Open o) → is_some o.incoming ≡ true → IsOld beside live made place) → DatagramsOf old beside standing live at made → DatagramsOf now beside standing live at made
  records_but but old now on back calls datagrams streams i = record {
    held = λ place n e. held_kept old now back place (i.held place n e);
    stands = λ s e. call_kept but old now on back s.call (calls s e) (i.stands s e);
    besides = λ b h. beside_kept but old now (sides_of but old now on) b.line b.call (datagrams b h) (i.besides b h);
    apart = i.apart;
    made = i.made;
    streams = streams;
  }

  pub records_kept : (old now : List Record) → KeepsUdps NoNumber old now → KeepsHandles old now → ((place : ℕ) (o : OpenUdp) → udp2_at now place ≡ Some (UdpRecord.Open o) → is_some o.incoming ≡ true → IsOld beside live made place)
      → DatagramsOf old beside standing live at made → DatagramsOf now beside standing live at made
  records_kept old now on back streams i = records_but NoNumber old now on back (λ s e. spares_no_call s.call) (λ b h. spares_none b.call) streams i

  -- the same UDP sockets are there
  pub same_kept : (old now : List Record) → ((k : ℕ) → udp2_at now k ≡ udp2_at old k) → DatagramsOf old beside standing live at made → DatagramsOf now beside standing live at made
  same_kept old now same i = records_kept old now (λ k o but e. (o, (same k ∙ e, refl, λ f. f))) (λ k p e. inr (p, (sym (same k) ∙ e, λ f. f))) (λ k p e s. i.streams k p (sym (same k) ∙ e) s) i

  -- a TCP socket changes, or joins them
  pub put_kept : (old : List Record) (place : ℕ) (r now : TcpRecord) → tcp2_at old place ≡ Some r → DatagramsOf old beside standing live at made → DatagramsOf (tcp2_put old place now) beside standing live at made
  put_kept old place r now g i = same_kept old (tcp2_put old place now) (λ k. other_put tcp_sort udp_sort (λ t. refl) old place r now k g) i

  pub push_kept : (old : List Record) (now : TcpRecord) → DatagramsOf old beside standing live at made → DatagramsOf (tcp2_pushed old now) beside standing live at made
  push_kept old now i = same_kept old (tcp2_pushed old now) (λ k. other_push tcp_sort udp_sort (λ t. refl) old now k) i

  -- a UDP socket changes, and keeps its network socket and its handle
  pub put_open_kept : (old : List Record) (place : ℕ) (o now : OpenUdp) → udp2_at old place ≡ Some (UdpRecord.Open o) → now.inner.side ≡ o.inner.side → now.dropped ≡ o.dropped → (is_some now.incoming ≡ true → IsOld beside live made place)
      → DatagramsOf old beside standing live at made → DatagramsOf (udp2_put old place (UdpRecord.Open now)) beside standing live at made
  put_open_kept old place o now g side dropped old_one i = records_kept old (udp2_put old place (UdpRecord.Open now)) on back streams i
    where
      same : (x : OpenUdp) → udp2_at old place ≡ Some (UdpRecord.Open x) → o ≡ x
      same x e = one_open o x (sym g ∙ e)

      on : KeepsUdps NoNumber old (udp2_put old place (UdpRecord.Open now))
      on k x but e = elim (put_stays udp_sort old place (UdpRecord.Open now) k (UdpRecord.Open x) e) [
        | inl still ↦ (x, (still, refl, λ f. f))
        | inr its ↦ (let is : o ≡ x = same x (sym (ap (udp2_at old) its.0) ∙ e) in (now, (its.1, side ∙ ap (λ (y : OpenUdp). y.inner.side) is, λ f. dropped ∙ (ap (λ (y : OpenUdp). y.dropped) is ∙ f))))
      ]

      back : KeepsHandles old (udp2_put old place (UdpRecord.Open now))
      back k p e = elim (put_found udp_sort old place (UdpRecord.Open now) k (UdpRecord.Open p) e) [
        | inl its ↦ (let is : now ≡ p = one_of_open now p its.1 in inr (o, (ap (udp2_at old) its.0 ∙ g, λ f. sym (ap (λ (y : OpenUdp). y.dropped) is) ∙ (dropped ∙ f))))
        | inr was ↦ inr (p, (was, λ f. f))
      ]

      streams : (k : ℕ) (p : OpenUdp) → udp2_at (udp2_put old place (UdpRecord.Open now)) k ≡ Some (UdpRecord.Open p) → is_some p.incoming ≡ true → IsOld beside live made k
      streams k p e s = elim (put_found udp_sort old place (UdpRecord.Open now) k (UdpRecord.Open p) e) [
        | inl its ↦ (let is : now ≡ p = one_of_open now p its.1 in subst (IsOld beside live made) (sym its.0) (old_one (ap (λ (y : OpenUdp). is_some y.incoming) is ∙ s)))
        | inr was ↦ i.streams k p was s
      ]

  -- one that isn't open changes
  pub put_unopen_kept : (old : List Record) (place : ℕ) (u now : UdpRecord) → udp2_at old place ≡ Some u → open_of (Some u) ≡ None → ((p : OpenUdp) → now ≡ UdpRecord.Open p → (p.dropped ≡ false) × (is_some p.incoming ≡ true → ⊥))
      → DatagramsOf old beside standing live at made → DatagramsOf (udp2_put old place now) beside standing live at made
  put_unopen_kept old place u now g none free i =
      records_kept old (udp2_put old place now) on back (λ k p e s. elim (put_found udp_sort old place now k (UdpRecord.Open p) e) [ inl its ↦ absurd ((free p its.1).1 s) | inr was ↦ i.streams k p was s ]) i
    where
      on : KeepsUdps NoNumber old (udp2_put old place now)
      on k x but e = elim (put_stays udp_sort old place now k (UdpRecord.Open x) e) [
        | inl still ↦ (x, (still, refl, λ f. f))
        | inr its ↦ absurd (let q : open_of (Some u) ≡ Some x = ap open_of (sym g ∙ (sym (ap (udp2_at old) its.0) ∙ e)) in cc)
      ]

      back : KeepsHandles old (udp2_put old place now)
      back k p e = elim (put_found udp_sort old place now k (UdpRecord.Open p) e) [ inl its ↦ inl (free p its.1).0 | inr was ↦ inr (p, (was, λ f. f)) ]

  -- a create joins them
  pub push_create_kept : (old : List Record) (create : Create) → DatagramsOf old beside standing live at made → DatagramsOf (udp2_pushed old (UdpRecord.Creating create)) beside standing live at made
  push_create_kept old create i =
      records_kept old (udp2_pushed old (UdpRecord.Creating create)) (λ k x but e. (x, (push_still udp_sort udp_sort old (UdpRecord.Creating create) k (UdpRecord.Open x) e, refl, λ f. f)))
      (λ k p e. inr (p, (was k p e, λ f. f))) (λ k p e s. i.streams k p (was k p e) s) i
    where
      was : (k : ℕ) (p : OpenUdp) → udp2_at (udp2_pushed old (UdpRecord.Creating create)) k ≡ Some (UdpRecord.Open p) → udp2_at old k ≡ Some (UdpRecord.Open p)
      was k p e = elim (push_new udp_sort old (UdpRecord.Creating create) k (UdpRecord.Open p) e) [ inl it ↦ it | inr is ↦ absurd (let q : open_of (Some (UdpRecord.Creating create)) ≡ Some p = ap (λ (u : UdpRecord). open_of (Some u)) is in cc) ]

  -- one is closed of which no datagram is in progress, and on which no exclusive call is
  pub close_kept : (old : List Record) (place : ℕ) (side : OpId) → has_datagram beside place ≡ false → ((s : Standing) → standing ≡ Some s → SparesCall (λ k. k ≡ place) s.call)
      → DatagramsOf old beside standing live at made → DatagramsOf (udp2_put old place (UdpRecord.Closed side)) beside standing live at made
  close_kept old place side none calls i = records_but (λ k. k ≡ place) old (udp2_put old place (UdpRecord.Closed side)) on back calls (λ b h. spares_datagram b.call (none_of_it beside place b none h)) (λ k p e s. i.streams k p (was k p e) s) i
    where
      on : KeepsUdps (λ k. k ≡ place) old (udp2_put old place (UdpRecord.Closed side))
      on k x but e = elim (put_stays udp_sort old place (UdpRecord.Closed side) k (UdpRecord.Open x) e) [ inl still ↦ (x, (still, refl, λ f. f)) | inr its ↦ absurd (but its.0) ]

      was : (k : ℕ) (p : OpenUdp) → udp2_at (udp2_put old place (UdpRecord.Closed side)) k ≡ Some (UdpRecord.Open p) → udp2_at old k ≡ Some (UdpRecord.Open p)
      was k p e = elim (put_found udp_sort old place (UdpRecord.Closed side) k (UdpRecord.Open p) e) [ inl its ↦ absurd (let q : open_of (Some (UdpRecord.Closed side)) ≡ Some p = ap (λ (u : UdpRecord). open_of (Some u)) its.1 in cc) | inr it ↦ it ]

      back : KeepsHandles old (udp2_put old place (UdpRecord.Closed side))
      back k p e = inr (p, (was k p e, λ f. f))

      other : (p : ℕ) → (p == place) ≡ false → p ≡ place → ⊥
      other p e same = absurd (let q : (p == place) ≡ true = eq-eqb p place same in cc)

      spares_datagram : (call : BesideCall) → is_datagram_of place call ≡ false → SparesDatagram (λ k. k ≡ place) call
      spares_datagram (Send p op) e = other p e
      spares_datagram (Receive p op) e = other p e
      spares_datagram (Connect p) e = tt
      spares_datagram (Resolve host) e = tt

  -- one is given back that is no open UDP socket
  pub gone_kept : (old : List Record) (place : ℕ) → ((o : OpenUdp) → udp2_at old place ≡ Some (UdpRecord.Open o) → ⊥) → DatagramsOf old beside standing live at made → DatagramsOf (record_gone old place) beside standing live at made
  gone_kept old place none i =
      records_kept old (record_gone old place) (λ k x but e. (x, (stays_there udp2_of old place k (UdpRecord.Open x) (λ same. none x (sym (ap (udp2_at old) same) ∙ e)) e, refl, λ f. f)))
      (λ k p e. inr (p, (was_there udp2_of refl old place k (UdpRecord.Open p) e, λ f. f))) (λ k p e s. i.streams k p (was_there udp2_of refl old place k (UdpRecord.Open p) e) s) i

  -- == the rest changes
  module _ (records : List Record) where
    -- what the line works on
    pub at_kept : (place n : ℕ) → IsHeldUdp records place → DatagramsOf records beside standing live at made → DatagramsOf records beside standing live (Some (place, n)) made
    at_kept place n free i = record { held = λ p m e. (let same : place ≡ p = (let q : Some place ≡ Some p = ap (option_map (λ (x : ℕ × ℕ). x.0)) e in cc) in subst (IsHeldUdp records) same free); stands = i.stands; besides = i.besides; apart = i.apart; made = i.made; streams = i.streams }

    pub at_none : DatagramsOf records beside standing live at made → DatagramsOf records beside standing live None made
    at_none i = record { held = λ p m e. absurd (cc); stands = i.stands; besides = i.besides; apart = i.apart; made = i.made; streams = i.streams }

    -- what it makes
    pub made_now : (now : Made) → ((place : ℕ) → IsMadeOf now place → has_datagram beside place ≡ false) → ((place : ℕ) (o : OpenUdp) → udp2_at records place ≡ Some (UdpRecord.Open o) → is_some o.incoming ≡ true → IsAwaited now place → ⊥)
        → DatagramsOf records beside standing live at made → DatagramsOf records beside standing live at now
    made_now now free awaits i = record { held = i.held; stands = i.stands; besides = i.besides; apart = i.apart; made = free; streams = λ place o g s. (let k = i.streams place o g s in record { none = k.none; handle = k.handle; made = awaits place o g s }) }

    -- the exclusive call
    pub stands_now : (ids : Ids) (call : StandingCall) → CallHeld records call → DatagramsOf records beside standing live at made → DatagramsOf records beside (Some (standing_as ids call)) live at made
    stands_now ids call k i = record { held = i.held; stands = λ s e. (let same : standing_as ids call ≡ s = cc in subst (λ (x : Standing). CallHeld records x.call) same k); besides = i.besides; apart = i.apart; made = i.made; streams = i.streams }

    pub stands_none : DatagramsOf records beside standing live at made → DatagramsOf records beside None live at made
    stands_none i = record { held = i.held; stands = λ s e. absurd (cc); besides = i.besides; apart = i.apart; made = i.made; streams = i.streams }

    -- fewer handles are live
    pub live_fewer : (now : List (Live Kind)) → ((a : Live Kind) → Has now a → Has live a) → DatagramsOf records beside standing live at made → DatagramsOf records beside standing now at made
    live_fewer now was i = record { held = i.held; stands = i.stands; besides = i.besides; apart = λ a place h e. i.apart a place (was a h) e; made = i.made; streams = λ place o g s. (let k = i.streams place o g s in record { none = k.none; handle = λ a h e. k.handle a (was a h) e; made = k.made }) }

    -- one more is, which is of a socket without datagrams, or is none of a UDP socket of 0.2
    pub live_more : (now : List (Live Kind)) (new : Live Kind) → ((a : Live Kind) → Has now a → Has live a ⊎ (new ≡ a)) → ((place : ℕ) → new.value ≡ Udp2 place → has_datagram beside place ≡ false)
        → ((place : ℕ) (o : OpenUdp) → udp2_at records place ≡ Some (UdpRecord.Open o) → is_some o.incoming ≡ true → new.value ≡ Udp3 place → ⊥) → DatagramsOf records beside standing live at made → DatagramsOf records beside standing now at made
    live_more now new was free other i = record { held = i.held; stands = i.stands; besides = i.besides; apart = λ a place h e. elim (was a h) [ inl old ↦ i.apart a place old e | inr is ↦ free place (ap (λ (s : Live Kind). s.value) is ∙ e) ]; made = i.made; streams = λ place o g s. (let k = i.streams place o g s in record { none = k.none; handle = λ a h e. elim (was a h) [ inl old ↦ k.handle a old e | inr is ↦ other place o g s (ap (λ (x : Live Kind). x.value) is ∙ e) ]; made = k.made }) }

    -- other calls stand beside: fewer, or one more, or another in the place of one
    pub beside_fewer : (now : List Beside) → ((b : Beside) → Has now b → Has beside b) → DatagramsOf records beside standing live at made → DatagramsOf records now standing live at made
    beside_fewer now was i = record {
      held = i.held;
      stands = i.stands;
      besides = λ b h. i.besides b (was b h);
      apart = λ a place h e. fewer place (i.apart a place h e);
      made = λ place m. fewer place (i.made place m);
      streams = λ place o g s. (let k = i.streams place o g s in record { none = fewer place k.none; handle = k.handle; made = k.made });
    }
      where
        fewer : (place : ℕ) → has_datagram beside place ≡ false → has_datagram now place ≡ false
        fewer place e = none_has now place (λ b h. none_of_it beside place b e (was b h))

    pub beside_more : (now : List Beside) (new : Beside) → ((b : Beside) → Has now b → Has beside b ⊎ (new ≡ b)) → FitBeside records new.line new.call
        → ((a : Live Kind) (place : ℕ) → Has live a → a.value ≡ Udp2 place → is_datagram_of place new.call ≡ false) → ((place : ℕ) → IsMadeOf made place → is_datagram_of place new.call ≡ false)
        → ((place : ℕ) (o : OpenUdp) → udp2_at records place ≡ Some (UdpRecord.Open o) → is_some o.incoming ≡ true → is_datagram_of place new.call ≡ false) → DatagramsOf records beside standing live at made → DatagramsOf records now standing live at made
    beside_more now new was fits apart free other i = record {
      held = i.held;
      stands = i.stands;
      besides = λ b h. elim (was b h) [ inl old ↦ i.besides b old | inr is ↦ subst (λ (x : Beside). FitBeside records x.line x.call) is fits ];
      apart = λ a place h e. more place (i.apart a place h e) (apart a place h e);
      made = λ place m. more place (i.made place m) (free place m);
      streams = λ place o g s. (let k = i.streams place o g s in record { none = more place k.none (other place o g s); handle = k.handle; made = k.made });
    }
      where
        more : (place : ℕ) → has_datagram beside place ≡ false → is_datagram_of place new.call ≡ false → has_datagram now place ≡ false
        more place e f = none_has now place (λ b h. elim (was b h) [ inl old ↦ none_of_it beside place b e old | inr is ↦ subst (λ (x : Beside). is_datagram_of place x.call ≡ false) is f ])
