-- Where lookups change, the sockets among the records are the same, and the state still fits the log.
use Rattle.wasi_walks.proofs.walks.Here.{end_place}
use Rattle.wasi_walks.proofs.Words.{Entry, HandleTable, Kind, List, Machine, None, OpId, Option, Some, Standing, StandingCall, Step, TcpRecord, WasiSocketsCtx, ap, call_place, kind_at, refl, sym, ℕ, ◌∙◌, ◌≡◌}
use Rattle.std.specs.Prelude.{IsSome, is_some}
use Rattle.wasi_walks.proofs.GoneLists.{stays_there, was_there}
use Rattle.wasi_walks.proofs.owners.Owned.{NoneOf, Owned, named_by, none_named, tcp_names, udp_names}
use Rattle.host_store.specs.GivingBack.{given_back}
use Rattle.wasi_records.specs.Numbered.{record_gone}
use Rattle.wasi_records.specs.Records.{lookup_of, tcp2_at, tcp2_of, udp2_at, udp2_of}
use Rattle.udp_records.specs.declared.udp.UdpRecord.{UdpRecord}
use Rattle.wasi_walks.proofs.fits.Datagrams.{CallHeld, Datagrams}
use Rattle.wasi_walks.proofs.fits.Law.{Fit}
use Rattle.wasi_walks.proofs.fits.Records.{FitCall}
use Rattle.lookup_records.specs.declared.name_lookup.Lookup.{Lookup}
use Rattle.wasi_walks.proofs.walks.Moves.{Found, GoesBack, Here, IsOfHandle, WhenClosed, WhenIdle, SameSockets, record_of, udp_record_of, with_records, without_record}
use Rattle.wasi_walks.proofs.licence.Lookups.{LookupIsFine, lookups_same}
use Rattle.wasi_walks.proofs.licence.State.{CreateStands, LineNames, NamesEndIf, HandleIsFine, NamesIf, NamesUdpIf, OfTcp, OfUdp, StandingIsFine, StateIsFine}
use Rattle.wasi_walks.proofs.licence.UdpFrames.{KeepsSides, handle_kept, standing_kept}
use Rattle.wasi_walks.proofs.licence.Line.{Licensed}
use Rattle.lookup_records.specs.declared.name_lookup.LookupOp.{LookupOp}
use Rattle.wasi_records.specs.declared.records.Record.{Record}
use Rattle.wasi_records.specs.declared.records.Record.TheVariants.{Gone}
use Rattle.wasi_walks.proofs.Places.{there_put}
use Rattle.wasi_walks.proofs.licence.UdpMoves.{not_both}

-- each socket is still there
sides_same : {new : LookupOp → Type 0} (old now : List Record) → SameSockets new old now → KeepsSides old now
sides_same old now s = record {
  tcp = λ place r e. record { found = r; at = s.tcp place ∙ e; same = refl };
  udp = λ place u e. record { found = u; at = s.udp place ∙ e; same = refl };
  there = s.there;
  was = λ place r h e. record { found = r; at = sym (s.tcp place) ∙ e; same = refl };
}

module _ {contexts : List WasiSocketsCtx} {steps : List Step} (new : LookupOp → Type 0) (fine : (op : LookupOp) → new op → LookupIsFine contexts steps op) where
  -- the state, where each lookup that is new is fine
  state_same : (es : List Entry) (m : Machine) (records : List Record) → SameSockets new m.store.records records → StateIsFine contexts steps es m → StateIsFine contexts steps es (record m { store = record m.store { records = records } })
  state_same es m records s h =
      let k = sides_same m.store.records records s in
      record {
        count = h.count;
        handles = λ handle kind e. handle_kept es m.store.records records k handle kind (h.handles handle kind e);
        records = λ place r e. h.records place r (sym (s.tcp place) ∙ e);
        udp = λ place u e. h.udp place u (sym (s.udp place) ∙ e);
        lookups = lookups_same contexts steps new m.store.records records s fine h.lookups;
        besides = h.besides;
        standing = λ c e. standing_kept es m.store.records records k c (h.standing c e);
        accepts = λ place r e. h.accepts place r (sym (s.tcp place) ∙ e);
        one = λ i j r q x a b. h.one i j r q x (sym (s.tcp i) ∙ a) (sym (s.tcp j) ∙ b);
      }

  -- and what holds of the line
  pub records_fine : {line : ℕ} {origin : Step} (es : List Entry) (h : Here) (records : List Record) → SameSockets new h.machine.store.records records → Licensed contexts steps line origin es h → Licensed contexts steps line origin es (with_records h records)
  records_fine es h records s i =
      let tcp : (k : ℕ) (r : TcpRecord) → Found (with_records h records) k r → Found h k r = λ k r e. sym (s.tcp k) ∙ e in
      record {
        fine = state_same es h.machine records s i.fine;
        names = λ k n r a e. i.names k n r a (tcp k r e);
        udp_names = λ k n u a e. i.udp_names k n u a (sym (s.udp k) ∙ e);
        listens = λ k r op e b. i.listens k r op (tcp k r e) b;
        new = i.new;
        unmade = i.unmade;
        joined = λ face p e. (let j = i.joined face p e in record { new = j.new; on = j.on; peer = j.peer; listener = j.listener; by = j.by; side = λ r d. j.side r (tcp p r d); of_listener = j.of_listener; handed = j.handed; fresh = j.fresh });
        faulted = λ p e r d. i.faulted p e r (tcp p r d);
        marked = λ handle p e r d. i.marked handle p e r (tcp p r d);
        making = i.making;
      }

-- == a record is given back
-- a live handle is of another record
module _ (es : List Entry) (t : HandleTable) (old : List Record) (place : ℕ) (none : NoneOf t place) (live : Owned t old) (handle : ℕ) (kind : Kind) (e : kind_at t handle ≡ Some kind) where
  another : (k : ℕ) → named_by kind ≡ Some k → k ≡ place → ⊥
  another k named same = none_named t old live place none handle kind e (named ∙ ap (λ (x : ℕ). Some x) same)

  tcp_left : (o : Option ℕ) → record_of (Some kind) ≡ o → NamesIf es old handle o → NamesIf es (record_gone old place) handle o
  tcp_left (Some k) q h = record { found = h.found; at = stays_there tcp2_of old place k h.found (another k (tcp_names kind k q)) h.at; marked = h.marked }
  tcp_left None q h = tt

  udp_left : (o : Option ℕ) → udp_record_of (Some kind) ≡ o → NamesUdpIf es old handle o → NamesUdpIf es (record_gone old place) handle o
  udp_left (Some k) q h = record { found = h.found; at = stays_there udp2_of old place k h.found (another k (udp_names kind k q)) h.at; marked = h.marked }
  udp_left None q h = tt

  end_left : (o : Option ℕ) → NamesEndIf es old handle o → NamesEndIf es (record_gone old place) handle o
  end_left (Some k) h = record { there = there_put old place Gone k h.there; marked = λ r e. h.marked r (was_there tcp2_of refl old place k r e) }
  end_left None h = tt

  handle_left : HandleIsFine es old handle kind → HandleIsFine es (record_gone old place) handle kind
  handle_left h = (tcp_left (record_of (Some kind)) refl h.0, udp_left (udp_record_of (Some kind)) refl h.1, h.2, h.3, end_left (end_place kind) h.4)

-- == the pending call is of another record
-- it is of the record at this place
abbrev pub StandsAt : StandingCall → ℕ → Type 0
StandsAt (StandingCall.Blocking call) place = ⊥
StandsAt call place = call_place call ≡ place

-- none is
abbrev pub NoneStandsAt : Option Standing → ℕ → Type 0
NoneStandsAt standing place = (c : Standing) → standing ≡ Some c → StandsAt c.call place → ⊥

stands_at : (call : StandingCall) (place : ℕ) → IsOfHandle call → call_place call ≡ place → StandsAt call place
stands_at (StandingCall.Blocking call) place o e = absurd o
stands_at (StandingCall.UdpCreate p face) place o e = absurd o
stands_at _ place o e = e

-- nothing is pending, or the record is closed, as that of no pending call is
closed_stands : (steps : List Step) (records : List Record) (place : ℕ) (side : OpId) (call : StandingCall) → udp2_at records place ≡ Some (UdpRecord.Closed side) → FitCall records call → CallHeld records call → CreateStands steps records call → StandsAt call place → ⊥
closed_stands steps records place side (StandingCall.Bind p face) g f k c e = not_both records place f.was (UdpRecord.Closed side) (ap (tcp2_at records) (sym e) ∙ f.at) g
closed_stands steps records place side (StandingCall.Listen p marks) g f k c e = not_both records place f.was (UdpRecord.Closed side) (ap (tcp2_at records) (sym e) ∙ f.at) g
closed_stands steps records place side (StandingCall.DropOutput p) g f k c e = by_record (tcp2_at records p) refl c
  where
    by_record : (o : Option TcpRecord) → tcp2_at records p ≡ o → IsSome o → ⊥
    by_record None q some = absurd (cc)
    by_record (Some r) q some = not_both records place r (UdpRecord.Closed side) (ap (tcp2_at records) (sym e) ∙ q) g
closed_stands steps records place side (StandingCall.UdpCreate p face) g f k c e = absurd (let q = sym (ap (udp2_at records) e ∙ g) ∙ f.at in cc)
closed_stands steps records place side (StandingCall.UdpBind p face) g f k c e = absurd (let q = sym (ap (udp2_at records) e ∙ g) ∙ f.at in cc)
closed_stands steps records place side (StandingCall.UdpConnect p handle) g f k c e = absurd (let q = sym (ap (udp2_at records) e ∙ g) ∙ f.at in cc)
closed_stands steps records place side (StandingCall.UdpConnect3 p) g f k c e = absurd (let q = sym (ap (udp2_at records) e ∙ g) ∙ f.at in cc)
closed_stands steps records place side (StandingCall.DropOutgoing p) g f k c e = absurd (let q = sym (ap (udp2_at records) e ∙ g) ∙ k.at in cc)
closed_stands steps records place side (StandingCall.Blocking call) g f k c e = e

pub another_stands : {contexts : List WasiSocketsCtx} {steps : List Step} {line : ℕ} {origin : Step} {es : List Entry} (h : Here) (place : ℕ) → GoesBack h place → Fit h → Datagrams h → Licensed contexts steps line origin es h → NoneStandsAt h.machine.store.standing place
another_stands h place (WhenIdle idle) f d i c e at = absurd (let never : None ≡ Some c = sym idle ∙ e in cc)
another_stands {steps = steps} h place (WhenClosed side g) f d i c e at = closed_stands steps h.machine.store.records place side c.call g (f.stands c e) (d.stands c e) (i.fine.standing c e).2 at

module _ (es : List Entry) (steps : List Step) (old : List Record) (place : ℕ) where
  line_left : (line p : ℕ) → (p ≡ place → ⊥) → LineNames steps es old line p → LineNames steps es (record_gone old place) line p
  line_left line p other (OfTcp r e n) = OfTcp r (stays_there tcp2_of old place p r other e) n
  line_left line p other (OfUdp u e n) = OfUdp u (stays_there udp2_of old place p u other e) n

  create_left : (call : StandingCall) → (StandsAt call place → ⊥) → CreateStands steps old call → CreateStands steps (record_gone old place) call
  create_left (StandingCall.UdpCreate p face) other h = record { found = h.found; at = stays_there udp2_of old place p h.found other h.at; made = h.made }
  create_left (StandingCall.DropOutput p) other h = tcp_still (tcp2_at old p) refl h
    where
      tcp_still : (o : Option TcpRecord) → tcp2_at old p ≡ o → IsSome o → IsSome (tcp2_at (record_gone old place) p)
      tcp_still None e some = absurd (cc)
      tcp_still (Some r) e some = ap (λ (o : Option TcpRecord). is_some o) (stays_there tcp2_of old place p r other e)
  create_left _ other h = tt

  standing_left : (c : Standing) → (StandsAt c.call place → ⊥) → StandingIsFine steps es old c → StandingIsFine steps es (record_gone old place) c
  standing_left c other h = (λ o. line_left c.ids.line (call_place c.call) (λ e. other (stands_at c.call place o e)) (h.0 o), h.1, create_left c.call other h.2)

module _ {contexts : List WasiSocketsCtx} {steps : List Step} where
  -- nothing of it is pending
  state_fewer : (es : List Entry) (m : Machine) (place : ℕ) → NoneStandsAt m.store.standing place → NoneOf m.table place → Owned m.table m.store.records → StateIsFine contexts steps es m → StateIsFine contexts steps es (record m { store = given_back place m.store })
  state_fewer es m place idle none live h =
      let tcp : (k : ℕ) (r : TcpRecord) → tcp2_at (record_gone m.store.records place) k ≡ Some r → tcp2_at m.store.records k ≡ Some r = was_there tcp2_of refl m.store.records place in
      record {
        count = h.count;
        handles = λ handle kind e. handle_left es m.table m.store.records place none live handle kind e (h.handles handle kind e);
        records = λ k r e. h.records k r (tcp k r e);
        udp = λ k u e. h.udp k u (was_there udp2_of refl m.store.records place k u e);
        lookups = λ k op e. h.lookups k op (was_there lookup_of refl m.store.records place k (Lookup.InProgress op) e);
        besides = h.besides;
        standing = λ c e. standing_left es steps m.store.records place c (idle c e) (h.standing c e);
        accepts = λ k r e. h.accepts k r (tcp k r e);
        one = λ i j r q x a b. h.one i j r q x (tcp i r a) (tcp j q b);
      }

  pub fewer_fine : {line : ℕ} {origin : Step} (es : List Entry) (h : Here) (place : ℕ) → NoneStandsAt h.machine.store.standing place → NoneOf h.machine.table place → Owned h.machine.table h.machine.store.records → Licensed contexts steps line origin es h → Licensed contexts steps line origin es (without_record h place)
  fewer_fine es h place idle none live i =
      let tcp : (k : ℕ) (r : TcpRecord) → Found (without_record h place) k r → Found h k r = was_there tcp2_of refl h.machine.store.records place in
      record {
        fine = state_fewer es h.machine place idle none live i.fine;
        names = λ k n r a e. i.names k n r a (tcp k r e);
        udp_names = λ k n u a e. i.udp_names k n u a (was_there udp2_of refl h.machine.store.records place k u e);
        listens = λ k r op e b. i.listens k r op (tcp k r e) b;
        new = i.new;
        unmade = i.unmade;
        joined = λ face p e. (let j = i.joined face p e in record { new = j.new; on = j.on; peer = j.peer; listener = j.listener; by = j.by; side = λ r d. j.side r (tcp p r d); of_listener = j.of_listener; handed = j.handed; fresh = j.fresh });
        faulted = λ p e r d. i.faulted p e r (tcp p r d);
        marked = λ handle p e r d. i.marked handle p e r (tcp p r d);
        making = i.making;
      }
