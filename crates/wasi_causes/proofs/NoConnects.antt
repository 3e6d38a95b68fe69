-- Of the machines that runs lead to: no connect of 0.2 is in progress on a socket of 0.3, since one begins by a live handle of 0.2 of its
-- socket, and a record has one owner.
use Rattle.wasi_causes.proofs.Words.{End, Err, ErrorCode, HandleTable, Item, Kind, List, Machine, None, Ok, Operation, Option, Result, Some, Step, Tcp2, TcpRecord, WasiSocketsCtx}
use Rattle.wasi_causes.proofs.Words.{Bool, Input, Output, ap, bind_progress, false, first_state, inl, inr, is_connect, kind_at, length, new_record, new_socket, own_of, poll_asks, refl, subst, sym, true, turn_asks, with_handle, with_writer, ℕ, ⊤, ◌∙◌, ◌≡◌, ◌⊎◌}
use Rattle.wasi_causes.proofs.Words.{Done, Entry, OpId, Refused, Waits}
use Rattle.lookup_records.specs.declared.name_lookup.LookupOp.{LookupOp}
use Rattle.wasi_walks.proofs.walks.Moves.{listen_after}
use Rattle.wasi_causes.proofs.Derived.{OwnedIn, first_in}
use Rattle.host_store.specs.Kinds.{udp_kind}
use Rattle.host_store.specs.declared.kind.Kind.TheVariants.{Incoming, Listen3, Outgoing, Result3, Tcp3}
use Rattle.wasi_records.specs.Records.{tcp2_at, tcp2_of, tcp2_put, tcp2_pushed}
use Rattle.wasi_records.specs.declared.records.Record.{Record}
use Rattle.udp_records.specs.declared.udp.UdpRecord.{UdpRecord}
use Rattle.wasi_table.specs.Table.{Live}
use Rattle.wasi_tcp.specs.declared.listener.Accepting.TheVariants as accepting
use Rattle.wasi_udp.specs.Create.{Create, after_create as udp_after_create}
use Rattle.wasi_walks.proofs.fits.Law.{whatever}
use Rattle.wasi_walks.proofs.GoneLists.{was_there}
use Rattle.wasi_walks.proofs.owners.Law.{Owns, owners, owners_begin}
use Rattle.wasi_walks.proofs.owners.Owned as owned
use Rattle.wasi_walks.proofs.owners.Owned.{owner_of}
use Rattle.wasi_walks.proofs.PipeLists.{slot_push_same}
use Rattle.wasi_walks.proofs.Places.{push_finds, push_new, push_was, put_found, put_was, tcp_sort, udp_sort}
use Rattle.wasi_walks.proofs.Slots.{SlotOf, has_without, one_of, slot_of, value_of}
use Rattle.wasi_walks.proofs.walks.Law.{BeginsWrites, InCall, Law}
use Rattle.wasi_walks.proofs.walks.Layers.{begins_stand, stand}
use Rattle.wasi_walks.proofs.walks.Moves as walk
use Rattle.wasi_walks.proofs.walks.Moves.{Found, FoundUdp, Held, Here, Interface, IsOfOld, Made, Marks, Move, Own, P2, P3, Past, Plain, SameSockets, put, put_udp, tcp_kind, udp_begun, with_records}
use Rattle.wasi_walks.proofs.walks.OfState.{Becomes, Created, CreatedWith, GivenUp, Handles, HasHandle, HasNoRoom, IsClosed, Learnt, NoRoom}
use Rattle.wasi_walks.proofs.walks.OfState.{DatagramBegan, DatagramPolled, OfAccepted, OfCreated, OfError, OfLine, OfListener, OfPlain, OfResult, OfState, OfStream, Resolved, StandsOn, UdpBegun, UdpGivenUp, UdpIsClosed, UdpLearnt, Writing, begins_state, of_state}
use Rattle.wasi_walks.proofs.walks.States.{Over, makes_plain}
use Rattle.wasi_walks.specs.Licence.{Has}

-- == what holds of a state
abbrev pub IdleAt : List Record → ℕ → Type 0
IdleAt records place = (r : TcpRecord) → tcp2_at records place ≡ Some r → is_connect r.in_progress ≡ false

-- of a socket that joined the records and has no handle yet
abbrev pub MadeIdle : List Record → Made → Type 0
MadeIdle records (Made.Joined P3 place) = IdleAt records place
MadeIdle records (Made.Faulted place) = IdleAt records place
MadeIdle records _ = ⊤

abbrev pub LiveIdle : HandleTable → List Record → Type 0
LiveIdle t records = (a : Live Kind) (place : ℕ) → Has t.live a → a.value ≡ Tcp3 place → IdleAt records place

abbrev pub Idle : Here → Type 0
Idle h = LiveIdle h.machine.table h.machine.store.records × MadeIdle h.machine.store.records h.made

-- == records change
made_still : (old now : List Record) (made : Made) → ((place : ℕ) → IdleAt old place → IdleAt now place) → MadeIdle old made → MadeIdle now made
made_still old now (Made.Joined P3 place) f k = f place k
made_still old now (Made.Faulted place) f k = f place k
made_still old now _ f k = tt

still : (t : HandleTable) (old now : List Record) (made : Made) → ((place : ℕ) → IdleAt old place → IdleAt now place) → LiveIdle t old × MadeIdle old made → LiveIdle t now × MadeIdle now made
still t old now made f i = (λ a place l e. f place (i.0 a place l e), made_still old now made f i.1)

module _ (h : Here) (place : ℕ) (r now : TcpRecord) (g : Found h place r) where
  -- a record in place of one, of which this is kept at this place
  put_at : (k : ℕ) → (k ≡ place → is_connect r.in_progress ≡ false → is_connect now.in_progress ≡ false) → IdleAt h.machine.store.records k → IdleAt (tcp2_put h.machine.store.records place now) k
  put_at k keeps idle q e = elim (put_found tcp_sort h.machine.store.records place now k q e) [
    | inl p ↦ subst (λ (x : TcpRecord). is_connect x.in_progress ≡ false) p.1 (keeps p.0 (idle r (ap (tcp2_at h.machine.store.records) p.0 ∙ g)))
    | inr p ↦ idle q p
  ]

  put_idle : (is_connect r.in_progress ≡ false → is_connect now.in_progress ≡ false) → Idle h → Idle (put h place now)
  put_idle keeps i = still h.machine.table h.machine.store.records _ h.made (λ k idle. put_at k (λ same. keeps) idle) i

  pub put_same : now.in_progress ≡ r.in_progress → Idle h → Idle (put h place now)
  put_same same = put_idle (λ idle. ap is_connect same ∙ idle)

  -- one whose connect, if it has one, goes on or begins by a handle of 0.2
  changed : Plain (h.made ≡ Made.Emptied (Tcp3 place)) (IsOfOld h place) r now → Owns h → Idle h → Idle (put h place now)
  changed p b i = (λ a k l e. put_at k (λ same. by_connect (is_connect now.in_progress) refl (λ old. two a k same l e old)) (i.0 a k l e), by_made h.made refl i.1)
    where
      by_connect : (c : Bool) → is_connect now.in_progress ≡ c → (IsOfOld h place → ⊥) → is_connect r.in_progress ≡ false → is_connect now.in_progress ≡ false
      by_connect false e none idle = e
      by_connect true e none idle = absurd (elim (p.connects e) [ inl was ↦ (cc) | inr begins ↦ none begins.1 ])

      -- the record has one owner
      two : (a : Live Kind) (k : ℕ) → k ≡ place → Has h.machine.table.live a → a.value ≡ Tcp3 k → IsOfOld h place → ⊥
      two a k same l e old =
          let s : SlotOf h.machine.table.live old.handle (Tcp2 place) = slot_of h.machine.table.live old.handle (Tcp2 place) old.socket in
          let one : a ≡ s.slot = b.0.one a s.slot place l s.live_one (ap owner_of e ∙ ap (λ (n : ℕ). Some n) same) (ap owner_of s.value) in
          let kinds : Tcp3 k ≡ Tcp2 place = sym e ∙ (ap (λ (x : Live Kind). x.value) one ∙ s.value) in
          absurd (cc)

      none_old : owned.NoneOf h.machine.table place → IsOfOld h place → ⊥
      none_old none old =
          let s : SlotOf h.machine.table.live old.handle (Tcp2 place) = slot_of h.machine.table.live old.handle (Tcp2 place) old.socket in
          none s.slot s.live_one (inl (ap owner_of s.value))

      at_made : (k : ℕ) → owned.NoneOf h.machine.table k → IdleAt h.machine.store.records k → IdleAt (tcp2_put h.machine.store.records place now) k
      at_made k none idle = put_at k (λ same. by_connect (is_connect now.in_progress) refl (none_old (subst (owned.NoneOf h.machine.table) same none))) idle

      by_made : (made : Made) → h.made ≡ made → MadeIdle h.machine.store.records made → MadeIdle (tcp2_put h.machine.store.records place now) made
      by_made (Made.Joined P3 k) e idle = at_made k (subst (owned.MadeSo h.machine.table h.machine.store.records) e b.1).0 idle
      by_made (Made.Faulted k) e idle = at_made k (subst (owned.MadeSo h.machine.table h.machine.store.records) e b.1).0 idle
      by_made _ e idle = tt

put_udp_idle : (h : Here) (place : ℕ) (now : UdpRecord) → Idle h → Idle (put_udp h place now)
put_udp_idle h place now i =
    still h.machine.table h.machine.store.records _ h.made (λ k idle q e. idle q (put_was udp_sort tcp_sort (λ t. refl) h.machine.store.records place now k q e)) i

same_idle : {new : LookupOp → Type 0} (h : Here) (records : List Record) → SameSockets new h.machine.store.records records → Idle h → Idle (with_records h records)
same_idle h records same i = still h.machine.table h.machine.store.records records h.made (λ k idle q e. idle q (sym (same.tcp k) ∙ e)) i

-- a new one does nothing yet
pushed_at : (records : List Record) (new : TcpRecord) → is_connect new.in_progress ≡ false → (k : ℕ) → IdleAt records k → IdleAt (tcp2_pushed records new) k
pushed_at records new none k idle q e = elim (push_new tcp_sort records new k q e) [ inl p ↦ idle q p | inr p ↦ subst (λ (x : TcpRecord). is_connect x.in_progress ≡ false) p none ]

last_idle : (records : List Record) (new : TcpRecord) → is_connect new.in_progress ≡ false → IdleAt (tcp2_pushed records new) (length records)
last_idle records new none q e = let same : Some new ≡ Some q = sym (push_finds tcp_sort records new) ∙ e in let is : new ≡ q = cc in subst (λ (x : TcpRecord). is_connect x.in_progress ≡ false) is none

push_idle : (t : HandleTable) (records : List Record) (new : TcpRecord) (made : Made) → is_connect new.in_progress ≡ false → LiveIdle t records × MadeIdle records made → LiveIdle t (tcp2_pushed records new) × MadeIdle (tcp2_pushed records new) made
push_idle t records new made none i = still t records (tcp2_pushed records new) made (pushed_at records new none) i

begun_idle : (h : Here) (made : Result Create ErrorCode) → Idle h → Idle (udp_begun h made)
begun_idle h (Ok create) i = still h.machine.table h.machine.store.records _ h.made (λ k idle q e. idle q (push_was udp_sort tcp_sort (λ t. refl) h.machine.store.records (UdpRecord.Creating create) k q e)) i
begun_idle h (Err c) i = i

-- == handles
-- one that is no socket's of 0.3
abbrev IsOther : Kind → Type 0
IsOther (Tcp3 place) = ⊥
IsOther _ = ⊤

other_not : (kind : Kind) (place : ℕ) → IsOther kind → kind ≡ Tcp3 place → ⊥
other_not kind place other e = subst IsOther e other

with_live : (t : HandleTable) (records : List Record) (kind : Kind) (parent : Option ℕ) → ((place : ℕ) → kind ≡ Tcp3 place → IdleAt records place) → LiveIdle t records → LiveIdle (with_handle t kind parent) records
with_live t records kind parent new i a place l e = elim (one_of t kind parent a l) [ inl was ↦ i a place was e | inr is ↦ new place (value_of t kind parent a (Tcp3 place) is e) ]

with_other : (t : HandleTable) (records : List Record) (kind : Kind) (parent : Option ℕ) → IsOther kind → LiveIdle t records → LiveIdle (with_handle t kind parent) records
with_other t records kind parent other i = with_live t records kind parent (λ place e. absurd (other_not kind place other e)) i

module _ (contexts : List WasiSocketsCtx) (line : ℕ) (origin : Step) where
  pub moves_idle : (h now : Here) → Move line origin h now → Owns h → Idle h → Idle now
  moves_idle _ _ (walk.Changes h place r now g p) b i = changed h place r now g p b i
  moves_idle _ _ (walk.ClosesReader h place r s g e) b i = put_same h place r _ g refl i
  moves_idle _ _ (walk.Writes h place r s w g e m) b i = put_same h place r _ g refl i
  moves_idle _ _ (walk.IsGone h place r q g e) b i = put_idle h place r _ g (λ idle. refl) i
  moves_idle _ _ (walk.Reconnects h place r c now g e s t u) b i = put_same h place r _ g refl i
  moves_idle _ _ (walk.Opens h place r c d g e n) b i = put_idle h place r _ g (λ idle. refl) i
  moves_idle _ _ (walk.TakesEnd h handle place r _ of g (walk.OfReceive c e free)) b i = put_same h place r _ g refl i
  moves_idle _ _ (walk.TakesEnd h handle place r _ of g (walk.OfSend c e free)) b i = put_same h place r _ g refl i
  moves_idle _ _ (walk.AddsSlot h s) b i = ((same_idle {new = λ op. ⊥} h _ (slot_push_same h.machine.store.records s) i).0, tt)
  moves_idle _ _ (walk.BeginsConnect h place r side a bound at g d to known idle own) b i = put_same h place r _ g refl i
  moves_idle _ _ (walk.BeginsBind h place r side a at g d to own) b i = put_idle h place r _ g (λ idle. refl) i
  moves_idle _ _ (walk.BeginsWrite h place n r s half permit bytes at g e w within own) b i = put_same h place r _ g refl i
  moves_idle _ _ (walk.BeginsListen h place r side bound at g d known free none to idle own) b i = put_same h place r _ g refl i
  moves_idle _ _ (walk.BeginsAccept h place n r l at g e a own) b i = put_same h place r _ g refl i
  moves_idle _ _ (walk.Unlistens h place r op q g e c o) b i = put_same h place r _ g refl i
  moves_idle _ _ (walk.Forgets h place r l c g e a) b i = put_same h place r _ g refl i
  moves_idle _ _ (walk.CancelsBind h place r op q g e) b i = put_idle h place r _ g (λ idle. refl) i
  moves_idle _ _ (walk.UdpChanges h place o now g p keeps) b i = put_udp_idle h place (UdpRecord.Open now) i
  moves_idle _ _ (walk.BeginsUdpBind h place o a at g to own) b i = put_udp_idle h place _ i
  moves_idle _ _ (walk.BeginsUdpConnect h place o a bound at g to known none own) b i = put_udp_idle h place _ i
  moves_idle _ _ (walk.BeginsSend h place n o out d bound at g e item known own) b i = put_udp_idle h place _ i
  moves_idle _ _ (walk.BeginsReceive h place n o inc bound at g e is own) b i = put_udp_idle h place _ i
  moves_idle _ _ (walk.CancelsUdpBind h place o op q g e) b i = put_udp_idle h place _ i
  moves_idle _ _ (walk.CancelsUdpConnect h place o q g) b i = put_udp_idle h place _ i
  moves_idle _ _ (walk.Joins h c handle place r l new peer is of u g e a) b i =
      let idle = walk.accepting_now r l accepting.Idle in ((push_idle h.machine.table (tcp2_put h.machine.store.records place idle) (walk.joined l new peer) h.made refl (put_same h place r idle g refl i)).0, tt)
  moves_idle _ _ (walk.JoinsPlain h c listener remaining place r l new peer is of u g e a) b i =
      let records = tcp2_put h.machine.store.records place (walk.accepting_now r l accepting.Idle) in
      ((push_idle h.machine.table records (walk.joined_plain l new peer) h.made refl (put_same h place r _ g refl i)).0, last_idle records (walk.joined_plain l new peer) refl)
  moves_idle _ _ (walk.JoinsFault h place r l c u g e a) b i =
      let records = tcp2_put h.machine.store.records place (walk.accepting_now r l accepting.Idle) in
      ((push_idle h.machine.table records (walk.faulted l c) h.made refl (put_same h place r _ g refl i)).0, last_idle records (walk.faulted l c) refl)
  moves_idle _ _ (walk.Finds h records same) b i = same_idle h records same i
  moves_idle _ _ (walk.GivesBack h place idle left) b i = still h.machine.table h.machine.store.records _ h.made (λ k idle q e. idle q (was_there tcp2_of refl h.machine.store.records place k q e)) i
  moves_idle _ _ (walk.Empties h handle kind q e none) b i = (λ a place l f. i.0 a place (has_without h.machine.table.live handle a l) f, tt)
  moves_idle _ _ (walk.Takes h handle q made none) b i = (λ a place l f. i.0 a place (has_without h.machine.table.live handle a l) f, i.1)
  moves_idle _ _ (walk.Leaves h) b i = (i.0, tt)
  moves_idle _ _ (walk.Watches h own) b i = (i.0, tt)
  moves_idle _ _ (walk.Numbers h) b i = (i.0, tt)
  moves_idle _ _ (walk.Frees h place made) b i = (i.0, tt)
  moves_idle _ _ (walk.IsUnheld h place r g free) b i = (i.0, tt)
  moves_idle _ _ (walk.AwaitsCreate h place face create is g) b i = (i.0, tt)
  moves_idle _ _ (walk.CallsHandles h kind calls quiet) b i = (i.0, tt)
  moves_idle _ _ (walk.RecallsCall h ids call e) b i = (i.0, tt)
  moves_idle _ _ (walk.RemembersStreams h c handle place remote is of o g none) b i = (i.0, tt)
  moves_idle _ _ (walk.RecallsStreams h ids place handle e own) b i = (i.0, tt)
  moves_idle _ _ (walk.RemembersListen h marks place r is under g none) b i = (i.0, tt)
  moves_idle _ _ (walk.RecallsListen h ids place marks e) b i = (i.0, tt)
  moves_idle _ _ (walk.DropsUdp h place o idle made g) b i = put_udp_idle h place _ i
  moves_idle _ _ _ b i = i

  bound_none : (op : Operation) (end : End × List Item) → is_connect (bind_progress op end) ≡ false
  bound_none op (Waits, items) = refl
  bound_none op (Done given, items) = refl
  bound_none op (Refused c given, items) = refl

  pub polls_idle : (h : Here) (op : Operation) (after : End × List Item → Here) → Held h op after → (end : End × List Item) → Idle h → Idle (after end)
  polls_idle h _ _ (walk.BindsOn place r op q g e) end i = put_idle h place r _ g (λ idle. bound_none op end) i
  polls_idle h _ _ (walk.Connects place r op g e) end i = put_same h place r _ g refl i
  polls_idle h _ _ (walk.Listens place r op q g e c) end i = put_idle h place r _ g (λ idle. listened end idle) i
    where
      listened : (end : End × List Item) → is_connect r.in_progress ≡ false → is_connect (listen_after op r end).in_progress ≡ false
      listened (Waits, items) idle = idle
      listened (Done given, items) idle = refl
      listened (Refused c given, items) idle = idle
  polls_idle h _ _ (walk.Awaits place r l op g e a) end i = put_same h place r _ g refl i
  polls_idle h _ _ (walk.UdpCreates place create q g) end i = put_udp_idle h place _ i
  polls_idle h _ _ (walk.UdpBindsOn place o op q g e) end i = put_udp_idle h place _ i
  polls_idle h _ _ (walk.UdpConnectsOn place o op q g e) end i = put_udp_idle h place _ i
  polls_idle h _ _ (walk.UdpReconnectsOn place o op q g e) end i = put_udp_idle h place _ i
  polls_idle h _ _ (walk.SendsOn place o out op left g e s settles) end i = put_udp_idle h place _ i
  polls_idle h _ _ (walk.ReceivesOn place o inc op g e s) end i = put_udp_idle h place _ i

  -- == what is made
  of_tcp : (kind : Kind) (place : ℕ) → (kind ≡ Input place) ⊎ (kind ≡ Output place) → IsOther kind
  of_tcp kind place (inl e) = subst IsOther (sym e) tt
  of_tcp kind place (inr e) = subst IsOther (sym e) tt

  of_stream : (kind : Kind) (place : ℕ) → (kind ≡ Incoming place) ⊎ (kind ≡ Outgoing place) → IsOther kind
  of_stream kind place (inl e) = subst IsOther (sym e) tt
  of_stream kind place (inr e) = subst IsOther (sym e) tt

  of_end : (socket : ℕ) (kind : Kind) (s : Step) → walk.MakesEnd socket kind s → IsOther kind
  of_end socket (Tcp3 place) s m = absurd m
  of_end socket _ s m = tt

  of_udp : (face : Interface) (place : ℕ) → IsOther (udp_kind face place)
  of_udp P2 place = tt
  of_udp P3 place = tt

  plain_other : (kind : Kind) → walk.MakesPlain origin kind → IsOther kind
  plain_other (Tcp3 place) m = makes_plain origin (Tcp3 place) m
  plain_other _ m = tt

  is_other : (h : Here) (kind : Kind) (parent : Option ℕ) (sock : Option OpId) → Marks origin h kind parent sock → IsOther kind
  is_other h kind _ _ (walk.AStream c handle place _ is e opened) = of_tcp kind place e
  is_other h kind _ _ (walk.AnAcceptedStream c listener handle place _ r is e made own g) = of_tcp kind place e
  is_other h kind _ _ (walk.APlain _ makes numbered) = plain_other kind makes
  is_other h kind _ _ (walk.AnEnd socket place _ end r m in_it e g is made) = of_end socket kind origin m
  is_other h _ _ _ _ = tt

  handles_idle : (h : Here) (kind : Kind) (parent : Option ℕ) (made : Made) → Handles origin h kind parent made → Idle h
      → LiveIdle (with_handle h.machine.table kind parent) h.machine.store.records × MadeIdle h.machine.store.records made
  handles_idle h _ _ _ (OfLine kind parent sock m) i = (with_other h.machine.table h.machine.store.records kind parent (is_other h kind parent sock m) i.0, i.1)
  handles_idle h _ _ _ (OfAccepted c s place r is e o g) i = (with_other h.machine.table h.machine.store.records (Tcp2 place) (Some s) tt i.0, tt)
  handles_idle h _ _ _ (OfPlain c s remaining place r is e o g) i =
      (with_live h.machine.table h.machine.store.records (Tcp3 place) (Some s) (λ k same. let its : place ≡ k = cc in subst (IdleAt h.machine.store.records) its (joined e)) i.0, tt)
    where
      joined : (h.made ≡ Made.Joined P3 place) ⊎ (h.made ≡ Made.Faulted place) → IdleAt h.machine.store.records place
      joined (inl m) = subst (MadeIdle h.machine.store.records) m i.1
      joined (inr m) = subst (MadeIdle h.machine.store.records) m i.1
  handles_idle h _ _ _ (OfListener n handle reached place r q m g has e) i = (with_other h.machine.table h.machine.store.records (Listen3 place) (Some handle) tt i.0, tt)
  handles_idle h _ _ _ (OfResult socket place slot r m made e g) i = (with_other h.machine.table h.machine.store.records (Result3 slot) (Some socket) tt i.0, tt)
  handles_idle h _ _ _ (OfCreated face place u g) i = (with_other h.machine.table h.machine.store.records (udp_kind face place) None (of_udp face place) i.0, tt)
  handles_idle h _ _ _ (OfStream place n handle reached kind next new of) i = (with_other h.machine.table h.machine.store.records kind (Some handle) (of_stream kind place (walk.one_stream h.made n handle reached kind place next)) i.0, tt)
  handles_idle h kind parent _ (OfError n handle place handles m k e) i = (with_other h.machine.table h.machine.store.records kind parent tt i.0, i.1)

  no_room : (h : Here) (made : Made) → HasNoRoom made → MadeIdle h.machine.store.records made
  no_room h Past none = tt
  no_room h (Made.ToSend n handle reached) none = tt
  no_room h _ none = absurd none

  created : (face : Interface) (records : List Record) (new : TcpRecord) → is_connect new.in_progress ≡ false → (k : ℕ) → tcp_kind face (length records) ≡ Tcp3 k → IdleAt (tcp2_pushed records new) k
  created P2 records new none k e = absurd (cc)
  created P3 records new none k e = let same : length records ≡ k = cc in subst (IdleAt (tcp2_pushed records new)) same (last_idle records new none)

  pub becomes_idle : (h now : Here) → Becomes contexts line origin h now → Idle h → Idle now
  becomes_idle h _ (Learnt place r side told at g e) i = put_same h place r _ g refl i
  becomes_idle h _ (IsClosed place r side q g e) i = put_idle h place r _ g (λ idle. refl) i
  becomes_idle h _ (GivenUp place r q goes g) i = put_same h place r _ g refl i
  becomes_idle h _ (UdpLearnt place o socket g e) i = put_udp_idle h place _ i
  becomes_idle h _ (UdpIsClosed place o q g) i = put_udp_idle h place _ i
  becomes_idle h _ (UdpGivenUp place create q g) i = put_udp_idle h place _ i
  becomes_idle h _ (UdpBegun face ctx family r c u m) i = begun_idle h (udp_after_create (own_of line) ctx.name family r) i
  becomes_idle h _ (Resolved host records l same) i = same_idle h records same i
  becomes_idle h _ (StandsOn host told) i = i
  becomes_idle h _ (DatagramBegan place o call op polled ended at g starts m own left) i = i
  becomes_idle h _ (DatagramPolled n b place o call op polled ended is at g polls left) i = i
  becomes_idle h _ (HasHandle kind parent made k) i = handles_idle h kind parent made k i
  becomes_idle h _ (NoRoom made none) i = (i.0, no_room h made none)
  becomes_idle h _ (Created face ctx family c u m) i = push_idle h.machine.table h.machine.store.records (new_record (new_socket (own_of line) ctx.name family)) h.made refl i
  becomes_idle h _ (CreatedWith face ctx family c u m) i =
      let new = new_record (new_socket (own_of line) ctx.name family) in
      let k = push_idle h.machine.table h.machine.store.records new h.made refl i in
      (with_live h.machine.table (tcp2_pushed h.machine.store.records new) (tcp_kind face (length h.machine.store.records)) None (created face h.machine.store.records new refl) k.0, k.1)
  becomes_idle h _ (Writing _ (InCall place n r s half permit bytes at g e w within used)) i = put_same h place r _ g refl i

  abbrev idle_state : OfState contexts line origin (λ es h. Owns h)
  idle_state = record {
    Holds = Idle;
    moves = λ es h now m b i. moves_idle h now m b i;
    becomes = λ es h now k b i. becomes_idle h now k i;
    polls = λ es h op after held b i. whatever (λ end. Idle (after end)) (λ end. polls_idle h op after held end i) es (poll_asks op);
    turns = λ es h place r s g e b i. whatever (λ done. Idle (put h place (with_writer r s done.1))) (λ done. put_same h place r _ g refl i) es (turn_asks s.writer);
  }

  -- over that of owners
  unfoldable pub idles : Law contexts line origin
  unfolding owners
  idles = stand (owners contexts line origin) (of_state idle_state)

  pub idles_begin : BeginsWrites idles
  unfolding idles owners
  idles_begin = begins_stand (owners contexts line origin) (of_state idle_state) (owners_begin contexts line origin) (begins_state idle_state)

  pub idle_in : (es : List Entry) (h : Here) → idles.Inv es h → Owns h × Idle h
  unfolding idles owners
  idle_in es h i = i

  pub in_idle : (es : List Entry) (h : Here) → Owns h × Idle h → idles.Inv es h
  unfolding idles owners
  in_idle es h i = i

-- == between the lines
abbrev pub IdleIn : Machine → Type 0
IdleIn m = OwnedIn m × LiveIdle m.table m.store.records

pub idle_over : (m : Machine) → Owns (Over m) × Idle (Over m) → IdleIn m
idle_over m i = ((i.0.0, i.0.2), i.1.0)

pub first_idle : IdleIn first_state
first_idle = (first_in, λ a place l e. absurd l)

-- a socket of a live handle of 0.3
pub its_idle : (h : Here) (handle place : ℕ) (r : TcpRecord) → Idle h → kind_at h.machine.table handle ≡ Some (Tcp3 place) → Found h place r → is_connect r.in_progress ≡ false
its_idle h handle place r i of g = let s : SlotOf h.machine.table.live handle (Tcp3 place) = slot_of h.machine.table.live handle (Tcp3 place) of in i.0 s.slot place s.live_one s.value r g
