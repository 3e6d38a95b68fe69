-- Of the machines that runs lead to: a UDP socket whose connect is in progress has no datagram streams. The connect is pending, or the
-- line that is done goes on with it.
use Rattle.wasi_walks.proofs.walks.Law.{BeginsWrites, InCall, Law}
use Rattle.wasi_causes.proofs.Words.{Bool, End, Err, ErrorCode, Item, List, Machine, None, Ok, OpId, Operation, Option, Result, Some, Standing, StandingCall, Step, TcpRecord, WasiSocketsCtx}
use Rattle.wasi_causes.proofs.Words.{ap, first_state, inl, inr, own_of, poll_asks, refl, standing_as, subst, sym, true, false, turn_asks, with_writer, ℕ, ⊤, ◌∙◌, ◌≡◌, ◌⊎◌}
use Rattle.std.specs.Prelude.{is_some, ◌+◌}
use Rattle.wasi_tcp.specs.declared.listener.Accepting.TheVariants as accepting
use Rattle.wasi_udp.specs.Create.{Create, after_create as udp_after_create}
use Rattle.wasi_world.specs.Operation.{Done, Refused, Waits}
use Rattle.udp_records.specs.Datagrams.{has_streams, udp_connect_left, udp_reconnect_left}
use Rattle.wasi_records.specs.Records.{tcp2_put, tcp2_pushed, udp2_at, udp2_of, udp2_put, udp2_pushed}
use Rattle.udp_records.specs.Udp.{udp_create_left}
use Rattle.lookup_records.specs.declared.name_lookup.LookupOp.{LookupOp}
use Rattle.wasi_records.specs.declared.records.Record.{Record}
use Rattle.udp_records.specs.declared.udp.OpenUdp.{OpenUdp}
use Rattle.udp_records.specs.declared.udp.UdpRecord.{UdpRecord}
use Rattle.wasi_walks.proofs.GoneLists.{was_there}
use Rattle.wasi_walks.proofs.fits.Law.{whatever}
use Rattle.wasi_walks.proofs.walks.Here.{ConnectStands, IsConnectOf, NoConnectIn, NoStart, NoStartIn, NoStartStands, or_true}
use Rattle.wasi_walks.proofs.walks.Moves as walk
use Rattle.wasi_walks.proofs.walks.Moves.{Found, FoundUdp, GoesOn, Held, Here, Made, Move, Own, Past, SameSockets, ToConnect, Unused, Used, made_so, put, put_udp, udp_begun}
use Rattle.wasi_walks.proofs.walks.OfState.{Becomes, Created, CreatedWith, GivenUp, Handles, HasHandle, HasNoRoom, IsClosed, Learnt, NoRoom}
use Rattle.wasi_walks.proofs.walks.OfState.{DatagramBegan, DatagramPolled, OfError, OfLine, OfState, Resolved, StandsOn, UdpBegun, UdpGivenUp, UdpIsClosed, UdpLearnt, Writing, begins_state, of_state}
use Rattle.wasi_causes.proofs.Words.{Kind}
use Rattle.wasi_walks.proofs.Places.{push_found, push_was, put_found, put_was, tcp_sort, udp_sort}
use Rattle.wasi_walks.proofs.PipeLists.{slot_push_same}

-- == what is in progress
-- the connect of the record is pending, or the line goes on with it
abbrev GoesBy : Option Standing → Own → ℕ → Type 0
GoesBy standing own place = ConnectStands standing place ⊎ (own ≡ ToConnect place)

-- Where a connect is in progress, the socket has no streams.
pub record Connects (records : List Record) (standing : Option Standing) (own : Own) : Type 0 where
  pub quiet : (place : ℕ) (o : OpenUdp) (op : Operation) → udp2_at records place ≡ Some (UdpRecord.Open o) → o.connecting ≡ Some op → has_streams o ≡ false
  goes : (place : ℕ) (o : OpenUdp) (op : Operation) → udp2_at records place ≡ Some (UdpRecord.Open o) → o.connecting ≡ Some op → GoesBy standing own place

abbrev pub HasConnects : Machine → Type 0
HasConnects m = Connects m.store.records m.store.standing Used

-- no connect is pending
abbrev pub NoConnect : Option Standing → Type 0
NoConnect None = ⊤
NoConnect (Some s) = NoConnectIn s.call

-- nor beside a call on handles
abbrev pub CallsSo : Made → Option Standing → Type 0
CallsSo (Made.Calls kind n handles) standing = NoConnect standing
CallsSo _ standing = ⊤

abbrev pub Quiet : Here → Type 0
Quiet h = Connects h.machine.store.records h.machine.store.standing h.own × CallsSo h.made h.machine.store.standing

none_stands : (standing : Option Standing) (place : ℕ) → NoConnect standing → ConnectStands standing place → ⊥
none_stands None place n k = k
none_stands (Some s) place n k = by_call s.call n k
  where
    by_call : (call : StandingCall) → NoConnectIn call → IsConnectOf call place → ⊥
    by_call (StandingCall.UdpConnect p handle) n k = n
    by_call (StandingCall.UdpConnect3 p) n k = n
    by_call _ n k = k

no_start : (standing : Option Standing) → NoStartStands standing → NoConnect standing
no_start None q = tt
no_start (Some s) q = by_call s.call q
  where
    by_call : (call : StandingCall) → NoStartIn call → NoConnectIn call
    by_call (StandingCall.UdpConnect p handle) q = q
    by_call (StandingCall.UdpConnect3 p) q = q
    by_call _ q = tt

calls_so : (made : Made) (standing : Option Standing) → NoConnect standing → CallsSo made standing
calls_so (Made.Calls kind n handles) standing q = q
calls_so _ standing q = tt

-- == the line's own operation, and the pending call
owns : (records : List Record) (standing : Option Standing) (own now : Own) → ((k : ℕ) → own ≡ ToConnect k → ⊥) → Connects records standing own → Connects records standing now
owns records standing own now none i = record { quiet = i.quiet; goes = λ k o op at c. elim (i.goes k o op at c) [ inl s ↦ inl s | inr e ↦ absurd (none k e) ] }

-- where no connect was pending
stands_now : (records : List Record) (was standing : Option Standing) (own : Own) → NoConnect was → Connects records was own → Connects records standing own
stands_now records was standing own none i = record { quiet = i.quiet; goes = λ k o op at c. elim (i.goes k o op at c) [ inl s ↦ absurd (none_stands was k none s) | inr e ↦ inr e ] }

-- == records change
pub put_tcp : (h : Here) (place : ℕ) (now : TcpRecord) → Quiet h → Quiet (put h place now)
put_tcp h place now i = (record { quiet = λ k o op at c. i.0.quiet k o op (put_was tcp_sort udp_sort (λ t. refl) h.machine.store.records place now k _ at) c; goes = λ k o op at c. i.0.goes k o op (put_was tcp_sort udp_sort (λ t. refl) h.machine.store.records place now k _ at) c }, i.1)

push_tcp : (records : List Record) (new : TcpRecord) (standing : Option Standing) (own : Own) → Connects records standing own → Connects (tcp2_pushed records new) standing own
push_tcp records new standing own i = record { quiet = λ k o op at c. i.quiet k o op (push_was tcp_sort udp_sort (λ t. refl) records new k _ at) c; goes = λ k o op at c. i.goes k o op (push_was tcp_sort udp_sort (λ t. refl) records new k _ at) c }

push_create : (records : List Record) (create : Create) (standing : Option Standing) (own : Own) → Connects records standing own → Connects (udp2_pushed records (UdpRecord.Creating create)) standing own
push_create records create standing own i = record { quiet = λ k o op at c. i.quiet k o op (was k o at) c; goes = λ k o op at c. i.goes k o op (was k o at) c }
  where
    was : (k : ℕ) (o : OpenUdp) → udp2_at (udp2_pushed records (UdpRecord.Creating create)) k ≡ Some (UdpRecord.Open o) → udp2_at records k ≡ Some (UdpRecord.Open o)
    was k o at = elim (push_found udp_sort records (UdpRecord.Creating create) k (UdpRecord.Open o) at) [ inl e ↦ e | inr e ↦ absurd (let x = e.0 in cc) ]

pub found : {new : LookupOp → Type 0} (h : Here) (records : List Record) → SameSockets new h.machine.store.records records → Quiet h → Connects records h.machine.store.standing h.own × CallsSo h.made h.machine.store.standing
found h records same i = (record { quiet = λ k o op at c. i.0.quiet k o op (sym (same.udp k) ∙ at) c; goes = λ k o op at c. i.0.goes k o op (sym (same.udp k) ∙ at) c }, i.1)

-- a UDP socket's record, which is as this one
module _ (records : List Record) (standing : Option Standing) (own now : Own) (place : ℕ) (u : UdpRecord) where
  abbrev Its : Type 0
  Its = (o : OpenUdp) (op : Operation) → u ≡ UdpRecord.Open o → o.connecting ≡ Some op → (has_streams o ≡ false) × GoesBy standing now place

  put_by : Its → ((k : ℕ) → own ≡ ToConnect k → now ≡ ToConnect k) → Connects records standing own → Connects (udp2_put records place u) standing now
  put_by its stay i = record { quiet = λ k o op at c. (both k o op at c).0; goes = λ k o op at c. (both k o op at c).1 }
    where
      both : (k : ℕ) (o : OpenUdp) (op : Operation) → udp2_at (udp2_put records place u) k ≡ Some (UdpRecord.Open o) → o.connecting ≡ Some op → (has_streams o ≡ false) × GoesBy standing now k
      both k o op at c = elim (put_found udp_sort records place u k (UdpRecord.Open o) at) [
        | inl here ↦ (let x = its o op here.1 c in (x.0, subst (GoesBy standing now) (sym here.0) x.1))
        | inr other ↦ (i.quiet k o op other c, elim (i.goes k o op other c) [ inl s ↦ inl s | inr e ↦ inr (stay k e) ])
      ]

-- of which no connect is in progress
pub put_none : (h : Here) (place : ℕ) (u : UdpRecord) → ((o : OpenUdp) (op : Operation) → u ≡ UdpRecord.Open o → o.connecting ≡ Some op → ⊥) → Quiet h → Quiet (put_udp h place u)
put_none h place u none i = (put_by h.machine.store.records h.machine.store.standing h.own h.own place u (λ o op e c. absurd (none o op e c)) (λ k e. e) i.0, i.1)

false_too : (a b : Bool) → (b ≡ true → a ≡ true) → a ≡ false → b ≡ false
false_too a true less e = absurd (let t = less refl in cc)
false_too a false less e = refl

-- the same connect, and no more streams
module _ (h : Here) (place : ℕ) (o now : OpenUdp) (g : FoundUdp h place (UdpRecord.Open o)) (same : now.connecting ≡ o.connecting) (less : has_streams now ≡ true → has_streams o ≡ true) where
  its : (i : Quiet h) (x : OpenUdp) (op : Operation) → UdpRecord.Open now ≡ UdpRecord.Open x → x.connecting ≡ Some op → (has_streams x ≡ false) × GoesBy h.machine.store.standing h.own place
  its i x op e c =
      let is : now ≡ x = cc in
      let was : o.connecting ≡ Some op = sym same ∙ (ap (λ (y : OpenUdp). y.connecting) is ∙ c) in
      (subst (λ (y : OpenUdp). has_streams y ≡ false) is (false_too (has_streams o) (has_streams now) less (i.0.quiet place o op g was)), i.0.goes place o op g was)

  pub put_open : Quiet h → Quiet (put_udp h place (UdpRecord.Open now))
  put_open i = (put_by h.machine.store.records h.machine.store.standing h.own h.own place (UdpRecord.Open now) (its i) (λ k e. e) i.0, i.1)

-- streams that a line makes which has begun nothing: no connect is in progress
new_streams : (h : Here) (place : ℕ) (o now : OpenUdp) → FoundUdp h place (UdpRecord.Open o) → now.connecting ≡ o.connecting → h.own ≡ Unused → NoStartStands h.machine.store.standing → Quiet h → Quiet (put_udp h place (UdpRecord.Open now))
new_streams h place o now g same own q i = put_none h place (UdpRecord.Open now) none i
  where
    none : (x : OpenUdp) (op : Operation) → UdpRecord.Open now ≡ UdpRecord.Open x → x.connecting ≡ Some op → ⊥
    none x op e c =
        let is : now ≡ x = cc in
        elim (i.0.goes place o op g (sym same ∙ (ap (λ (y : OpenUdp). y.connecting) is ∙ c))) [ inl s ↦ none_stands h.machine.store.standing place (no_start h.machine.store.standing q) s | inr e ↦ absurd (let p : Unused ≡ ToConnect place = sym own ∙ e in cc) ]

changed : (h : Here) (place : ℕ) (o now : OpenUdp) → FoundUdp h place (UdpRecord.Open o) → now.connecting ≡ o.connecting → (has_streams now ≡ true → has_streams o ≡ true) ⊎ ((h.own ≡ Unused) × NoStart h) → Quiet h → Quiet (put_udp h place (UdpRecord.Open now))
changed h place o now g same keeps i = elim keeps [ inl less ↦ put_open h place o now g same less i | inr new ↦ new_streams h place o now g same new.0 new.1 i ]

-- one is given back
fewer : (h : Here) (place : ℕ) → Quiet h → Quiet (walk.without_record h place)
fewer h place i = (
  record {
    quiet = λ k o op at c. i.0.quiet k o op (was_there udp2_of refl h.machine.store.records place k (UdpRecord.Open o) at) c;
    goes = λ k o op at c. i.0.goes k o op (was_there udp2_of refl h.machine.store.records place k (UdpRecord.Open o) at) c;
  },
  i.1,
)

-- the line's next operation begins
spent : (h : Here) (own was : Own) → h.own ≡ was → ((k : ℕ) → was ≡ ToConnect k → ⊥) → Quiet h → Quiet (record h { own = own })
spent h own was e none i = (owns h.machine.store.records h.machine.store.standing h.own own (λ k c. none k (sym e ∙ c)) i.0, i.1)

-- and a record changes
begun_tcp : (h : Here) (place : ℕ) (now : TcpRecord) (own was : Own) → h.own ≡ was → ((k : ℕ) → was ≡ ToConnect k → ⊥) → Quiet h → Quiet (record (put h place now) { own = own })
begun_tcp h place now own was e none i = spent (put h place now) own was e none (put_tcp h place now i)

begun_udp : (h : Here) (place : ℕ) (o now : OpenUdp) → FoundUdp h place (UdpRecord.Open o) → now.connecting ≡ o.connecting → (has_streams now ≡ true → has_streams o ≡ true) → (own was : Own) → h.own ≡ was → ((k : ℕ) → was ≡ ToConnect k → ⊥) → Quiet h → Quiet (record (put_udp h place (UdpRecord.Open now)) { own = own })
begun_udp h place o now g same less own was e none i = spent (put_udp h place (UdpRecord.Open now)) own was e none (put_open h place o now g same less i)

unused : (k : ℕ) → Unused ≡ ToConnect k → ⊥
unused k e = absurd (cc)

used : (k : ℕ) → Used ≡ ToConnect k → ⊥
used k e = absurd (cc)

names : (n k : ℕ) → Own.Names n ≡ ToConnect k → ⊥
names n k e = absurd (cc)

to_write : (side : OpId) (bytes : List ℕ) (k : ℕ) → Own.ToWrite side bytes ≡ ToConnect k → ⊥
to_write side bytes k e = absurd (cc)

-- a connect begins
begins : (h : Here) (place : ℕ) (o : OpenUdp) (op : Operation) → has_streams o ≡ false → h.own ≡ Unused → Quiet h → Quiet (record (put_udp h place (UdpRecord.Open (record o { connecting = Some op }))) { own = ToConnect place })
begins h place o op none own i = (
  put_by h.machine.store.records h.machine.store.standing h.own (ToConnect place) place (UdpRecord.Open (record o { connecting = Some op }))
      (λ x p e c. (let is : record o { connecting = Some op } ≡ x = cc in subst (λ (y : OpenUdp). has_streams y ≡ false) is none, inr refl)) (λ k e. absurd (unused k (sym own ∙ e))) i.0,
  i.1,
)

-- it is over, or pending
ended : (h : Here) (place : ℕ) → h.own ≡ ToConnect place → walk.ConnectIsOver h place → Quiet h → Quiet (record h { own = Used })
ended h place own over i = (record { quiet = i.0.quiet; goes = λ k o op at c. elim (i.0.goes k o op at c) [ inl s ↦ inl s | inr e ↦ inl (by_place k o op at c (let p : ToConnect k ≡ ToConnect place = sym e ∙ own in cc) over) ] }, i.1)
  where
    by_place : (k : ℕ) (o : OpenUdp) (op : Operation) → udp2_at h.machine.store.records k ≡ Some (UdpRecord.Open o) → o.connecting ≡ Some op → k ≡ place → walk.ConnectIsOver h place → ConnectStands h.machine.store.standing k
    by_place k o op at c e (inl none) = absurd (none o op (subst (λ (x : ℕ). udp2_at h.machine.store.records x ≡ Some (UdpRecord.Open o)) e at) c)
    by_place k o op at c e (inr s) = subst (ConnectStands h.machine.store.standing) (sym e) s

-- == of the moves
goes_none : (call : StandingCall) (r : TcpRecord) → GoesOn call r → NoConnectIn call
goes_none (StandingCall.UdpConnect place handle) r k = k
goes_none (StandingCall.UdpConnect3 place) r k = k
goes_none _ r k = tt

-- another call is pending, where none of these was
restood : (h : Here) (now : Standing) → NoStartStands h.machine.store.standing → NoConnectIn now.call → Quiet h → Connects h.machine.store.records (Some now) h.own × CallsSo h.made (Some now)
restood h now q n i = (stands_now h.machine.store.records h.machine.store.standing (Some now) h.own (no_start h.machine.store.standing q) i.0, calls_so h.made (Some now) n)

module _ (contexts : List WasiSocketsCtx) (line : ℕ) (origin : Step) where
  pub moves_quiet : (h now : Here) → Move line origin h now → Quiet h → Quiet now
  moves_quiet _ _ (walk.Spends h e) i = spent h Used Unused e unused i
  moves_quiet _ _ (walk.Counts h e) i = spent h (Own.Names 1) Unused e unused i
  moves_quiet _ _ (walk.SpendsNames h n e) i = spent h Used (Own.Names n) e (names n) i
  moves_quiet _ _ (walk.EndsConnect h place e over) i = ended h place e over i
  moves_quiet _ _ (walk.Changes h place r now g p) i = put_tcp h place now i
  moves_quiet _ _ (walk.ClosesReader h place r s g e) i = put_tcp h place _ i
  moves_quiet _ _ (walk.Writes h place r s w g e m) i = put_tcp h place _ i
  moves_quiet _ _ (walk.IsGone h place r q g e) i = put_tcp h place _ i
  moves_quiet _ _ (walk.Reconnects h place r c now g e s t u) i = put_tcp h place _ i
  moves_quiet _ _ (walk.Opens h place r c d g e n) i = put_tcp h place _ i
  moves_quiet _ _ (walk.TakesEnd h handle place r now of g takes) i = put_tcp h place now i
  moves_quiet _ _ (walk.AddsSlot h s) i = ((found {new = λ op. ⊥} h _ (slot_push_same h.machine.store.records s) i).0, tt)
  moves_quiet _ _ (walk.BeginsConnect h place r side a bound at g d to known idle own) i = begun_tcp h place _ Used Unused own unused i
  moves_quiet _ _ (walk.BeginsBind h place r side a at g d to own) i = begun_tcp h place _ Used Unused own unused i
  moves_quiet _ _ (walk.BeginsWrite h place n r s half permit bytes at g e w within own) i = begun_tcp h place _ Used (Own.ToWrite half.side bytes) own (to_write half.side bytes) i
  moves_quiet _ _ (walk.BeginsListen h place r side bound at g d known free none to idle own) i = begun_tcp h place _ Used Unused own unused i
  moves_quiet _ _ (walk.BeginsAccept h place n r l at g e a own) i = begun_tcp h place _ (Own.Names (n + 1)) (Own.Names n) own (names n) i
  moves_quiet _ _ (walk.Unlistens h place r op q g e c o) i = put_tcp h place _ i
  moves_quiet _ _ (walk.Forgets h place r l c g e a) i = put_tcp h place _ i
  moves_quiet _ _ (walk.CancelsBind h place r op q g e) i = put_tcp h place _ i
  moves_quiet _ _ (walk.Joins h c handle place r l new peer is of u g e a) i =
      let idle = walk.accepting_now r l accepting.Idle in (push_tcp (tcp2_put h.machine.store.records place idle) (walk.joined l new peer) h.machine.store.standing h.own (put_tcp h place idle i).0, tt)
  moves_quiet _ _ (walk.JoinsPlain h c listener remaining place r l new peer is of u g e a) i =
      let idle = walk.accepting_now r l accepting.Idle in (push_tcp (tcp2_put h.machine.store.records place idle) (walk.joined_plain l new peer) h.machine.store.standing h.own (put_tcp h place idle i).0, tt)
  moves_quiet _ _ (walk.JoinsFault h place r l c u g e a) i =
      let idle = walk.accepting_now r l accepting.Idle in (push_tcp (tcp2_put h.machine.store.records place idle) (walk.faulted l c) h.machine.store.standing h.own (put_tcp h place idle i).0, tt)
  moves_quiet _ _ (walk.Frees h place made) i = (i.0, tt)
  moves_quiet _ _ (walk.IsUnheld h place r g free) i = (i.0, tt)
  moves_quiet _ _ (walk.RemembersListen h marks place r is under g none) i = (i.0, tt)
  moves_quiet _ _ (walk.RecallsListen h ids place marks e) i = (i.0, tt)
  moves_quiet _ _ (walk.StandsListen h ids place marks r quiet at made g k) i = restood h (standing_as ids (StandingCall.Listen place marks)) quiet tt i
  moves_quiet _ _ (walk.Leaves h) i = (i.0, tt)
  moves_quiet _ _ (walk.Watches h own) i = (i.0, tt)
  moves_quiet _ _ (walk.AwaitsCreate h place face create is g) i = (i.0, tt)
  moves_quiet _ _ (walk.RemembersStreams h c handle place remote is of o g none) i = (i.0, tt)
  moves_quiet _ _ (walk.RecallsConnect h ids place e own) i = spent h (ToConnect place) Unused own unused i
  moves_quiet _ _ (walk.RecallsStreams h ids place handle e own) i = ((spent h (ToConnect place) Unused own unused i).0, tt)
  moves_quiet _ _ (walk.CallsHandles h kind calls quiet) i = (i.0, no_start h.machine.store.standing quiet)
  moves_quiet _ _ (walk.RecallsCall h ids call e) i = (i.0, subst NoConnect (sym e) tt)
  moves_quiet _ _ (walk.Empties h handle kind q e none) i = (i.0, tt)
  moves_quiet _ _ (walk.Stands h ids call r quiet at g k) i = restood h (standing_as ids call) quiet (goes_none call r k) i
  moves_quiet _ _ (walk.StandsUdpBind h ids place face o op quiet at g e) i = restood h (standing_as ids (StandingCall.UdpBind place face)) quiet tt i
  moves_quiet _ _ (walk.StandsUdpCreate h ids place face create quiet made g its) i = restood h (standing_as ids (StandingCall.UdpCreate place face)) quiet tt i
  moves_quiet _ _ (walk.StandsDropOutgoing h ids place o quiet at g e) i = restood h (standing_as ids (StandingCall.DropOutgoing place)) quiet tt i
  moves_quiet _ _ (walk.StandsBlocking h ids call handles made its) i =
      let now = Some (standing_as ids (StandingCall.Blocking call)) in (stands_now h.machine.store.records h.machine.store.standing now h.own (subst (λ (m : Made). CallsSo m h.machine.store.standing) made i.1) i.0, calls_so h.made now tt)
  moves_quiet _ _ (walk.StandsConnect h ids place o op quiet at past g e) i =
      let now = Some (standing_as ids (StandingCall.UdpConnect3 place)) in (stands_now h.machine.store.records h.machine.store.standing now h.own (no_start h.machine.store.standing quiet) i.0, subst (λ (m : Made). CallsSo m now) (sym past) tt)
  moves_quiet _ _ (walk.StandsUdpConnect h ids place handle o op quiet at made g e) i =
      let now = Some (standing_as ids (StandingCall.UdpConnect place handle)) in (stands_now h.machine.store.records h.machine.store.standing now h.own (no_start h.machine.store.standing quiet) i.0, subst (λ (m : Made). CallsSo m now) (sym made) tt)
  moves_quiet _ _ (walk.Unstands h over) i = (record { quiet = i.0.quiet; goes = λ k o op at c. inr (elim (i.0.goes k o op at c) [ inl s ↦ over k s | inr e ↦ e ]) }, calls_so h.made None tt)
  moves_quiet _ _ (walk.UdpChanges h place o now g p keeps) i = changed h place o now g p.connects keeps.makes i
  moves_quiet _ _ (walk.BeginsUdpBind h place o a at g to own) i = begun_udp h place o _ g refl (λ some. some) Used Unused own unused i
  moves_quiet _ _ (walk.BeginsUdpConnect h place o a bound at g to known none own) i = begins h place o _ none own i
  moves_quiet _ _ (walk.BeginsSend h place n o out d bound at g e item known own) i = begun_udp h place o _ g refl (λ some. rw e (or_true (is_some o.incoming))) (Own.Names (n + 1)) (Own.Names n) own (names n) i
  moves_quiet _ _ (walk.BeginsReceive h place n o inc bound at g e is own) i = begun_udp h place o _ g refl (λ some. rw e refl) (Own.Names (n + 1)) (Own.Names n) own (names n) i
  moves_quiet _ _ (walk.CancelsUdpBind h place o op q g e) i = put_open h place o _ g refl (λ some. some) i
  moves_quiet _ _ (walk.CancelsUdpConnect h place o q g) i = put_none h place _ (λ x op e c. (let p : record o { connecting = None } ≡ x = cc in let none : x.connecting ≡ None = ap (λ (y : OpenUdp). y.connecting) (sym p) in absurd (cc))) i
  moves_quiet _ _ (walk.Finds h records same) i = found h records same i
  moves_quiet _ _ (walk.GivesBack h place idle left) i = fewer h place i
  moves_quiet _ _ (walk.Numbers h) i = (i.0, tt)
  moves_quiet _ _ (walk.DropsUdp h place o idle made g) i = put_open h place o _ g refl (λ some. some) i
  moves_quiet _ _ _ i = i

  -- a create that was polled has no connect, nor has a socket that is closed
  created_none : (create : Create) (end : End × List Item) (o : OpenUdp) (op : Operation) → udp_create_left create end ≡ UdpRecord.Open o → o.connecting ≡ Some op → ⊥
  created_none create (Waits, items) o op e c = absurd (cc)
  created_none create (Done given, items) o op e c = absurd (let none : o.connecting ≡ None = (let p : udp_create_left create (Done given, items) ≡ UdpRecord.Open o = e in cc) in cc)
  created_none create (Refused code given, items) o op e c = absurd (cc)

  pub closed_none : (side : OpId) (o : OpenUdp) (op : Operation) → UdpRecord.Closed side ≡ UdpRecord.Open o → o.connecting ≡ Some op → ⊥
  closed_none side o op e c = absurd (cc)

  -- a connect that was polled goes on, or is none
  polled_connect : (h : Here) (place : ℕ) (o : OpenUdp) (op : Operation) → FoundUdp h place (UdpRecord.Open o) → o.connecting ≡ Some op → (end : End × List Item) → Quiet h → Quiet (put_udp h place (UdpRecord.Open (udp_connect_left op o end)))
  polled_connect h place o op g e (Waits, items) i =
      let none = i.0.quiet place o op g e in
      let goes = i.0.goes place o op g e in
      let now = udp_connect_left op o (Waits, items) in
      (put_by h.machine.store.records h.machine.store.standing h.own h.own place (UdpRecord.Open now) (λ x p d c. (let is : now ≡ x = cc in subst (λ (y : OpenUdp). has_streams y ≡ false) is none, goes)) (λ k d. d) i.0, i.1)
  polled_connect h place o op g e (Done given, items) i = let now = udp_connect_left op o (Done given, items) in put_none h place (UdpRecord.Open now) (λ x p d c. (let is : now ≡ x = cc in let none : x.connecting ≡ None = ap (λ (y : OpenUdp). y.connecting) (sym is) in absurd (cc))) i
  polled_connect h place o op g e (Refused code given, items) i = let now = udp_connect_left op o (Refused code given, items) in put_none h place (UdpRecord.Open now) (λ x p d c. (let is : now ≡ x = cc in let none : x.connecting ≡ None = ap (λ (y : OpenUdp). y.connecting) (sym is) in absurd (cc))) i

  polled_reconnect : (h : Here) (place : ℕ) (o : OpenUdp) (op : Operation) → FoundUdp h place (UdpRecord.Open o) → o.connecting ≡ Some op → (end : End × List Item) → Quiet h → Quiet (put_udp h place (UdpRecord.Open (udp_reconnect_left op o end)))
  polled_reconnect h place o op g e (Waits, items) i =
      let none = i.0.quiet place o op g e in
      let goes = i.0.goes place o op g e in
      let now = udp_reconnect_left op o (Waits, items) in
      (put_by h.machine.store.records h.machine.store.standing h.own h.own place (UdpRecord.Open now) (λ x p d c. (let is : now ≡ x = cc in subst (λ (y : OpenUdp). has_streams y ≡ false) is none, goes)) (λ k d. d) i.0, i.1)
  polled_reconnect h place o op g e (Done given, items) i = let now = udp_reconnect_left op o (Done given, items) in put_none h place (UdpRecord.Open now) (λ x p d c. (let is : now ≡ x = cc in let none : x.connecting ≡ None = ap (λ (y : OpenUdp). y.connecting) (sym is) in absurd (cc))) i
  polled_reconnect h place o op g e (Refused code given, items) i = let now = udp_reconnect_left op o (Refused code given, items) in put_none h place (UdpRecord.Open now) (λ x p d c. (let is : now ≡ x = cc in let none : x.connecting ≡ None = ap (λ (y : OpenUdp). y.connecting) (sym is) in absurd (cc))) i

  pub polls_quiet : (h : Here) (op : Operation) (after : End × List Item → Here) → Held h op after → (end : End × List Item) → Quiet h → Quiet (after end)
  polls_quiet h _ _ (walk.BindsOn place r op q g e) end i = put_tcp h place _ i
  polls_quiet h _ _ (walk.Connects place r op g e) end i = put_tcp h place _ i
  polls_quiet h _ _ (walk.Listens place r op q g e c) end i = put_tcp h place _ i
  polls_quiet h _ _ (walk.Awaits place r l op g e a) end i = put_tcp h place _ i
  polls_quiet h _ _ (walk.UdpCreates place create q g) end i = put_none h place _ (created_none create end) i
  polls_quiet h _ _ (walk.UdpBindsOn place o op q g e) end i = put_open h place o _ g refl (λ some. some) i
  polls_quiet h _ _ (walk.UdpConnectsOn place o op q g e) end i = polled_connect h place o op g e end i
  polls_quiet h _ _ (walk.UdpReconnectsOn place o op q g e) end i = polled_reconnect h place o op g e end i
  polls_quiet h _ _ (walk.SendsOn place o out op left g e s settles) end i = put_open h place o _ g refl (λ some. rw e (or_true (is_some o.incoming))) i
  polls_quiet h _ _ (walk.ReceivesOn place o inc op g e s) end i = put_open h place o _ g refl (λ some. rw e refl) i

  begun : (h : Here) (made : Result Create ErrorCode) → h.own ≡ Unused → Quiet h → Quiet (udp_begun h made)
  begun h (Ok create) own i = (owns _ h.machine.store.standing h.own Used (λ k c. unused k (sym own ∙ c)) (push_create h.machine.store.records create h.machine.store.standing h.own i.0), i.1)
  begun h (Err c) own i = spent h Used Unused own unused i

  -- what is made is no call on handles
  handles_quiet : (h : Here) (kind : Kind) (parent : Option ℕ) (made : Made) → Handles origin h kind parent made
      → Quiet h
      → CallsSo made h.machine.store.standing
  handles_quiet h _ _ _ (OfLine kind parent sock m) i = i.1
  handles_quiet h _ _ _ (OfError n handle place handles m k e) i = i.1
  handles_quiet h _ _ _ _ i = tt

  no_room : (made : Made) (standing : Option Standing) → HasNoRoom made → CallsSo made standing
  no_room (Made.Calls kind n handles) standing none = absurd none
  no_room _ standing none = tt

  created : (h : Here) (new : TcpRecord) → h.own ≡ Unused → Quiet h
      → Connects (tcp2_pushed h.machine.store.records new) h.machine.store.standing Used
  created h new own i =
      owns _ h.machine.store.standing h.own Used (λ k c. unused k (sym own ∙ c))
      (push_tcp h.machine.store.records new h.machine.store.standing h.own i.0)

  pub becomes_quiet : (h now : Here) → Becomes contexts line origin h now → Quiet h → Quiet now
  becomes_quiet h _ (Learnt place r side told at g e) i = put_tcp h place _ i
  becomes_quiet h _ (IsClosed place r side q g e) i = put_tcp h place _ i
  becomes_quiet h _ (GivenUp place r q goes g) i = put_tcp h place _ i
  becomes_quiet h _ (UdpLearnt place o socket g e) i = put_open h place o _ g refl (λ some. some) i
  becomes_quiet h _ (UdpIsClosed place o q g) i = put_none h place (UdpRecord.Closed o.inner.side) (closed_none o.inner.side) i
  becomes_quiet h _ (UdpGivenUp place create q g) i =
      let side = create.operation.who.side in put_none h place (UdpRecord.Closed side) (closed_none side) i
  becomes_quiet h _ (UdpBegun face ctx family r c own m) i = begun h (udp_after_create (own_of line) ctx.name family r) own i
  becomes_quiet h _ (Resolved host records l same) i = found h records same i
  becomes_quiet h _ (StandsOn host told) i = i
  becomes_quiet h _ (DatagramBegan place o call op polled ended at g starts m own left) i = (owns _ h.machine.store.standing h.own Used (λ k c. unused k (sym own ∙ c)) i.0, i.1)
  becomes_quiet h _ (DatagramPolled n b place o call op polled ended is at g polls left) i = i
  becomes_quiet h _ (HasHandle kind parent made k) i = (i.0, handles_quiet h kind parent made k i)
  becomes_quiet h _ (NoRoom made none) i = (i.0, no_room made h.machine.store.standing none)
  becomes_quiet h _ (Created face ctx family c own m) i = (created h _ own i, i.1)
  becomes_quiet h _ (CreatedWith face ctx family c own m) i = (created h _ own i, i.1)
  becomes_quiet h _ (Writing _ (InCall place n r s half permit bytes at g e w within own)) i = begun_tcp h place _ Used Used own used i

  abbrev connects_state : OfState contexts line origin (λ es h. ⊤)
  connects_state = record {
    Holds = Quiet;
    moves = λ es h now m b i. moves_quiet h now m i;
    becomes = λ es h now k b i. becomes_quiet h now k i;
    polls = λ es h op after held b i.
        whatever (λ end. Quiet (after end)) (λ end. polls_quiet h op after held end i) es (poll_asks op);
    turns = λ es h place r s g e b i.
        whatever (λ done. Quiet (put h place (with_writer r s done.1))) (λ done. put_tcp h place _ i) es (turn_asks s.writer);
  }

  unfoldable pub connects : Law contexts line origin
  connects = of_state connects_state

  pub connects_begin : BeginsWrites connects
  unfolding connects
  connects_begin = begins_state connects_state

-- a line begins with what it may write
pub starts_with : (records : List Record) (standing : Option Standing) (own : Own) → Connects records standing Used → Connects records standing own
starts_with records standing own i = owns records standing Used own used i

pub first_connects : HasConnects first_state
first_connects = record { quiet = λ place o op at c. absurd (cc); goes = λ place o op at c. absurd (cc) }
