-- The steps of UDP sockets, as moves: one is made, the handle of one is looked up, and its record does the call.
use Rattle.std.specs.Prelude.{◌≡◌, ◌⊎◌, ⊤, ℕ, length, Bool, true, false, if◌then◌else◌, List, Option, Some, None, Result, Ok, Err}
use Rattle.wasi_addr.specs.declared.address.IpSocketAddress.{IpSocketAddress}
use Rattle.wasi_addr.specs.Address.{is_of_family, ip_of}
use Rattle.wasi_walks.proofs.Words.{Answer, Asks, ErrorCode, Give, Has, Item, End, Waits, Done, Refused, Machine, Operation, Pending, Ready, Records, SocketAddressFamily, StandingCall, Step, Stop, WasiSocketsCtx}
use Rattle.wasi_walks.proofs.Words.{ap, bind, subst, ◌∙◌, handles_of, is_network, kind_at, left_of, own_of, poll_asks, refl, sym, with_store, HandleTable, InvalidArgument, inl, inr}
use Rattle.wasi_machine.specs.Machine.{first_ids}
use Rattle.wasi_world.specs.declared.ids.Ids.{Ids}
use Rattle.wasi_world.specs.declared.call.Opt.{Opt}
use Rattle.socket_common.specs.Options.{value_set, zero_test, refused_before, refused_after}
use Rattle.wasi_records.specs.Records.{open_at, udp2_at}
use Rattle.udp_records.specs.Udp.{open_of}
use Rattle.host_store.specs.declared.kind.Interface.{Interface}
use Rattle.host_store.specs.BaseStops.{BaseStop}
use Rattle.wasi_walks.proofs.Words.{GuestCall, OpId, Told}
use Rattle.udp_records.specs.declared.udp.OpenUdp.{OpenUdp}
use Rattle.udp_records.specs.declared.udp.UdpRecord.{UdpRecord}
use Rattle.udp_records.specs.declared.udp.UdpInProgress.{UdpInProgress}
use Rattle.udp_records.specs.Datagrams.{has_streams}
use Rattle.host_store.specs.Machine.{udp_socket_at}
use Rattle.udp_records.specs.Udp.{begin_udp_bind_asks, close_udp_asks, is_udp_bound, is_udp_idle, poll_create_asks, poll_udp_bind_asks, poll_udp_binding, udp_bind_begun, udp_bind_ended, udp_create_ended, udp_create_left, udp_local_asks, udp_side, with_udp_inner, with_udp_progress}
use Rattle.host_udp.specs.UdpCalls.{finish_udp_bind_at, finish_udp_bind_by, get_udp_option_at, release_udp_at, set_udp_option_at, udp_left, start_udp_bind_at, start_udp_bind_by, start_udp_bind_unless, udp_call_answered, udp_local_at, udp_put_back}
use Rattle.host_udp.specs.UdpCreates.{create_answered, create_begun, create_so, create_udp, handle_made, mark_udp, poll_create_at, with_create}
use Rattle.wasi_p2.specs.Options.{record_asks}
use Rattle.wasi_p2.specs.Udp.{finish_udp_bind_on, start_udp_bind_asks}
use Rattle.wasi_udp.specs.Bind.{bind_asks, bind_operation, bind_start}
use Rattle.wasi_udp.specs.declared.bind.UdpBindStage.{UdpBindStage}
use Rattle.wasi_udp.specs.Create.{Create, after_create, new_asks}
use Rattle.wasi_world.specs.Typed.{ask_udp_create, told_done}
use Rattle.wasi_addr.specs.declared.code.ErrorCode.TheVariants.{AccessDenied}
use Rattle.wasi_udp.specs.Options.{get_option_asks, set_option_asks}
use Rattle.wasi_udp.specs.Shape.{Socket}
use Rattle.wasi_udp.specs.Socket.{asker_of, ask_bound, bound_asks, disconnect_in, local_where}
use Rattle.wasi_walks.specs.Licence.{IsDisconnect, IsGetOf, IsSetTo, IsUdpBindTo}
use Rattle.wasi_walks.proofs.walks.Moves.{Awaited, Begun, P2, MakesUdpFor, StreamStays, AwaitsCreate, Here, put_udp, FoundUdp, IsOpenUdp, NoStart, NoStartStands, ReleasesUdp, CreatesUdp, udp_begun, part_of, udp_record_of, IsUdpSettled, ReachesUdp, Leaves, Spends, UdpChanges, BeginsUdpBind, StandsUdpBind, StandsUdpCreate, Used, Unused, GivesBack, OfUdp, WhenClosed}
use Rattle.wasi_walks.proofs.walks.Law.{Law, Walks, Given, given_then, given_on, given_along, give, and_then, and_so, and_given, by_if, move, gives, from}
use Rattle.wasi_walks.proofs.walks.States.{At, Awaiting, Over, OverWith, Put, Starts, none_stands, udp_record}
use Rattle.wasi_walks.proofs.walks.UdpLaw.{HasUdp, udp_put_put, udp_put_same, udp_found, begin_create, mark_udp_walks, ask_udp, disconnect_udp, learn_udp, peer_udp, close_udp, poll_create_walks, poll_udp_bind_walks}
use Rattle.wasi_walks.proofs.Places.{push_finds, put_finds, udp_sort}
use Rattle.wasi_steps.specs.declared.guest_call.UdpCall.{UdpCall}
use Rattle.wasi_steps.specs.declared.guest_call.P3UdpCall.{P3UdpCall}

-- what is open at a place is the UDP socket there
pub open_is : (u : Option UdpRecord) (o : OpenUdp) → open_of u ≡ Some o → u ≡ Some (UdpRecord.Open o)
open_is (Some (UdpRecord.Open o)) p e = let q : o ≡ p = cc in ap (λ (x : OpenUdp). Some (UdpRecord.Open x)) q
open_is (Some (UdpRecord.Creating c)) p e = absurd (cc)
open_is (Some (UdpRecord.Closed s)) p e = absurd (cc)
open_is None p e = absurd (cc)

-- a call that is pending has its bind in progress
pub record HasUdpBind (doing : UdpInProgress) : Type 0 where
  pub op : Operation
  pub is : doing ≡ UdpInProgress.Binding op

-- and one that is done isn't any more
abbrev pub WaitsUdp : Result (Answer (Unit {0})) ErrorCode × OpenUdp → Type 0
WaitsUdp (Ok Pending, o) = HasUdpBind o.in_progress
WaitsUdp (Ok (Ready done), o) = IsUdpSettled o.in_progress
WaitsUdp (Err c, o) = ⊤

pub poll_given : (o : OpenUdp) (doing : UdpInProgress) → Given WaitsUdp (poll_udp_binding o doing)
poll_given o (UdpInProgress.Binding op) = given_then WaitsUdp (udp_bind_ended op o) ended (poll_asks op)
  where
    ended : (e : End × List Item) → WaitsUdp (udp_bind_ended op o e)
    ended (Waits, items) = record { op = left_of op items; is = refl }
    ended (Done given, items) = tt
    ended (Refused c given, items) = tt
poll_given o UdpInProgress.Nothing = tt
poll_given o UdpInProgress.Bound = tt

begun_given : (o : OpenUdp) (begun : Result Operation ErrorCode × Socket) → Given WaitsUdp (udp_bind_begun o begun)
begun_given o (Ok op, socket) = poll_given (record o { inner = socket; in_progress = UdpInProgress.Binding op }) (UdpInProgress.Binding op)
begun_given o (Err c, socket) = tt

pub begin_given : (own : _) (o : OpenUdp) (a : IpSocketAddress) → Given WaitsUdp (begin_udp_bind_asks own o a)
begin_given own o a = given_on WaitsUdp (udp_bind_begun o) (begun_given o) (bind_asks own o.inner a)

-- and a create that is pending has its create in progress, for the same network socket
pub record IsCreatingNow (side : OpId) (u : UdpRecord) : Type 0 where
  pub create : Create
  pub is : u ≡ UdpRecord.Creating create
  pub same : create.operation.who.side ≡ side

abbrev pub WaitsCreate : OpId → Result (Answer (Unit {0})) ErrorCode × UdpRecord → Type 0
WaitsCreate side (Ok Pending, u) = IsCreatingNow side u
WaitsCreate side (Ok (Ready d), u) = IsOpenUdp u × (udp_side u ≡ side)
WaitsCreate side _ = ⊤

create_given : (u : UdpRecord) → Given (WaitsCreate (udp_side u)) (poll_create_asks u)
create_given (UdpRecord.Creating create) = given_then (WaitsCreate create.operation.who.side) (udp_create_ended create) ended (poll_asks create.operation)
  where
    ended : (e : End × List Item) → WaitsCreate create.operation.who.side (udp_create_ended create e)
    ended (Waits, items) = record { create = _; is = refl; same = refl }
    ended (Done given, items) = (refl, refl)
    ended (Refused c given, items) = tt
create_given (UdpRecord.Open o) = tt
create_given (UdpRecord.Closed s) = tt

-- one that the line begins has the line's own name
abbrev IsOwn : ℕ → Result Create ErrorCode → Type 0
IsOwn line (Ok create) = create.operation.who.side ≡ own_of line
IsOwn line (Err c) = ⊤

own_given : (line : ℕ) (ctx : WasiSocketsCtx) (family : SocketAddressFamily) → Given (IsOwn line) (new_asks (own_of line) ctx family)
unfolding bind
own_given line ctx family = by_use ctx.udp
  where
    told_own : (told : Told) → IsOwn line (after_create (own_of line) ctx.name family (told_done told))
    told_own told = by_done (told_done told)
      where
        by_done : (done : Result (Unit {0}) ErrorCode) → IsOwn line (after_create (own_of line) ctx.name family done)
        by_done (Ok d) = refl
        by_done (Err c) = tt

    by_use : (b : Bool) → Given (IsOwn line) (if b then bind (ask_udp_create (own_of line) ctx.name family) (λ told. Give (after_create (own_of line) ctx.name family told)) else Give (Err AccessDenied))
    by_use true = told_own
    by_use false = tt

-- only what was started is finished, and that is no bind in progress
bound_settles : (doing : UdpInProgress) → is_udp_bound doing ≡ true → IsUdpSettled doing
bound_settles (UdpInProgress.Binding op) e = absurd (cc)
bound_settles _ e = tt

pub udp_there : {h : Here} {place : ℕ} {u : UdpRecord} → FoundUdp h place u → HasUdp h place
udp_there {u} g = record { was = u; at = g }

pub opened : (line : ℕ) (m : Machine) (place : ℕ) (o : OpenUdp) → open_at m.store.records place ≡ Some o → FoundUdp (At line m place Unused) place (UdpRecord.Open o)
opened line m place o e = open_is (udp2_at m.store.records place) o e

-- The socket of the record is there, with this network socket.
record HasOpened (store : Records) (place : ℕ) (side : OpId) : Type 0 where
  was : UdpRecord
  at : udp2_at store.records place ≡ Some was
  opens : IsOpenUdp was
  same : udp_side was ≡ side

-- The record is being created, for this network socket.
record HasCreating (store : Records) (place : ℕ) (side : OpId) : Type 0 where
  quiet : NoStartStands store.standing
  create : Create
  at : udp2_at store.records place ≡ Some (UdpRecord.Creating create)
  same : create.operation.who.side ≡ side

-- the record is being created, where the create is pending, and is there where it is done
abbrev CreatesOn : ℕ → OpId → Result (Answer (Unit {0})) BaseStop × Records → Type 0
CreatesOn place side (Ok Pending, store) = HasCreating store place side
CreatesOn place side (Ok (Ready d), store) = HasOpened store place side
CreatesOn place side _ = ⊤

-- where a create isn't refused, its record has no handle yet
abbrev Polled : Interface → OpId → Machine → ℕ → Result (Answer (Unit {0})) ErrorCode × UdpRecord → Here
Polled face side m place (Ok answer, u) = put_udp (Awaiting face side m place) place u
Polled face side m place (Err c, u) = put_udp (Over m) place u

abbrev CreatedSo : Interface → OpId → Machine → ℕ → Result (Answer (Unit {0})) BaseStop × Records → Here
CreatedSo face side m place (Ok answer, store) = Awaiting face side (record m { store = store }) place
CreatedSo face side m place (Err stop, store) = Over (record m { store = store })

-- a create that is polled is awaited
abbrev pub Polling : Interface → Machine → ℕ → Option UdpRecord → Here
Polling face m place (Some (UdpRecord.Creating create)) = Awaiting face create.operation.who.side m place
Polling face m place _ = Over m

same_polling : (face : Interface) (m : Machine) (place : ℕ) (u : UdpRecord) → udp2_at m.store.records place ≡ Some u → put_udp (Polling face m place (Some u)) place u ≡ Polling face m place (Some u)
same_polling face m place (UdpRecord.Creating create) g = udp_put_same (Awaiting face create.operation.who.side m place) place (UdpRecord.Creating create) g
same_polling face m place (UdpRecord.Open o) g = udp_put_same (Over m) place (UdpRecord.Open o) g
same_polling face m place (UdpRecord.Closed s) g = udp_put_same (Over m) place (UdpRecord.Closed s) g

-- a step that creates is one that makes sockets of its interface
made_for : (contexts : List WasiSocketsCtx) (face : Interface) (ctx : WasiSocketsCtx) (family : SocketAddressFamily) (s : Step) → CreatesUdp contexts ctx family face s → MakesUdpFor face s
made_for contexts face ctx family (Step.Call n (GuestCall.Udp (UdpCall.Create f))) c = c.2
made_for contexts face ctx family (Step.Call n (GuestCall.P3Udp (P3UdpCall.Create f))) c = c.2
made_for contexts face ctx family _ c = absurd c

module _ (m : Machine) (place : ℕ) where
  answered_given : NoStartStands m.store.standing → (was : UdpRecord) → udp2_at m.store.records place ≡ Some was → (side : OpId) (done : Result (Answer (Unit {0})) ErrorCode × UdpRecord) → WaitsCreate side done → CreatesOn place side (create_answered m.store place done)
  answered_given q was g side (Ok Pending, u) w = record { quiet = q; create = w.create; at = put_finds udp_sort m.store.records place was u g ∙ ap (λ (x : UdpRecord). Some x) w.is; same = w.same }
  answered_given q was g side (Ok (Ready d), u) w = record { was = u; at = put_finds udp_sort m.store.records place was u g; opens = w.0; same = w.1 }
  answered_given q was g side (Err c, u) w = tt

  poll_at_given : NoStartStands m.store.standing → (u : UdpRecord) → udp2_at m.store.records place ≡ Some u → Given (CreatesOn place (udp_side u)) (poll_create_at m.store place (Some u))
  poll_at_given q u g = given_along (WaitsCreate (udp_side u)) (CreatesOn place (udp_side u)) (poll_create_asks u) (λ done. Give (create_answered m.store place done)) (create_given u) (answered_given q u g (udp_side u))

-- with another store
abbrev pub with_store_of : Here → Records → Here
with_store_of h store = record h { machine = record h.machine { store = store } }

module _ {contexts : List WasiSocketsCtx} {line : ℕ} {origin : Step} {law : Law contexts line origin} where
  -- == on the record of a place
  module _ {h : Here} {place : ℕ} (here : HasUdp h place) (at : h.at ≡ Some (place, line)) where
    ask_bound_walks : (part : ℕ) (o : OpenUdp) (bound : Bool) → Walks law (put_udp h place (UdpRecord.Open o)) (λ b. put_udp h place (UdpRecord.Open (with_udp_inner o b.1))) (ask_bound (part_of line part) o.inner bound)
    unfolding bind
    ask_bound_walks part o true = give _
    ask_bound_walks part o false = learn_udp here o at (λ told. give _)

    -- whether it is bound is asked by an operation of the line
    pub part_bound_walks : (part : ℕ) (o : OpenUdp) → Walks law (put_udp h place (UdpRecord.Open o)) (λ b. put_udp h place (UdpRecord.Open (with_udp_inner o b.1))) (bound_asks (part_of line part) o.inner)
    part_bound_walks part o = ask_bound_walks part o o.inner.bound

    pub bound_walks : (o : OpenUdp) → Walks law (put_udp h place (UdpRecord.Open o)) (λ b. put_udp h place (UdpRecord.Open (with_udp_inner o b.1))) (bound_asks (own_of line) o.inner)
    bound_walks o = part_bound_walks 0 o

    where_walks : (o : OpenUdp) (bound : Bool) → Walks law (put_udp h place (UdpRecord.Open o)) (λ done. put_udp h place (UdpRecord.Open (with_udp_inner o done.1))) (local_where (own_of line) o.inner bound)
    unfolding bind
    where_walks o true = ask_udp here o at refl (λ told. give _)
    where_walks o false = give _

    pub udp_local_walks : (o : OpenUdp) → Walks law (put_udp h place (UdpRecord.Open o)) (λ done. put_udp h place (UdpRecord.Open done.1)) (udp_local_asks (own_of line) o)
    udp_local_walks o = and_then (and_then (bound_walks o) (λ b. where_walks (with_udp_inner o b.1) b.0)) (λ done. give _)

    -- its remote address is taken away
    pub disconnect_walks : IsDisconnect origin → (o : OpenUdp) (remote : Option IpSocketAddress) → Walks law (put_udp h place (UdpRecord.Open o)) (λ done. put_udp h place (UdpRecord.Open (with_udp_inner o done.1))) (disconnect_in (own_of line) o.inner remote)
    unfolding bind
    disconnect_walks to o None = give _
    disconnect_walks to o (Some a) = disconnect_udp here o at to (λ told. peer_udp here (with_udp_inner o (record o.inner { bound = true })) at (λ t. give _))

    -- options
    pub get_udp_walks : (o : OpenUdp) (option : Opt) → IsGetOf option origin → Walks law (put_udp h place (UdpRecord.Open o)) (λ done. put_udp h place (UdpRecord.Open o)) (get_option_asks (own_of line) o.inner option)
    unfolding bind
    get_udp_walks o option is = ask_udp here o at (refl, refl, is) (λ told. give _)

    pub set_udp_walks : (o : OpenUdp) (option : Opt) (value : ℕ) → IsSetTo option (value_set option value) origin → Walks law (put_udp h place (UdpRecord.Open o)) (λ done. put_udp h place (UdpRecord.Open o)) (set_option_asks (own_of line) o.inner option value)
    set_udp_walks o option value is = by_if (refused_before (zero_test option) value) (λ refused. give _) (λ allowed. by_if (refused_after (zero_test option) value) (λ refused. give _) (λ sets. ask_udp here o at (refl, refl, is) (λ told. give _)))

    -- a bind begins
    module _ (free : h.own ≡ Unused) (quiet : NoStart h) (a : IpSocketAddress) (to : IsUdpBindTo a origin) where
      begun_walks : (o : OpenUdp) (socket : Socket) (bound : Bool) → Walks law (put_udp h place (UdpRecord.Open (with_udp_inner o socket))) (λ done. record (put_udp h place (UdpRecord.Open done.1)) { own = Used }) (udp_bind_begun o (bind_start (own_of line) socket a bound, socket))
      begun_walks o socket true = gives _ (Spends _ free)
      begun_walks o socket false = by_family (is_of_family (ip_of a) socket.family)
        where
          by_family : (f : Bool) → Walks law (put_udp h place (UdpRecord.Open (with_udp_inner o socket))) (λ done. record (put_udp h place (UdpRecord.Open done.1)) { own = Used }) (udp_bind_begun o ((if f then Ok (bind_operation (asker_of (own_of line) socket) a UdpBindStage.Check) else Err InvalidArgument), socket))
          by_family false = gives _ (Spends _ free)
          by_family true =
              let was : OpenUdp = with_udp_inner o socket in
              let op : Operation = bind_operation (asker_of (own_of line) socket) a UdpBindStage.Check in
              let now : OpenUdp = with_udp_progress was (UdpInProgress.Binding op) in
              let busy : Here = record h { own = Used } in
              let there : HasUdp busy place = record { was = here.was; at = here.at } in
              move (BeginsUdpBind _ place was a at (udp_found here (UdpRecord.Open was)) to free)
              (from (ap (λ (x : Here). record x { own = Used }) (sym (udp_put_put h place (UdpRecord.Open was) (UdpRecord.Open now))))
              (and_then (poll_udp_bind_walks there now op quiet refl) (λ ended. give _)))

      pub begin_udp_walks : (o : OpenUdp) → Walks law (put_udp h place (UdpRecord.Open o)) (λ done. record (put_udp h place (UdpRecord.Open done.1)) { own = Used }) (begin_udp_bind_asks (own_of line) o a)
      begin_udp_walks o = and_so (λ b. (bind_start (own_of line) b.1 a b.0, b.1)) (udp_bind_begun o) (bound_walks o) (λ b. begun_walks o b.1 b.0)

  -- == a bind that was begun is polled
  module _ {h : Here} {place : ℕ} (here : HasUdp h place) (quiet : NoStart h) where
    polled_by : (o : OpenUdp) (doing : UdpInProgress) → o.in_progress ≡ doing → Walks law (put_udp h place (UdpRecord.Open o)) (λ done. put_udp h place (UdpRecord.Open done.1)) (poll_udp_binding o doing)
    polled_by o (UdpInProgress.Binding op) e = and_then (poll_udp_bind_walks here o op quiet e) (λ ended. give _)
    polled_by o UdpInProgress.Nothing e = give _
    polled_by o UdpInProgress.Bound e = give _

    pub poll_bind_walks : (o : OpenUdp) → Walks law (put_udp h place (UdpRecord.Open o)) (λ done. put_udp h place (UdpRecord.Open done.1)) (poll_udp_bind_asks o)
    poll_bind_walks o = polled_by o o.in_progress refl

  -- == a call on the record of a handle
  pub on_udp : {T : Type 0} (m : Machine) (handle : ℕ) {call : ℕ → Asks (Result T Stop × Records)} (o : Option ℕ) → Has (handles_of origin) handle → ((place : ℕ) → o ≡ Some place → udp_record_of (kind_at m.table handle) ≡ Some place)
      → ((place : ℕ) → Walks law (At line m place Unused) (Put line m place) (call place)) → Walks law (Starts m Unused) OverWith (record_asks m call o)
  on_udp m handle None named k c = gives _ (Spends _ refl)
  on_udp m handle (Some place) named k c = move (ReachesUdp _ handle place named (k place refl)) (and_then (c place) (λ done. gives _ (Leaves _)))

  module _ (m : Machine) (place : ℕ) where
    put_back_walks : {T : Type 0} (done : Result T ErrorCode × OpenUdp) → Walks law (put_udp (At line m place Unused) place (UdpRecord.Open done.1)) (Put line m place) (Give (udp_put_back m.store place done))
    put_back_walks (Ok value, o) = gives _ (Spends _ refl)
    put_back_walks (Err c, o) = gives _ (Spends _ refl)

    pub udp_local_at_walks : (o : Option OpenUdp) → open_at m.store.records place ≡ o → Walks law (At line m place Unused) (Put line m place) (udp_local_at m.store (own_of line) place o)
    udp_local_at_walks None e = gives _ (Spends _ refl)
    udp_local_at_walks (Some o) e = from (udp_put_same (At line m place Unused) place (UdpRecord.Open o) (opened line m place o e)) (and_then (udp_local_walks (udp_there (opened line m place o e)) refl o) put_back_walks)

    pub udp_get_at_walks : (option : Opt) → IsGetOf option origin → (o : Option OpenUdp) → open_at m.store.records place ≡ o → Walks law (At line m place Unused) (Put line m place) (get_udp_option_at m.store (own_of line) option o)
    udp_get_at_walks option is None e = gives _ (Spends _ refl)
    udp_get_at_walks option is (Some o) e =
        let same = udp_put_same (At line m place Unused) place (UdpRecord.Open o) (opened line m place o e) in
        from same (and_then (get_udp_walks (udp_there (opened line m place o e)) refl o option is) (λ done. from (sym same) (gives _ (Spends _ refl))))

    pub udp_set_at_walks : (option : Opt) (value : ℕ) → IsSetTo option (value_set option value) origin → (o : Option OpenUdp) → open_at m.store.records place ≡ o → Walks law (At line m place Unused) (Put line m place) (set_udp_option_at m.store (own_of line) option value o)
    udp_set_at_walks option value is None e = gives _ (Spends _ refl)
    udp_set_at_walks option value is (Some o) e =
        let same = udp_put_same (At line m place Unused) place (UdpRecord.Open o) (opened line m place o e) in
        from same (and_then (set_udp_walks (udp_there (opened line m place o e)) refl o option value is) (λ done. from (sym same) (gives _ (Spends _ refl))))

  -- == a bind
  -- a call that may be pending was answered
  udp_answered_walks : (m : Machine) (ids : Ids) (place : ℕ) → NoStartStands m.store.standing → (done : Result (Answer (Unit {0})) ErrorCode × OpenUdp) → HasUdp (At ids.line m place Used) place → WaitsUdp done
      → Walks law (put_udp (At ids.line m place Used) place (UdpRecord.Open done.1)) (Put ids.line m place) (Give (udp_call_answered m.store ids (StandingCall.UdpBind place P2) done))
  udp_answered_walks m ids place q (Ok Pending, o) here w = gives _ (StandsUdpBind _ ids place P2 o w.op q refl (udp_found here (UdpRecord.Open o)) w.is)
  udp_answered_walks m ids place q (Ok (Ready d), o) here w = give _
  udp_answered_walks m ids place q (Err c, o) here w = give _

  start_by : (m : Machine) (place : ℕ) (a : IpSocketAddress) → IsUdpBindTo a origin → NoStartStands m.store.standing → (o : OpenUdp) → FoundUdp (At line m place Unused) place (UdpRecord.Open o) → (idle : Bool) → is_udp_idle o.in_progress ≡ idle
      → Walks law (At line m place Unused) (Put line m place) (start_udp_bind_by m.store (first_ids line) place a o idle)
  start_by m place a to q o g true e = start_unless (has_streams o)
    where
      start_unless : (live : Bool) → Walks law (At line m place Unused) (Put line m place) (start_udp_bind_unless m.store (first_ids line) place a o live)
      start_unless true = gives _ (Spends _ refl)
      start_unless false =
          from (udp_put_same (At line m place Unused) place (UdpRecord.Open o) g)
          (and_given WaitsUdp (begin_given (own_of line) o a) (begin_udp_walks (udp_there g) refl refl q a to o) (λ begun w. udp_answered_walks m (first_ids line) place q begun (record { was = UdpRecord.Open o; at = g }) w))
  start_by m place a to q o g false e = gives _ (Spends _ refl)

  start_at : (m : Machine) (place : ℕ) (a : IpSocketAddress) → IsUdpBindTo a origin → NoStartStands m.store.standing → (o : Option OpenUdp) → open_at m.store.records place ≡ o → Walks law (At line m place Unused) (Put line m place) (start_udp_bind_at m.store (first_ids line) place a o)
  start_at m place a to q None e = gives _ (Spends _ refl)
  start_at m place a to q (Some o) e = start_by m place a to q o (opened line m place o e) (is_udp_idle o.in_progress) refl

  pub start_udp_bind_walks : (m : Machine) (s n : ℕ) (a : IpSocketAddress) → Has (handles_of origin) s → IsUdpBindTo a origin → NoStartStands m.store.standing → Walks law (Starts m Unused) OverWith (start_udp_bind_asks m (first_ids line) s n a)
  start_udp_bind_walks m s n a named to q =
      by_if (is_network (kind_at m.table n)) (λ yes. on_udp m s (udp_socket_at m s) named (udp_record (kind_at m.table s)) (λ place. start_at m place a to q (open_at m.store.records place) refl)) (λ other. gives _ (Spends _ refl))

  finish_by : (m : Machine) (place : ℕ) (o : OpenUdp) → FoundUdp (Over m) place (UdpRecord.Open o) → (b : Bool) → is_udp_bound o.in_progress ≡ b → Walks law (Starts m Unused) (λ now. Over now) (Give (with_store m (finish_udp_bind_by m.store place o b)).1)
  finish_by m place o g true e = move (Spends _ refl) (gives _ (UdpChanges _ place o _ g (record { side = refl; maker = refl; family = refl; remote = refl; bound = λ b. b; binds = inr (bound_settles o.in_progress e, tt); connects = refl; sends = inl refl; receives = inl refl; came = inl refl; dropped = refl }) (record { incoming = StreamStays _; makes = inl (λ some. some) })))
  finish_by m place o g false e = gives _ (Spends _ refl)

  finish_at : (m : Machine) (place : ℕ) (o : Option OpenUdp) → open_at m.store.records place ≡ o → Walks law (Starts m Unused) (λ now. Over now) (Give (with_store m (finish_udp_bind_at m.store place o)).1)
  finish_at m place None e = gives _ (Spends _ refl)
  finish_at m place (Some o) e = finish_by m place o (open_is (udp2_at m.store.records place) o e) (is_udp_bound o.in_progress) refl

  pub finish_udp_bind_walks : (m : Machine) (o : Option ℕ) → Walks law (Starts m Unused) (λ now. Over now) (Give (finish_udp_bind_on m o).1)
  finish_udp_bind_walks m None = gives _ (Spends _ refl)
  finish_udp_bind_walks m (Some place) = finish_at m place (open_at m.store.records place) refl

  -- == the end, by the line or by one whose datagram is over
  close_by : {h : Here} {place : ℕ} (n : ℕ) (here : HasUdp h place) (u : UdpRecord) → ((o : OpenUdp) → u ≡ UdpRecord.Open o → ReleasesUdp (put_udp h place u) place) → Walks law (put_udp h place u) (λ done. put_udp h place done.1) (close_udp_asks (own_of n) u)
  unfolding bind
  close_by n here (UdpRecord.Open o) q = close_udp here o (q o refl) (λ told. give _)
  close_by n here (UdpRecord.Creating c) q = give _
  close_by n here (UdpRecord.Closed s) q = give _

  -- one that is closed is given back
  left_walks : {A : Type 0} {h : Here} {place : ℕ} {end : A → Here} {asks : Asks A} → HasUdp h place → (u : UdpRecord) → Walks law (with_store_of h (udp_left h.machine.store place u)) end asks → Walks law (put_udp h place u) end asks
  left_walks {place = place} here (UdpRecord.Closed side) w = let closed = udp_found here (UdpRecord.Closed side) in move (GivesBack _ place (WhenClosed side closed) (OfUdp side closed)) w
  left_walks here (UdpRecord.Creating create) w = w
  left_walks here (UdpRecord.Open o) w = w

  pub release_udp_walks : (h : Here) (place n : ℕ) (u : Option UdpRecord) → udp2_at h.machine.store.records place ≡ u → ((o : OpenUdp) → FoundUdp h place (UdpRecord.Open o) → ReleasesUdp h place)
      → Walks law h (λ done. with_store_of h done.1) (release_udp_at h.machine.store (own_of n) place u)
  release_udp_walks h place n None g q = give _
  release_udp_walks h place n (Some u) g q =
      let same : put_udp h place u ≡ h = udp_put_same h place u g in
      from same (and_then (close_by n (udp_there {h = h} g) u (λ o e. subst (λ (x : Here). ReleasesUdp x place) (sym same) (q o (g ∙ ap (λ (x : UdpRecord). Some x) e)))) (λ done. left_walks (udp_there {h = h} g) done.1 (give _)))

  -- == a create
  created_walks : (m : Machine) (made : Result ℕ Stop × HandleTable) → Walks law (Over (record m { table = made.1 })) OverWith (Give (handle_made m made))
  created_walks m (Ok handle, t) = give _
  created_walks m (Err why, t) = give _

  module _ (face : Interface) where
    mark_walks : (side : OpId) (m : Machine) (place : ℕ) (u : Option UdpRecord) → udp2_at m.store.records place ≡ u → HasOpened m.store place side → Walks law (Awaiting face side m place) OverWith (mark_udp face m place u)
    mark_walks side m place None g o = absurd (let at = o.at in cc)
    mark_walks side m place (Some u) g o =
        let same : o.was ≡ u = let at = o.at in cc in
        let its : udp_side u ≡ side = subst (λ (x : UdpRecord). udp_side x ≡ side) same o.same in
        and_then (mark_udp_walks face place u (record { awaited = ap (λ (x : OpId). Awaited face x place) (sym its); found = g; opens = subst IsOpenUdp same o.opens })) (created_walks m)

    create_so_walks : (side : OpId) (ids : Ids) → (ids.line ≡ line) ⊎ (origin ≡ Step.Poll ids.line) → (place : ℕ) (m : Machine) (done : Result (Answer (Unit {0})) BaseStop × Records) → CreatesOn place side done → Walks law (CreatedSo face side m place done) OverWith (create_so face ids place m done)
    create_so_walks side ids by place m (Ok Pending, store) w = move (StandsUdpCreate _ ids place face w.create w.quiet (ap (λ (x : OpId). Awaited face x place) (sym w.same)) w.at by) (gives _ (Leaves _))
    create_so_walks side ids by place m (Ok (Ready d), store) w = mark_walks side (record m { store = store }) place (udp2_at store.records place) refl w
    create_so_walks side ids by place m (Err c, store) w = give _

    module _ (m : Machine) (place : ℕ) where
      ended_walks : (create : Create) (ended : End × List Item) → Walks law (put_udp (Awaiting face create.operation.who.side m place) place (udp_create_left create ended)) (Polled face create.operation.who.side m place) (Give (udp_create_ended create ended))
      ended_walks create (Waits, items) = give _
      ended_walks create (Done given, items) = give _
      ended_walks create (Refused c given, items) = gives _ (Leaves _)

      poll_so : (u : UdpRecord) → udp2_at m.store.records place ≡ Some u → m.store.standing ≡ None → Walks law (put_udp (Polling face m place (Some u)) place u) (Polled face (udp_side u) m place) (poll_create_asks u)
      poll_so (UdpRecord.Creating create) g q = and_then (poll_create_walks (udp_there {h = Awaiting face create.operation.who.side m place} g) create (none_stands q)) (ended_walks create)
      poll_so (UdpRecord.Open o) g q = give _
      poll_so (UdpRecord.Closed s) g q = give _

      answered_so : (side : OpId) → HasUdp (Over m) place → (done : Result (Answer (Unit {0})) ErrorCode × UdpRecord) → Walks law (Polled face side m place done) (CreatedSo face side m place) (Give (create_answered m.store place done))
      answered_so side here (Ok answer, u) = give _
      answered_so side here (Err c, u) = left_walks here u (give _)

      poll_at_walks : (u : UdpRecord) → udp2_at m.store.records place ≡ Some u → m.store.standing ≡ None → Walks law (Polling face m place (Some u)) (CreatedSo face (udp_side u) m place) (poll_create_at m.store place (Some u))
      poll_at_walks u g q = from (same_polling face m place u g) (and_then (poll_so u g q) (answered_so (udp_side u) (udp_there {h = Over m} g)))

      pub polled_walks : (ids : Ids) → (ids.line ≡ line) ⊎ (origin ≡ Step.Poll ids.line) → m.store.standing ≡ None → (u : Option UdpRecord) → udp2_at m.store.records place ≡ u → Walks law (Polling face m place u) OverWith (bind (poll_create_at m.store place u) (create_so face ids place m))
      unfolding bind
      polled_walks ids by q None g = give _
      polled_walks ids by q (Some u) g = and_given (CreatesOn place (udp_side u)) (poll_at_given m place (none_stands q) u g) (poll_at_walks u g q) (create_so_walks (udp_side u) ids by place m)

    -- one that the line begins
    create_begun_walks : (m : Machine) → m.store.standing ≡ None → MakesUdpFor face origin → (begun : Result Create ErrorCode) → IsOwn line begun → Walks law (udp_begun (Starts m Unused) begun) OverWith (create_begun face m (first_ids line) begun)
    create_begun_walks m q makes (Ok create) own =
        let now : Machine = with_create m create in
        let place = length m.store.records in
        let found = push_finds udp_sort m.store.records (UdpRecord.Creating create) in
        move (AwaitsCreate _ place face create (Begun makes own) found)
        (from (ap (Polling face now place) found) (polled_walks now place (first_ids line) (inl refl) q (udp2_at now.store.records place) refl))
    create_begun_walks m q makes (Err c) own = give _

    pub create_udp_walks : (m : Machine) (ctx : WasiSocketsCtx) (family : SocketAddressFamily) → CreatesUdp contexts ctx family face origin → m.store.standing ≡ None → Walks law (Starts m Unused) OverWith (create_udp face m (first_ids line) ctx family)
    create_udp_walks m ctx family c q = and_given (IsOwn line) (own_given line ctx family) (begin_create face ctx family c refl refl refl) (create_begun_walks m q (made_for contexts face ctx family origin c))
