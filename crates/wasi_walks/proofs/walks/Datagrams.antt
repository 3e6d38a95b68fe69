-- The datagram streams of a UDP socket are made, as moves: with a connect before, or a disconnect, and then their handles.
use Rattle.std.specs.Prelude.{is_some, ◌||◌, ◌≡◌, ⊤, ℕ, Bool, true, false, if◌then◌else◌, Option, Some, None, Result, Ok, Err}
use Rattle.wasi_addr.specs.declared.address.IpSocketAddress.{IpSocketAddress}
use Rattle.wasi_addr.specs.Address.{is_wildcard}
use Rattle.wasi_walks.proofs.Words.{Answer, ErrorCode, Give, Has, Item, End, Waits, Done, Refused, Machine, Operation, Pending, Ready, Records, StandingCall, GuestCall, Step, Stop, WasiSocketsCtx, List}
use Rattle.wasi_walks.proofs.Words.{ap, bind, handles_of, kind_at, left_of, own_of, poll_asks, refl, sym, subst, HandleTable, Kind, inl, inr, is_full, make_asks, name_of, with_handle, table_parent, ask_made, Full, Trap, InvalidArgument}
use Rattle.wasi_machine.specs.Machine.{first_ids}
use Rattle.wasi_world.specs.declared.ids.Ids.{Ids}
use Rattle.wasi_world.specs.declared.ids.OpId.{OpId}
use Rattle.host_udp.specs.DatagramCalls.{start_streams_by, start_streams_at, reconnect_udp_at, second_made, outgoing_made, mark_streams_of, streams_so, remake_streams_asks}
use Rattle.udp_records.specs.Datagrams.{has_streams, with_streams, udp_connect_ended, udp_connect_left, poll_udp_connecting, udp_connect_begun, disconnected, disconnect_streams, streams_to, streams_where, begin_streams_asks}
use Rattle.host_store.specs.Kinds.{udp_of}
use Rattle.wasi_records.specs.Records.{open_at, udp2_at}
use Rattle.udp_records.specs.declared.datagrams.Incoming.{Incoming}
use Rattle.udp_records.specs.declared.datagrams.Receiving.{Receiving}
use Rattle.host_store.specs.declared.kind.Kind.TheVariants as kinds
use Rattle.udp_records.specs.declared.udp.OpenUdp.{OpenUdp}
use Rattle.udp_records.specs.declared.udp.UdpRecord.{UdpRecord}
use Rattle.host_store.specs.Machine.{udp_socket_at}
use Rattle.udp_records.specs.Udp.{with_udp_inner}
use Rattle.host_udp.specs.UdpCalls.{udp_call_answered}
use Rattle.host_udp.specs.UdpCreates.{udp_side_at}
use Rattle.wasi_p2.specs.Udp.{udp_stream_on}
use Rattle.wasi_udp.specs.Connect.{connect_asks, connect_start, is_connectable}
use Rattle.wasi_udp.specs.Shape.{Socket}
use Rattle.wasi_udp.specs.Socket.{after_local, ask_bound, bound_asks, disconnect_asks, is_connected}
use Rattle.wasi_walks.proofs.Lists.{value_front}
use Rattle.wasi_walks.specs.Licence.{IsDisconnect, IsUdpConnectTo}
use Rattle.wasi_walks.proofs.walks.Here.{no_open}
use Rattle.wasi_walks.proofs.walks.Moves.{StreamIsMade, StreamMoves, StreamsUnder, EndsConnect, HasNewStream, Here, ToConnect, ToSend, ToStream, Own, put_udp, FoundUdp, NoStart, NoStartStands, ReachesUdp, Leaves, Spends, UdpChanges, RemembersStreams, BeginsUdpConnect, StandsUdpConnect, Used, Unused}
use Rattle.wasi_walks.proofs.walks.Law.{Law, Walks, Given, given_along, given_then, given_on, give, and_then, and_given, move, gives, from}
use Rattle.wasi_walks.proofs.walks.States.{At, Over, OverWith, Starts, udp_record}
use Rattle.wasi_walks.proofs.walks.Udp.{bound_walks, disconnect_walks, open_is, udp_there}
use Rattle.wasi_walks.proofs.walks.UdpLaw.{HasUdp, over_at, udp_put_put, udp_put_same, udp_found, poll_udp_connect_walks, mark_stream}
use Rattle.wasi_walks.proofs.Places.{put_finds, udp_sort}
use Rattle.wasi_steps.specs.declared.guest_call.UdpCall.{UdpCall}

-- the incoming stream is new
abbrev pub IsNew : OpenUdp → Type 0
IsNew o = o.incoming ≡ Some (record { remote = o.inner.remote; receiving = Receiving.Nothing })

-- a call that is pending has its connect in progress, and one that is done has new streams
pub record HasUdpConnect (connecting : Option Operation) : Type 0 where
  pub op : Operation
  pub is : connecting ≡ Some op

abbrev pub WaitsUdpConnect : Result (Answer (Unit {0})) ErrorCode × OpenUdp → Type 0
WaitsUdpConnect (Ok Pending, o) = HasUdpConnect o.connecting
WaitsUdpConnect (Ok (Ready d), o) = IsNew o
WaitsUdpConnect _ = ⊤

poll_given : (o : OpenUdp) (connecting : Option Operation) → Given WaitsUdpConnect (poll_udp_connecting o connecting)
poll_given o None = tt
poll_given o (Some op) = given_then WaitsUdpConnect (udp_connect_ended op o) ended (poll_asks op)
  where
    ended : (e : End × List Item) → WaitsUdpConnect (udp_connect_ended op o e)
    ended (Waits, items) = record { op = left_of op items; is = refl }
    ended (Done given, items) = refl
    ended (Refused c given, items) = tt

begun_given : (o : OpenUdp) (begun : Result Operation ErrorCode × Socket) → Given WaitsUdpConnect (udp_connect_begun o begun)
begun_given o (Ok op, socket) = poll_given (record o { inner = socket; connecting = Some op }) (Some op)
begun_given o (Err c, socket) = tt

disconnected_given : (o : OpenUdp) (done : Result (Unit {0}) ErrorCode × Socket) → WaitsUdpConnect (disconnected o done)
disconnected_given o (Ok d, socket) = refl
disconnected_given o (Err c, socket) = tt

streams_given : (own : OpId) (o : OpenUdp) (remote : Option IpSocketAddress) (connected : Bool) → is_connected o.inner.remote ≡ connected → Given WaitsUdpConnect (streams_to own o remote)
streams_given own o (Some a) b e = given_on WaitsUdpConnect (udp_connect_begun o) (begun_given o) (connect_asks own o.inner a)
streams_given own o None true e = rw e (given_then WaitsUdpConnect (disconnected o) (disconnected_given o) (disconnect_asks own o.inner))
streams_given own o None false e = rw e refl

where_given : (own : OpId) (remote : Option IpSocketAddress) (o : OpenUdp) (bound : Bool) → Given WaitsUdpConnect (streams_where own remote o bound)
where_given own remote o true = streams_given own o remote (is_connected o.inner.remote) refl
where_given own remote o false = tt

begin_given : (own : OpId) (o : OpenUdp) (remote : Option IpSocketAddress) → Given WaitsUdpConnect (begin_streams_asks own o remote)
begin_given own o remote = given_on WaitsUdpConnect (λ b. streams_where own remote (with_udp_inner o b.1) b.0) (λ b. where_given own remote (with_udp_inner o b.1) b.0) (bound_asks own o.inner)

-- a yes is kept
abbrev pub KeepsBound : Bool × Socket → Type 0
KeepsBound b = b.0 ≡ true → b.1.bound ≡ true

pub bound_given : (op : OpId) (socket : Socket) → Given KeepsBound (bound_asks op socket)
unfolding bind
bound_given op socket = by_bound socket.bound refl
  where
    by_test : (b : Bool) → KeepsBound (if b then (false, socket) else (true, record socket { bound = true }))
    by_test true e = absurd (cc)
    by_test false e = refl

    told : (r : Result IpSocketAddress ErrorCode) → KeepsBound (after_local socket r)
    told (Ok a) = by_test (is_wildcard socket.family a)
    told (Err c) = λ e. absurd (cc)

    by_bound : (b : Bool) → socket.bound ≡ b → Given KeepsBound (ask_bound op socket b)
    by_bound true e = λ yes. e
    by_bound false e = λ t. told _

-- a handle that is live stays so where another is made
pub kind_given : (t : HandleTable) (op : OpId) (kind : Kind) (parent : Option ℕ) (sock : Option OpId) (handle : ℕ) (its : Kind) → kind_at t handle ≡ Some its → Given (λ made. kind_at made.1 handle ≡ Some its) (make_asks t op kind parent sock)
unfolding bind
kind_given t op kind parent sock handle its e = by_test (is_full t)
  where
    by_test : (b : Bool) → Given (λ (made : Result ℕ Stop × HandleTable). kind_at made.1 handle ≡ Some its) (if b then Give (Err (Trap Full), t) else bind (ask_made op t.next (name_of kind) parent sock) (λ done. Give (Ok t.next, with_handle t kind parent)))
    by_test true = e
    by_test false = λ told. value_front t.live (record { handle = t.next; value = kind; parent = table_parent kind parent }) handle its e

-- what a handle of a UDP socket stands for
udp_kind : (k : Option Kind) (place : ℕ) → udp_of k ≡ Some place → k ≡ Some (kinds.Udp2 place)
udp_kind (Some (kinds.Udp2 n)) place e = ap (λ (o : Option ℕ). option_kind o) e
  where
    option_kind : Option ℕ → Option Kind
    option_kind (Some n) = Some (kinds.Udp2 n)
    option_kind None = None
udp_kind _ place e = absurd (cc)

-- the socket is so, and the line has begun its operation; while the connect goes on, it is that
abbrev pub Ends : Here → ℕ → Result (Answer (Unit {0})) ErrorCode × OpenUdp → Here
Ends h place (Ok Pending, o) = record (put_udp h place (UdpRecord.Open o)) { own = ToConnect place }
Ends h place (_, o) = record (put_udp h place (UdpRecord.Open o)) { own = Used }

-- its connect goes on by the line
abbrev pub Going : Here → ℕ → Here
Going h place = record h { own = ToConnect place }

pub goes : {h : Here} {place : ℕ} → HasUdp h place → HasUdp (Going h place) place
goes here = record { was = here.was; at = here.at }

-- the streams of a socket are to be made under its handle
abbrev pub Streaming : ℕ → Machine → ℕ → ℕ → Own → Here
Streaming n m place handle own = record { machine = m; at = Some (place, n); made = ToStream n handle place; own = own }

-- they are there, and have no handles yet; else nothing is worked on any more
abbrev pub Streamed : ℕ → Machine → ℕ → ℕ → Result (Answer (Unit {0})) Stop × Records → Here
Streamed n m place handle (Ok (Ready d), store) = Streaming n (record m { store = store }) place handle Used
Streamed n m place handle (_, store) = Over (record m { store = store })

-- the incoming one has its handle
abbrev Sending : ℕ → Machine → ℕ → ℕ → Here
Sending n m place handle = record (Streaming n m place handle Used) { made = ToSend n handle place }

-- the same connect, where it is known that the socket is bound
bound_connect : (op : OpId) (socket : Socket) (a : IpSocketAddress) → socket.bound ≡ true → connect_asks op socket a ≡ (if is_connectable socket a then Give (Ok (connect_start op socket a true), socket) else Give (Err InvalidArgument, socket))
unfolding bind
bound_connect op socket a e = ap (λ b. if is_connectable socket a then bind (ask_bound op socket b) (λ x. Give (Ok (connect_start op x.1 a x.0), x.1)) else Give (Err InvalidArgument, socket)) e

-- a socket that has no streams has no incoming one
no_incoming : (o : OpenUdp) → has_streams o ≡ false → o.incoming ≡ None
no_incoming o e = by_stream o.incoming e
  where
    by_stream : (inc : Option Incoming) → (is_some inc || is_some o.outgoing) ≡ false → inc ≡ None
    by_stream None e = refl
    by_stream (Some inc) e = absurd (cc)

-- where the call is done, its record has new streams
abbrev pub AreMade : ℕ → Result (Answer (Unit {0})) Stop × Records → Type 0
AreMade place (Ok (Ready d), store) = HasNewStream store place
AreMade place _ = ⊤

answered_made : (store : Records) (ids : Ids) (place handle : ℕ) → NoStartStands store.standing → (was : OpenUdp) → udp2_at store.records place ≡ Some (UdpRecord.Open was) → (done : Result (Answer (Unit {0})) ErrorCode × OpenUdp) → WaitsUdpConnect done
    → AreMade place (udp_call_answered store ids (StandingCall.UdpConnect place handle) done)
answered_made store ids place handle q was g (Ok Pending, o) w = tt
answered_made store ids place handle q was g (Ok (Ready d), o) w = record { quiet = q; socket = o; at = put_finds udp_sort store.records place (UdpRecord.Open was) (UdpRecord.Open o) g; new = w }
answered_made store ids place handle q was g (Err c, o) w = tt

start_made : (store : Records) (ids : Ids) (place handle : ℕ) → NoStartStands store.standing → (remote : Option IpSocketAddress) (o : OpenUdp) → udp2_at store.records place ≡ Some (UdpRecord.Open o) → (live : Bool) → Given (AreMade place) (start_streams_by store ids place handle remote o live)
start_made store ids place handle q remote o g true = tt
start_made store ids place handle q remote o g false = given_along WaitsUdpConnect (AreMade place) (begin_streams_asks (own_of ids.line) o remote) _ (begin_given (own_of ids.line) o remote) (λ begun w. answered_made store ids place handle q o g begun w)

starts_made : (store : Records) (ids : Ids) (place handle : ℕ) → NoStartStands store.standing → (remote : Option IpSocketAddress) (o : Option OpenUdp) → open_at store.records place ≡ o → Given (AreMade place) (start_streams_at store ids place handle remote o)
starts_made store ids place handle q remote None e = tt
starts_made store ids place handle q remote (Some o) e = start_made store ids place handle q remote o (open_is (udp2_at store.records place) o e) (has_streams o)

again_made : (store : Records) (ids : Ids) (place handle : ℕ) → NoStartStands store.standing → (o : Option OpenUdp) → open_at store.records place ≡ o → Given (AreMade place) (reconnect_udp_at store ids place handle o)
again_made store ids place handle q None e = tt
again_made store ids place handle q (Some o) e = given_along WaitsUdpConnect (AreMade place) (poll_udp_connecting o o.connecting) _ (poll_given o o.connecting) (λ done w. answered_made store ids place handle q o (open_is (udp2_at store.records place) o e) done w)

module _ {contexts : List WasiSocketsCtx} {line : ℕ} {origin : Step} {law : Law contexts line origin} where
  -- == a connect that was begun is polled, by the line that it goes on by
  module _ {h : Here} {place : ℕ} (here : HasUdp h place) (quiet : NoStart h) (under : StreamsUnder h place) where
    ended_walks : (op : Operation) (o : OpenUdp) (ended : End × List Item) → Walks law (put_udp (Going h place) place (UdpRecord.Open (udp_connect_left op o ended))) (Ends h place) (Give (udp_connect_ended op o ended))
    ended_walks op o (Waits, items) = give _
    ended_walks op o (Done given, items) = gives _ (EndsConnect _ place refl (inl (over_at (goes here) (udp_connect_left op o (Done given, items)) refl)))
    ended_walks op o (Refused c given, items) = gives _ (EndsConnect _ place refl (inl (over_at (goes here) (udp_connect_left op o (Refused c given, items)) refl)))

    polled_by : (o : OpenUdp) (connecting : Option Operation) → o.connecting ≡ connecting → Walks law (put_udp (Going h place) place (UdpRecord.Open o)) (Ends h place) (poll_udp_connecting o connecting)
    polled_by o None e = gives _ (EndsConnect _ place refl (inl (over_at (goes here) o e)))
    polled_by o (Some op) e = and_then (poll_udp_connect_walks (goes here) o op quiet under e) (ended_walks op o)

  -- == on the record of a place
  module _ {h : Here} {place : ℕ} (here : HasUdp h place) (at : h.at ≡ Some (place, line)) (free : h.own ≡ Unused) (quiet : NoStart h) (under : StreamsUnder h place) where
    opens : (o : OpenUdp) → o.incoming ≡ None → Walks law (put_udp h place (UdpRecord.Open o)) (Ends h place) (Give (Ok (Ready tt), with_streams o))
    opens o none =
        move (UdpChanges _ place o (with_streams o) (udp_found here (UdpRecord.Open o)) (record { side = refl; maker = refl; family = refl; remote = refl; bound = λ b. b; binds = inl refl; connects = refl; sends = inr refl; receives = inr refl; came = inr refl; dropped = refl }) (record { incoming = subst (λ (inc : Option Incoming). StreamMoves origin (put_udp h place (UdpRecord.Open o)) place inc (with_streams o).incoming) (sym none) (StreamIsMade _ under); makes = inr (free, quiet) }))
        (from (sym (udp_put_put h place (UdpRecord.Open o) (UdpRecord.Open (with_streams o)))) (gives _ (Spends _ free)))

    -- with a connect
    connect_walks : (o : OpenUdp) (a : IpSocketAddress) → o.inner.bound ≡ true → has_streams o ≡ false → IsUdpConnectTo a origin → Walks law (put_udp h place (UdpRecord.Open o)) (Ends h place) (bind (connect_asks (own_of line) o.inner a) (udp_connect_begun o))
    unfolding bind
    connect_walks o a bound none to = rw (bound_connect (own_of line) o.inner a bound) (by_test (is_connectable o.inner a))
      where
        by_test : (b : Bool) → Walks law (put_udp h place (UdpRecord.Open o)) (Ends h place) (bind (if b then Give (Ok (connect_start (own_of line) o.inner a true), o.inner) else Give (Err InvalidArgument, o.inner)) (udp_connect_begun o))
        by_test false = gives _ (Spends _ free)
        by_test true =
            let op : Operation = connect_start (own_of line) o.inner a true in
            let now : OpenUdp = record o { connecting = Some op } in
            move (BeginsUdpConnect _ place o a true at (udp_found here (UdpRecord.Open o)) to (λ e. bound) none free)
            (from (ap (λ (x : Here). record x { own = ToConnect place }) (sym (udp_put_put h place (UdpRecord.Open o) (UdpRecord.Open now)))) (polled_by here quiet under now (Some op) refl))

    -- with a disconnect, where the socket is connected
    told_walks : (o : OpenUdp) → o.incoming ≡ None → (done : Result (Unit {0}) ErrorCode × Socket) → Walks law (put_udp h place (UdpRecord.Open (with_udp_inner o done.1))) (Ends h place) (Give (disconnected o done))
    told_walks o none (Ok d, socket) = opens (with_udp_inner o socket) none
    told_walks o none (Err c, socket) = gives _ (Spends _ free)

    without_walks : IsDisconnect origin → (o : OpenUdp) → o.incoming ≡ None → (connected : Bool) → o.inner.bound ≡ true → Walks law (put_udp h place (UdpRecord.Open o)) (Ends h place) (disconnect_streams (own_of line) o connected)
    without_walks to o none true bound = and_then (disconnect_walks here at to o o.inner.remote) (told_walks o none)
    without_walks to o none false bound = opens o none

    streams_to_walks : (c s : ℕ) (remote : Option IpSocketAddress) → origin ≡ Step.Call c (GuestCall.Udp (UdpCall.Stream s remote)) → (o : OpenUdp) → o.inner.bound ≡ true → has_streams o ≡ false → Walks law (put_udp h place (UdpRecord.Open o)) (Ends h place) (streams_to (own_of line) o remote)
    streams_to_walks c s (Some a) is o bound none = connect_walks o a bound none (subst (IsUdpConnectTo a) (sym is) refl)
    streams_to_walks c s None is o bound none = without_walks (subst IsDisconnect (sym is) tt) o (no_incoming o none) (is_connected o.inner.remote) bound

    where_walks : (c s : ℕ) (remote : Option IpSocketAddress) → origin ≡ Step.Call c (GuestCall.Udp (UdpCall.Stream s remote)) → (o : OpenUdp) (bound : Bool) → (bound ≡ true → o.inner.bound ≡ true) → has_streams o ≡ false → Walks law (put_udp h place (UdpRecord.Open o)) (Ends h place) (streams_where (own_of line) remote o bound)
    where_walks c s remote is o true k none = streams_to_walks c s remote is o (k refl) none
    where_walks c s remote is o false k none = gives _ (Spends _ free)

    begin_walks : (c s : ℕ) (remote : Option IpSocketAddress) → origin ≡ Step.Call c (GuestCall.Udp (UdpCall.Stream s remote)) → (o : OpenUdp) → has_streams o ≡ false → Walks law (put_udp h place (UdpRecord.Open o)) (Ends h place) (begin_streams_asks (own_of line) o remote)
    begin_walks c s remote is o none = and_given KeepsBound (bound_given (own_of line) o.inner) (bound_walks here at o) (λ b k. where_walks c s remote is (with_udp_inner o b.1) b.0 k none)

  -- == a call that may be pending was answered
  answered_walks : (m : Machine) (ids : Ids) (place handle : ℕ) → NoStartStands m.store.standing → (done : Result (Answer (Unit {0})) ErrorCode × OpenUdp) → HasUdp (Streaming ids.line m place handle Used) place → WaitsUdpConnect done
      → Walks law (Ends (Streaming ids.line m place handle Used) place done) (Streamed ids.line m place handle) (Give (udp_call_answered m.store ids (StandingCall.UdpConnect place handle) done))
  answered_walks m ids place handle q (Ok Pending, o) here w = move (StandsUdpConnect _ ids place handle o w.op q refl refl (udp_found here (UdpRecord.Open o)) w.is) (move (EndsConnect _ place refl (inr refl)) (gives _ (Leaves _)))
  answered_walks m ids place handle q (Ok (Ready d), o) here w = give _
  answered_walks m ids place handle q (Err c, o) here w = gives _ (Leaves _)

  module _ (m : Machine) (place handle : ℕ) (quiet : NoStartStands m.store.standing) where
    start_by : (c : ℕ) (remote : Option IpSocketAddress) → origin ≡ Step.Call c (GuestCall.Udp (UdpCall.Stream handle remote)) → udp_of (kind_at m.table handle) ≡ Some place → (o : OpenUdp) → FoundUdp (At line m place Unused) place (UdpRecord.Open o) → (live : Bool) → has_streams o ≡ live
        → Walks law (At line m place Unused) (Streamed line m place handle) (start_streams_by m.store (first_ids line) place handle remote o live)
    start_by c remote is of o g true none = move (Spends _ refl) (gives _ (Leaves _))
    start_by c remote is of o g false none =
        move (RemembersStreams _ c handle place remote is of o g none)
        (from (udp_put_same (Streaming line m place handle Unused) place (UdpRecord.Open o) g)
        (and_given WaitsUdpConnect (begin_given (own_of line) o remote) (begin_walks (udp_there {h = Streaming line m place handle Unused} g) refl refl quiet (line, (handle, refl)) c handle remote is o none) (λ begun w. answered_walks m (first_ids line) place handle quiet begun (record { was = UdpRecord.Open o; at = g }) w)))

    start_at : (c : ℕ) (remote : Option IpSocketAddress) → origin ≡ Step.Call c (GuestCall.Udp (UdpCall.Stream handle remote)) → udp_of (kind_at m.table handle) ≡ Some place → (o : Option OpenUdp) → open_at m.store.records place ≡ o → Walks law (At line m place Unused) (Streamed line m place handle) (start_streams_at m.store (first_ids line) place handle remote o)
    start_at c remote is of None e = move (Spends _ refl) (gives _ (Leaves _))
    start_at c remote is of (Some o) e = start_by c remote is of o (open_is (udp2_at m.store.records place) o e) (has_streams o) refl

    -- a connect that was pending is polled again
    again_at : (ids : Ids) (o : Option OpenUdp) → open_at m.store.records place ≡ o → Walks law (Streaming ids.line m place handle (ToConnect place)) (Streamed ids.line m place handle) (reconnect_udp_at m.store ids place handle o)
    again_at ids None e = move (EndsConnect _ place refl (inl (no_open (Streaming ids.line m place handle Used) place e))) (gives _ (Leaves _))
    again_at ids (Some o) e =
        let g : FoundUdp (Streaming ids.line m place handle Used) place (UdpRecord.Open o) = open_is (udp2_at m.store.records place) o e in
        let there : HasUdp (Streaming ids.line m place handle Used) place = record { was = UdpRecord.Open o; at = g } in
        from (udp_put_same (Streaming ids.line m place handle (ToConnect place)) place (UdpRecord.Open o) g)
        (and_given WaitsUdpConnect (poll_given o o.connecting) (polled_by there quiet (ids.line, (handle, refl)) o o.connecting refl) (λ done w. answered_walks m ids place handle quiet done there w))

  -- == their handles
  module _ (n place handle : ℕ) where
    second_walks : (m : Machine) (first : ℕ) (made : Result ℕ Stop × HandleTable) → Walks law (Sending n (record m { table = made.1 }) place handle) OverWith (Give (second_made m first made))
    second_walks m first (Ok second, t) = gives _ (Leaves _)
    second_walks m first (Err stop, t) = gives _ (Leaves _)

    outgoing_walks : (m : Machine) (of : ℕ) (made : Result ℕ Stop × HandleTable) → HasNewStream m.store place → udp_of (kind_at made.1 handle) ≡ Some of → Walks law (Sending n (record m { table = made.1 }) place handle) OverWith (outgoing_made m (own_of n) handle of (udp_side_at (udp2_at m.store.records of)) made)
    outgoing_walks m of (Ok incoming, t) new e = and_then (mark_stream {h = Sending n (record m { table = t }) place handle} of n handle place (kinds.Outgoing of) (inr (refl, refl)) new e) (second_walks m incoming)
    outgoing_walks m of (Err stop, t) new e = gives _ (Leaves _)

    marked_walks : (m : Machine) (of : Option ℕ) → HasNewStream m.store place → udp_of (kind_at m.table handle) ≡ of → Walks law (Streaming n m place handle Used) OverWith (mark_streams_of m (own_of n) handle of)
    marked_walks m None new e = gives _ (Leaves _)
    marked_walks m (Some of) new e =
        let its : kind_at m.table handle ≡ Some (kinds.Udp2 of) = udp_kind (kind_at m.table handle) of e in
        and_given (λ made. kind_at made.1 handle ≡ Some (kinds.Udp2 of)) (kind_given m.table (own_of n) (kinds.Incoming of) (Some handle) (udp_side_at (udp2_at m.store.records of)) handle (kinds.Udp2 of) its)
        (mark_stream {h = Streaming n m place handle Used} of n handle place (kinds.Incoming of) (inl (refl, refl)) new e) (λ made k. outgoing_walks m of made new (ap udp_of k))

    so_walks : (m : Machine) (done : Result (Answer (Unit {0})) Stop × Records) → AreMade place done → Walks law (Streamed n m place handle done) OverWith (streams_so (own_of n) handle m done)
    so_walks m (Ok Pending, store) new = give _
    so_walks m (Ok (Ready d), store) new = marked_walks (record m { store = store }) (udp_of (kind_at m.table handle)) new refl
    so_walks m (Err stop, store) new = give _

  pub stream_walks : (m : Machine) (c s : ℕ) (remote : Option IpSocketAddress) (o : Option ℕ) → udp_socket_at m s ≡ o → origin ≡ Step.Call c (GuestCall.Udp (UdpCall.Stream s remote)) → Has (handles_of origin) s → NoStartStands m.store.standing → Walks law (Starts m Unused) OverWith (udp_stream_on m (first_ids line) s remote o)
  stream_walks m c s remote None e is named q = gives _ (Spends _ refl)
  stream_walks m c s remote (Some place) e is named q =
      move (ReachesUdp _ s place named (udp_record (kind_at m.table s) place e))
      (and_given (AreMade place) (starts_made m.store (first_ids line) place s q remote (open_at m.store.records place) refl) (start_at m place s q c remote is e (open_at m.store.records place) refl) (so_walks line place s m))

  -- a call of streams that was pending continues
  pub streams_again : (ids : Ids) (m : Machine) (place handle : ℕ) → NoStartStands m.store.standing → Walks law (Streaming ids.line m place handle (ToConnect place)) OverWith (remake_streams_asks m ids place handle)
  streams_again ids m place handle q = and_given (AreMade place) (again_made m.store ids place handle q (open_at m.store.records place) refl) (again_at m place handle q ids (open_at m.store.records place) refl) (so_walks ids.line place handle m)
