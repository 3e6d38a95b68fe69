-- The calls on a socket, and those of a listen and of a listener, as moves of the record that holds it.
use Rattle.std.specs.Prelude.{IsSome}
use Rattle.wasi_tcp.specs.Halves.{take_send}
use Rattle.wasi_records.specs.Records.{tcp2_at}
use Rattle.host_store.specs.Store.{with_socket}
use Rattle.record_common.specs.Stops.{Code}
use Rattle.wasi_addr.specs.declared.p2.ErrorCode.TheVariants.{NotInProgress}
use Rattle.host_store.specs.Block.{give as gives_all, after_call, last, need, or_trap, ◌>>◌}
use Rattle.host_store.specs.Lines.{done_by, finish_connect_of, same_stop}
use Rattle.wasi_walks.specs.Answered.{streams_in}
use Rattle.wasi_walks.proofs.Words.{Records, TcpReceiveStream, TcpSendStream}
use Rattle.wasi_walks.proofs.Words.{Answer, Begins, Bool, Connection, Done, End, Err, ErrorCode, Give, InProgress}
use Rattle.wasi_walks.proofs.Words.{InvalidArgument, InvalidState, IpSocketAddress, IsBacklogSet, IsBindTo, IsConnectTo, IsListenStep, Item, List}
use Rattle.wasi_walks.proofs.Words.{Listening, None, Not, Ok, OpId, Operation, Option, Pending, Ready, Refused, Result, Socket, Some}
use Rattle.wasi_walks.proofs.Words.{StandingCall, Step, Stop, TcpRecord, TcpState, Waits, WasiSocketsCtx}
use Rattle.wasi_walks.proofs.Words.{after_backlog, after_local, ap, ask_bound, ask_set_option, begin_bind_asks, begin_connect_asks}
use Rattle.wasi_walks.proofs.Words.{begin_listen_asks, bind, bind_allowed, bind_asks, bind_begun, bind_ended, bound_asks, closed_listening}
use Rattle.wasi_walks.proofs.Words.{connect_begun, connect_first, connect_operation, connect_polled, connect_start, false, finish_connect_asks}
use Rattle.wasi_walks.proofs.Words.{finish_in, get_option_asks, get_where, idle, if◌then◌else◌, in_socket, inl, inr, ip_of, is_connect}
use Rattle.wasi_walks.proofs.Words.{is_connectable, is_nothing, is_of_family, is_over, is_unicast, is_wildcard, listen_begun, listen_bound}
use Rattle.wasi_walks.proofs.Words.{listen_once, listen_polled, listen_start, opened_receive, opened_send, own_of, poll_asks, poll_begun}
use Rattle.wasi_walks.proofs.Words.{poll_bind_asks, poll_binding, poll_connect_asks, poll_listen_asks, poll_listening, refl, refused_after}
use Rattle.wasi_walks.proofs.Words.{refused_before, set_backlog_asks, set_backlog_in, set_option_asks, set_where, side_in, side_of}
use Rattle.wasi_walks.proofs.Words.{start_connect_in, subst, sym, take_receive, taken_receive, taken_send, tell_local_asks, tell_remote_asks}
use Rattle.wasi_walks.proofs.Words.{told_addr, told_done, true, value_set, wildcard, with_backlog, with_inner}
use Rattle.wasi_walks.proofs.Words.{with_progress, with_state, zero_test, ℕ, ⊤, ◌&&◌, ◌==◌, ◌∙◌, ◌≡◌}
use Rattle.wasi_tcp.specs.Listening.{listen_asks, listen_ended, listen_goes_on}
use Rattle.wasi_walks.proofs.walks.Told.{IsTold, told_first}
use Rattle.wasi_addr.specs.Clamp.{clamped_backlog}
use Rattle.wasi_world.specs.declared.call.Opt.{Opt}
use Rattle.tcp_records.specs.Holding.{has_listener}
use Rattle.wasi_walks.specs.Licence.{BindsAnywhere, IsGetOf, IsSetTo}
use Rattle.wasi_tcp.specs.Addresses.{usable_side, local_side, local_from, after_peer, peer_known, remote_in, still_connected}
use Rattle.wasi_walks.proofs.walks.Moves.{IsOfOld, HasBinding, ListensForHandle, Interface, IsConnecting, NoStart, IsSettled, GoesOn, Used, Unused, Here, put, opened_by, Reconnects, Opens, BeginsConnect, OfSocket, Plain, Spends, Changes, BeginsBind, begun_bind, beginning_listen, BeginsListen, Unlistens, HasListen}
use Rattle.wasi_walks.proofs.walks.Law.{Law, HasRecord, spent, put_put, Given, given_then, given_on, given_along, Walks, give, and_then, and_given, connect, by_if, move, gives, from, poll_bind, found, on, ask, learn, set, listen}
use Rattle.wasi_walks.proofs.Places.{put_finds, tcp_sort}

-- what a call on the record's socket, its reader or its writer leaves
abbrev pub Inner : {A : Type 0} → Here → ℕ → TcpRecord → A × Socket → Here
Inner h place r done = put h place (with_inner r done.1)

-- the bind that was begun is kept; or the line's own operation never begins
abbrev pub Started : Here → ℕ → TcpRecord → Result Operation ErrorCode × Socket → Here
Started h place r (Ok op, socket) = record (put h place (record r { inner = socket; in_progress = InProgress.Binding op })) { own = Used }
Started h place r (Err c, socket) = record (put h place (with_inner r socket)) { own = Used }

usable : (s : TcpState) (side : OpId) → usable_side s ≡ Ok side → side_in s ≡ Some side
usable (TcpState.Connecting c) side e = absurd (cc)
usable (TcpState.Closed c) side e = absurd (cc)
usable _ side e = cc

usable_if : (s : TcpState) (bound : Bool) (side : OpId) → (if bound then usable_side s else Err InvalidState) ≡ Ok side → side_in s ≡ Some side
usable_if s true side e = usable s side e
usable_if s false side e = absurd (cc)

usable_known : (s : TcpState) (bound : Bool) (side : OpId) → (if bound then usable_side s else Err InvalidState) ≡ Ok side → bound ≡ true
usable_known s true side e = refl
usable_known s false side e = absurd (cc)

-- nothing is in progress
pub idled : {goes begins : Type 0} (r : TcpRecord) → IsSettled r.in_progress → Plain goes begins r (with_progress r InProgress.Nothing)
idled r settled = record { side = refl; streams = refl; listening = refl; does = refl; maker = refl; counts = refl; family = refl; bound = λ side d b. b; stays = λ b. b; binds = inr (settled, tt); connects = λ e. absurd (cc); dropped = inl refl }

pub connect_settles : (doing : InProgress) → is_connect doing ≡ true → IsSettled doing
connect_settles (InProgress.Binding op) e = absurd (cc)
connect_settles _ e = tt

pub idle_settles : (doing : InProgress) → is_nothing doing ≡ true → IsSettled doing
idle_settles InProgress.Nothing e = tt
idle_settles _ e = absurd (cc)

-- the line's own operation began something, or never will
abbrev pub Spent : {A : Type 0} → Here → ℕ → TcpRecord → A × Socket → Here
Spent h place r done = record (put h place (with_inner r done.1)) { own = Used }

-- what the answer to Bound? says of the socket that it leaves
abbrev pub KnowsBound : Socket → Bool × Socket → Type 0
KnowsBound socket b = (b.0 ≡ true → b.1.bound ≡ true) × (b.1.state ≡ socket.state) × (b.0 ≡ false → b.1.bound ≡ false)

bound_told : (socket : Socket) (told : Result IpSocketAddress ErrorCode) → socket.bound ≡ false → KnowsBound socket (after_local socket told)
bound_told socket (Ok a) n = by_test (is_wildcard socket.family a)
  where
    by_test : (b : Bool) → (let answer : Bool × Socket = if b then (false, socket) else (true, record socket { bound = true }) in KnowsBound socket answer)
    by_test true = (λ e. absurd (cc), refl, λ e. n)
    by_test false = (λ e. refl, refl, λ e. absurd (cc))
bound_told socket (Err c) n = (λ e. absurd (cc), refl, λ e. n)

pub bound_given : (op : OpId) (socket : Socket) → Given (KnowsBound socket) (bound_asks op socket)
unfolding bind
bound_given op socket = by_test socket.bound refl
  where
    by_state : (s : TcpState) → socket.bound ≡ false → Given (KnowsBound socket) (ask_bound op socket s)
    by_state (TcpState.Default side) n = λ told. bound_told socket (told_addr told) n
    by_state (TcpState.Listening c) n = (λ e. refl, refl, λ e. absurd (cc))
    by_state (TcpState.Connecting c) n = (λ e. refl, refl, λ e. absurd (cc))
    by_state (TcpState.Connected c) n = (λ e. refl, refl, λ e. absurd (cc))
    by_state (TcpState.Closed c) n = (λ e. refl, refl, λ e. absurd (cc))

    by_test : (b : Bool) → socket.bound ≡ b → Given (KnowsBound socket) (if b then Give (true, socket) else ask_bound op socket socket.state)
    by_test true e = (λ t. e, refl, λ f. absurd (cc))
    by_test false e = by_state socket.state e

-- a connect that begins leaves the socket connecting
abbrev pub BeginsSo : Result (Unit {0}) ErrorCode × Socket → Type 0
BeginsSo (Ok done, socket) = IsConnecting socket.state
BeginsSo (Err c, socket) = ⊤

begun_given : (op : OpId) (socket : Socket) (a : IpSocketAddress) (s : TcpState) → Given BeginsSo (start_connect_in op socket a s)
unfolding bind
begun_given op socket a (TcpState.Default side) = given_then BeginsSo (λ b. connect_start op side b.1 a b.0) (λ b. by_test b (is_connectable b.1 a)) (bound_asks op socket)
  where
    by_test : (b : Bool × Socket) (able : Bool) → BeginsSo (if able then (Ok tt, with_state b.1 (TcpState.Connecting (connect_operation (record { op = op; side = side; maker = b.1.maker }) (wildcard b.1.family) a (connect_first b.0)))) else (Err InvalidArgument, b.1))
    by_test b true = tt
    by_test b false = tt
begun_given op socket a _ = tt

-- the record, with its socket in this state
abbrev pub In : Here → ℕ → TcpRecord → Socket → TcpState → Here
In h place r socket s = put h place (with_inner r (with_state socket s))

-- a poll of a connect asks by the line that began it
module _ {contexts : List WasiSocketsCtx} {line : ℕ} {origin : Step} {law : Law contexts line origin} {h : Here} {place : ℕ} (here : HasRecord h place) where
  finish_in_walks : (r : TcpRecord) (s : TcpState) → Walks law (In h place r r.inner s) (λ done. In h place r r.inner done.1) (finish_in s)
  finish_in_walks r (TcpState.Connecting op) = and_then (connect here (with_inner r (with_state r.inner (TcpState.Connecting op))) op refl) (λ ended. give _)
  finish_in_walks r _ = give _

  pub finish_walks : (r : TcpRecord) → Walks law (put h place r) (λ done. put h place (with_inner r done.1)) (finish_connect_asks r.inner)
  finish_walks r = and_then (finish_in_walks r r.inner.state) (λ done. give _)

  -- it is in progress no more
  idles : {A : Type 0} (r : TcpRecord) (socket : Socket) (answer : A) → IsSettled r.in_progress → Walks law {A = A × TcpRecord} (put h place (with_inner r socket)) (λ done. put h place done.1) (Give (answer, idle r socket))
  idles r socket answer settled = on here (with_inner r socket) _ (Changes _ _ _ _ (found here (with_inner r socket)) (idled (with_inner r socket) settled)) (give _)

  sends : (r : TcpRecord) (socket : Socket) (c : Connection) (taken : Bool) → IsSettled r.in_progress → c.send_taken ≡ taken
      → Walks law (In h place r socket (TcpState.Connected c)) (λ done. put h place done.1) (Give (opened_send r (record { side = c.side }) (in_socket socket (still_connected (taken_send c taken)))))
  sends r socket c true settled e = idles r (with_state socket (TcpState.Connected c)) _ settled
  sends r socket c false settled e = let now = with_inner r (with_state socket (TcpState.Connected c)) in on here now (opened_by now c) (Opens _ _ _ c settled (found here now) refl e) (give _)

  receives : (r : TcpRecord) (socket : Socket) (c : Connection) (taken : Bool) → IsSettled r.in_progress → Walks law (In h place r socket (TcpState.Connected c)) (λ done. put h place done.1) (Give (opened_receive r (in_socket socket (still_connected (taken_receive c taken)))))
  receives r socket c true settled = idles r (with_state socket (TcpState.Connected c)) _ settled
  receives r socket c false settled =
      let now = with_inner r (with_state socket (TcpState.Connected c)) in
      let next : Connection = record c { receive_taken = true } in
      let none : TcpRecord = with_progress r InProgress.Nothing in
      let waits = with_inner none (with_state socket (TcpState.Connected c)) in
      on here now waits (Changes _ _ _ _ (found here now) (idled now settled))
      (on here waits (with_inner none (with_state socket (TcpState.Connected next))) (Reconnects _ _ _ c next (found here waits) refl refl (λ t. t) (λ e. absurd (cc))) (sends none (with_state socket (TcpState.Connected next)) next next.send_taken tt refl))

  opens : (r : TcpRecord) (socket : Socket) (s : TcpState) → IsSettled r.in_progress → Walks law (In h place r socket s) (λ done. put h place done.1) (Give (opened_receive r (in_socket socket (take_receive s))))
  opens r socket (TcpState.Connected c) settled = receives r socket c c.receive_taken settled
  opens r socket s settled = idles r (with_state socket s) _ settled

  pub poll_connect_walks : (r : TcpRecord) → IsSettled r.in_progress → Walks law (put h place r) (λ done. put h place done.1) (poll_connect_asks r)
  poll_connect_walks r settled = and_then (finish_walks r) polled
    where
      polled : (done : Result (Answer (Unit {0})) ErrorCode × Socket) → Walks law (put h place (with_inner r done.1)) (λ d. put h place d.1) (Give (connect_polled r done))
      polled (Ok Pending, socket) = give _
      polled (Ok (Ready d), socket) = opens r socket socket.state settled
      polled (Err c, socket) = idles r socket _ settled

-- where a connect is finished, the streams are made
abbrev OpenedSo : Result (Unit {0}) Stop × TcpRecord → Type 0
OpenedSo (Ok done, r) = IsSome r.streams
OpenedSo (Err why, r) = ⊤

polled_so : (r : TcpRecord) (done : Result (Answer (Unit {0})) ErrorCode × Socket) → OpenedSo (connect_polled r done)
polled_so r (Ok Pending, socket) = tt
polled_so r (Ok (Ready d), socket) = receive_so (in_socket socket (take_receive socket.state))
  where
    send_so : (receive : TcpReceiveStream) (sent : Result TcpSendStream ErrorCode × Socket) → OpenedSo (opened_send r receive sent)
    send_so receive (Ok send, now) = refl
    send_so receive (Err c, now) = tt

    receive_so : (got : Result TcpReceiveStream ErrorCode × Socket) → OpenedSo (opened_receive r got)
    receive_so (Ok receive, now) = send_so receive (in_socket now (take_send now.state))
    receive_so (Err c, now) = tt
polled_so r (Err c, socket) = tt

abbrev pub FinishedSo : ℕ → Result (Unit {0}) Stop × Records → Type 0
FinishedSo place (Ok done, store) = IsSome (streams_in (tcp2_at store.records place))
FinishedSo place (Err why, store) = ⊤

-- where a connect is finished, its streams are made
pub finished_of : (store : Records) (place : ℕ) → Given (FinishedSo place) (finish_connect_of place store)
finished_of store place = by_record (tcp2_at store.records place) refl
  where
    kept : (r : TcpRecord) → tcp2_at store.records place ≡ Some r → (done : Result (Unit {0}) Stop × TcpRecord) → OpenedSo done
        → Given (FinishedSo place) (after_call same_stop (λ s now. with_socket s place now) gives_all store done)
    kept r g (Ok d, now) has = subst (λ (o : Option TcpRecord). IsSome (streams_in o)) (sym (put_finds tcp_sort store.records place r now g)) has
    kept r g (Err why, now) has = tt

    by_test : (r : TcpRecord) → tcp2_at store.records place ≡ Some r → (its : Bool)
        → Given (FinishedSo place) (if its then last (done_by place r poll_connect_asks) store else Give (Err (Code NotInProgress), store))
    by_test r g true =
        given_along OpenedSo (FinishedSo place) (poll_connect_asks r) _
        (given_then OpenedSo (connect_polled r) (polled_so r) (finish_connect_asks r.inner)) (kept r g)
    by_test r g false = tt

    by_record : (o : Option TcpRecord) → tcp2_at store.records place ≡ o
        → Given (FinishedSo place) (or_trap (λ r. need (is_connect r.in_progress) (Code NotInProgress) >> last (done_by place r poll_connect_asks)) store o)
    by_record None g = tt
    by_record (Some r) g = by_test r g (is_connect r.in_progress)

-- a bind that waits is in progress
abbrev pub WaitsSo : StandingCall → Result (Answer (Unit {0})) ErrorCode × TcpRecord → Type 0
WaitsSo call (Ok Pending, r) = GoesOn call r
WaitsSo call _ = ⊤

-- and one that is done isn't any more
abbrev pub BindsSo : Result (Answer (Unit {0})) ErrorCode × TcpRecord → Type 0
BindsSo (Ok Pending, r) = HasBinding r.in_progress
BindsSo (Ok (Ready done), r) = IsSettled r.in_progress
BindsSo (Err c, r) = ⊤

pub waits_so : (place : ℕ) (face : Interface) (done : Result (Answer (Unit {0})) ErrorCode × TcpRecord) → BindsSo done → WaitsSo (StandingCall.Bind place face) done
waits_so place face (Ok Pending, r) b = b
waits_so place face (Ok (Ready done), r) b = tt
waits_so place face (Err c, r) b = tt

ended_so : (op : Operation) (r : TcpRecord) (ended : End × List Item) → BindsSo (bind_ended op r ended)
ended_so op r (Waits, items) = tt
ended_so op r (Done given, items) = tt
ended_so op r (Refused c given, items) = tt

pub polled_given : (r : TcpRecord) (doing : InProgress) → Given BindsSo (poll_binding r doing)
polled_given r (InProgress.Binding op) = given_then BindsSo (bind_ended op r) (ended_so op r) (poll_asks op)
polled_given r _ = tt

pub begun_bind_given : (op : OpId) (r : TcpRecord) (a : IpSocketAddress) → Given BindsSo (begin_bind_asks op r a)
begun_bind_given op r a = given_on BindsSo (bind_begun r) begun (bind_asks op r.inner a)
  where
    begun : (start : Result Operation ErrorCode × Socket) → Given BindsSo (bind_begun r start)
    begun (Ok o, socket) = polled_given (record r { inner = socket; in_progress = InProgress.Binding o }) (InProgress.Binding o)
    begun (Err c, socket) = tt

-- and so is a listen that waits, whose address was reported; done, there is a listener
abbrev pub ListensSo : Result (Answer (Unit {0})) ErrorCode × TcpRecord → Type 0
ListensSo (Ok Pending, r) = HasListen r.listening
ListensSo (Ok (Ready done), r) = (has_listener r.listening ≡ true) × IsSettled r.in_progress
ListensSo (Err c, r) = ⊤

listened_so : (op : Operation) (r : TcpRecord) (socket : Socket) (ended : End × List Item) → IsTold ended → ListensSo (listen_polled r (listen_ended op.who socket ended))
listened_so op r socket (Waits, items) k = k
listened_so op r socket (Done given, items) k = (refl, tt)
listened_so op r socket (Refused c given, items) k = tt

begun_listening : (r : TcpRecord) (op : Operation) (over : Bool) → Given ListensSo (bind (if over then Give (Err InvalidState, (op, r.inner)) else listen_goes_on op r.inner) (λ done. Give (listen_polled r done)))
unfolding bind
begun_listening r op true = tt
begun_listening r op false = from_goes (given_along IsTold (λ done. ListensSo (listen_polled r done)) (poll_asks op) (λ ended. Give (listen_ended op.who r.inner ended)) (told_first 63 op.who op.left) (λ ended k. listened_so op r r.inner ended k))
  where
    from_goes : Given (λ done. ListensSo (listen_polled r done)) (listen_goes_on op r.inner) → Given ListensSo (bind (listen_goes_on op r.inner) (λ done. Give (listen_polled r done)))
    from_goes k = given_along (λ done. ListensSo (listen_polled r done)) ListensSo (listen_goes_on op r.inner) (λ done. Give (listen_polled r done)) k (λ done w. w)

pub listen_given : (r : TcpRecord) → Given ListensSo (poll_listen_asks r)
listen_given r = by_side (side_of r.inner)
  where
    by_listening : (l : Listening) → Given ListensSo (poll_listening r l)
    by_listening (Begins op) = begun_listening r op (is_over op)
    by_listening _ = tt

    by_side : (o : Option OpId) → Given ListensSo (closed_listening r o)
    by_side None = by_listening r.listening
    by_side (Some side) = tt

pub once_given : (op : OpId) (r : TcpRecord) (l : Listening) → Given ListensSo (listen_once op r l)
once_given op r Not = given_on ListensSo (listen_begun r) begun (listen_asks op r.inner)
  where
    begun : (start : Result Operation ErrorCode × Socket) → Given ListensSo (listen_begun r start)
    begun (Ok o, socket) = listen_given (record r { inner = socket; listening = Begins o })
    begun (Err c, socket) = tt
once_given op r _ = tt

pub begun_listen_given : (op : OpId) (r : TcpRecord) → Given ListensSo (begin_listen_asks op r)
begun_listen_given op r = given_on ListensSo (λ b. listen_bound op (with_inner r b.1) b.0) (λ b. by_bound (with_inner r b.1) b.0) (bound_asks op r.inner)
  where
    by_bound : (now : TcpRecord) (b : Bool) → Given ListensSo (listen_bound op now b)
    by_bound now true = once_given op now now.listening
    by_bound now false = tt

-- one that listens, or is about to, is refused
abbrev pub IsRefused : Result (Answer (Unit {0})) ErrorCode × TcpRecord → Type 0
IsRefused (Ok answer, r) = ⊥
IsRefused (Err c, r) = ⊤

abbrev pub IsNot : Listening → Type 0
IsNot Not = ⊤
IsNot _ = ⊥

pub once_refused : (op : OpId) (r : TcpRecord) (l : Listening) → (IsNot l → ⊥) → Given IsRefused (listen_once op r l)
once_refused op r Not other = absurd (other tt)
once_refused op r _ other = tt

pub begun_refused : (op : OpId) (r : TcpRecord) → (IsNot r.listening → ⊥) → Given IsRefused (begin_listen_asks op r)
begun_refused op r other = given_on IsRefused (λ b. listen_bound op (with_inner r b.1) b.0) (λ b. by_bound (with_inner r b.1) b.0 other) (bound_asks op r.inner)
  where
    by_bound : (now : TcpRecord) (b : Bool) → (IsNot now.listening → ⊥) → Given IsRefused (listen_bound op now b)
    by_bound now true other = once_refused op now now.listening other
    by_bound now false other = tt

-- the tests of a bind
module _ {contexts : List WasiSocketsCtx} {line : ℕ} {origin : Step} {law : Law contexts line origin} {h : Here} {place : ℕ} (here : HasRecord h place) (at : h.at ≡ Some (place, line)) (a : IpSocketAddress) (to : IsBindTo a origin) (free : h.own ≡ Unused) (r : TcpRecord) where
  allowed_if : (socket : Socket) (side : OpId) (b : Bool) → socket.state ≡ TcpState.Default side
      → Walks law (put h place (with_inner r socket)) (Started h place r) (Give (if b then Ok (begun_bind (own_of line) side (with_inner r socket) a) else Err InvalidArgument, socket))
  allowed_if socket side true e =
      let now : TcpRecord = with_inner r socket in
      let begun : TcpRecord = with_progress now (InProgress.Binding (begun_bind (own_of line) side now a)) in
      move (BeginsBind (put h place now) place now side a at (found here now) e to free) (from (ap (λ (x : Here). record x { own = Used }) (sym (put_put h place now begun))) (give _))
  allowed_if socket side false e = gives _ (Spends _ free)

  allowed : (socket : Socket) (s : TcpState) → socket.state ≡ s → Walks law (put h place (with_inner r socket)) (Started h place r) (Give (bind_allowed (own_of line) socket a s, socket))
  allowed socket (TcpState.Default side) e = allowed_if socket side (is_unicast (ip_of a) && is_of_family (ip_of a) socket.family) e
  allowed socket _ e = gives _ (Spends _ free)

  started : (socket : Socket) (bound : Bool) → Walks law (put h place (with_inner r socket)) (Started h place r) (Give (if bound then Err InvalidState else bind_allowed (own_of line) socket a socket.state, socket))
  started socket true = gives _ (Spends _ free)
  started socket false = allowed socket socket.state refl

-- a poll of the bind that was begun
module _ {contexts : List WasiSocketsCtx} {line : ℕ} {origin : Step} {law : Law contexts line origin} {h : Here} {place : ℕ} (here : HasRecord h place) (quiet : NoStart h) where
  poll_binding_walks : (r : TcpRecord) (doing : InProgress) → r.in_progress ≡ doing → Walks law (put h place r) (λ done. put h place done.1) (poll_binding r doing)
  poll_binding_walks r (InProgress.Binding op) e = and_then (poll_bind here r op quiet e) (λ ended. give _)
  poll_binding_walks r _ e = give _

  pub poll_bind_walks : (r : TcpRecord) → Walks law (put h place r) (λ done. put h place done.1) (poll_bind_asks r)
  poll_bind_walks r = poll_binding_walks r r.in_progress refl

module _ {contexts : List WasiSocketsCtx} {line : ℕ} {origin : Step} {law : Law contexts line origin} {h : Here} {place n : ℕ} (here : HasRecord h place) (at : h.at ≡ Some (place, n)) where
  -- == options
  get_where_walks : (r : TcpRecord) (option : Opt) (u : Result OpId ErrorCode) → n ≡ line → IsGetOf option origin → ((side : OpId) → u ≡ Ok side → side_of r.inner ≡ Some side) → Walks law (put h place r) (λ done. put h place r) (get_where (own_of n) r.inner option u)
  unfolding bind
  get_where_walks r option (Ok side) own is k = ask here r at (OfSocket (k side refl)) ((refl, own, is), tt) (λ told fits. give _)
  get_where_walks r option (Err c) own is k = give _

  pub get_walks : (r : TcpRecord) (option : Opt) → n ≡ line → IsGetOf option origin → Walks law (put h place r) (λ done. put h place r) (get_option_asks (own_of n) r.inner option)
  get_walks r option own is = get_where_walks r option (usable_side r.inner.state) own is (usable r.inner.state)

  set_of_side_walks : (r : TcpRecord) (side : OpId) (option : Opt) (value : ℕ) (zero : Bool) → n ≡ line → IsSetTo option (value_set option value) origin → side_of r.inner ≡ Some side
      → Walks law (put h place r) (λ done. put h place r) (if zero then Give (Err InvalidArgument) else ask_set_option (own_of n) side option (value_set option value))
  set_of_side_walks r side option value true own is e = give _
  set_of_side_walks r side option value false own is e = ask here r at (OfSocket e) ((refl, own, is), tt) (λ told fits. give _)

  set_where_walks : (r : TcpRecord) (option : Opt) (value : ℕ) (u : Result OpId ErrorCode) → n ≡ line → IsSetTo option (value_set option value) origin → ((side : OpId) → u ≡ Ok side → side_of r.inner ≡ Some side) → Walks law (put h place r) (λ done. put h place r) (set_where (own_of n) r.inner option value u)
  set_where_walks r option value (Ok side) own is k = and_then (set_of_side_walks r side option value (refused_after (zero_test option) value) own is (k side refl)) (λ answer. give _)
  set_where_walks r option value (Err c) own is k = give _

  pub set_walks : (r : TcpRecord) (option : Opt) (value : ℕ) → n ≡ line → IsSetTo option (value_set option value) origin → Walks law (put h place r) (λ done. put h place r) (set_option_asks (own_of n) r.inner option value)
  set_walks r option value own is = by_if (refused_before (zero_test option) value) (λ refused. give _) (λ allowed. set_where_walks r option value (usable_side r.inner.state) own is (usable r.inner.state))

  -- == what a socket says of itself
  told_walks : (r : TcpRecord) (u : Result OpId ErrorCode) → ((side : OpId) → u ≡ Ok side → (side_of r.inner ≡ Some side) × (r.inner.bound ≡ true)) → Walks law (put h place r) (Inner h place r) (local_from (own_of n) r.inner u)
  unfolding bind
  told_walks r (Ok side) k = let its = k side refl in ask here r at (OfSocket its.0) (refl, its.1) (λ told fits. give _)
  told_walks r (Err c) k = give _

  peer_walks : (r : TcpRecord) (c : Connection) (o : Option IpSocketAddress) → Walks law (In h place r r.inner (TcpState.Connected c)) (λ done. In h place r r.inner (TcpState.Connected done.1)) (peer_known (own_of n) c o)
  unfolding bind
  peer_walks r c (Some a) = give _
  peer_walks r c None = ask here (with_inner r (with_state r.inner (TcpState.Connected c))) at (OfSocket refl) (refl, tt) (λ told fits. known (told_addr told))
    where
      known : (told : Result IpSocketAddress ErrorCode) → Walks law (In h place r r.inner (TcpState.Connected c)) (λ done. In h place r r.inner (TcpState.Connected done.1)) (Give (after_peer c told))
      known (Ok a) = let old = with_inner r (with_state r.inner (TcpState.Connected c)) in on here old _ (Reconnects _ _ _ c (record c { peer = Some a }) (found here old) refl refl (λ t. t) (λ e. (refl, refl))) (give _)
      known (Err x) = give _

  remote_in_walks : (r : TcpRecord) (s : TcpState) → Walks law (In h place r r.inner s) (λ done. In h place r r.inner done.1) (remote_in (own_of n) s)
  remote_in_walks r (TcpState.Connected c) = and_then (peer_walks r c c.peer) (λ p. give _)
  remote_in_walks r _ = give _

  pub remote_walks : (r : TcpRecord) → Walks law (put h place r) (λ done. put h place done.1) (tell_remote_asks (own_of n) r)
  remote_walks r = and_then (and_then (remote_in_walks r r.inner.state) (λ done. give _)) (λ done. give _)

module _ {contexts : List WasiSocketsCtx} {line : ℕ} {origin : Step} {law : Law contexts line origin} {h : Here} {place : ℕ} (here : HasRecord h place) (at : h.at ≡ Some (place, line)) where
  -- == a bind
  is_bound : (r : TcpRecord) → ((side : OpId) → r.inner.state ≡ TcpState.Default side → ⊥) → Walks law (put h place r) (Inner h place r) (Give (true, record r.inner { bound = true }))
  is_bound r other = on here r _ (Changes _ _ _ _ (found here r) (record { side = refl; streams = refl; listening = refl; does = refl; maker = refl; counts = refl; family = refl; bound = λ side d b. absurd (other side d); stays = λ b. absurd (cc); binds = inl refl; connects = λ e. inl e; dropped = inl refl })) (give _)

  bound_in : (r : TcpRecord) (s : TcpState) → r.inner.state ≡ s → Walks law (put h place r) (Inner h place r) (ask_bound (own_of line) r.inner s)
  unfolding bind
  bound_in r (TcpState.Default side) e = learn here r at e (λ told. give _)
  bound_in r _ e = is_bound r (λ side d. absurd (cc))

  pub bound_walks : (r : TcpRecord) → Walks law (put h place r) (Inner h place r) (bound_asks (own_of line) r.inner)
  bound_walks r = by_if r.inner.bound (λ known. give _) (λ unknown. bound_in r r.inner.state refl)

  module _ (a : IpSocketAddress) (to : IsBindTo a origin) (free : h.own ≡ Unused) (quiet : NoStart h) where
    bind_walks : (r : TcpRecord) → Walks law (put h place r) (Started h place r) (bind_asks (own_of line) r.inner a)
    bind_walks r = and_then (bound_walks r) (λ b. started here at a to free r b.1 b.0)

    begun_walks : (r : TcpRecord) (start : Result Operation ErrorCode × Socket) → Walks law (Started h place r start) (λ done. record (put h place done.1) { own = Used }) (bind_begun r start)
    begun_walks r (Ok op, socket) = poll_bind_walks (spent here) quiet (record r { inner = socket; in_progress = InProgress.Binding op })
    begun_walks r (Err c, socket) = give _

    pub begin_bind_walks : (r : TcpRecord) → Walks law (put h place r) (λ done. record (put h place done.1) { own = Used }) (begin_bind_asks (own_of line) r a)
    begin_bind_walks r = and_then (bind_walks r) (begun_walks r)

  -- == a connect
  connect_if : (r : TcpRecord) (side : OpId) (a : IpSocketAddress) (bound able : Bool) (done : Unit {0}) → r.inner.state ≡ TcpState.Default side → IsConnectTo a origin → (bound ≡ true → r.inner.bound ≡ true) → is_nothing r.in_progress ≡ true → h.own ≡ Unused
      → Walks law (put h place r) (Spent h place r) (Give (if able then (Ok done, with_state r.inner (TcpState.Connecting (connect_operation (record { op = own_of line; side = side; maker = r.inner.maker }) (wildcard r.inner.family) a (connect_first bound)))) else (Err InvalidArgument, r.inner)))
  connect_if r side a bound true done e to known idle free =
      let now : TcpRecord = with_inner r (with_state r.inner (TcpState.Connecting (connect_operation (record { op = own_of line; side = side; maker = r.inner.maker }) (wildcard r.inner.family) a (connect_first bound)))) in
      move (BeginsConnect (put h place r) place r side a bound at (found here r) e to known idle free) (from (ap (λ (x : Here). record x { own = Used }) (sym (put_put h place r now))) (give _))
  connect_if r side a bound false done e to known idle free = gives _ (Spends _ free)

  pub start_connect_walks : (r : TcpRecord) (a : IpSocketAddress) (s : TcpState) → r.inner.state ≡ s → IsConnectTo a origin → is_nothing r.in_progress ≡ true → h.own ≡ Unused → Walks law (put h place r) (Spent h place r) (start_connect_in (own_of line) r.inner a s)
  start_connect_walks r a (TcpState.Default side) e to idle free =
      and_given (KnowsBound r.inner) (bound_given (own_of line) r.inner) (bound_walks r) (λ b k. connect_if (with_inner r b.1) side a b.0 (is_connectable b.1 a) tt (k.1 ∙ e) to k.0 idle free)
  start_connect_walks r a _ e to idle free = gives _ (Spends _ free)

  pub begin_connect_walks : (r : TcpRecord) (a : IpSocketAddress) → IsConnectTo a origin → is_nothing r.in_progress ≡ true → h.own ≡ Unused → IsOfOld h place → Walks law (put h place r) (λ done. record (put h place done.1) { own = Used }) (begin_connect_asks (own_of line) r a)
  begin_connect_walks r a to idle free old = and_given BeginsSo (begun_given (own_of line) r.inner a r.inner.state) (start_connect_walks r a r.inner.state refl to idle free) begun
    where
      begun : (done : Result (Unit {0}) ErrorCode × Socket) → BeginsSo done → Walks law (Spent h place r done) (λ d. record (put h place d.1) { own = Used }) (Give (connect_begun r done))
      begun (Ok d, socket) so = on (spent here) (with_inner r socket) _ (Changes _ _ _ _ (found (spent here) (with_inner r socket)) (record { side = refl; streams = refl; listening = refl; does = refl; maker = refl; counts = refl; family = refl; bound = λ side d b. b; stays = λ b. b; binds = inr (idle_settles r.in_progress idle, tt); connects = λ e. inr (so, record { handle = old.handle; socket = old.socket }); dropped = inl refl })) (give _)
      begun (Err c, socket) so = give _

  pub local_walks : (r : TcpRecord) → Walks law (put h place r) (λ done. put h place done.1) (tell_local_asks (own_of line) r)
  local_walks r = and_then (and_given (KnowsBound r.inner) (bound_given (own_of line) r.inner) (bound_walks r) (λ b k. told_walks here at (with_inner r b.1) (local_side b.1 b.0) (λ side e. (usable_if b.1.state b.0 side e, k.0 (usable_known b.1.state b.0 side e))))) (λ done. give _)

-- == the backlog, and whether it is ready
backlog_kept : {goes begins : Type 0} (r : TcpRecord) (b : ℕ) → Plain goes begins r (with_inner r (with_backlog r.inner b))
backlog_kept r b = record { side = refl; streams = refl; listening = refl; does = refl; maker = refl; counts = refl; family = refl; bound = λ side d e. e; stays = λ b. b; binds = inl refl; connects = λ e. inl e; dropped = inl refl }

module _ {contexts : List WasiSocketsCtx} {line : ℕ} {origin : Step} {law : Law contexts line origin} {h : Here} {place : ℕ} (here : HasRecord h place) (at : h.at ≡ Some (place, line)) where
  backlog_told : (r : TcpRecord) (b : ℕ) (told : Result (Unit {0}) ErrorCode) → Walks law (put h place r) (Inner h place r) (Give (after_backlog r.inner b told))
  backlog_told r b (Ok done) = on here r _ (Changes _ _ _ _ (found here r) (backlog_kept r b)) (give _)
  backlog_told r b (Err c) = give _

  backlog_in_walks : (r : TcpRecord) (b : ℕ) (s : TcpState) → r.inner.state ≡ s → IsBacklogSet b origin → Walks law (put h place r) (Inner h place r) (set_backlog_in (own_of line) r.inner b s)
  unfolding bind
  backlog_in_walks r b (TcpState.Default side) e is = on here r _ (Changes _ _ _ _ (found here r) (backlog_kept r b)) (give _)
  backlog_in_walks r b (TcpState.Listening side) e is = set here r at e is (λ told. backlog_told r b (told_done told))
  backlog_in_walks r b _ e is = give _

  pub backlog_walks : (r : TcpRecord) (value : ℕ) → IsBacklogSet (clamped_backlog value) origin → Walks law (put h place r) (Inner h place r) (set_backlog_asks (own_of line) r.inner value)
  backlog_walks r value is = by_if (value == 0) (λ none. give _) (λ some. backlog_in_walks r (clamped_backlog value) r.inner.state refl is)

-- == a listen
module _ {contexts : List WasiSocketsCtx} {line : ℕ} {origin : Step} {law : Law contexts line origin} {h : Here} {place : ℕ} (here : HasRecord h place) (quiet : NoStart h) where
  poll_begun_walks : (r : TcpRecord) (op : Operation) → r.listening ≡ Begins op → side_of r.inner ≡ None → Walks law (put h place r) (λ done. put h place done.1) (poll_begun r op)
  poll_begun_walks r op e c = and_then {mid = λ done. put h place (listen_polled r done).1} (by_if (is_over op) (λ over. on here r _ (Unlistens _ _ _ op quiet (found here r) e c over) (give _)) (λ more. and_then (listen here r op quiet e c) (λ ended. give _))) (λ done. give _)

  by_listening : (r : TcpRecord) (l : Listening) → r.listening ≡ l → side_of r.inner ≡ None → Walks law (put h place r) (λ done. put h place done.1) (poll_listening r l)
  by_listening r (Begins op) e c = poll_begun_walks r op e c
  by_listening r _ e c = give _

  by_side : (r : TcpRecord) (o : Option OpId) → side_of r.inner ≡ o → Walks law (put h place r) (λ done. put h place done.1) (closed_listening r o)
  by_side r None e = by_listening r r.listening refl e
  by_side r (Some side) e = give _

  pub poll_listen_walks : (r : TcpRecord) → Walks law (put h place r) (λ done. put h place done.1) (poll_listen_asks r)
  poll_listen_walks r = by_side r (side_of r.inner) refl

-- one that is known to be bound is asked nothing
known_given : (op : OpId) (socket : Socket) → socket.bound ≡ true → Given (λ b. (b.0 ≡ true) × (b.1 ≡ socket)) (bound_asks op socket)
known_given op socket e = by_test socket.bound e
  where
    by_test : (b : Bool) → b ≡ true → Given (λ x. (x.0 ≡ true) × (x.1 ≡ socket)) (if b then Give (true, socket) else ask_bound op socket socket.state)
    by_test true p = (refl, refl)
    by_test false p = absurd (cc)

-- the operation that was begun holds the network socket
abbrev pub Listened : Here → ℕ → TcpRecord → Result Operation ErrorCode × Socket → Here
Listened h place r (Ok op, socket) = record (put h place (record r { inner = socket; listening = Begins op })) { own = Used }
Listened h place r (Err c, socket) = record (put h place (with_inner r socket)) { own = Used }

module _ {contexts : List WasiSocketsCtx} {line : ℕ} {origin : Step} {law : Law contexts line origin} {h : Here} {place : ℕ} (here : HasRecord h place) (at : h.at ≡ Some (place, line)) (is : IsListenStep origin) (free : h.own ≡ Unused) (quiet : NoStart h) where
  starts_listen : (r : TcpRecord) (socket : Socket) (bound : Bool) (s : TcpState) → socket.state ≡ s → r.listening ≡ Not → (bound ≡ true → socket.bound ≡ true) → (bound ≡ false → BindsAnywhere origin × ListensForHandle h.made × (socket.bound ≡ false)) → is_nothing r.in_progress ≡ true
      → Walks law (put h place (with_inner r socket)) (Listened h place r) (Give (listen_start (own_of line) socket bound s))
  starts_listen r socket bound (TcpState.Default side) e none known un idle =
      let now : TcpRecord = with_inner r socket in
      move (BeginsListen (put h place now) place now side bound at (found here now) e known un none is idle free) (from (ap (λ (x : Here). record x { own = Used }) (sym (put_put h place now (beginning_listen (own_of line) side now bound)))) (give _))
  starts_listen r socket bound _ e none known un idle = gives _ (Spends _ free)

  listened_walks : (r : TcpRecord) (start : Result Operation ErrorCode × Socket) → Walks law (Listened h place r start) (λ done. record (put h place done.1) { own = Used }) (listen_begun r start)
  listened_walks r (Ok op, socket) = poll_listen_walks (spent here) quiet (record r { inner = socket; listening = Begins op })
  listened_walks r (Err c, socket) = give _

  -- of one that is known to be bound, and of any, which a listen of 0.3 binds
  once_walks : (r : TcpRecord) (l : Listening) → r.listening ≡ l → r.inner.bound ≡ true → is_nothing r.in_progress ≡ true → Walks law (put h place r) (λ done. record (put h place done.1) { own = Used }) (listen_once (own_of line) r l)
  once_walks r Not e bound idle =
      and_then (and_given (λ b. (b.0 ≡ true) × (b.1 ≡ r.inner)) (known_given (own_of line) r.inner bound) (bound_walks here at r) (λ b k. starts_listen r b.1 b.0 b.1.state refl e (λ t. ap (λ (x : Socket). x.bound) k.1 ∙ bound) (λ f. absurd (let p : true ≡ false = sym k.0 ∙ f in cc)) idle)) (listened_walks r)
  once_walks r _ e bound idle = gives _ (Spends _ free)

  pub any_walks : BindsAnywhere origin → (r : TcpRecord) (l : Listening) → (IsNot l → ListensForHandle h.made) → r.listening ≡ l → is_nothing r.in_progress ≡ true → Walks law (put h place r) (λ done. record (put h place done.1) { own = Used }) (listen_once (own_of line) r l)
  any_walks un r Not marks e idle =
      and_then (and_given (KnowsBound r.inner) (bound_given (own_of line) r.inner) (bound_walks here at r) (λ b k. starts_listen r b.1 b.0 b.1.state refl e k.0 (λ f. (un, marks tt, k.2 f)) idle)) (listened_walks r)
  any_walks un r _ marks e idle = gives _ (Spends _ free)

  if_bound_walks : (r : TcpRecord) (b : Bool) → (b ≡ true → r.inner.bound ≡ true) → is_nothing r.in_progress ≡ true → Walks law (put h place r) (λ done. record (put h place done.1) { own = Used }) (listen_bound (own_of line) r b)
  if_bound_walks r true k idle = once_walks r r.listening refl (k refl) idle
  if_bound_walks r false k idle = gives _ (Spends _ free)

  pub begin_listen_walks : (r : TcpRecord) → is_nothing r.in_progress ≡ true → Walks law (put h place r) (λ done. record (put h place done.1) { own = Used }) (begin_listen_asks (own_of line) r)
  begin_listen_walks r idle = and_given (KnowsBound r.inner) (bound_given (own_of line) r.inner) (bound_walks here at r) (λ b k. if_bound_walks (with_inner r b.1) b.0 k.0 idle)
