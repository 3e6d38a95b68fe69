-- A remote address that was reported is kept by every call.
use Rattle.std.specs.Prelude.{◌≡◌, ◌==◌, Bool, true, false, if◌then◌else◌, List, [], ◌∷◌, Option, Some, None, Result, Ok, Err, refl}
use Rattle.std.proofs.Common.{ap, sym, subst, ◌∙◌}
use Rattle.wasi_addr.specs.declared.address.IpSocketAddress.{IpSocketAddress}
use Rattle.wasi_addr.specs.declared.code.ErrorCode.{ErrorCode}
use Rattle.wasi_addr.specs.declared.code.ErrorCode.TheVariants.{InvalidArgument}
use Rattle.wasi_addr.specs.Clamp.{clamped_backlog}
use Rattle.wasi_world.specs.declared.ids.OpId.{OpId}
use Rattle.wasi_world.specs.declared.call.Call.{Call}
use Rattle.wasi_world.specs.declared.call.Entry.{Entry}
use Rattle.wasi_world.specs.Asks.{Asks, Give, bind, Left}
use Rattle.wasi_world.specs.Typed.{ask_set_option, told_addr}
use Rattle.wasi_world.proofs.Allowed.{Allows, allows_then, reached}
use Rattle.wasi_tcp.specs.declared.socket.Connection.{Connection}
use Rattle.wasi_tcp.specs.declared.socket.TcpState.{TcpState}
use Rattle.wasi_tcp.specs.declared.socket.TcpState.TheVariants as state
use Rattle.wasi_tcp.specs.Shape.{Socket}
use Rattle.wasi_tcp.specs.Socket.{bound_asks, bind_asks}
use Rattle.wasi_tcp.specs.Connecting.{in_socket}
use Rattle.wasi_tcp.specs.Listening.{listen_start, listen_asks}
use Rattle.wasi_tcp.specs.Addresses.{after_peer, still_connected, peer_known, local_from, local_side, local_where, remote_in, remote_asks}
use Rattle.wasi_tcp.specs.Halves.{taken_receive, taken_send}
use Rattle.socket_common.specs.Options.{zero_test, value_set, refused_before, refused_after}
use Rattle.wasi_tcp.specs.Options.{set_backlog_in}
use Rattle.wasi_tcp.specs.Calls.{SocketCall, IsBound, BindTo, StartConnect, FinishConnect, StartListen, LocalAddress, RemoteAddress, TakeReceive, TakeSend, SetOption, SetBacklog, socket_left, after_call, after_calls, KnowsPeer}

-- any ask
abbrev Free : List Entry → OpId → Call → Type 0
Free es op call = Unit {0}

abbrev Knows : IpSocketAddress → List Entry → Socket → Type 0
Knows a es socket = KnowsPeer a socket

abbrev Keeps : {T : Type 0} → IpSocketAddress → List Entry → T × Socket → Type 0
Keeps a es done = KnowsPeer a done.1

-- == the socket that knows it
abbrev connected : Socket → Connection → IpSocketAddress → Socket
connected socket connection a = record socket { state = state.Connected (record connection { peer = Some a }) }

is_connected : (a : IpSocketAddress) (socket : Socket) (k : KnowsPeer a socket) → socket ≡ connected socket k.connection a
is_connected a socket k =
    ap (λ (s : TcpState). let x : Socket = record socket { state = s } in x)
    (k.connected ∙ ap (λ (p : Option IpSocketAddress). state.Connected (record { side = k.connection.side; peer = p; receive_taken = k.connection.receive_taken; send_taken = k.connection.send_taken })) k.peer)

knows : (socket : Socket) (connection : Connection) (a : IpSocketAddress) → KnowsPeer a (connected socket connection a)
knows socket connection a = record { connection = record connection { peer = Some a }; connected = refl; peer = refl }

-- == each call keeps it
bound_keeps : (op : OpId) (socket : Socket) (c : Connection) (a : IpSocketAddress) (before : List Entry) → Allows Free (Keeps a) before (bound_asks op (connected socket c a))
bound_keeps op socket c a before = by_kept socket.bound
  where
    by_kept : (b : Bool) → Allows Free (Keeps a) before (if b then Give (true, connected socket c a) else Give (true, record (connected socket c a) { bound = true }))
    by_kept true = knows socket c a
    by_kept false = record { connection = record c { peer = Some a }; connected = refl; peer = refl }

left_keeps : {T : Type 0} (a : IpSocketAddress) (before : List Entry) (asks : Asks (T × Socket)) → Allows Free (Keeps a) before asks → Allows Free (Knows a) before (socket_left asks)
left_keeps a before asks h = allows_then Free (Keeps a) (Knows a) before asks (λ done. Give done.1) h (λ es done k. k)

local_keeps : (op : OpId) (a : IpSocketAddress) (socket : Socket) (before : List Entry) (side : Result OpId ErrorCode) → KnowsPeer a socket → Allows Free (Keeps a) before (local_from op socket side)
unfolding bind
local_keeps op a socket before (Ok side) k = (tt, λ told fits. k)
local_keeps op a socket before (Err c) k = k

-- a listen of it is refused
listen_keeps : (op : OpId) (a : IpSocketAddress) (b : Bool × Socket) → KnowsPeer a b.1 → KnowsPeer a (listen_start op b.1 b.0 b.1.state).1
listen_keeps op a b k = subst (λ (s : TcpState). KnowsPeer a (listen_start op b.1 b.0 s).1) (sym k.connected) k

call_keeps_here : (call : SocketCall) (socket : Socket) (c : Connection) (a : IpSocketAddress) (before : List Entry) → Allows Free (Knows a) before (after_call call (connected socket c a))
unfolding bind
call_keeps_here (IsBound op) socket c a before = left_keeps a before (bound_asks op (connected socket c a)) (bound_keeps op socket c a before)
call_keeps_here (BindTo op addr) socket c a before =
    left_keeps a before (bind_asks op (connected socket c a) addr) (allows_then Free (Keeps a) (Keeps a) before (bound_asks op (connected socket c a)) _ (bound_keeps op socket c a before) (λ es b k. k))
call_keeps_here (StartConnect op addr) socket c a before = knows socket c a
call_keeps_here FinishConnect socket c a before = knows socket c a
call_keeps_here (StartListen op) socket c a before =
    left_keeps a before (listen_asks op (connected socket c a)) (allows_then Free (Keeps a) (Keeps a) before (bound_asks op (connected socket c a)) _ (bound_keeps op socket c a before) (λ es b k. listen_keeps op a b k))
call_keeps_here (LocalAddress op) socket c a before =
    left_keeps a before _ (allows_then Free (Keeps a) (Keeps a) before (bound_asks op (connected socket c a)) (λ b. local_where op b.1 b.0) (bound_keeps op socket c a before) (λ es b k. local_keeps op a b.1 es (local_side b.1 b.0) k))
call_keeps_here (RemoteAddress op) socket c a before = knows socket c a
call_keeps_here TakeReceive socket c a before = by_taken c.receive_taken
  where
    by_taken : (b : Bool) → KnowsPeer a (in_socket (connected socket c a) (still_connected (taken_receive (record c { peer = Some a }) b))).1
    by_taken true = knows socket c a
    by_taken false = record { connection = record c { peer = Some a; receive_taken = true }; connected = refl; peer = refl }
call_keeps_here TakeSend socket c a before = by_taken c.send_taken
  where
    by_taken : (b : Bool) → KnowsPeer a (in_socket (connected socket c a) (still_connected (taken_send (record c { peer = Some a }) b))).1
    by_taken true = knows socket c a
    by_taken false = record { connection = record c { peer = Some a; send_taken = true }; connected = refl; peer = refl }
call_keeps_here (SetOption op option value) socket c a before =
    left_keeps a before _ (by_refused (refused_before (zero_test option) value) (refused_after (zero_test option) value))
  where
    by_refused : (b d : Bool) → Allows Free (Keeps a) before (if b then Give (Err InvalidArgument, connected socket c a) else bind (if d then Give (Err InvalidArgument) else ask_set_option op c.side option (value_set option value)) (λ answer. Give (answer, connected socket c a)))
    by_refused true d = knows socket c a
    by_refused false true = knows socket c a
    by_refused false false = (tt, λ told fits. knows socket c a)
call_keeps_here (SetBacklog op value) socket c a before = left_keeps a before _ (by_zero (value == 0))
  where
    by_zero : (b : Bool) → Allows Free (Keeps a) before (if b then Give (Err InvalidArgument, connected socket c a) else set_backlog_in op (connected socket c a) (clamped_backlog value) (connected socket c a).state)
    by_zero true = knows socket c a
    by_zero false = knows socket c a

call_keeps : (call : SocketCall) (a : IpSocketAddress) (socket : Socket) (before : List Entry) → KnowsPeer a socket → Allows Free (Knows a) before (after_call call socket)
call_keeps call a socket before k = subst (λ (s : Socket). Allows Free (Knows a) before (after_call call s)) (sym (is_connected a socket k)) (call_keeps_here call socket k.connection a before)

calls_keep : (calls : List SocketCall) (a : IpSocketAddress) (socket : Socket) (before : List Entry) → KnowsPeer a socket → Allows Free (Knows a) before (after_calls calls socket)
calls_keep [] a socket before k = k
calls_keep (call ∷ calls) a socket before k = allows_then Free (Knows a) (Knows a) before (after_call call socket) (λ s. after_calls calls s) (call_keeps call a socket before k) (λ es s h. calls_keep calls a s es h)

pub peer_stays : (calls : List SocketCall) (a : IpSocketAddress) (socket after : Socket) (entries : List Entry) → KnowsPeer a socket → Left (after_calls calls socket) entries (Give after) → KnowsPeer a after
peer_stays calls a socket after entries k w = reached Free (Knows a) [] (after_calls calls socket) entries (Give after) (calls_keep calls a socket [] k) w

-- == and answers it
answered_here : (op : OpId) (a : IpSocketAddress) (socket : Socket) (c : Connection) → remote_asks op (connected socket c a) ≡ Give (Ok a, connected socket c a)
unfolding bind
answered_here op a socket c = refl

pub peer_answered : (op : OpId) (a : IpSocketAddress) (socket : Socket) → KnowsPeer a socket → remote_asks op socket ≡ Give (Ok a, socket)
peer_answered op a socket k = subst (λ (s : Socket). remote_asks op s ≡ Give (Ok a, s)) (sym (is_connected a socket k)) (answered_here op a socket k.connection)

-- == what is reported is kept
abbrev Told : List Entry → Result IpSocketAddress ErrorCode × Socket → Type 0
Told es (Ok a, socket) = KnowsPeer a socket
Told es (Err c, socket) = Unit {0}

kept_after : (socket : Socket) (c : Connection) (es : List Entry) (told : Result IpSocketAddress ErrorCode) → Told es (in_socket socket (still_connected (after_peer c told)))
kept_after socket c es (Ok a) = record { connection = record c { peer = Some a }; connected = refl; peer = refl }
kept_after socket c es (Err code) = tt

kept_known : (op : OpId) (socket : Socket) (c : Connection) (peer : Option IpSocketAddress) → c.peer ≡ peer → Allows Free Told [] (bind (bind (peer_known op c peer) (λ p. Give (still_connected p))) (λ done. Give (in_socket socket done)))
unfolding bind
kept_known op socket c (Some a) h = record { connection = c; connected = refl; peer = h }
kept_known op socket c None h = (tt, λ told fits. kept_after socket c [] (told_addr told))

kept_in : (op : OpId) (socket : Socket) (s : TcpState) → Allows Free Told [] (bind (remote_in op s) (λ done. Give (in_socket socket done)))
unfolding bind
kept_in op socket (state.Default side) = tt
kept_in op socket (state.Listening side) = tt
kept_in op socket (state.Connecting connect) = tt
kept_in op socket (state.Connected c) = kept_known op socket c c.peer refl
kept_in op socket (state.Closed code) = tt

pub peer_told : (op : OpId) (a : IpSocketAddress) (socket after : Socket) (entries : List Entry) → Left (remote_asks op socket) entries (Give (Ok a, after)) → KnowsPeer a after
peer_told op a socket after entries w = reached Free Told [] (remote_asks op socket) entries (Give (Ok a, after)) (kept_in op socket socket.state) w
