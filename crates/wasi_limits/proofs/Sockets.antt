-- The calls of a socket that leave its streams as they are: they ask the same of sockets that are alike, and leave them alike.
use Rattle.std.proofs.Common.{◌≡◌, Bool, true, false, ℕ, Option, Some, None, Result, Ok, Err}
use Rattle.wasi_addr.specs.declared.address.IpSocketAddress.{IpSocketAddress}
use Rattle.wasi_addr.specs.declared.code.ErrorCode.{ErrorCode}
use Rattle.wasi_world.specs.declared.ids.OpId.{OpId}
use Rattle.wasi_world.specs.declared.ids.Ids.{Ids}
use Rattle.wasi_world.specs.declared.outcome.Answer.{Answer}
use Rattle.wasi_world.specs.declared.outcome.Answer.TheVariants.{Ready, Pending}
use Rattle.wasi_world.specs.Asks.{Asks, Give}
unfoldable use Rattle.wasi_world.specs.Asks.{bind}
use Rattle.wasi_world.specs.Operation.{Operation, poll_asks}
use Rattle.wasi_tcp.specs.Shape.{Socket}
use Rattle.wasi_tcp.specs.Socket.{bind_asks, bound_asks, side_of}
use Rattle.wasi_tcp.specs.Connecting.{start_connect_asks, finish_connect_asks, in_socket}
use Rattle.wasi_tcp.specs.Addresses.{local_asks, remote_asks}
use Rattle.wasi_tcp.specs.Listening.{listen_asks, listen_poll_asks}
use Rattle.wasi_tcp.specs.Listener.{Listener, listener_accept_asks, listener_ready_asks}
use Rattle.wasi_tcp.specs.Halves.{take_receive, take_send}
use Rattle.wasi_tcp.specs.declared.halves.TcpReceiveStream.{TcpReceiveStream}
use Rattle.wasi_tcp.specs.declared.halves.TcpSendStream.{TcpSendStream}
use Rattle.wasi_tcp.specs.declared.writer.WriteState.TheVariants as writing
use Rattle.tcp_records.specs.declared.tcp_binding.InProgress.{InProgress}
use Rattle.tcp_records.specs.declared.tcp_binding.InProgress.TheVariants.{Binding, Started}
use Rattle.tcp_records.specs.declared.tcp_binding.AsyncOperation.TheVariants.{Connect, Listen}
use Rattle.tcp_records.specs.declared.tcp_listening.Listening.{Listening}
use Rattle.tcp_records.specs.declared.tcp_listening.Listening.TheVariants.{Not, Begins, Accepts}
use Rattle.tcp_records.specs.declared.socket.Streams.{Streams}
use Rattle.tcp_records.specs.declared.socket.TcpRecord.{TcpRecord}
use Rattle.tcp_records.specs.Binding.{begin_bind_asks, poll_bind_asks, poll_binding, bind_begun, bind_progress}
use Rattle.record_common.specs.Binding.{bind_answer}
use Rattle.tcp_records.specs.Halves.{with_writer}
use Rattle.tcp_records.specs.InProgress.{is_connect, is_nothing}
use Rattle.tcp_records.specs.Listening.{begin_listen_asks, listen_bound, listen_once, listen_begun, poll_listen_asks, closed_listening, poll_listening, listen_polled, accept_record_asks, accept_listening, with_listening}
use Rattle.tcp_records.specs.Looks.{ready_socket, ready_socket_by, ready_idle, ready_listening}
use Rattle.tcp_records.specs.Sockets.{begin_connect_asks, connect_begun, poll_connect_asks, connect_polled, opened_receive, opened_send, idle, with_inner, with_progress, tell_local_asks, tell_remote_asks}
use Rattle.wasi_limits.specs.Alike.{BothGive, Same}
use Rattle.wasi_limits.proofs.Like.{LikeSocket, SameSocket, OtherPermit, With, Also}
use Rattle.wasi_limits.proofs.Together.{itself, after_both, both_give}

-- what a call on a socket answers and leaves
abbrev pub Call : Type 0 → Type 0
Call A = TcpRecord → Asks (A × TcpRecord)

-- it asks the same of sockets that are alike
abbrev pub Keeps : {A : Type 0} → ℕ → Call A → Type 0
Keeps c call = (r now : TcpRecord) → LikeSocket c r now → Same (With (LikeSocket c)) (call r) (call now)

module _ {c : ℕ} where
  pub same_with : {A : Type 0} (x : A × TcpRecord) → With (LikeSocket c) x x
  same_with (a, r) = Also a r r (SameSocket r)

  -- so what is to be shown is of two that differ in a permit
  pub by_permit : {A : Type 0} (call : Call A) → ((r : TcpRecord) (s : Streams) (half : TcpSendStream) (p q : ℕ) → r.maker ≡ c → Same (With (LikeSocket c)) (call (with_writer r s (writing.Ready half p))) (call (with_writer r s (writing.Ready half q)))) → Keeps c call
  by_permit call k _ _ (SameSocket r) = itself same_with (call r)
  by_permit call k _ _ (OtherPermit r s half p q m) = k r s half p q m

  -- what is left of two that differ in a permit, where all but their streams is changed
  pub permits : {A : Type 0} (a : A) (r : TcpRecord) (s : Streams) (half : TcpSendStream) (p q : ℕ) → r.maker ≡ c → Same (With (LikeSocket c)) (Give (a, with_writer r s (writing.Ready half p))) (Give (a, with_writer r s (writing.Ready half q)))
  permits a r s half p q m = BothGive _ _ (Also a _ _ (OtherPermit r s half p q m))

  -- == binds
  poll_bind_permits : (r : TcpRecord) (s : Streams) (half : TcpSendStream) (p q : ℕ) → r.maker ≡ c → (i : InProgress) → Same (With (LikeSocket c)) (poll_binding (with_writer r s (writing.Ready half p)) i) (poll_binding (with_writer r s (writing.Ready half q)) i)
  poll_bind_permits r s half p q m (Binding op) = after_both (poll_asks op) (λ ended. permits (bind_answer ended.0) (with_progress r (bind_progress op ended)) s half p q m)
  poll_bind_permits r s half p q m _ = permits _ r s half p q m

  pub poll_bind_keeps : Keeps c poll_bind_asks
  poll_bind_keeps = by_permit poll_bind_asks (λ r s half p q m. poll_bind_permits r s half p q m r.in_progress)

  bind_begun_permits : (r : TcpRecord) (s : Streams) (half : TcpSendStream) (p q : ℕ) → r.maker ≡ c → (b : Result Operation ErrorCode × Socket) → Same (With (LikeSocket c)) (bind_begun (with_writer r s (writing.Ready half p)) b) (bind_begun (with_writer r s (writing.Ready half q)) b)
  bind_begun_permits r s half p q m (Ok op, socket) = poll_bind_permits (record r { inner = socket; in_progress = Binding op }) s half p q m (Binding op)
  bind_begun_permits r s half p q m (Err e, socket) = permits _ (with_inner r socket) s half p q m

  pub begin_bind_keeps : (op : OpId) (a : IpSocketAddress) → Keeps c (λ r. begin_bind_asks op r a)
  begin_bind_keeps op a = by_permit (λ r. begin_bind_asks op r a) (λ r s half p q m. after_both (bind_asks op r.inner a) (bind_begun_permits r s half p q m))

  -- == connects
  connect_begun_permits : (r : TcpRecord) (s : Streams) (half : TcpSendStream) (p q : ℕ) → r.maker ≡ c → (b : Result (Unit {0}) ErrorCode × Socket) → With (LikeSocket c) (connect_begun (with_writer r s (writing.Ready half p)) b) (connect_begun (with_writer r s (writing.Ready half q)) b)
  connect_begun_permits r s half p q m (Ok done, socket) = Also _ _ _ (OtherPermit (record r { inner = socket; in_progress = Started Connect }) s half p q m)
  connect_begun_permits r s half p q m (Err e, socket) = Also _ _ _ (OtherPermit (with_inner r socket) s half p q m)

  pub begin_connect_keeps : (op : OpId) (a : IpSocketAddress) → Keeps c (λ r. begin_connect_asks op r a)
  begin_connect_keeps op a = by_permit (λ r. begin_connect_asks op r a) (λ r s half p q m. both_give _ _ (start_connect_asks op r.inner a) (connect_begun_permits r s half p q m))

  -- the streams of a connection are new
  opened_send_permits : (r : TcpRecord) (s : Streams) (half : TcpSendStream) (p q : ℕ) → r.maker ≡ c → (receive : TcpReceiveStream) (x : Result TcpSendStream ErrorCode × Socket) → With (LikeSocket c) (opened_send (with_writer r s (writing.Ready half p)) receive x) (opened_send (with_writer r s (writing.Ready half q)) receive x)
  opened_send_permits r s half p q m receive (Ok send, socket) = Also _ _ _ (SameSocket _)
  opened_send_permits r s half p q m receive (Err e, socket) = Also _ _ _ (OtherPermit (idle r socket) s half p q m)

  opened_receive_permits : (r : TcpRecord) (s : Streams) (half : TcpSendStream) (p q : ℕ) → r.maker ≡ c → (x : Result TcpReceiveStream ErrorCode × Socket) → With (LikeSocket c) (opened_receive (with_writer r s (writing.Ready half p)) x) (opened_receive (with_writer r s (writing.Ready half q)) x)
  opened_receive_permits r s half p q m (Ok receive, socket) = opened_send_permits r s half p q m receive (in_socket socket (take_send socket.state))
  opened_receive_permits r s half p q m (Err e, socket) = Also _ _ _ (OtherPermit (idle r socket) s half p q m)

  connect_polled_permits : (r : TcpRecord) (s : Streams) (half : TcpSendStream) (p q : ℕ) → r.maker ≡ c → (x : Result (Answer (Unit {0})) ErrorCode × Socket) → With (LikeSocket c) (connect_polled (with_writer r s (writing.Ready half p)) x) (connect_polled (with_writer r s (writing.Ready half q)) x)
  connect_polled_permits r s half p q m (Ok Pending, socket) = Also _ _ _ (OtherPermit (with_inner r socket) s half p q m)
  connect_polled_permits r s half p q m (Ok (Ready done), socket) = opened_receive_permits r s half p q m (in_socket socket (take_receive socket.state))
  connect_polled_permits r s half p q m (Err e, socket) = Also _ _ _ (OtherPermit (idle r socket) s half p q m)

  pub poll_connect_keeps : Keeps c poll_connect_asks
  poll_connect_keeps = by_permit poll_connect_asks (λ r s half p q m. both_give _ _ (finish_connect_asks r.inner) (connect_polled_permits r s half p q m))

  -- == addresses
  pub tell_local_keeps : (op : OpId) → Keeps c (tell_local_asks op)
  tell_local_keeps op = by_permit (tell_local_asks op) (λ r s half p q m. both_give _ _ (local_asks op r.inner) (λ done. Also _ _ _ (OtherPermit (with_inner r done.1) s half p q m)))

  pub tell_remote_keeps : (op : OpId) → Keeps c (tell_remote_asks op)
  tell_remote_keeps op = by_permit (tell_remote_asks op) (λ r s half p q m. both_give _ _ (remote_asks op r.inner) (λ done. Also _ _ _ (OtherPermit (with_inner r done.1) s half p q m)))

  -- == listens
  listen_polled_permits : (r : TcpRecord) (s : Streams) (half : TcpSendStream) (p q : ℕ) → r.maker ≡ c → (x : Result (Answer Listener) ErrorCode × (Operation × Socket)) → With (LikeSocket c) (listen_polled (with_writer r s (writing.Ready half p)) x) (listen_polled (with_writer r s (writing.Ready half q)) x)
  listen_polled_permits r s half p q m (Ok (Ready listener), (op, socket)) = Also _ _ _ (OtherPermit (record r { inner = socket; in_progress = Started Listen; listening = Accepts listener }) s half p q m)
  listen_polled_permits r s half p q m (Ok Pending, (op, socket)) = Also _ _ _ (OtherPermit (record r { inner = socket; listening = Begins op }) s half p q m)
  listen_polled_permits r s half p q m (Err e, (op, socket)) = Also _ _ _ (OtherPermit (record r { inner = socket; listening = Not }) s half p q m)

  poll_listening_permits : (r : TcpRecord) (s : Streams) (half : TcpSendStream) (p q : ℕ) → r.maker ≡ c → (l : Listening) → Same (With (LikeSocket c)) (poll_listening (with_writer r s (writing.Ready half p)) l) (poll_listening (with_writer r s (writing.Ready half q)) l)
  poll_listening_permits r s half p q m (Begins op) = both_give _ _ (listen_poll_asks op r.inner) (listen_polled_permits r s half p q m)
  poll_listening_permits r s half p q m _ = permits _ r s half p q m

  closed_listening_permits : (r : TcpRecord) (s : Streams) (half : TcpSendStream) (p q : ℕ) → r.maker ≡ c → (o : Option OpId) → Same (With (LikeSocket c)) (closed_listening (with_writer r s (writing.Ready half p)) o) (closed_listening (with_writer r s (writing.Ready half q)) o)
  closed_listening_permits r s half p q m None = poll_listening_permits r s half p q m r.listening
  closed_listening_permits r s half p q m (Some side) = permits _ r s half p q m

  pub poll_listen_keeps : Keeps c poll_listen_asks
  poll_listen_keeps = by_permit poll_listen_asks (λ r s half p q m. closed_listening_permits r s half p q m (side_of r.inner))

  listen_begun_permits : (r : TcpRecord) (s : Streams) (half : TcpSendStream) (p q : ℕ) → r.maker ≡ c → (x : Result Operation ErrorCode × Socket) → Same (With (LikeSocket c)) (listen_begun (with_writer r s (writing.Ready half p)) x) (listen_begun (with_writer r s (writing.Ready half q)) x)
  listen_begun_permits r s half p q m (Ok op, socket) = closed_listening_permits (record r { inner = socket; listening = Begins op }) s half p q m (side_of socket)
  listen_begun_permits r s half p q m (Err e, socket) = permits _ (with_inner r socket) s half p q m

  listen_once_permits : (op : OpId) (r : TcpRecord) (s : Streams) (half : TcpSendStream) (p q : ℕ) → r.maker ≡ c → (l : Listening) → Same (With (LikeSocket c)) (listen_once op (with_writer r s (writing.Ready half p)) l) (listen_once op (with_writer r s (writing.Ready half q)) l)
  listen_once_permits op r s half p q m Not = after_both (listen_asks op r.inner) (listen_begun_permits r s half p q m)
  listen_once_permits op r s half p q m _ = permits _ r s half p q m

  listen_bound_permits : (op : OpId) (r : TcpRecord) (s : Streams) (half : TcpSendStream) (p q : ℕ) → r.maker ≡ c → (b : Bool) → Same (With (LikeSocket c)) (listen_bound op (with_writer r s (writing.Ready half p)) b) (listen_bound op (with_writer r s (writing.Ready half q)) b)
  listen_bound_permits op r s half p q m true = listen_once_permits op r s half p q m r.listening
  listen_bound_permits op r s half p q m false = permits _ r s half p q m

  pub begin_listen_keeps : (op : OpId) → Keeps c (begin_listen_asks op)
  begin_listen_keeps op = by_permit (begin_listen_asks op) (λ r s half p q m. after_both (bound_asks op r.inner) (λ b. listen_bound_permits op (with_inner r b.1) s half p q m b.0))

  -- == accepts
  accept_listening_permits : (ids : Ids) (r : TcpRecord) (s : Streams) (half : TcpSendStream) (p q : ℕ) → r.maker ≡ c → (l : Listening) → Same (With (LikeSocket c)) (accept_listening ids (with_writer r s (writing.Ready half p)) l) (accept_listening ids (with_writer r s (writing.Ready half q)) l)
  accept_listening_permits ids r s half p q m (Accepts l) = both_give _ _ (listener_accept_asks l ids) (λ done. Also _ _ _ (OtherPermit (with_listening r (Accepts done.1)) s half p q m))
  accept_listening_permits ids r s half p q m _ = permits _ r s half p q m

  pub accept_keeps : (ids : Ids) → Keeps c (accept_record_asks ids)
  accept_keeps ids = by_permit (accept_record_asks ids) (λ r s half p q m. accept_listening_permits ids r s half p q m r.listening)

  -- == looks
  ready_listening_permits : (ids : Ids) (r : TcpRecord) (s : Streams) (half : TcpSendStream) (p q : ℕ) → r.maker ≡ c → (l : Listening) → Same (With (LikeSocket c)) (ready_listening ids (with_writer r s (writing.Ready half p)) l) (ready_listening ids (with_writer r s (writing.Ready half q)) l)
  ready_listening_permits ids r s half p q m (Accepts l) = both_give _ _ (listener_ready_asks l ids) (λ done. Also _ _ _ (OtherPermit (with_listening r (Accepts done.1)) s half p q m))
  ready_listening_permits ids r s half p q m _ = permits _ r s half p q m

  ready_idle_permits : (ids : Ids) (r : TcpRecord) (s : Streams) (half : TcpSendStream) (p q : ℕ) → r.maker ≡ c → (b : Bool) → Same (With (LikeSocket c)) (ready_idle ids (with_writer r s (writing.Ready half p)) b) (ready_idle ids (with_writer r s (writing.Ready half q)) b)
  ready_idle_permits ids r s half p q m true = ready_listening_permits ids r s half p q m r.listening
  ready_idle_permits ids r s half p q m false = permits _ r s half p q m

  ready_by_permits : (ids : Ids) (r : TcpRecord) (s : Streams) (half : TcpSendStream) (p q : ℕ) → r.maker ≡ c → (b : Bool) → Same (With (LikeSocket c)) (ready_socket_by ids (with_writer r s (writing.Ready half p)) b) (ready_socket_by ids (with_writer r s (writing.Ready half q)) b)
  ready_by_permits ids r s half p q m true = both_give _ _ (finish_connect_asks r.inner) (λ done. Also _ _ _ (OtherPermit (with_inner r done.1) s half p q m))
  ready_by_permits ids r s half p q m false = ready_idle_permits ids r s half p q m (is_nothing r.in_progress)

  pub ready_socket_keeps : (ids : Ids) → Keeps c (ready_socket ids)
  ready_socket_keeps ids = by_permit (ready_socket ids) (λ r s half p q m. ready_by_permits ids r s half p q m (is_connect r.in_progress))
