-- The calls on the record of a TCP socket ask for no bytes, but for a read.
use Rattle.wasi_causes.proofs.Words.{Accepting, Bool, End, Err, ErrorCode, HandleTable, InProgress, Job, Kind, List, Listening, Machine, None, Ok}
use Rattle.wasi_causes.proofs.Words.{OpId, Operation, Option, ReadState, Result, ShutdownType, Socket, SocketAddressFamily, Some, Stop, Streams}
use Rattle.wasi_causes.proofs.Words.{TcpRecord, TcpSendStream, TcpState, Waits, WasiSocketsCtx, Who, WriteState, [], begin_bind_asks}
use Rattle.wasi_causes.proofs.Words.{begin_connect_asks, begin_listen_asks, check_write_asks, collected, create_to, false, give_streams_up}
use Rattle.wasi_causes.proofs.Words.{give_up_asks, give_up_in, in_hand, is_full, is_over, job_in, length, listen_once, look_in, made_to, make_asks}
use Rattle.wasi_causes.proofs.Words.{nat_lt, poll_listening, reader_shutdown_asks, refuse_in, release_asks, shut_streams, side_of, side_up_asks}
use Rattle.wasi_causes.proofs.Words.{true, turn_asks, write_on_asks, write_state_asks, writer_shutdown_asks, writer_side, ℕ, ◌∷◌}
use Rattle.wasi_addr.specs.declared.address.IpSocketAddress.{IpSocketAddress}
use Rattle.wasi_addr.specs.declared.address.ShutdownType.TheVariants.{Both, Receive, Send}
use Rattle.wasi_world.specs.declared.ids.Ids.{Ids}
use Rattle.wasi_world.specs.Operation.{Done, Refused}
use Rattle.wasi_tcp.specs.Closing.{close_in}
use Rattle.wasi_tcp.specs.Connecting as connecting
use Rattle.wasi_tcp.specs.Connecting.{finish_connect_asks, start_connect_in}
use Rattle.wasi_tcp.specs.Job as job
use Rattle.wasi_tcp.specs.Listener as listener
use Rattle.wasi_tcp.specs.Socket.{ask_bound, bound_asks}
use Rattle.wasi_tcp.specs.Writer.{write_half_asks}
use Rattle.wasi_tcp.specs.declared.listener.Accepting.TheVariants as accepting
use Rattle.wasi_tcp.specs.declared.reader.ReadState.TheVariants as reading
use Rattle.wasi_tcp.specs.declared.socket.TcpState.TheVariants as state
use Rattle.wasi_tcp.specs.declared.writer.WriteState.TheVariants as writing
use Rattle.tcp_records.specs.Binding.{bind_begun, poll_binding}
use Rattle.tcp_records.specs.Listening.{accept_listening, closed_listening, listen_begun, listen_bound}
use Rattle.tcp_records.specs.declared.tcp_listening.Listening.TheVariants as listening
use Rattle.tcp_records.specs.declared.tcp_binding.InProgress.TheVariants as doing
use Rattle.tcp_records.specs.Shutdowns.{shut_record}
use Rattle.tcp_records.specs.Sockets.{poll_connect_asks}
use Rattle.wasi_causes.proofs.reads.Unread.{Unread, and_gives, and_then, asks_one, by_if, gives, polled}

-- == a handle, and a socket
pub marks : (t : HandleTable) (op : OpId) (kind : Kind) (parent : Option ℕ) (sock : Option OpId) → Unread (make_asks t op kind parent sock)
marks t op kind parent sock = by_if (is_full t) _ _ (gives _) (and_gives _ (asks_one tt (λ told. gives tt)))

pub creates : {T : Type 0} (tells : Result ℕ Stop → T) (fails : ErrorCode → T) (kind : ℕ → Kind) (m : Machine) (own : OpId) (ctx : WasiSocketsCtx) (family : SocketAddressFamily) → Unread (create_to tells fails kind m own ctx family)
creates tells fails kind m own ctx family = and_then (by_if ctx.tcp _ _ (and_gives _ (asks_one tt (λ told. gives _))) (gives _)) made
  where
    made : (r : Result Socket ErrorCode) → Unread (made_to tells fails kind m own r)
    made (Ok socket) = and_gives _ (marks m.table own (kind (length m.store.records)) None (side_of socket))
    made (Err c) = gives _

-- == whether it is bound
asks_bound : (op : OpId) (socket : Socket) (s : TcpState) → Unread (ask_bound op socket s)
asks_bound op socket (state.Default side) = and_gives _ (asks_one tt (λ told. gives _))
asks_bound op socket _ = gives _

bound : (op : OpId) (socket : Socket) → Unread (bound_asks op socket)
bound op socket = by_if socket.bound _ _ (gives _) (asks_bound op socket socket.state)

-- == a bind
pub binds_on : (r : TcpRecord) (p : InProgress) → Unread (poll_binding r p)
binds_on r (doing.Binding op) = and_gives _ (polled op)
binds_on r _ = gives _

bind_begins : (r : TcpRecord) (done : Result Operation ErrorCode × Socket) → Unread (bind_begun r done)
bind_begins r (Ok op, socket) = and_gives _ (polled op)
bind_begins r (Err c, socket) = gives _

pub begins_bind : (op : OpId) (r : TcpRecord) (a : IpSocketAddress) → Unread (begin_bind_asks op r a)
begins_bind op r a = and_then (and_gives _ (bound op r.inner)) (bind_begins r)

-- == a connect
starts_connect : (op : OpId) (socket : Socket) (a : IpSocketAddress) (s : TcpState) → Unread (start_connect_in op socket a s)
starts_connect op socket a (state.Default side) = and_gives _ (bound op socket)
starts_connect op socket a _ = gives _

pub begins_connect : (op : OpId) (r : TcpRecord) (a : IpSocketAddress) → Unread (begin_connect_asks op r a)
begins_connect op r a = and_gives _ (starts_connect op r.inner a r.inner.state)

finishes : (s : TcpState) → Unread (connecting.finish_in s)
finishes (state.Connecting op) = and_gives _ (polled op)
finishes _ = gives _

pub finishes_connect : (socket : Socket) → Unread (finish_connect_asks socket)
finishes_connect socket = and_gives _ (finishes socket.state)

pub polls_connect : (r : TcpRecord) → Unread (poll_connect_asks r)
polls_connect r = and_gives _ (finishes_connect r.inner)

-- == a listen
listens_on : (r : TcpRecord) (l : Listening) → Unread (poll_listening r l)
listens_on r (listening.Begins op) = and_gives _ (by_if (is_over op) _ _ (gives _) (and_gives _ (polled op)))
listens_on r _ = gives _

pub listens_closed : (r : TcpRecord) (side : Option OpId) → Unread (closed_listening r side)
listens_closed r None = listens_on r r.listening
listens_closed r (Some side) = gives _

listen_begins : (r : TcpRecord) (done : Result Operation ErrorCode × Socket) → Unread (listen_begun r done)
listen_begins r (Ok op, socket) = listens_closed (record r { inner = socket; listening = listening.Begins op }) (side_of socket)
listen_begins r (Err c, socket) = gives _

listens_once : (op : OpId) (r : TcpRecord) (l : Listening) → Unread (listen_once op r l)
listens_once op r listening.Not = and_then (and_gives _ (bound op r.inner)) (listen_begins r)
listens_once op r _ = gives _

listens_bound : (op : OpId) (r : TcpRecord) (b : Bool) → Unread (listen_bound op r b)
listens_bound op r true = listens_once op r r.listening
listens_bound op r false = gives _

pub begins_listen : (op : OpId) (r : TcpRecord) → Unread (begin_listen_asks op r)
begins_listen op r = and_then (bound op r.inner) (λ b. listens_bound op _ b.0)

-- == an accept
accepts : {A : Type 0} (ends : Accepting → A) (a : Accepting) → Unread (listener.accept_asks ends a)
accepts ends (accepting.Asking op) = and_gives _ (polled op)
accepts ends accepting.Idle = gives _
accepts ends (accepting.Arrived new peer) = gives _
accepts ends (accepting.Failed c) = gives _

pub accepts_on : (ids : Ids) (r : TcpRecord) (l : Listening) → Unread (accept_listening ids r l)
accepts_on ids r (listening.Accepts l) = and_gives _ (accepts (listener.accept_end l) (listener.begun l.side l.maker ids l.accept))
accepts_on ids r _ = gives _

-- == the halves
shuts_reader : (op : OpId) (s : ReadState) → Unread (reader_shutdown_asks op s)
shuts_reader op (reading.Open half) = and_gives _ (asks_one tt (λ told. gives tt))
shuts_reader op reading.Closed = gives _

finishes_job : (op : OpId) (j : Job) (end : End) → Unread (job.finish_in op j end)
finishes_job op j Waits = gives _
finishes_job op j (Done given) = and_gives _ (asks_one tt (λ told. gives tt))
finishes_job op j (Refused c given) = gives _

shuts_writer : (op : OpId) (w : WriteState) → Unread (writer_shutdown_asks op w)
shuts_writer op (writing.Ready half permit) = and_gives _ (asks_one tt (λ told. gives tt))
shuts_writer op (writing.Writing j) = and_gives _ (finishes_job op j j.end)
shuts_writer op (writing.Closing j) = gives _
shuts_writer op (writing.Closed e) = gives _

pub shuts : (op : OpId) (how : ShutdownType) (s : Streams) → Unread (shut_streams op how s)
shuts op Receive s = and_gives _ (shuts_reader op s.reader)
shuts op Send s = and_gives _ (shuts_writer op s.writer)
shuts op Both s = and_then (and_gives _ (shuts_reader op s.reader)) (λ done. and_gives _ (shuts_writer op done.1.writer))

pub shuts_record : (op : OpId) (how : ShutdownType) (r : TcpRecord) (o : Option Streams) → Unread (shut_record op how r o)
shuts_record op how r None = gives _
shuts_record op how r (Some s) = and_gives _ (shuts op how s)

-- == a writer
pub looks : (op : OpId) (w : WriteState) → Unread (look_in op w)
looks op (writing.Ready half permit) = and_gives _ (asks_one tt (λ told. gives _))
looks op (writing.Writing j) = gives _
looks op (writing.Closing j) = gives _
looks op (writing.Closed e) = gives _

pub checks : (most : ℕ) (op : OpId) (w : WriteState) → Unread (check_write_asks most op w)
checks most op w = and_gives _ (looks op (collected w))

works : (j : Job) (end : End) → Unread (job_in j end)
works j Waits = and_gives _ (polled j.write)
works j (Done given) = gives _
works j (Refused c given) = gives _

pub turns : (w : WriteState) → Unread (turn_asks w)
turns (writing.Ready half permit) = gives _
turns (writing.Writing j) = and_gives _ (works j j.end)
turns (writing.Closing j) = and_gives _ (works j j.end)
turns (writing.Closed e) = gives _

writes_on : (op : OpId) (w : WriteState) → Unread (write_on_asks op w)
writes_on op w = and_then (turns w) (λ turned. and_gives _ (looks op (collected turned.1)))

writes_half : (op : OpId) (half : TcpSendStream) (permit : ℕ) (bytes : List ℕ) → Unread (write_half_asks op half permit bytes)
writes_half op half permit [] = gives _
writes_half op half permit (b ∷ bytes) = by_if (nat_lt permit (length (b ∷ bytes))) _ _ (gives _) (writes_on op (writing.Writing (job.new_job op half.side (b ∷ bytes))))

pub writes : (op : OpId) (w : WriteState) (bytes : List ℕ) → Unread (write_state_asks op w bytes)
writes op (writing.Ready half permit) bytes = writes_half op half permit bytes
writes op (writing.Writing j) bytes = gives _
writes op (writing.Closing j) bytes = gives _
writes op (writing.Closed e) bytes = gives _

-- == what is released
refuses : (who : Who) (o : Option IpSocketAddress) → Unread (refuse_in who o)
refuses who None = gives _
refuses who (Some peer) = asks_one tt (λ told. gives tt)

accept_goes : (a : Accepting) → Unread (give_up_in a)
accept_goes accepting.Idle = gives _
accept_goes (accepting.Asking op) = refuses op.who (in_hand op.left)
accept_goes (accepting.Arrived new peer) = asks_one tt (λ told. gives tt)
accept_goes (accepting.Failed c) = gives _

pub gives_up : (l : Listening) → Unread (give_up_asks l)
gives_up listening.Not = gives _
gives_up (listening.Begins op) = by_if (is_over op) _ _ (gives _) (asks_one tt (λ told. gives tt))
gives_up (listening.Accepts l) = accept_goes l.accept
gives_up (listening.Unclosed side) = asks_one tt (λ told. gives tt)

side_goes : (op : OpId) (o : Option OpId) → Unread (side_up_asks op o)
side_goes op None = gives _
side_goes op (Some side) = asks_one tt (λ told. gives tt)

streams_go : (op : OpId) (o : Option Streams) → Unread (give_streams_up op o)
streams_go op None = gives _
streams_go op (Some s) = and_then (shuts_reader op s.reader) (λ done. side_goes op (writer_side s.writer))

closes : (op : OpId) (socket : Socket) (o : Option OpId) → Unread (close_in op socket o)
closes op socket None = gives _
closes op socket (Some side) = and_gives _ (asks_one tt (λ told. gives tt))

pub releases : (op : OpId) (r : TcpRecord) → Unread (release_asks op r)
releases op r = and_then (gives_up r.listening) (λ done. and_then (streams_go op r.streams) (λ gone. and_gives _ (closes op r.inner (side_of r.inner))))
