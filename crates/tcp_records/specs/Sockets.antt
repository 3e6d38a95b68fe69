-- A TCP socket's record: its connect and its addresses.
use Rattle.std.specs.Prelude.{false, Some, None, Result, Ok, Err}
use Rattle.std.specs.declared.alloc.AllocError.{AllocError}
use Rattle.wasi_addr.specs.declared.address.IpSocketAddress.{IpSocketAddress}
use Rattle.wasi_addr.specs.declared.code.ErrorCode.{ErrorCode}
use Rattle.wasi_addr.specs.declared.p2.ErrorCode.TheVariants.{WouldBlock}
use Rattle.wasi_world.specs.declared.ids.OpId.{OpId}
use Rattle.wasi_world.specs.declared.outcome.Answer.{Answer}
use Rattle.wasi_world.specs.declared.outcome.Answer.TheVariants.{Ready, Pending}
use Rattle.wasi_world.specs.declared.outcome.Refusal.{Refusal}
use Rattle.wasi_world.specs.declared.outcome.Refusal.TheVariants as refusal
use Rattle.wasi_world.specs.Asks.{Asks, Give, bind}
use Rattle.wasi_tcp.specs.Shape.{Socket}
use Rattle.wasi_tcp.specs.Socket.{side_of}
use Rattle.wasi_tcp.specs.declared.halves.TcpReceiveStream.{TcpReceiveStream}
use Rattle.wasi_tcp.specs.declared.halves.TcpSendStream.{TcpSendStream}
use Rattle.wasi_tcp.specs.declared.reader.ReadState.TheVariants.{Open}
use Rattle.wasi_tcp.specs.declared.writer.WriteState.TheVariants as writing
use Rattle.wasi_tcp.specs.Connecting.{start_connect_asks, finish_connect_asks, in_socket}
use Rattle.wasi_tcp.specs.Halves.{take_receive, take_send}
use Rattle.wasi_tcp.specs.Addresses.{local_asks, remote_asks}
use Rattle.tcp_records.specs.declared.tcp_binding.AsyncOperation.TheVariants.{Connect}
use Rattle.tcp_records.specs.declared.tcp_binding.InProgress.{InProgress}
use Rattle.tcp_records.specs.declared.tcp_binding.InProgress.TheVariants as doing
use Rattle.tcp_records.specs.declared.tcp_listening.Listening.TheVariants as listening
use Rattle.tcp_records.specs.declared.socket.Streams.{Streams}
use Rattle.tcp_records.specs.declared.socket.TcpRecord.{TcpRecord}
use Rattle.record_common.specs.Stops.{Stop, Code, code_stop}

-- its handles are marked with the network socket that it is made with
abbrev pub new_record : Socket → TcpRecord
new_record socket = record { inner = socket; side = side_of socket; in_progress = doing.Nothing; listening = listening.Not; streams = None; dropped = false; maker = socket.maker }

abbrev pub with_inner : TcpRecord → Socket → TcpRecord
with_inner r socket = record r { inner = socket }

abbrev pub with_progress : TcpRecord → InProgress → TcpRecord
with_progress r doing = record r { in_progress = doing }

-- the start of a connect is refused, or it is in progress
abbrev pub connect_begun : TcpRecord → Result (Unit {0}) ErrorCode × Socket → Result (Unit {0}) ErrorCode × TcpRecord
connect_begun r (Err c, socket) = (Err c, with_inner r socket)
connect_begun r (Ok done, socket) = (Ok done, record r { inner = socket; in_progress = doing.Started Connect })

abbrev pub begin_connect_asks : OpId → TcpRecord → IpSocketAddress → Asks (Result (Unit {0}) ErrorCode × TcpRecord)
begin_connect_asks op r a = bind (start_connect_asks op r.inner a) (λ done. Give (connect_begun r done))

-- the record with no operation in progress
abbrev pub idle : TcpRecord → Socket → TcpRecord
idle r socket = record r { inner = socket; in_progress = doing.Nothing }

-- the two streams of a connection: nothing is read yet, and nothing permitted
abbrev pub new_streams : TcpReceiveStream → TcpSendStream → Streams
new_streams receive send = record { reader = Open receive; writer = writing.Ready send 0 }

abbrev pub opened_send : TcpRecord → TcpReceiveStream → Result TcpSendStream ErrorCode × Socket → Result (Unit {0}) Stop × TcpRecord
opened_send r receive (Ok send, socket) = (Ok tt, record (idle r socket) { streams = Some (new_streams receive send) })
opened_send r receive (Err c, socket) = (Err (code_stop c), idle r socket)

abbrev pub opened_receive : TcpRecord → Result TcpReceiveStream ErrorCode × Socket → Result (Unit {0}) Stop × TcpRecord
opened_receive r (Ok receive, socket) = opened_send r receive (in_socket socket (take_send socket.state))
opened_receive r (Err c, socket) = (Err (code_stop c), idle r socket)

-- the connect is over, and the two halves are taken
abbrev pub opened : TcpRecord → Socket → Result (Unit {0}) Stop × TcpRecord
opened r socket = opened_receive r (in_socket socket (take_receive socket.state))

-- a connect that is pending stays in progress; one that ended, either way, is in progress no more
abbrev pub connect_polled : TcpRecord → Result (Answer (Unit {0})) ErrorCode × Socket → Result (Unit {0}) Stop × TcpRecord
connect_polled r (Ok Pending, socket) = (Err (Code WouldBlock), with_inner r socket)
connect_polled r (Ok (Ready done), socket) = opened r socket
connect_polled r (Err c, socket) = (Err (code_stop c), idle r socket)

-- the same of what the code answers: out of memory, it stays in progress
abbrev pub connect_settled : TcpRecord → Result (Answer (Unit {0})) Refusal → TcpRecord
connect_settled r (Ok Pending) = r
connect_settled r (Ok (Ready done)) = (opened r r.inner).1
connect_settled r (Err (refusal.Code c)) = idle r r.inner
connect_settled r (Err (refusal.Memory e)) = r

abbrev pub connect_told : TcpRecord → Result (Answer (Unit {0})) Refusal → Result (Result (Unit {0}) Stop) AllocError
connect_told r (Ok Pending) = Ok (Err (Code WouldBlock))
connect_told r (Ok (Ready done)) = Ok (opened r r.inner).0
connect_told r (Err (refusal.Code c)) = Ok (Err (code_stop c))
connect_told r (Err (refusal.Memory e)) = Err e

abbrev pub poll_connect_asks : TcpRecord → Asks (Result (Unit {0}) Stop × TcpRecord)
poll_connect_asks r = bind (finish_connect_asks r.inner) (λ done. Give (connect_polled r done))

-- == what a socket says of itself
-- what a call on the socket answered, and its record afterwards
abbrev pub inner_answered : {T : Type 0} → TcpRecord → Result T ErrorCode × Socket → Result T ErrorCode × TcpRecord
inner_answered r done = (done.0, with_inner r done.1)

abbrev pub tell_local_asks : OpId → TcpRecord → Asks (Result IpSocketAddress ErrorCode × TcpRecord)
tell_local_asks op r = bind (local_asks op r.inner) (λ done. Give (inner_answered r done))

abbrev pub tell_remote_asks : OpId → TcpRecord → Asks (Result IpSocketAddress ErrorCode × TcpRecord)
tell_remote_asks op r = bind (remote_asks op r.inner) (λ done. Give (inner_answered r done))
