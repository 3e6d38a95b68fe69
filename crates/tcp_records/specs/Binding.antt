-- Sockets that are bound: what a bind asks and answers, and what the record is then.
use Rattle.std.specs.Prelude.{List, Result, Ok, Err}
use Rattle.wasi_addr.specs.declared.address.IpSocketAddress.{IpSocketAddress}
use Rattle.wasi_addr.specs.declared.code.ErrorCode.{ErrorCode}
use Rattle.wasi_addr.specs.declared.code.ErrorCode.TheVariants.{InvalidState}
use Rattle.wasi_world.specs.declared.ids.OpId.{OpId}
use Rattle.wasi_world.specs.declared.outcome.Answer.{Answer}
use Rattle.wasi_world.specs.declared.outcome.Answer.TheVariants.{Ready, Pending}
use Rattle.wasi_world.specs.declared.outcome.Refusal.{Refusal}
use Rattle.wasi_world.specs.declared.outcome.Refusal.TheVariants as refusal
use Rattle.wasi_world.specs.Asks.{Asks, Give, bind}
use Rattle.wasi_world.specs.Operation.{Operation, Item, End, Waits, Done, Refused, poll_asks}
use Rattle.wasi_tcp.specs.Shape.{Socket}
use Rattle.wasi_tcp.specs.Socket.{bind_asks}
use Rattle.tcp_records.specs.declared.tcp_binding.AsyncOperation.TheVariants.{Bind}
use Rattle.tcp_records.specs.declared.tcp_binding.InProgress.{InProgress}
use Rattle.tcp_records.specs.declared.tcp_binding.InProgress.TheVariants.{Nothing, Binding, Started}
use Rattle.tcp_records.specs.declared.socket.TcpRecord.{TcpRecord}
use Rattle.tcp_records.specs.Sockets.{with_inner, with_progress}
use Rattle.record_common.specs.Binding.{left_of, bind_answer}

-- a poll of the bind ended: done, it was started; pending, it is kept; refused, nothing is in progress
abbrev pub bind_progress : Operation → End × List Item → InProgress
bind_progress op (Waits, items) = Binding (left_of op items)
bind_progress op (Done given, items) = Started Bind
bind_progress op (Refused c given, items) = Nothing

abbrev pub bind_ended : Operation → TcpRecord → End × List Item → Result (Answer (Unit {0})) ErrorCode × TcpRecord
bind_ended op r ended = (bind_answer ended.0, with_progress r (bind_progress op ended))

-- the same of what the code answers: out of memory, it is kept
abbrev pub bind_settled : TcpRecord → Result (Answer (Unit {0})) Refusal → TcpRecord
bind_settled r (Ok (Ready done)) = with_progress r (Started Bind)
bind_settled r (Ok Pending) = r
bind_settled r (Err (refusal.Code c)) = with_progress r Nothing
bind_settled r (Err (refusal.Memory e)) = r

abbrev pub poll_binding : TcpRecord → InProgress → Asks (Result (Answer (Unit {0})) ErrorCode × TcpRecord)
poll_binding r (Binding op) = bind (poll_asks op) (λ ended. Give (bind_ended op r ended))
poll_binding r _ = Give (Err InvalidState, r)

-- polls the bind that was begun
abbrev pub poll_bind_asks : TcpRecord → Asks (Result (Answer (Unit {0})) ErrorCode × TcpRecord)
poll_bind_asks r = poll_binding r r.in_progress

abbrev pub bind_begun : TcpRecord → Result Operation ErrorCode × Socket → Asks (Result (Answer (Unit {0})) ErrorCode × TcpRecord)
bind_begun r (Ok op, socket) = poll_bind_asks (record r { inner = socket; in_progress = Binding op })
bind_begun r (Err c, socket) = Give (Err c, with_inner r socket)

-- begins a bind and polls it
abbrev pub begin_bind_asks : OpId → TcpRecord → IpSocketAddress → Asks (Result (Answer (Unit {0})) ErrorCode × TcpRecord)
begin_bind_asks op r a = bind (bind_asks op r.inner a) (bind_begun r)
