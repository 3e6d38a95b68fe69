-- A UDP socket of the 0.2 interface as its record has it: how it is made, what it is in the middle of, and how it ends.
use Rattle.std.specs.Prelude.{ℕ, Bool, true, false, List, None, Result, Ok, Err, Option, Some}
use Rattle.wasi_addr.specs.declared.address.IpSocketAddress.{IpSocketAddress}
use Rattle.wasi_addr.specs.declared.code.ErrorCode.{ErrorCode}
use Rattle.wasi_addr.specs.declared.code.ErrorCode.TheVariants.{InvalidState}
use Rattle.wasi_world.specs.declared.ids.OpId.{OpId}
use Rattle.wasi_world.specs.declared.outcome.Answer.{Answer}
use Rattle.wasi_world.specs.declared.outcome.Answer.TheVariants.{Ready, Pending}
use Rattle.wasi_world.specs.declared.outcome.Refusal.{Refusal}
use Rattle.wasi_world.specs.declared.outcome.Refusal.TheVariants as refusal
use Rattle.wasi_world.specs.Asks.{Asks, Give, bind}
use Rattle.wasi_world.specs.Operation.{Operation, Item, End, Waits, Done, Refused, poll_asks}
use Rattle.wasi_world.specs.Typed.{ask_close}
use Rattle.wasi_udp.specs.Shape.{Socket}
use Rattle.wasi_udp.specs.Create.{Create, with_left, made_by}
use Rattle.wasi_udp.specs.Bind.{bind_asks}
use Rattle.wasi_udp.specs.Socket.{local_asks}
use Rattle.udp_records.specs.declared.udp.OpenUdp.{OpenUdp}
use Rattle.udp_records.specs.declared.udp.UdpRecord.{UdpRecord}
use Rattle.udp_records.specs.declared.udp.UdpRecord.TheVariants.{Creating, Open, Closed}
use Rattle.udp_records.specs.declared.udp.UdpInProgress.{UdpInProgress}
use Rattle.udp_records.specs.declared.udp.UdpInProgress.TheVariants.{Nothing, Binding, Bound}
use Rattle.record_common.specs.Binding.{left_of, bind_answer}

-- == the record
-- the network socket that it was made with, also once that is closed: its handles are marked with it
abbrev pub udp_side : UdpRecord → OpId
udp_side (Creating create) = create.operation.who.side
udp_side (Open o) = o.inner.side
udp_side (Closed side) = side

-- what it counts for by the network socket that it holds, where each counts for so much
abbrev pub udp_holds : UdpRecord → (OpId → ℕ) → ℕ
udp_holds (Creating create) w = w create.operation.who.side
udp_holds (Open o) w = w o.inner.side
udp_holds (Closed side) w = 0

-- the UDP socket that is there: one that is made and not closed
abbrev pub open_of : Option UdpRecord → Option OpenUdp
open_of (Some (Open o)) = Some o
open_of _ = None

abbrev pub with_udp_inner : OpenUdp → Socket → OpenUdp
with_udp_inner o socket = record o { inner = socket }

abbrev pub with_udp_progress : OpenUdp → UdpInProgress → OpenUdp
with_udp_progress o doing = record o { in_progress = doing }

-- it is made, and in the middle of nothing; it has no streams yet
abbrev pub opened_udp : Socket → UdpRecord
opened_udp socket = Open (record { inner = socket; in_progress = Nothing; connecting = None; incoming = None; outgoing = None; dropped = false })

-- its handle goes, and what else holds it is left
abbrev pub without_udp_socket : OpenUdp → OpenUdp
without_udp_socket o = record o { dropped = true }

-- == a create
-- a poll of the create ended: pending, it is kept; done, the socket is there; refused, its network socket was closed
abbrev pub udp_create_left : Create → End × List Item → UdpRecord
udp_create_left create (Waits, items) = Creating (with_left create items)
udp_create_left create (Done given, items) = opened_udp (made_by create)
udp_create_left create (Refused c given, items) = Closed create.operation.who.side

abbrev pub udp_create_ended : Create → End × List Item → Result (Answer (Unit {0})) ErrorCode × UdpRecord
udp_create_ended create ended = (bind_answer ended.0, udp_create_left create ended)

-- polls the create that was begun
abbrev pub poll_create_asks : UdpRecord → Asks (Result (Answer (Unit {0})) ErrorCode × UdpRecord)
poll_create_asks (Creating create) = bind (poll_asks create.operation) (λ ended. Give (udp_create_ended create ended))
poll_create_asks u = Give (Err InvalidState, u)

-- the same of what the code answers: out of memory, it is kept
abbrev pub udp_create_settled : Create → Result (Answer Socket) Refusal → UdpRecord
udp_create_settled create (Ok (Ready socket)) = opened_udp socket
udp_create_settled create (Ok Pending) = Creating create
udp_create_settled create (Err (refusal.Code c)) = Closed create.operation.who.side
udp_create_settled create (Err (refusal.Memory e)) = Creating create

-- and what it answers
abbrev pub udp_create_done : Result (Answer Socket) Refusal → Result (Answer (Unit {0})) Refusal
udp_create_done (Ok (Ready socket)) = Ok (Ready tt)
udp_create_done (Ok Pending) = Ok Pending
udp_create_done (Err why) = Err why

-- == what a socket is in the middle of
-- with an operation in progress a start is refused
abbrev pub is_udp_idle : UdpInProgress → Bool
is_udp_idle Nothing = true
is_udp_idle _ = false

-- only a bind that was started is finished
abbrev pub is_udp_bound : UdpInProgress → Bool
is_udp_bound Bound = true
is_udp_bound _ = false

-- == a bind
-- a poll of the bind ended: done, it was started; pending, it is kept; refused, nothing is in progress
abbrev pub udp_bind_progress : Operation → End × List Item → UdpInProgress
udp_bind_progress op (Waits, items) = Binding (left_of op items)
udp_bind_progress op (Done given, items) = Bound
udp_bind_progress op (Refused c given, items) = Nothing

abbrev pub udp_bind_ended : Operation → OpenUdp → End × List Item → Result (Answer (Unit {0})) ErrorCode × OpenUdp
udp_bind_ended op o ended = (bind_answer ended.0, with_udp_progress o (udp_bind_progress op ended))

-- the same of what the code answers: out of memory, it is kept
abbrev pub udp_bind_settled : OpenUdp → Result (Answer (Unit {0})) Refusal → OpenUdp
udp_bind_settled o (Ok (Ready done)) = with_udp_progress o Bound
udp_bind_settled o (Ok Pending) = o
udp_bind_settled o (Err (refusal.Code c)) = with_udp_progress o Nothing
udp_bind_settled o (Err (refusal.Memory e)) = o

abbrev pub poll_udp_binding : OpenUdp → UdpInProgress → Asks (Result (Answer (Unit {0})) ErrorCode × OpenUdp)
poll_udp_binding o (Binding op) = bind (poll_asks op) (λ ended. Give (udp_bind_ended op o ended))
poll_udp_binding o _ = Give (Err InvalidState, o)

-- polls the bind that was begun
abbrev pub poll_udp_bind_asks : OpenUdp → Asks (Result (Answer (Unit {0})) ErrorCode × OpenUdp)
poll_udp_bind_asks o = poll_udp_binding o o.in_progress

abbrev pub udp_bind_begun : OpenUdp → Result Operation ErrorCode × Socket → Asks (Result (Answer (Unit {0})) ErrorCode × OpenUdp)
udp_bind_begun o (Ok op, socket) = poll_udp_bind_asks (record o { inner = socket; in_progress = Binding op })
udp_bind_begun o (Err c, socket) = Give (Err c, with_udp_inner o socket)

-- begins a bind and polls it
abbrev pub begin_udp_bind_asks : OpId → OpenUdp → IpSocketAddress → Asks (Result (Answer (Unit {0})) ErrorCode × OpenUdp)
begin_udp_bind_asks op o a = bind (bind_asks op o.inner a) (udp_bind_begun o)

-- == the address
abbrev pub udp_inner_answered : {T : Type 0} → OpenUdp → Result T ErrorCode × Socket → Result T ErrorCode × OpenUdp
udp_inner_answered o done = (done.0, with_udp_inner o done.1)

abbrev pub udp_local_asks : OpId → OpenUdp → Asks (Result IpSocketAddress ErrorCode × OpenUdp)
udp_local_asks op o = bind (local_asks op o.inner) (λ done. Give (udp_inner_answered o done))

-- == the end
-- its network socket is closed, where it is there
abbrev pub close_udp_asks : OpId → UdpRecord → Asks (Unit {0} × UdpRecord)
close_udp_asks op (Open o) = bind (ask_close op o.inner.side) (λ done. Give (tt, Closed o.inner.side))
close_udp_asks op u = Give (tt, u)
