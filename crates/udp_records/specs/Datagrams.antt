-- The datagram streams of a UDP socket: how they are made, and how datagrams are sent.
use Rattle.std.specs.Prelude.{ℕ, zero, suc, ◌+◌, Bool, true, false, ◌||◌, nat_lt, if◌then◌else◌, is_some, List, [], ◌∷◌, length, Option, Some, None, Result, Ok, Err}
use Rattle.std.specs.declared.alloc.AllocError.{AllocError}
use Rattle.wasi_addr.specs.declared.address.IpSocketAddress.{IpSocketAddress}
use Rattle.wasi_addr.specs.declared.code.ErrorCode.{ErrorCode}
use Rattle.wasi_addr.specs.declared.code.ErrorCode.TheVariants.{InvalidState}
use Rattle.wasi_world.specs.declared.datagram.OutgoingDatagram.{OutgoingDatagram}
use Rattle.wasi_world.specs.declared.ids.OpId.{OpId}
use Rattle.wasi_world.specs.declared.ids.Ids.{Ids}
use Rattle.wasi_world.specs.declared.outcome.Answer.{Answer}
use Rattle.wasi_world.specs.declared.outcome.Answer.TheVariants.{Ready, Pending}
use Rattle.wasi_world.specs.declared.outcome.Refusal.{Refusal}
use Rattle.wasi_world.specs.declared.outcome.Refusal.TheVariants as refusal
use Rattle.wasi_world.specs.declared.outcome.TrapKind.TheVariants.{NoSuchHandle, NotPermitted}
use Rattle.wasi_world.specs.Asks.{Asks, Give, bind}
use Rattle.wasi_world.specs.Operation.{Operation, Item, End, Waits, Done, Refused, poll_asks}
use Rattle.wasi_udp.specs.Connect.{connect_asks, with_given}
use Rattle.wasi_udp.specs.Send.{send_asks, at_remote}
use Rattle.wasi_udp.specs.Shape.{Socket}
use Rattle.wasi_udp.specs.Socket.{bound_asks, disconnect_asks, is_connected}
use Rattle.udp_records.specs.declared.datagrams.Outgoing.{Outgoing}
use Rattle.udp_records.specs.declared.datagrams.Receiving.TheVariants as receiving
use Rattle.udp_records.specs.declared.datagrams.Sending.{Sending}
use Rattle.udp_records.specs.declared.datagrams.Sending.TheVariants.{Nothing, InProgress, Failed}
use Rattle.udp_records.specs.declared.udp.OpenUdp.{OpenUdp}
use Rattle.record_common.specs.Binding.{left_of, bind_answer}
use Rattle.record_common.specs.Stops.{Stop, Trap, code_stop}
use Rattle.record_common.specs.Names.{next_name, names_after}
use Rattle.udp_records.specs.Udp.{with_udp_inner}

-- == the streams
abbrev pub has_streams : OpenUdp → Bool
has_streams o = is_some o.incoming || is_some o.outgoing

-- a stream that nothing was sent on, and nothing is permitted
abbrev pub new_outgoing : Outgoing
new_outgoing = record { permit = 0; sending = Nothing }

-- both are made: the incoming one keeps the remote address of now, and receives nothing yet
abbrev pub with_streams : OpenUdp → OpenUdp
with_streams o = record o { incoming = Some (record { remote = o.inner.remote; receiving = receiving.Nothing }); outgoing = Some new_outgoing }

-- == a connect
-- a poll of the connect ended: pending, it is kept; else it is over, and the remote address is what it gave; done, the streams are
-- there
abbrev pub udp_connect_left : Operation → OpenUdp → End × List Item → OpenUdp
udp_connect_left op o (Waits, items) = record o { connecting = Some (left_of op items) }
udp_connect_left op o (Done given, items) = with_streams (record o { inner = with_given o.inner given; connecting = None })
udp_connect_left op o (Refused c given, items) = record o { inner = with_given o.inner given; connecting = None }

abbrev pub udp_connect_ended : Operation → OpenUdp → End × List Item → Result (Answer (Unit {0})) ErrorCode × OpenUdp
udp_connect_ended op o ended = (bind_answer ended.0, udp_connect_left op o ended)

-- the same of what the code answers: out of memory, it is kept
abbrev pub udp_connect_settled : Operation → OpenUdp → Result (Answer (Unit {0})) Refusal → OpenUdp
udp_connect_settled op o (Ok (Ready done)) = with_streams o
udp_connect_settled op o (Ok Pending) = record o { connecting = Some op }
udp_connect_settled op o (Err (refusal.Code c)) = o
udp_connect_settled op o (Err (refusal.Memory e)) = record o { connecting = Some op }

abbrev pub poll_udp_connecting : OpenUdp → Option Operation → Asks (Result (Answer (Unit {0})) ErrorCode × OpenUdp)
poll_udp_connecting o None = Give (Err InvalidState, o)
poll_udp_connecting o (Some op) = bind (poll_asks op) (λ ended. Give (udp_connect_ended op o ended))

-- polls the connect that was begun
abbrev pub poll_udp_connect_asks : OpenUdp → Asks (Result (Answer (Unit {0})) ErrorCode × OpenUdp)
poll_udp_connect_asks o = poll_udp_connecting o o.connecting

abbrev pub udp_connect_begun : OpenUdp → Result Operation ErrorCode × Socket → Asks (Result (Answer (Unit {0})) ErrorCode × OpenUdp)
udp_connect_begun o (Ok op, socket) = poll_udp_connect_asks (record o { inner = socket; connecting = Some op })
udp_connect_begun o (Err c, socket) = Give (Err c, with_udp_inner o socket)

-- == a connect of 0.3, which makes no streams, and may begin on a socket that isn't bound
abbrev pub udp_reconnect_left : Operation → OpenUdp → End × List Item → OpenUdp
udp_reconnect_left op o (Waits, items) = record o { connecting = Some (left_of op items) }
udp_reconnect_left op o (Done given, items) = record o { inner = with_given o.inner given; connecting = None }
udp_reconnect_left op o (Refused c given, items) = record o { inner = with_given o.inner given; connecting = None }

abbrev pub udp_reconnect_ended : Operation → OpenUdp → End × List Item → Result (Answer (Unit {0})) ErrorCode × OpenUdp
udp_reconnect_ended op o ended = (bind_answer ended.0, udp_reconnect_left op o ended)

-- the same of what the code answers: out of memory, it is kept
abbrev pub udp_reconnect_settled : Operation → OpenUdp → Result (Answer (Unit {0})) Refusal → OpenUdp
udp_reconnect_settled op o (Ok (Ready done)) = o
udp_reconnect_settled op o (Ok Pending) = record o { connecting = Some op }
udp_reconnect_settled op o (Err (refusal.Code c)) = o
udp_reconnect_settled op o (Err (refusal.Memory e)) = record o { connecting = Some op }

abbrev pub udp_reconnecting : OpenUdp → Option Operation → Asks (Result (Answer (Unit {0})) ErrorCode × OpenUdp)
udp_reconnecting o None = Give (Err InvalidState, o)
udp_reconnecting o (Some op) = bind (poll_asks op) (λ ended. Give (udp_reconnect_ended op o ended))

-- polls the connect that was begun
abbrev pub udp_reconnect_asks : OpenUdp → Asks (Result (Answer (Unit {0})) ErrorCode × OpenUdp)
udp_reconnect_asks o = udp_reconnecting o o.connecting

abbrev pub udp_alone_begun : OpenUdp → Result Operation ErrorCode × Socket → Asks (Result (Answer (Unit {0})) ErrorCode × OpenUdp)
udp_alone_begun o (Ok op, socket) = udp_reconnect_asks (record o { inner = socket; connecting = Some op })
udp_alone_begun o (Err c, socket) = Give (Err c, with_udp_inner o socket)

-- it begins, and is polled at once
abbrev pub udp_connect_asks : OpId → OpenUdp → IpSocketAddress → Asks (Result (Answer (Unit {0})) ErrorCode × OpenUdp)
udp_connect_asks op o a = bind (connect_asks op o.inner a) (udp_alone_begun o)

-- == how the streams are made
abbrev pub disconnected : OpenUdp → Result (Unit {0}) ErrorCode × Socket → Result (Answer (Unit {0})) ErrorCode × OpenUdp
disconnected o (Ok done, socket) = (Ok (Ready tt), with_streams (with_udp_inner o socket))
disconnected o (Err c, socket) = (Err c, with_udp_inner o socket)

-- a socket that has a remote address is disconnected before
abbrev pub disconnect_streams : OpId → OpenUdp → Bool → Asks (Result (Answer (Unit {0})) ErrorCode × OpenUdp)
disconnect_streams op o true = bind (disconnect_asks op o.inner) (λ done. Give (disconnected o done))
disconnect_streams op o false = Give (Ok (Ready tt), with_streams o)

-- with an address the socket is connected to it first, and without one it is disconnected where it was connected
abbrev pub streams_to : OpId → OpenUdp → Option IpSocketAddress → Asks (Result (Answer (Unit {0})) ErrorCode × OpenUdp)
streams_to op o (Some a) = bind (connect_asks op o.inner a) (udp_connect_begun o)
streams_to op o None = disconnect_streams op o (is_connected o.inner.remote)

-- only a socket that is bound has streams
abbrev pub streams_where : OpId → Option IpSocketAddress → OpenUdp → Bool → Asks (Result (Answer (Unit {0})) ErrorCode × OpenUdp)
streams_where op remote o true = streams_to op o remote
streams_where op remote o false = Give (Err InvalidState, o)

abbrev pub begin_streams_asks : OpId → OpenUdp → Option IpSocketAddress → Asks (Result (Answer (Unit {0})) ErrorCode × OpenUdp)
begin_streams_asks op o remote = bind (bound_asks op o.inner) (λ b. streams_where op remote (with_udp_inner o b.1) b.0)

-- == what is sent
abbrev pub is_sending : Sending → Bool
is_sending (InProgress op) = true
is_sending _ = false

-- a datagram of the socket's outgoing stream isn't sent yet
abbrev pub sends : Option Outgoing → Bool
sends None = false
sends (Some out) = is_sending out.sending

abbrev pub with_sending : Outgoing → Sending → Outgoing
with_sending out sending = record out { sending = sending }

-- 16 datagrams may be sent, or none while one isn't sent yet; that is the permit from then on
abbrev pub permit_of : Sending → ℕ
permit_of (InProgress op) = 0
permit_of _ = 16

abbrev pub permitted : Outgoing → Outgoing
permitted out = record out { permit = permit_of out.sending }

-- == one datagram
-- a poll of it ended: pending, it is kept; else it is over
abbrev pub send_left : Operation → End × List Item → Sending
send_left op (Waits, items) = InProgress (left_of op items)
send_left op (Done given, items) = Nothing
send_left op (Refused c given, items) = Nothing

-- one that became pending counts as sent
abbrev pub is_counted : End → Result (Unit {0}) ErrorCode
is_counted (Refused c given) = Err c
is_counted _ = Ok tt

abbrev pub send_ended : Operation → Socket → Outgoing → End × List Item → Result (Unit {0}) ErrorCode × (Socket × Outgoing)
send_ended op socket out ended = (is_counted ended.0, (socket, with_sending out (send_left op ended)))

-- the same of what the code answers: out of memory, it is kept
abbrev pub send_settled : Operation → Outgoing → Result (Answer (Unit {0})) Refusal → Outgoing
send_settled op out (Ok (Ready done)) = with_sending out Nothing
send_settled op out (Ok Pending) = with_sending out (InProgress op)
send_settled op out (Err (refusal.Code c)) = with_sending out Nothing
send_settled op out (Err (refusal.Memory e)) = with_sending out (InProgress op)

abbrev pub send_counted : Result (Answer (Unit {0})) Refusal → Result (Unit {0}) Refusal
send_counted (Ok answer) = Ok tt
send_counted (Err why) = Err why

-- while the socket has this remote address, or none
abbrev pub poll_send_asks : Socket → Outgoing → Operation → Asks (Result (Unit {0}) ErrorCode × (Socket × Outgoing))
poll_send_asks socket out op = bind (poll_asks (at_remote socket.remote op)) (λ ended. Give (send_ended op socket out ended))

-- it is begun under this name, and polled
abbrev pub send_one_asks : OpId → Socket → Outgoing → OutgoingDatagram → Asks (Result (Unit {0}) ErrorCode × (Socket × Outgoing))
send_one_asks op socket out d = bind (send_asks op socket d.bytes d.remote_address) (λ begun. poll_send_asks begun.1 out begun.0)

-- == datagrams in turn
-- a code ends the list, and is answered where none was counted
abbrev pub count_told : ℕ → ErrorCode → Result ℕ ErrorCode
count_told zero c = Err c
count_told (suc n) c = Ok (suc n)

-- the same of what the code answers; out of memory is answered whatever was counted
abbrev pub refusal_told : ℕ → Refusal → Result ℕ Refusal
refusal_told zero why = Err why
refusal_told (suc n) (refusal.Code c) = Ok (suc n)
refusal_told (suc n) (refusal.Memory e) = Err (refusal.Memory e)

-- the next of them: one that isn't sent yet ends the list, and the code of one that was in the background is answered in its place
abbrev pub one_sent : Result (Unit {0}) ErrorCode × (Socket × Outgoing) → Result (Answer (Unit {0})) ErrorCode × (Socket × Outgoing)
one_sent (Ok done, s) = (Ok (Ready tt), s)
one_sent (Err c, s) = (Err c, s)

abbrev pub send_next_asks : OpId → Socket → Outgoing → OutgoingDatagram → Sending → Asks (Result (Answer (Unit {0})) ErrorCode × (Socket × Outgoing))
send_next_asks op socket out d Nothing = bind (send_one_asks op socket out d) (λ done. Give (one_sent done))
send_next_asks op socket out d (InProgress job) = Give (Ok Pending, (socket, out))
send_next_asks op socket out d (Failed c) = Give (Err c, (socket, with_sending out Nothing))

-- they are sent by the names that are left to the line, where so many were sent before
abbrev pub send_after : ℕ → (Socket × Outgoing → Asks (Result ℕ ErrorCode × (Socket × Outgoing))) → Result (Answer (Unit {0})) ErrorCode × (Socket × Outgoing) → Asks (Result ℕ ErrorCode × (Socket × Outgoing))
send_after count more (Ok (Ready done), s) = more s
send_after count more (Ok Pending, s) = Give (Ok count, s)
send_after count more (Err c, s) = Give (count_told count c, s)

abbrev pub send_all : ℕ → Ids → List OutgoingDatagram → Socket × Outgoing → Asks (Result ℕ ErrorCode × (Socket × Outgoing))
send_all count ids [] s = Give (Ok count, s)
send_all count ids (d ∷ more) s = bind (send_next_asks (next_name ids) s.0 s.1 d s.1.sending) (send_after count (λ t. send_all (count + 1) (names_after ids) more t))

-- what was sent, and the socket afterwards
abbrev pub all_sent : OpenUdp → Result ℕ ErrorCode × (Socket × Outgoing) → Result ℕ Stop × OpenUdp
all_sent o (Ok count, s) = (Ok count, record o { inner = s.0; outgoing = Some s.1 })
all_sent o (Err c, s) = (Err (code_stop c), record o { inner = s.0; outgoing = Some s.1 })

-- more than were permitted is a trap; else nothing is permitted any more
abbrev pub send_permitted : Ids → OpenUdp → Outgoing → List OutgoingDatagram → Asks (Result ℕ Stop × OpenUdp)
send_permitted ids o out ds =
    if nat_lt out.permit (length ds) then Give (Err (Trap NotPermitted), o)
    else bind (send_all 0 ids ds (o.inner, record out { permit = 0 })) (λ done. Give (all_sent o done))

-- an empty list sends none, and the permit stays
abbrev pub send_some : Ids → OpenUdp → Outgoing → List OutgoingDatagram → Asks (Result ℕ Stop × OpenUdp)
send_some ids o out [] = Give (Ok 0, o)
send_some ids o out (d ∷ more) = send_permitted ids o out (d ∷ more)

abbrev pub send_datagrams_asks : Ids → OpenUdp → Option Outgoing → List OutgoingDatagram → Asks (Result ℕ Stop × OpenUdp)
send_datagrams_asks ids o None ds = Give (Err (Trap NoSuchHandle), o)
send_datagrams_asks ids o (Some out) ds = send_some ids o out ds

-- == a turn
-- a poll of the datagram in the background ended: pending, it is kept; its code is answered by the next send
abbrev pub turned_left : Operation → End × List Item → Sending
turned_left op (Waits, items) = InProgress (left_of op items)
turned_left op (Done given, items) = Nothing
turned_left op (Refused c given, items) = Failed c

abbrev pub turn_told : Result (Answer (Unit {0})) Refusal → Result (Unit {0}) AllocError
turn_told (Err (refusal.Memory e)) = Err e
turn_told _ = Ok tt

abbrev pub send_turned : Operation → Outgoing → Result (Answer (Unit {0})) Refusal → Outgoing
send_turned op out (Ok (Ready done)) = with_sending out Nothing
send_turned op out (Ok Pending) = with_sending out (InProgress op)
send_turned op out (Err (refusal.Code c)) = with_sending out (Failed c)
send_turned op out (Err (refusal.Memory e)) = with_sending out (InProgress op)

abbrev pub turn_sending : Socket → Outgoing → Sending → Asks Outgoing
turn_sending socket out (InProgress op) = bind (poll_asks (at_remote socket.remote op)) (λ ended. Give (with_sending out (turned_left op ended)))
turn_sending socket out _ = Give out

abbrev pub turn_outgoing : OpenUdp → Option Outgoing → Asks OpenUdp
turn_outgoing o None = Give o
turn_outgoing o (Some out) = bind (turn_sending o.inner out out.sending) (λ now. Give (record o { outgoing = Some now }))
