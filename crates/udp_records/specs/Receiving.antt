-- How datagrams are received on the incoming stream of a UDP socket.
use Rattle.std.specs.Prelude.{◌≡◌, ◌⊎◌, ℕ, zero, suc, ◌-◌, min, Bool, true, false, List, [], ◌∷◌, ◌++◌, length, Option, Some, None, Result, Ok, Err}
use Rattle.std.specs.declared.alloc.AllocError.{AllocError}
use Rattle.wasi_addr.specs.declared.address.IpSocketAddress.{IpSocketAddress}
use Rattle.wasi_addr.specs.declared.code.ErrorCode.{ErrorCode}
use Rattle.wasi_world.specs.declared.datagram.IncomingDatagram.{IncomingDatagram}
use Rattle.wasi_world.specs.declared.ids.OpId.{OpId}
use Rattle.wasi_world.specs.declared.ids.Ids.{Ids}
use Rattle.wasi_world.specs.declared.outcome.Answer.{Answer}
use Rattle.wasi_world.specs.declared.outcome.Answer.TheVariants.{Ready, Pending}
use Rattle.wasi_world.specs.declared.outcome.Refusal.{Refusal}
use Rattle.wasi_world.specs.declared.outcome.Refusal.TheVariants as refusal
use Rattle.wasi_world.specs.declared.outcome.TrapKind.TheVariants.{NoSuchHandle}
use Rattle.wasi_world.specs.Asks.{Asks, Give, bind, Reaches, Started}
use Rattle.wasi_world.specs.Seen.{Seen}
use Rattle.wasi_world.specs.Operation.{Operation, Item, End, Waits, Done, Refused, Datagram, poll_asks}
use Rattle.wasi_udp.specs.Receive.{receive_asks, wanting}
use Rattle.wasi_udp.specs.Shape.{Socket}
use Rattle.udp_records.specs.declared.datagrams.Incoming.{Incoming}
use Rattle.udp_records.specs.declared.datagrams.Receiving.{Receiving}
use Rattle.udp_records.specs.declared.datagrams.Receiving.TheVariants.{Nothing, InProgress, Came, Failed}
use Rattle.udp_records.specs.declared.udp.OpenUdp.{OpenUdp}
use Rattle.record_common.specs.Binding.{left_of}
use Rattle.record_common.specs.Stops.{Stop, Trap, code_stop}
use Rattle.record_common.specs.Names.{next_name, names_after}

abbrev pub with_receiving : Incoming → Receiving → Incoming
with_receiving inc receiving = record inc { receiving = receiving }

-- a receive is in progress
abbrev pub is_receiving : Receiving → Bool
is_receiving (InProgress op) = true
is_receiving _ = false

abbrev pub receives : Option Incoming → Bool
receives None = false
receives (Some inc) = is_receiving inc.receiving

-- == one receive
-- a poll of it ended: pending, it is kept; else its datagram or its code is, until it is taken
abbrev pub receive_left : Operation → End × List Item → Receiving
receive_left op (Waits, items) = InProgress (left_of op items)
receive_left op (Done (Datagram bytes a), items) = Came (record { bytes = bytes; remote_address = a })
receive_left op (Done given, items) = Nothing
receive_left op (Refused c given, items) = Failed c

-- the same of what the code answers: out of memory, it is kept
abbrev pub receive_settled : Operation → Incoming → Result (Answer (List ℕ × IpSocketAddress)) Refusal → Incoming
receive_settled op inc (Ok (Ready d)) = with_receiving inc (Came (record { bytes = d.0; remote_address = d.1 }))
receive_settled op inc (Ok Pending) = with_receiving inc (InProgress op)
receive_settled op inc (Err (refusal.Code c)) = with_receiving inc (Failed c)
receive_settled op inc (Err (refusal.Memory e)) = with_receiving inc (InProgress op)

abbrev pub receive_wants : Result (Answer (List ℕ × IpSocketAddress)) Refusal → Result (Unit {0}) AllocError
receive_wants (Err (refusal.Memory e)) = Err e
receive_wants _ = Ok tt

-- from the remote address of the stream's making alone, where there was one
abbrev pub poll_receive_asks : Socket → Incoming → Operation → Asks (Socket × Incoming)
poll_receive_asks socket inc op = bind (poll_asks (wanting inc.remote op)) (λ ended. Give (socket, with_receiving inc (receive_left op ended)))

-- where no receive is in progress and none has ended, one is begun under this name, and polled
abbrev pub fetch_asks : OpId → Receiving → Socket × Incoming → Asks (Socket × Incoming)
fetch_asks op Nothing s = bind (receive_asks op s.0) (λ begun. poll_receive_asks begun.1 s.1 begun.0)
fetch_asks op _ s = Give s

-- one that begins takes a name
abbrev pub fetch_names : Receiving → Ids → Ids
fetch_names Nothing ids = names_after ids
fetch_names _ ids = ids

-- what has come is taken, or the code of what failed
abbrev pub taken : Receiving → Result (Answer IncomingDatagram) ErrorCode × Receiving
taken (Came d) = (Ok (Ready d), Nothing)
taken (Failed c) = (Err c, Nothing)
taken receiving = (Ok Pending, receiving)

abbrev pub taken_from : Socket × Incoming → Result (Answer IncomingDatagram) ErrorCode × (Socket × Incoming)
taken_from (socket, inc) = ((taken inc.receiving).0, (socket, with_receiving inc (taken inc.receiving).1))

abbrev pub receive_next_asks : OpId → Socket × Incoming → Asks (Result (Answer IncomingDatagram) ErrorCode × (Socket × Incoming))
receive_next_asks op s = bind (fetch_asks op s.1.receiving s) (λ t. Give (taken_from t))

-- == datagrams in turn
-- a code ends the list, and is answered where there is no datagram before it
abbrev pub received_told : List IncomingDatagram → ErrorCode → Result (List IncomingDatagram) ErrorCode
received_told [] c = Err c
received_told (d ∷ ds) c = Ok (d ∷ ds)

-- one that hasn't come ends the list
abbrev pub receive_after : List IncomingDatagram → (IncomingDatagram → Socket × Incoming → Asks (Result (List IncomingDatagram) ErrorCode × (Socket × Incoming))) → Result (Answer IncomingDatagram) ErrorCode × (Socket × Incoming) → Asks (Result (List IncomingDatagram) ErrorCode × (Socket × Incoming))
receive_after so_far more (Ok (Ready d), s) = more d s
receive_after so_far more (Ok Pending, s) = Give (Ok so_far, s)
receive_after so_far more (Err c, s) = Give (received_told so_far c, s)

-- so many at most, and while there is room: each takes its length and one more
abbrev pub receive_all : ℕ → ℕ → Ids → List IncomingDatagram → Socket × Incoming → Asks (Result (List IncomingDatagram) ErrorCode × (Socket × Incoming))
receive_all zero room ids so_far s = Give (Ok so_far, s)
receive_all (suc n) zero ids so_far s = Give (Ok so_far, s)
receive_all (suc n) (suc room) ids so_far s =
    bind (receive_next_asks (next_name ids) s) (receive_after so_far (λ d t. receive_all n (room - length d.bytes) (fetch_names s.1.receiving ids) (so_far ++ d ∷ []) t))

-- what stays in a stream for lack of memory: its next receive wasn't begun, or it is in progress
abbrev pub StaysPending : Incoming → Incoming → Type 0
StaysPending old now = (now ≡ old) ⊎ ((old.receiving ≡ Nothing) × (is_receiving now.receiving ≡ true) × (now ≡ with_receiving old now.receiving))

-- For lack of memory a call lost these datagrams: it took them, for as many rounds and as much room as are no longer left, and
-- began to ask for the next one. The stream stays as it was after them, or with the receive of the next one in progress.
pub record LosesTaken (most room : ℕ) (ids : Ids) (old now : Socket × Incoming) (before after : Seen) : Type 0 where
  pub lost : List IncomingDatagram
  pub left : ℕ
  pub space : ℕ
  pub names : Ids
  pub met : Socket × Incoming
  pub seen : Seen
  pub took : Reaches (receive_all most room ids [] old) (receive_all left space names lost met) before seen
  pub began : Started (receive_next_asks (next_name names) met) seen after
  pub stays : StaysPending met.1 now.1

-- what was received, and the socket afterwards
abbrev pub all_received : OpenUdp → Result (List IncomingDatagram) ErrorCode × (Socket × Incoming) → Result (List IncomingDatagram) Stop × OpenUdp
all_received o (Ok ds, s) = (Ok ds, record o { inner = s.0; incoming = Some s.1 })
all_received o (Err c, s) = (Err (code_stop c), record o { inner = s.0; incoming = Some s.1 })

-- at most 16, and until their lengths with one more each reach 65,536
abbrev pub receive_datagrams_asks : Ids → ℕ → OpenUdp → Option Incoming → Asks (Result (List IncomingDatagram) Stop × OpenUdp)
receive_datagrams_asks ids most o None = Give (Err (Trap NoSuchHandle), o)
receive_datagrams_asks ids most o (Some inc) = bind (receive_all (min most 16) 65536 ids [] (o.inner, inc)) (λ done. Give (all_received o done))

-- For lack of memory a socket's incoming stream lost what the call took, and nothing else of the socket changed.
pub record StreamLost (most : ℕ) (ids : Ids) (old now : OpenUdp) (stream : Incoming) (before after : Seen) : Type 0 where
  pub left : Incoming
  pub loses : LosesTaken (min most 16) 65536 ids (old.inner, stream) (now.inner, left) before after
  pub rest : now ≡ record old { inner = now.inner; incoming = Some left }

-- without a stream nothing is asked, and nothing changes
abbrev pub StreamLoses : ℕ → Ids → OpenUdp → OpenUdp → Option Incoming → Seen → Seen → Type 0
StreamLoses most ids old now None before after = (now ≡ old) × (after ≡ before)
StreamLoses most ids old now (Some stream) before after = StreamLost most ids old now stream before after

-- == a look
abbrev pub with_incoming : OpenUdp → Socket × Incoming → OpenUdp
with_incoming o s = record o { inner = s.0; incoming = Some s.1 }

-- a receive is begun where none is, and not taken
abbrev pub look_incoming : Ids → OpenUdp → Option Incoming → Asks OpenUdp
look_incoming ids o None = Give o
look_incoming ids o (Some inc) = bind (fetch_asks (next_name ids) inc.receiving (o.inner, inc)) (λ s. Give (with_incoming o s))

abbrev pub look_names : Ids → Option Incoming → Ids
look_names ids None = ids
look_names ids (Some inc) = fetch_names inc.receiving ids

-- == a turn
abbrev pub turn_receiving : Incoming → Receiving → Asks Incoming
turn_receiving inc (InProgress op) = bind (poll_asks (wanting inc.remote op)) (λ ended. Give (with_receiving inc (receive_left op ended)))
turn_receiving inc _ = Give inc

abbrev pub turn_incoming : OpenUdp → Option Incoming → Asks OpenUdp
turn_incoming o None = Give o
turn_incoming o (Some inc) = bind (turn_receiving inc inc.receiving) (λ now. Give (record o { incoming = Some now }))

-- a look would begin a receive, where none was begun
abbrev pub has_none : Receiving → Bool
has_none Nothing = true
has_none _ = false

abbrev pub would_receive : Option Incoming → Bool
would_receive None = false
would_receive (Some incoming) = has_none incoming.receiving
