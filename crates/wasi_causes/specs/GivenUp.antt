-- What a drop and a shutdown release: what is asked then, and what is left afterwards.
use Rattle.host_store.specs.declared.kind.PlainInput.TheVariants as plain_input
use Rattle.host_store.specs.declared.kind.PlainOutput.TheVariants as plain_output
use Rattle.std.specs.Prelude.{◌≡◌, ◌≢◌, ⊤, ℕ, Bool, true, false, List, [], ◌∷◌, ◌++◌, Option, Some, None, IsSome, IsSomeAnd}
use Rattle.host_store.specs.GivingBack.{given_back}
use Rattle.host_store.specs.Store.{with_socket}
use Rattle.tcp_records.specs.Holding.{is_held}
use Rattle.tcp_records.specs.Listening.{with_listening}
use Rattle.record_common.specs.Names.{own_of}
use Rattle.wasi_addr.specs.declared.address.IpSocketAddress.{IpSocketAddress}
use Rattle.wasi_addr.specs.declared.address.ShutdownType.{ShutdownType}
use Rattle.wasi_addr.specs.declared.address.ShutdownType.TheVariants.{Receive, Send, Both}
use Rattle.wasi_world.specs.declared.ids.OpId.{OpId}
use Rattle.wasi_world.specs.declared.call.Call.TheVariants as call
use Rattle.wasi_world.specs.declared.call.Entry.{Entry}
use Rattle.wasi_world.specs.declared.call.Told.{Told}
use Rattle.wasi_world.specs.declared.call.Told.TheVariants as told
use Rattle.wasi_world.specs.Operation.{End, Waits, Done, Refused, Who, Operation}
use Rattle.wasi_table.specs.Table.{children_of}
use Rattle.wasi_tcp.specs.declared.reader.ReadState.{ReadState}
use Rattle.wasi_tcp.specs.declared.reader.ReadState.TheVariants as reading
use Rattle.wasi_tcp.specs.declared.writer.WriteError.TheVariants as error
use Rattle.wasi_tcp.specs.declared.writer.WriteState.{WriteState}
use Rattle.wasi_tcp.specs.declared.writer.WriteState.TheVariants as writing
use Rattle.wasi_tcp.specs.declared.listener.Accepting.{Accepting}
use Rattle.wasi_tcp.specs.declared.listener.Accepting.TheVariants as accepting
use Rattle.wasi_tcp.specs.Accept.{in_hand}
use Rattle.wasi_tcp.specs.Job.{Job, closing_job}
use Rattle.wasi_tcp.specs.Listen.{held_side}
use Rattle.wasi_tcp.specs.Socket.{side_of}
use Rattle.wasi_tcp.specs.Writer.{writer_side}
use Rattle.wasi_jobs.specs.declared.job.HostJob.{HostJob}
use Rattle.host_store.specs.declared.kind.Kind.{Kind}
use Rattle.host_store.specs.declared.kind.Kind.TheVariants as kind
use Rattle.tcp_records.specs.declared.tcp_listening.Listening.{Listening}
use Rattle.tcp_records.specs.declared.tcp_listening.Listening.TheVariants as listening
use Rattle.host_store.specs.declared.machine.Machine.{Machine}
use Rattle.tcp_records.specs.declared.socket.Streams.{Streams}
use Rattle.tcp_records.specs.declared.socket.TcpRecord.{TcpRecord}
use Rattle.host_store.specs.Kinds.{kind_at, without_handle}
use Rattle.host_store.specs.Jobs.{is_on}
use Rattle.wasi_steps.specs.declared.reply.Reply.{Reply}
use Rattle.wasi_steps.specs.declared.reply.Reply.TheVariants as reply
use Rattle.wasi_steps.specs.declared.step.Step.{Step}
use Rattle.wasi_steps.specs.declared.guest_call.GuestCall.TheVariants as guest
use Rattle.wasi_steps.specs.declared.guest_call.PollableCall.TheVariants as pollable_call
use Rattle.wasi_steps.specs.declared.step.Step.TheVariants as step
use Rattle.wasi_walks.specs.Answered.{shut_entry}
use Rattle.wasi_walks.specs.Licence.{Has, entry}

-- == the halves of a connection
-- the receiving half, while it is open
abbrev pub receive_given_up : OpId → ReadState → List Entry
receive_given_up own (reading.Open half) = shut_entry own half ∷ []
receive_given_up own reading.Closed = []

-- the sending half of this network socket, where there is one
abbrev pub send_given_up : OpId → Option OpId → List Entry
send_given_up own (Some side) = entry own (call.Shutdown side Send) told.Done ∷ []
send_given_up own None = []

-- == a drop
abbrev pub IsDrop : Step → Type 0
IsDrop (step.Call ctx (guest.Pollable (pollable_call.Drop handle))) = ⊤
IsDrop _ = ⊥

-- The handle is live, and something that was made under it is live too.
pub record HasLiveChildren (m : Machine) (handle : ℕ) : Type 0 where
  pub live : IsSome (kind_at m.table handle)
  pub children : children_of m.table.live handle ≢ []

-- the drop was done, or it is pending
abbrev pub IsDropped : Reply → Type 0
IsDropped (reply.Ok fields) = ⊤
IsDropped (reply.Pending n) = ⊤
IsDropped _ = ⊥

-- the machine without the handle
abbrev pub without : Machine → ℕ → Machine
without m handle = record m { table = without_handle m.table handle }

-- the machine, where the record of this number is given back, and its jobs with it
abbrev pub giving_back : Machine → ℕ → Machine
giving_back m place = record m { store = given_back place m.store }

-- all but a socket, a listener, an end of 0.3 and its result slot, an output of a connection, a datagram stream, a lookup and a pipe:
-- nothing is asked where it is dropped, and nothing else goes
abbrev pub GoesAtOnce : Kind → Type 0
GoesAtOnce (kind.Tcp2 place) = ⊥
GoesAtOnce (kind.Tcp3 place) = ⊥
GoesAtOnce (kind.Udp3 place) = ⊥
GoesAtOnce (kind.Listen3 place) = ⊥
GoesAtOnce (kind.Receive3 end) = ⊥
GoesAtOnce (kind.Send3 end) = ⊥
GoesAtOnce (kind.Result3 place) = ⊥
GoesAtOnce (kind.Udp2 place) = ⊥
GoesAtOnce (kind.Output place) = ⊥
GoesAtOnce (kind.Incoming place) = ⊥
GoesAtOnce (kind.Outgoing place) = ⊥
GoesAtOnce (kind.Lookup place) = ⊥
GoesAtOnce (kind.PlainInput (plain_input.Pipe place)) = ⊥
GoesAtOnce (kind.PlainOutput (plain_output.Pipe place)) = ⊥
GoesAtOnce _ = ⊤

-- the open halves of the streams, the receiving one first
abbrev pub streams_given_up : OpId → Option Streams → List Entry
streams_given_up own None = []
streams_given_up own (Some s) = receive_given_up own s.reader ++ send_given_up own (writer_side s.writer)

-- the network socket, where there is one
abbrev pub side_closed : OpId → Option OpId → List Entry
side_closed own (Some side) = entry own (call.Close side) told.Done ∷ []
side_closed own None = []

-- the arrival that is in hand, where there is one, is refused by the accept's own name
abbrev pub arrival_given_up : Who → Option IpSocketAddress → List Entry
arrival_given_up who (Some peer) = entry who.id (call.Refuse who.side peer) told.Done ∷ []
arrival_given_up who None = []

-- and a connection that isn't taken is closed, by the accept's own name too
abbrev pub accept_given_up : Accepting → List Entry
accept_given_up accepting.Idle = []
accept_given_up (accepting.Asking op) = arrival_given_up op.who (in_hand op.left)
accept_given_up (accepting.Arrived new peer) = entry new (call.Close new) told.Done ∷ []
accept_given_up (accepting.Failed c) = []

-- a listen in progress closes the network socket that it holds, by its own name
abbrev pub listen_given_up : Operation → Option OpId → List Entry
listen_given_up op None = []
listen_given_up op (Some side) = entry op.who.id (call.Close side) told.Done ∷ []

abbrev pub listening_given_up : Listening → List Entry
listening_given_up listening.Not = []
listening_given_up (listening.Begins op) = listen_given_up op (held_side op)
listening_given_up (listening.Accepts l) = accept_given_up l.accept
listening_given_up (listening.Unclosed side) = entry side (call.Close side) told.Done ∷ []

-- a socket releases what it listens by, its open halves, and then its network socket
abbrev pub socket_given_up : OpId → TcpRecord → List Entry
socket_given_up own r = listening_given_up r.listening ++ streams_given_up own r.streams ++ side_closed own (side_of r.inner)

-- Nothing is left of what was dropped: the machine is as it was without the handle, but that the record was given back, and no job is
-- of it.
pub record IsGone (m : Machine) (handle place : ℕ) (after : Machine) : Type 0 where
  pub left : after ≡ giving_back (without m handle) place
  pub job : (job : HostJob) → Has after.store.jobs job → is_on place job ≡ true → ⊥

-- Of a socket of 0.3, whose record is as this one where a handle went: while something else holds its network socket, the record stays,
-- and nothing is asked; else all that it has is released, and nothing is left of it.
abbrev pub LetsGoBy : Machine → ℕ → ℕ → ℕ → TcpRecord → List Entry → Machine → Bool → Type 0
LetsGoBy m line handle place r es after true = (es ≡ []) × (after ≡ record (without m handle) { store = with_socket m.store place r })
LetsGoBy m line handle place r es after false = (es ≡ socket_given_up (own_of line) r) × IsGone m handle place after

abbrev pub LetsGo : Machine → ℕ → ℕ → ℕ → TcpRecord → List Entry → Machine → Type 0
LetsGo m line handle place r es after = LetsGoBy m line handle place r es after (is_held r)

-- The same of a listener, whose socket is as this one before: what it listens by is released first.
abbrev pub ListenerGoesBy : Machine → ℕ → ℕ → ℕ → TcpRecord → List Entry → Machine → Bool → Type 0
ListenerGoesBy m line handle place r es after true =
    (es ≡ listening_given_up r.listening) × (after ≡ record (without m handle) { store = with_socket m.store place (with_listening r listening.Not) })
ListenerGoesBy m line handle place r es after false = (es ≡ socket_given_up (own_of line) r) × IsGone m handle place after

abbrev pub ListenerGoes : Machine → ℕ → ℕ → ℕ → TcpRecord → List Entry → Machine → Type 0
ListenerGoes m line handle place r es after = ListenerGoesBy m line handle place r es after (is_held (with_listening r listening.Not))

-- At most one look was made at whether a network socket may be written to.
pub data LooksOnce (own : OpId) : List Entry → Type 0 where
  NoLook : LooksOnce own []
  OneLook : (side : OpId) (told : Told) → LooksOnce own (entry own (call.WriteReady side) told ∷ [])

-- == a shutdown
-- it is the record of a socket whose streams weren't made yet
abbrev pub HasNoStreams : Option TcpRecord → Type 0
HasNoStreams found = IsSomeAnd found (λ r. r.streams ≡ None)

-- the network socket of a write's half, where the write ended well
abbrev pub ended_side : Job → End → Option OpId
ended_side job Waits = None
ended_side job (Done given) = Some job.write.who.side
ended_side job (Refused c given) = None

-- the network socket of the half that a shutdown releases at once: none while a write is in progress, or where the half was
-- released before
abbrev pub shut_at_once : WriteState → Option OpId
shut_at_once (writing.Ready half permit) = Some half.side
shut_at_once (writing.Writing job) = ended_side job job.end
shut_at_once (writing.Closing job) = None
shut_at_once (writing.Closed e) = None

-- a write in progress releases the half once all is written
abbrev pub last_write : Job → End → Job
last_write job Waits = closing_job job
last_write job _ = job

-- the writer after a shutdown
abbrev pub shut_writer : WriteState → WriteState
shut_writer (writing.Ready half permit) = writing.Closed error.Closed
shut_writer (writing.Writing job) = writing.Closing (last_write job job.end)
shut_writer (writing.Closing job) = writing.Closing job
shut_writer (writing.Closed e) = writing.Closed e

-- what a shutdown of the streams asks, the receiving half first
abbrev pub shutdown_entries : OpId → ShutdownType → Streams → List Entry
shutdown_entries own Receive s = receive_given_up own s.reader
shutdown_entries own Send s = send_given_up own (shut_at_once s.writer)
shutdown_entries own Both s = receive_given_up own s.reader ++ send_given_up own (shut_at_once s.writer)

-- the streams after it
abbrev pub shut_down : ShutdownType → Streams → Streams
shut_down Receive s = record s { reader = reading.Closed }
shut_down Send s = record s { writer = shut_writer s.writer }
shut_down Both s = record { reader = reading.Closed; writer = shut_writer s.writer }
