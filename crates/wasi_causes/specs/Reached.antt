-- What holds of every machine that the lines of a script lead to.
use Rattle.std.specs.Prelude.{◌≡◌, ⊤, ℕ, true, false, IfSome, IsSome, IsSomeAnd}
use Rattle.wasi_addr.specs.declared.code.ErrorCode.TheVariants.{Other}
use Rattle.wasi_world.specs.declared.ids.OpId.{OpId}
use Rattle.wasi_tcp.specs.declared.socket.TcpState.{TcpState}
use Rattle.wasi_tcp.specs.declared.socket.TcpState.TheVariants as state
use Rattle.wasi_records.specs.Records.{tcp2_at, udp2_at, lookup_at, input_pipe_at, output_pipe_at}
use Rattle.wasi_records.specs.Records.{slot_at}
use Rattle.host_store.specs.declared.kind.PlainInput.TheVariants as plain_input
use Rattle.host_store.specs.declared.kind.PlainOutput.TheVariants as plain_output
use Rattle.host_store.specs.declared.kind.Kind.{Kind}
use Rattle.host_store.specs.declared.kind.Kind.TheVariants.{Network, Tcp2, Tcp3, Udp2, Udp3, Listen3, Receive3, Send3, Result3, Input, Output, PlainInput, PlainOutput, Incoming, Outgoing, Pollable, Lookup, ErrorValue}
use Rattle.host_store.specs.declared.kind.Watched.TheVariants as watched
use Rattle.tcp_records.specs.declared.tcp_listening.Listening.{Listening}
use Rattle.tcp_records.specs.declared.tcp_listening.Listening.TheVariants as listening
use Rattle.host_store.specs.declared.machine.Machine.{Machine}
use Rattle.tcp_records.specs.declared.socket.TcpRecord.{TcpRecord}
use Rattle.host_store.specs.Kinds.{place_in}
use Rattle.tcp_records.specs.InProgress.{is_connect}
use Rattle.wasi_walks.specs.Answered.{record_at}

-- == records
abbrev pub HasRecord : Machine → ℕ → Type 0
HasRecord m place = IsSome (tcp2_at m.store.records place)

-- the same of a UDP socket
abbrev pub HasUdpRecord : Machine → ℕ → Type 0
HasUdpRecord m place = IsSome (udp2_at m.store.records place)

-- and of a lookup
abbrev pub HasLookupRecord : Machine → ℕ → Type 0
HasLookupRecord m place = IsSome (lookup_at m.store.records place)

-- and of a pipe
abbrev pub HasInputPipe : Machine → ℕ → Type 0
HasInputPipe m place = IsSome (input_pipe_at m.store.records place)

abbrev pub HasOutputPipe : Machine → ℕ → Type 0
HasOutputPipe m place = IsSome (output_pipe_at m.store.records place)

-- and of a result slot
abbrev pub HasSlot : Machine → ℕ → Type 0
HasSlot m place = IsSome (slot_at m.store.records place)

-- a handle of a socket, a stream, a pipe, a pollable, a lookup or a result slot is of a record that is there; an end may outlive its
-- socket and its slot
abbrev pub OfItsRecord : Machine → Kind → Type 0
OfItsRecord m Network = ⊤
OfItsRecord m (Tcp2 place) = HasRecord m place
OfItsRecord m (Tcp3 place) = HasRecord m place
OfItsRecord m (Udp2 place) = HasUdpRecord m place
OfItsRecord m (Udp3 place) = HasUdpRecord m place
OfItsRecord m (Listen3 place) = HasRecord m place
OfItsRecord m (Receive3 end) = ⊤
OfItsRecord m (Send3 end) = ⊤
OfItsRecord m (Result3 place) = HasSlot m place
OfItsRecord m (Input place) = HasRecord m place
OfItsRecord m (Output place) = HasRecord m place
OfItsRecord m (PlainInput (plain_input.Pipe place)) = HasInputPipe m place
OfItsRecord m (PlainInput plain_input.Closed) = ⊤
OfItsRecord m (PlainOutput (plain_output.Pipe place)) = HasOutputPipe m place
OfItsRecord m (PlainOutput plain_output.Sink) = ⊤
OfItsRecord m (PlainOutput plain_output.Closed) = ⊤
OfItsRecord m (Incoming place) = HasUdpRecord m place
OfItsRecord m (Outgoing place) = HasUdpRecord m place
OfItsRecord m (Pollable (watched.Udp place)) = HasUdpRecord m place
OfItsRecord m (Pollable (watched.Incoming place)) = HasUdpRecord m place
OfItsRecord m (Pollable (watched.Outgoing place)) = HasUdpRecord m place
OfItsRecord m (Pollable (watched.Lookup place)) = HasLookupRecord m place
OfItsRecord m (Pollable watched.Plain) = ⊤
OfItsRecord m (Pollable w) = HasRecord m (place_in w)
OfItsRecord m (Lookup place) = HasLookupRecord m place
OfItsRecord m ErrorValue = ⊤

-- == a connect in progress
-- it continues, or was closed, or it is done and neither half was taken
abbrev pub MayFinish : TcpState → Type 0
MayFinish (state.Connecting op) = ⊤
MayFinish (state.Closed c) = ⊤
MayFinish (state.Connected c) = (c.receive_taken ≡ false) × (c.send_taken ≡ false)
MayFinish _ = ⊥

-- where the record has a connect in progress, that may be finished
abbrev pub Finishes : TcpRecord → Type 0
Finishes r = is_connect r.in_progress ≡ true → MayFinish r.inner.state

abbrev pub FinishesAt : Machine → ℕ → Type 0
FinishesAt m handle = IfSome (record_at m handle) Finishes

-- == a listen
-- a socket that does nothing yet has no listener, and none begins
abbrev pub ListensLate : TcpRecord → Type 0
ListensLate r = (side : OpId) → r.inner.state ≡ state.Default side → r.listening ≡ listening.Not

abbrev pub ListensLateAt : Machine → ℕ → Type 0
ListensLateAt m handle = IfSome (record_at m handle) ListensLate

-- a listen of the socket is in progress
abbrev pub IsBeginning : Listening → Type 0
IsBeginning (listening.Begins op) = ⊤
IsBeginning _ = ⊥

-- the socket of this record is closed, and its code is Other
abbrev pub IsClosedByListen : Machine → ℕ → Type 0
IsClosedByListen m place = IsSomeAnd (tcp2_at m.store.records place) (λ r. r.inner.state ≡ state.Closed Other)

-- and no listen of it is in progress
abbrev pub ListensNoMore : Machine → ℕ → Type 0
ListensNoMore m place = IsSomeAnd (tcp2_at m.store.records place) (λ r. r.listening ≡ listening.Not)
