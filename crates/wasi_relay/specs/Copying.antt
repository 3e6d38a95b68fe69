-- One direction's part of a turn: a permit, a read of no more, and a write of what was read.
use Rattle.std.specs.Prelude.{ℕ, ◌==◌, min, length, if◌then◌else◌, List}
use Rattle.wasi_addr.specs.declared.address.ShutdownType.TheVariants.{Send}
use Rattle.wasi_steps.specs.declared.guest_call.GuestCall.TheVariants as guest
use Rattle.wasi_steps.specs.declared.guest_call.TcpCall.TheVariants as tcp_call
use Rattle.wasi_steps.specs.declared.guest_call.StreamCall.TheVariants as stream_call
use Rattle.wasi_steps.specs.declared.guest_call.PollableCall.TheVariants as pollable_call
use Rattle.wasi_steps.specs.declared.reply.Reply.{Reply}
use Rattle.wasi_steps.specs.declared.reply.Reply.TheVariants.{Ok, Closed, Failed}
use Rattle.wasi_relay.specs.declared.pair.DirEnd.TheVariants.{Clean, Broken}
use Rattle.wasi_relay.specs.declared.pair.Flow.{Flow}
use Rattle.wasi_relay.specs.declared.pair.Peer.{Peer}
use Rattle.wasi_relay.specs.Guest.{Part, give, call, ◌>>=◌, ◌>>◌}
use Rattle.wasi_relay.specs.Pair.{is_open, ended_as, written_more}
use Rattle.wasi_relay.specs.Replies.{number_at, bytes_at}

-- a reply that gives nothing breaks the direction; the error that it hands out is dropped
abbrev pub broken : Flow → Reply → Part Flow
broken flow (Failed code error) = do
  call (guest.Pollable (pollable_call.Drop error))
  give (ended_as Broken flow)
broken flow _ = give (ended_as Broken flow)

abbrev pub after_write : Flow → ℕ → Reply → Part Flow
after_write flow count (Ok fields) = give (written_more count flow)
after_write flow count reply = broken flow reply

-- bytes are written by one write; no bytes end the part
abbrev pub copy_bytes : Peer → Flow → List ℕ → Part Flow
copy_bytes to flow bytes = if length bytes == 0 then give flow else (call (guest.Stream (stream_call.Write to.output bytes)) >>= after_write flow (length bytes))

-- a closed input ends the direction, and its output's socket sends no more
abbrev pub after_read : Peer → Flow → Reply → Part Flow
after_read to flow (Ok fields) = copy_bytes to flow (bytes_at fields 0)
after_read to flow Closed = do
  call (guest.Tcp (tcp_call.Shutdown to.socket Send))
  give (ended_as Clean flow)
after_read to flow reply = broken flow reply

-- the smaller of the permit and 4096 are read; a permit of 0 ends the part
abbrev pub within : Peer → Peer → Flow → ℕ → Part Flow
within from to flow permit =
    if permit == 0 then give flow else (call (guest.Stream (stream_call.Read from.input (min permit 4096))) >>= after_read to flow)

abbrev pub after_check : Peer → Peer → Flow → Reply → Part Flow
after_check from to flow (Ok fields) = within from to flow (number_at fields 0)
after_check from to flow reply = broken flow reply

abbrev pub copied : Peer → Peer → Flow → Part Flow
copied from to flow = if is_open flow.end then (call (guest.Stream (stream_call.CheckWrite to.output)) >>= after_check from to flow) else give flow
