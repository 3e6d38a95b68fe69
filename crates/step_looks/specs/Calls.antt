-- What a guest's call will look at.
use Rattle.std.specs.Prelude.{ℕ, zero, suc, Bool, true, false, if◌then◌else◌, List, [], ◌∷◌, Option, Some, None}
use Rattle.wasi_records.specs.Records.{tcp2_at, open_at}
use Rattle.wasi_records.specs.declared.records.Record.{Record}
use Rattle.host_store.specs.declared.kind.ConnectionEnd.{ConnectionEnd}
use Rattle.host_store.specs.declared.kind.Kind.{Kind}
use Rattle.host_store.specs.declared.kind.Kind.TheVariants as kind
use Rattle.host_store.specs.declared.machine.Machine.{Machine}
use Rattle.host_store.specs.Kinds.{kind_at}
use Rattle.wasi_steps.specs.declared.guest_call.TcpCall.{TcpCall}
use Rattle.wasi_steps.specs.declared.guest_call.TcpCall.TheVariants as tcp_call
use Rattle.wasi_steps.specs.declared.guest_call.UdpCall.{UdpCall}
use Rattle.wasi_steps.specs.declared.guest_call.UdpCall.TheVariants as udp_call
use Rattle.wasi_steps.specs.declared.guest_call.StreamCall.{StreamCall}
use Rattle.wasi_steps.specs.declared.guest_call.StreamCall.TheVariants as stream_call
use Rattle.wasi_steps.specs.declared.guest_call.P3TcpCall.{P3TcpCall}
use Rattle.wasi_steps.specs.declared.guest_call.P3TcpCall.TheVariants as p3_tcp_call
use Rattle.step_looks.specs.declared.outlook.Outlook.{Outlook}
use Rattle.step_looks.specs.declared.outlook.Outlook.TheVariants.{Ready}
use Rattle.step_looks.specs.Records.{accept_at, again_outlook, input_at, listener_at, output_at, receive_at, room_at, watched_outlook}

-- == by what a handle stands for; any other handle traps
abbrev pub input_of : List Record → Option Kind → Outlook
input_of records (Some (kind.Input place)) = input_at (tcp2_at records place)
input_of records _ = Ready

abbrev pub output_of : List Record → Option Kind → Outlook
output_of records (Some (kind.Output place)) = output_at (tcp2_at records place)
output_of records _ = Ready

abbrev pub room_of : List Record → Option Kind → Outlook
room_of records (Some (kind.Output place)) = room_at (tcp2_at records place)
room_of records _ = Ready

abbrev pub pollable_of : List Record → Bool → Option Kind → Outlook
pollable_of records first (Some (kind.Pollable w)) = if first then watched_outlook records w else again_outlook records w
pollable_of records first _ = Ready

abbrev pub accept_of : List Record → Option Kind → Outlook
accept_of records (Some (kind.Tcp2 place)) = accept_at (tcp2_at records place)
accept_of records _ = Ready

abbrev pub receive_of : List Record → Option Kind → Outlook
receive_of records (Some (kind.Incoming place)) = receive_at (open_at records place)
receive_of records _ = Ready

abbrev pub listener_of : List Record → Option Kind → Outlook
listener_of records (Some (kind.Listen3 place)) = listener_at (tcp2_at records place)
listener_of records _ = Ready

-- an end of 0.3 that is closed is dropped
abbrev pub end_at : List Record → Option ℕ → Bool → Outlook
end_at records None reads = Ready
end_at records (Some place) reads = if reads then input_at (tcp2_at records place) else output_at (tcp2_at records place)

abbrev pub end_outlook : List Record → ConnectionEnd → Bool → Outlook
end_outlook records end reads = end_at records end.socket reads

abbrev pub read_end_of : List Record → Option Kind → Outlook
read_end_of records (Some (kind.Receive3 end)) = end_outlook records end true
read_end_of records _ = Ready

abbrev pub write_end_of : List Record → Option Kind → Outlook
write_end_of records (Some (kind.Send3 end)) = end_outlook records end false
write_end_of records _ = Ready

-- == by handle
abbrev pub input_outlook : Machine → ℕ → Outlook
input_outlook m input = input_of m.store.records (kind_at m.table input)

abbrev pub output_outlook : Machine → ℕ → Outlook
output_outlook m output = output_of m.store.records (kind_at m.table output)

abbrev pub room_outlook_of : Machine → ℕ → Outlook
room_outlook_of m output = room_of m.store.records (kind_at m.table output)

-- a first look, or one of a call that is polled
abbrev pub pollable_outlook : Machine → Bool → ℕ → Outlook
pollable_outlook m first pollable = pollable_of m.store.records first (kind_at m.table pollable)

-- == by call
abbrev pub tcp_outlook : Machine → TcpCall → Outlook
tcp_outlook m (tcp_call.Accept socket) = accept_of m.store.records (kind_at m.table socket)
tcp_outlook m _ = Ready

-- a call for no datagrams looks for none
abbrev pub receive_some : Machine → ℕ → ℕ → Outlook
receive_some m incoming zero = Ready
receive_some m incoming (suc n) = receive_of m.store.records (kind_at m.table incoming)

abbrev pub udp_outlook : Machine → UdpCall → Outlook
udp_outlook m (udp_call.Receive incoming most) = receive_some m incoming most
udp_outlook m _ = Ready

-- a splice that blocks looks at its output first; this is its look at the input
abbrev pub stream_outlook : Machine → StreamCall → Outlook
stream_outlook m (stream_call.CheckWrite output) = room_outlook_of m output
stream_outlook m (stream_call.Splice output input len) = room_outlook_of m output
stream_outlook m (stream_call.BlockingRead input len) = input_outlook m input
stream_outlook m (stream_call.BlockingSkip input len) = input_outlook m input
stream_outlook m (stream_call.BlockingSplice output input len) = input_outlook m input
stream_outlook m (stream_call.BlockingWrite output bytes) = output_outlook m output
stream_outlook m (stream_call.BlockingZeroes output len) = output_outlook m output
stream_outlook m (stream_call.BlockingFlush output) = output_outlook m output
stream_outlook m _ = Ready

-- with no bytes a read and a write only look
abbrev pub read_none : Machine → ℕ → ℕ → Outlook
read_none m end zero = read_end_of m.store.records (kind_at m.table end)
read_none m end (suc n) = Ready

abbrev pub write_none : Machine → ℕ → List ℕ → Outlook
write_none m end [] = write_end_of m.store.records (kind_at m.table end)
write_none m end (b ∷ bytes) = Ready

abbrev pub p3_tcp_outlook : Machine → P3TcpCall → Outlook
p3_tcp_outlook m (p3_tcp_call.Accept listener remaining) = listener_of m.store.records (kind_at m.table listener)
p3_tcp_outlook m (p3_tcp_call.Read end len) = read_none m end len
p3_tcp_outlook m (p3_tcp_call.Write end bytes) = write_none m end bytes
p3_tcp_outlook m _ = Ready
