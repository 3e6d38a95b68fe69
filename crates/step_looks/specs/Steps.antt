-- What a step waits for, and what it looks at before that.
use Rattle.std.specs.Prelude.{ℕ, ◌==◌, Bool, true, false, if◌then◌else◌, List, [], map, Option, Some, None}
use Rattle.wasi_looks.specs.declared.look.Look.{Look}
use Rattle.wasi_records.specs.Records.{tcp2_at, open_at}
use Rattle.wasi_records.specs.declared.records.Record.{Record}
use Rattle.udp_records.specs.declared.udp.OpenUdp.{OpenUdp}
use Rattle.host_store.specs.declared.beside.Beside.{Beside}
use Rattle.host_store.specs.declared.beside.BesideCall.{BesideCall}
use Rattle.host_store.specs.declared.beside.BesideCall.TheVariants as beside
use Rattle.host_store.specs.declared.machine.Machine.{Machine}
use Rattle.host_store.specs.declared.store.BlockingCall.{BlockingCall}
use Rattle.host_store.specs.declared.store.BlockingCall.TheVariants as blocking
use Rattle.host_store.specs.declared.store.Standing.{Standing}
use Rattle.host_store.specs.declared.store.StandingCall.{StandingCall}
use Rattle.host_store.specs.declared.store.StandingCall.TheVariants as standing
use Rattle.host_store.specs.Beside.{beside_of}
use Rattle.wasi_steps.specs.declared.guest_call.GuestCall.{GuestCall}
use Rattle.wasi_steps.specs.declared.guest_call.GuestCall.TheVariants as guest
use Rattle.wasi_steps.specs.declared.guest_call.TcpCall.TheVariants as tcp_call
use Rattle.wasi_steps.specs.declared.guest_call.StreamCall.TheVariants as stream_call
use Rattle.wasi_steps.specs.declared.guest_call.PollableCall.{PollableCall}
use Rattle.wasi_steps.specs.declared.guest_call.PollableCall.TheVariants as pollable_call
use Rattle.wasi_steps.specs.declared.guest_call.P3TcpCall.TheVariants as p3_tcp_call
use Rattle.wasi_steps.specs.declared.guest_call.P3UdpCall.TheVariants as p3_udp_call
use Rattle.wasi_steps.specs.declared.step.Step.{Step}
use Rattle.wasi_steps.specs.declared.step.Step.TheVariants as step
use Rattle.step_looks.specs.declared.outlook.Outlook.{Outlook}
use Rattle.step_looks.specs.declared.outlook.Outlook.TheVariants.{Ready}
use Rattle.step_looks.specs.Outlooks.{to_read, to_write, looks_at, looks_at_all}
use Rattle.step_looks.specs.Records.{connect_at, outgoing_at, output_at}
use Rattle.step_looks.specs.Jobs.{jobs_looks}
use Rattle.step_looks.specs.Calls.{input_outlook, output_outlook, pollable_outlook, tcp_outlook, udp_outlook, stream_outlook, p3_tcp_outlook}

-- == pollables
-- what the looks at them depend on, in their order
abbrev pub pollables_in : Machine → Bool → List ℕ → List Outlook
pollables_in m first pollables = map (pollable_outlook m first) pollables

abbrev pub pollables_looks : Machine → Bool → List ℕ → List Look
pollables_looks m first pollables = looks_at_all (pollables_in m first pollables)

-- == a call that is polled
abbrev pub blocking_looks : Machine → BlockingCall → List Look
blocking_looks m (blocking.Read input len) = looks_at (input_outlook m input)
blocking_looks m (blocking.Skip input len) = looks_at (input_outlook m input)
blocking_looks m (blocking.Splice output input len) = looks_at (input_outlook m input)
blocking_looks m (blocking.Write output rest) = looks_at (output_outlook m output)
blocking_looks m (blocking.Finish output) = looks_at (output_outlook m output)
blocking_looks m (blocking.Flush output) = looks_at (output_outlook m output)
blocking_looks m (blocking.Block pollable) = looks_at (pollable_outlook m false pollable)
blocking_looks m (blocking.Poll pollables) = pollables_looks m false pollables

-- a check isn't waited for
abbrev pub standing_looks : Machine → StandingCall → List Look
standing_looks m (standing.Blocking call) = blocking_looks m call
standing_looks m (standing.DropOutput place) = looks_at (output_at (tcp2_at m.store.records place))
standing_looks m (standing.DropOutgoing place) = looks_at (outgoing_at (open_at m.store.records place))
standing_looks m _ = []

-- a datagram of 0.3 that comes, or goes
abbrev pub datagram_at : Option OpenUdp → Bool → Outlook
datagram_at None comes = Ready
datagram_at (Some o) comes = if comes then to_read (Some o.inner.side) else to_write (Some o.inner.side)

abbrev pub beside_outlook : List Record → BesideCall → Outlook
beside_outlook records (beside.Connect place) = connect_at (tcp2_at records place)
beside_outlook records (beside.Send place op) = datagram_at (open_at records place) false
beside_outlook records (beside.Receive place op) = datagram_at (open_at records place) true
beside_outlook records (beside.Resolve host) = Ready

abbrev pub beside_looks : List Record → Option Beside → List Look
beside_looks records None = []
beside_looks records (Some b) = looks_at (beside_outlook records b.call)

-- one beside others is busy while an exclusive call is pending
abbrev pub poll_while : Machine → ℕ → Option Standing → List Look
poll_while m line None = beside_looks m.store.records (beside_of m.store line)
poll_while m line (Some s) = if s.ids.line == line then standing_looks m s.call else []

abbrev pub poll_looks : Machine → ℕ → List Look
poll_looks m line = poll_while m line m.store.standing

-- == a guest's call
-- the drop of an output waits until that can be written
abbrev pub pollable_looks : Machine → PollableCall → List Look
pollable_looks m (pollable_call.Ready pollable) = looks_at (pollable_outlook m true pollable)
pollable_looks m (pollable_call.Block pollable) = looks_at (pollable_outlook m true pollable)
pollable_looks m (pollable_call.PollList pollables) = pollables_looks m true pollables
pollable_looks m (pollable_call.Drop handle) = looks_at (output_outlook m handle)
pollable_looks m (pollable_call.Subscribe handle) = []

abbrev pub call_looks : Machine → GuestCall → List Look
call_looks m (guest.Tcp call) = looks_at (tcp_outlook m call)
call_looks m (guest.Udp call) = looks_at (udp_outlook m call)
call_looks m (guest.Stream call) = looks_at (stream_outlook m call)
call_looks m (guest.Pollable call) = pollable_looks m call
call_looks m (guest.P3Tcp call) = looks_at (p3_tcp_outlook m call)
call_looks m _ = []

-- it is busy while an exclusive call is pending
abbrev pub call_while : Machine → GuestCall → Option Standing → List Look
call_while m call None = call_looks m call
call_while m call (Some s) = []

-- == a step
abbrev pub step_looks : Machine → Step → List Look
step_looks m step.Turn = jobs_looks m.store.records m.store.jobs
step_looks m (step.Poll line) = poll_looks m line
step_looks m (step.Cancel line) = []
step_looks m (step.Call context call) = call_while m call m.store.standing

-- == what a splice that blocks looks at before its input: its output
abbrev pub spliced_by_call : GuestCall → Option ℕ
spliced_by_call (guest.Stream (stream_call.BlockingSplice output input len)) = Some output
spliced_by_call _ = None

abbrev pub spliced_by_standing : StandingCall → Option ℕ
spliced_by_standing (standing.Blocking (blocking.Splice output input len)) = Some output
spliced_by_standing _ = None

abbrev pub spliced_while : Step → Option Standing → Option ℕ
spliced_while (step.Call context call) None = spliced_by_call call
spliced_while (step.Poll line) (Some s) = if s.ids.line == line then spliced_by_standing s.call else None
spliced_while _ _ = None

abbrev pub spliced_to : Machine → Step → Option ℕ
spliced_to m s = spliced_while s m.store.standing

abbrev pub first_of : Machine → Option ℕ → Outlook
first_of m None = Ready
first_of m (Some output) = output_outlook m output

abbrev pub first_outlook : Machine → Step → Outlook
first_outlook m s = first_of m (spliced_to m s)

-- == what begins in the step that looks at it: a connect, and a receive of 0.3
abbrev pub call_waits_inside : GuestCall → Bool
call_waits_inside (guest.Tcp (tcp_call.FinishConnect socket)) = true
call_waits_inside (guest.P3Tcp (p3_tcp_call.Connect socket addr)) = true
call_waits_inside (guest.P3Udp (p3_udp_call.Receive socket)) = true
call_waits_inside _ = false

abbrev pub waits_inside : Step → Bool
waits_inside (step.Call context call) = call_waits_inside call
waits_inside _ = false
