-- Which records handles, pending calls and jobs name, and which were given back.
use Rattle.std.specs.Prelude.{◌≡◌, ℕ, Option, Some, None, slice_get}
use Rattle.host_store.specs.declared.kind.Kind.{Kind}
use Rattle.host_store.specs.declared.kind.Kind.TheVariants.{Tcp2, Tcp3, Udp2, Udp3, Input, Output, PlainInput, PlainOutput, Incoming, Outgoing, Pollable, Lookup, Listen3, Result3}
use Rattle.host_store.specs.declared.kind.PlainInput.TheVariants as plain_input
use Rattle.host_store.specs.declared.kind.PlainOutput.TheVariants as plain_output
use Rattle.host_store.specs.declared.kind.Watched.{Watched}
use Rattle.host_store.specs.declared.kind.Watched.TheVariants as watched
use Rattle.host_store.specs.declared.machine.Machine.{Machine}
use Rattle.wasi_records.specs.declared.records.Record.TheVariants.{Gone}
use Rattle.host_store.specs.declared.store.StandingCall.{StandingCall}
use Rattle.host_store.specs.declared.store.StandingCall.TheVariants as call

-- the record of this number was given back
abbrev pub IsGivenBack : Machine → ℕ → Type 0
IsGivenBack m place = slice_get m.store.records place ≡ Some Gone

-- the record in which it is watched, where it is watched in one
abbrev pub record_watched : Watched → Option ℕ
record_watched (watched.Socket place) = Some place
record_watched (watched.Input place) = Some place
record_watched (watched.Output place) = Some place
record_watched (watched.Udp place) = Some place
record_watched (watched.Incoming place) = Some place
record_watched (watched.Outgoing place) = Some place
record_watched (watched.Lookup place) = Some place
record_watched watched.Plain = None

-- the record that a handle of this kind is of; a network, an error, a sink and a closed stream have none, and an end may outlive its
-- socket's
abbrev pub record_named : Kind → Option ℕ
record_named (Tcp2 place) = Some place
record_named (Tcp3 place) = Some place
record_named (Udp2 place) = Some place
record_named (Udp3 place) = Some place
record_named (Listen3 place) = Some place
record_named (Result3 place) = Some place
record_named (Input place) = Some place
record_named (Output place) = Some place
record_named (PlainInput (plain_input.Pipe place)) = Some place
record_named (PlainOutput (plain_output.Pipe place)) = Some place
record_named (Incoming place) = Some place
record_named (Outgoing place) = Some place
record_named (Lookup place) = Some place
record_named (Pollable w) = record_watched w
record_named _ = None

-- and that of a pending call; one that blocks is on handles
abbrev pub call_names : StandingCall → Option ℕ
call_names (call.Bind place face) = Some place
call_names (call.Listen place handle) = Some place
call_names (call.DropOutput place) = Some place
call_names (call.UdpCreate place face) = Some place
call_names (call.UdpBind place face) = Some place
call_names (call.UdpConnect place handle) = Some place
call_names (call.UdpConnect3 place) = Some place
call_names (call.DropOutgoing place) = Some place
call_names (call.Blocking blocks) = None
