-- Handles: what they stand for, and how one is made.
use Rattle.std.specs.Prelude.{◌≡◌, ℕ, Bool, true, false, if◌then◌else◌, List, [], ◌∷◌, Option, Some, None, Result, Ok, Err}
use Rattle.wasi_world.specs.declared.call.HandleKind.{HandleKind}
use Rattle.wasi_world.specs.declared.call.HandleKind.TheVariants as name
use Rattle.wasi_world.specs.declared.ids.OpId.{OpId}
use Rattle.wasi_world.specs.declared.outcome.TrapKind.TheVariants.{Full, HasChildren, NoSuchHandle}
use Rattle.wasi_world.specs.Asks.{Asks, Give, bind}
use Rattle.wasi_world.specs.Typed.{ask_made}
use Rattle.wasi_streams.specs.declared.fault.Fault.{Fault}
use Rattle.wasi_streams.specs.declared.fault.Fault.TheVariants as fault
use Rattle.wasi_table.specs.Table.{Shown, value_at, children_of, is_full, pushed, without}
use Rattle.host_store.specs.declared.kind.Kind.{Kind}
use Rattle.host_store.specs.declared.kind.Kind.TheVariants.{Network, Tcp2, Udp2, Input, Output, PlainInput, PlainOutput, Incoming, Outgoing, Pollable, Lookup, ErrorValue, Tcp3, Udp3, Listen3, Receive3, Send3, Result3}
use Rattle.host_store.specs.declared.kind.ConnectionEnd.{ConnectionEnd}
use Rattle.host_store.specs.declared.kind.Interface.{Interface}
use Rattle.host_store.specs.declared.kind.Interface.TheVariants.{P2, P3}
use Rattle.host_store.specs.declared.kind.PlainInput.{PlainInput as InputOf}
use Rattle.host_store.specs.declared.kind.PlainOutput.{PlainOutput as OutputOf}
use Rattle.host_store.specs.declared.kind.Watched.{Watched}
use Rattle.host_store.specs.declared.kind.Watched.TheVariants as watched
use Rattle.record_common.specs.Stops.{Stop, Trap}

-- the table of handles
abbrev pub HandleTable : Type 0
HandleTable = Shown Kind

abbrev pub name_of : Kind → HandleKind
name_of Network = name.Network
name_of (Tcp2 n) = name.Tcp2
name_of (Udp2 n) = name.Udp2
name_of (Input n) = name.Input
name_of (Output n) = name.Output
name_of (PlainInput i) = name.Input
name_of (PlainOutput o) = name.Output
name_of (Incoming n) = name.Incoming
name_of (Outgoing n) = name.Outgoing
name_of (Pollable w) = name.Pollable
name_of (Lookup n) = name.Lookup
name_of ErrorValue = name.ErrorValue
name_of (Tcp3 n) = name.Tcp3
name_of (Udp3 n) = name.Udp3
name_of (Listen3 n) = name.Listen3
name_of (Receive3 n) = name.Receive3
name_of (Send3 n) = name.Send3
name_of (Result3 n) = name.Result3

-- the kind of a UDP socket's handle in each interface
abbrev pub udp_kind : Interface → ℕ → Kind
udp_kind P2 place = Udp2 place
udp_kind P3 place = Udp3 place

-- what a live handle stands for
abbrev pub kind_at : HandleTable → ℕ → Option Kind
kind_at t h = value_at t.live h

-- == what each kind names
-- the number of a TCP socket's record
abbrev pub place_of : Option Kind → Option ℕ
place_of (Some (Tcp2 place)) = Some place
place_of _ = None

-- the number of a UDP socket's record
abbrev pub udp_of : Option Kind → Option ℕ
udp_of (Some (Udp2 place)) = Some place
udp_of _ = None

-- the same of a socket of 0.3
abbrev pub tcp3_of : Option Kind → Option ℕ
tcp3_of (Some (Tcp3 place)) = Some place
tcp3_of _ = None

abbrev pub udp3_of : Option Kind → Option ℕ
udp3_of (Some (Udp3 place)) = Some place
udp3_of _ = None

-- the number of the record of a listener's socket
abbrev pub listen3_of : Option Kind → Option ℕ
listen3_of (Some (Listen3 place)) = Some place
listen3_of _ = None

-- the read end of a connection, and the write end
abbrev pub receive3_of : Option Kind → Option ConnectionEnd
receive3_of (Some (Receive3 end)) = Some end
receive3_of _ = None

abbrev pub send3_of : Option Kind → Option ConnectionEnd
send3_of (Some (Send3 end)) = Some end
send3_of _ = None

-- the number of a result slot's record
abbrev pub result3_of : Option Kind → Option ℕ
result3_of (Some (Result3 slot)) = Some slot
result3_of _ = None

-- the number of the record of an outgoing datagram stream's socket
abbrev pub outgoing_of : Option Kind → Option ℕ
outgoing_of (Some (Outgoing place)) = Some place
outgoing_of _ = None

-- and of an incoming one's
abbrev pub incoming_of : Option Kind → Option ℕ
incoming_of (Some (Incoming place)) = Some place
incoming_of _ = None

-- the number of a lookup's record
abbrev pub lookup_of : Option Kind → Option ℕ
lookup_of (Some (Lookup place)) = Some place
lookup_of _ = None

abbrev pub is_error : Option Kind → Bool
is_error (Some ErrorValue) = true
is_error _ = false

abbrev pub is_network : Option Kind → Bool
is_network (Some Network) = true
is_network _ = false

-- the number of the record of an input's socket, and of an output's
abbrev pub input_of : Option Kind → Option ℕ
input_of (Some (Input place)) = Some place
input_of _ = None

abbrev pub output_of : Option Kind → Option ℕ
output_of (Some (Output place)) = Some place
output_of _ = None

-- what an input reads from that is no connection's, and what an output writes to
abbrev pub plain_input_of : Option Kind → Option InputOf
plain_input_of (Some (PlainInput i)) = Some i
plain_input_of _ = None

abbrev pub plain_output_of : Option Kind → Option OutputOf
plain_output_of (Some (PlainOutput o)) = Some o
plain_output_of _ = None

-- it is an input, or an output, of a connection or not
abbrev pub is_readable : Option Kind → Bool
is_readable (Some (Input place)) = true
is_readable (Some (PlainInput i)) = true
is_readable _ = false

abbrev pub is_writable : Option Kind → Bool
is_writable (Some (Output place)) = true
is_writable (Some (PlainOutput o)) = true
is_writable _ = false

-- what a pollable of the handle watches
abbrev pub watched_by : Option Kind → Option Watched
watched_by (Some (Tcp2 place)) = Some (watched.Socket place)
watched_by (Some (Udp2 place)) = Some (watched.Udp place)
watched_by (Some (Input place)) = Some (watched.Input place)
watched_by (Some (Output place)) = Some (watched.Output place)
watched_by (Some (Incoming place)) = Some (watched.Incoming place)
watched_by (Some (Outgoing place)) = Some (watched.Outgoing place)
watched_by (Some (Lookup place)) = Some (watched.Lookup place)
watched_by (Some (PlainInput i)) = Some watched.Plain
watched_by (Some (PlainOutput o)) = Some watched.Plain
watched_by _ = None

-- what a pollable watches
abbrev pub watch_of : Option Kind → Option Watched
watch_of (Some (Pollable w)) = Some w
watch_of _ = None

-- a look-up in the table: what the handle names, or that there is no such handle
abbrev pub Names : {T : Type 0} → Result T Fault → Option T → Type 0
Names (Ok named) o = o ≡ Some named
Names (Err e) o = (e ≡ fault.Trap NoSuchHandle) × (o ≡ None)

-- the number of the record that it is watched in, where it is watched in one
abbrev pub place_in : Watched → ℕ
place_in (watched.Socket place) = place
place_in (watched.Input place) = place
place_in (watched.Output place) = place
place_in (watched.Udp place) = place
place_in (watched.Incoming place) = place
place_in (watched.Outgoing place) = place
place_in (watched.Lookup place) = place
place_in watched.Plain = 0

-- == a handle is made
-- a pollable is a child of what it watches, and the streams of a socket are under it; the parent of an error and of a lookup is named
-- in its mark alone
abbrev pub table_parent : Kind → Option ℕ → Option ℕ
table_parent (Input n) parent = parent
table_parent (Output n) parent = parent
table_parent (Incoming n) parent = parent
table_parent (Outgoing n) parent = parent
table_parent (Pollable w) parent = parent
table_parent _ parent = None

abbrev pub with_handle : HandleTable → Kind → Option ℕ → HandleTable
with_handle t kind parent = pushed t kind (table_parent kind parent)

-- there is room and the mark is asked, or it is a trap
abbrev pub make_asks : HandleTable → OpId → Kind → Option ℕ → Option OpId → Asks (Result ℕ Stop × HandleTable)
make_asks t op kind parent side =
    if is_full t then Give (Err (Trap Full), t)
    else bind (ask_made op t.next (name_of kind) parent side) (λ done. Give (Ok t.next, with_handle t kind parent))

-- a handle is taken out of the table
abbrev pub without_handle : HandleTable → ℕ → HandleTable
without_handle t h = record t { live = without t.live h }

-- nothing is made under a handle
abbrev pub none_in : List ℕ → Bool
none_in [] = true
none_in (h ∷ hs) = false

abbrev pub has_no_child : HandleTable → ℕ → Bool
has_no_child t h = none_in (children_of t.live h)

-- a handle is taken out, with what it stands for; what was made under it goes before
abbrev pub taken_out : HandleTable → ℕ → Option Kind → Result Kind Stop × HandleTable
taken_out t h None = (Err (Trap NoSuchHandle), t)
taken_out t h (Some kind) = if has_no_child t h then (Ok kind, without_handle t h) else (Err (Trap HasChildren), t)
