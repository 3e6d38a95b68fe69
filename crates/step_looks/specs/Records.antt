-- What a look at a socket, a stream or a lookup depends on.
use Rattle.std.specs.Prelude.{ℕ, Bool, true, false, if◌then◌else◌, List, Option, Some, None}
use Rattle.wasi_world.specs.declared.ids.OpId.{OpId}
use Rattle.wasi_tcp.specs.Socket.{side_of}
use Rattle.wasi_tcp.specs.Reader.{reader_side}
use Rattle.wasi_tcp.specs.Writer.{writer_side}
use Rattle.wasi_tcp.specs.Listener.{Listener, untaken_side}
use Rattle.tcp_records.specs.declared.tcp_listening.Listening.{Listening}
use Rattle.tcp_records.specs.declared.tcp_listening.Listening.TheVariants.{Accepts}
use Rattle.tcp_records.specs.declared.socket.Streams.{Streams}
use Rattle.tcp_records.specs.declared.socket.TcpRecord.{TcpRecord}
use Rattle.tcp_records.specs.declared.tcp_binding.AsyncOperation.TheVariants.{Connect}
use Rattle.tcp_records.specs.InProgress.{is_nothing, is_started}
use Rattle.tcp_records.specs.Halves.{works_in}
use Rattle.tcp_records.specs.Looks.{socket_begins}
use Rattle.udp_records.specs.declared.udp.OpenUdp.{OpenUdp}
use Rattle.udp_records.specs.declared.datagrams.Incoming.{Incoming}
use Rattle.udp_records.specs.declared.datagrams.Receiving.{Receiving}
use Rattle.udp_records.specs.declared.datagrams.Receiving.TheVariants.{Nothing, InProgress, Came, Failed}
use Rattle.udp_records.specs.Datagrams.{sends}
use Rattle.udp_records.specs.Receiving.{receives, would_receive}
use Rattle.lookup_records.specs.declared.name_lookup.Lookup.{Lookup}
use Rattle.lookup_records.specs.NameLookup.{looks_on}
use Rattle.wasi_records.specs.Records.{tcp2_at, open_at, lookup_at}
use Rattle.host_store.specs.declared.kind.Watched.{Watched}
use Rattle.host_store.specs.declared.kind.Watched.TheVariants as watched
use Rattle.wasi_records.specs.declared.records.Record.{Record}
use Rattle.step_looks.specs.declared.outlook.Outlook.{Outlook}
use Rattle.step_looks.specs.declared.outlook.Outlook.TheVariants.{Ready, Held, On}
use Rattle.step_looks.specs.Outlooks.{to_read, to_write}

-- == a connection
abbrev pub reader_outlook : Option Streams → Outlook
reader_outlook (Some s) = to_read (reader_side s.reader)
reader_outlook None = Ready

-- while a write is in progress, its network socket
abbrev pub writer_outlook : Option Streams → Outlook
writer_outlook (Some s) = to_write (writer_side s.writer)
writer_outlook None = Ready

-- a look for room isn't made while a write is in progress
abbrev pub room_outlook : TcpRecord → Outlook
room_outlook r = if works_in r.streams then Held else writer_outlook r.streams

abbrev pub job_outlook : TcpRecord → Outlook
job_outlook r = if works_in r.streams then writer_outlook r.streams else Ready

-- == a socket
-- a listener is ready with a connection that isn't taken
abbrev pub untaken_outlook : OpId → Option OpId → Outlook
untaken_outlook side (Some new) = Ready
untaken_outlook side None = to_read (Some side)

abbrev pub listening_outlook : Listening → Outlook
listening_outlook (Accepts l) = untaken_outlook l.side (untaken_side l.accept)
listening_outlook _ = Ready

abbrev pub accept_outlook : TcpRecord → Outlook
accept_outlook r = if is_nothing r.in_progress then listening_outlook r.listening else Ready

-- a connect in progress, or the accept
abbrev pub socket_outlook : TcpRecord → Outlook
socket_outlook r = if is_started Connect r.in_progress then to_write (side_of r.inner) else accept_outlook r

-- == datagrams
abbrev pub receiving_look : Receiving → OpId → Outlook
receiving_look Nothing side = to_read (Some side)
receiving_look (InProgress op) side = to_read (Some side)
receiving_look (Came d) side = Ready
receiving_look (Failed c) side = Ready

abbrev pub incoming_outlook : Option Incoming → OpId → Outlook
incoming_outlook (Some inc) side = receiving_look inc.receiving side
incoming_outlook None side = Ready

-- a call that takes datagrams looks for none while a receive is in progress
abbrev pub receive_look : Receiving → OpId → Outlook
receive_look Nothing side = to_read (Some side)
receive_look (InProgress op) side = Held
receive_look (Came d) side = Ready
receive_look (Failed c) side = Ready

abbrev pub receive_outlook : Option Incoming → OpId → Outlook
receive_outlook (Some inc) side = receive_look inc.receiving side
receive_outlook None side = Ready

abbrev pub outgoing_outlook : OpenUdp → Outlook
outgoing_outlook o = if sends o.outgoing then to_write (Some o.inner.side) else Ready

-- == by record
abbrev pub input_at : Option TcpRecord → Outlook
input_at (Some r) = reader_outlook r.streams
input_at None = Ready

abbrev pub output_at : Option TcpRecord → Outlook
output_at (Some r) = writer_outlook r.streams
output_at None = Ready

abbrev pub room_at : Option TcpRecord → Outlook
room_at (Some r) = room_outlook r
room_at None = Ready

abbrev pub job_at : Option TcpRecord → Outlook
job_at (Some r) = job_outlook r
job_at None = Ready

abbrev pub socket_at : Option TcpRecord → Outlook
socket_at (Some r) = socket_outlook r
socket_at None = Ready

abbrev pub accept_at : Option TcpRecord → Outlook
accept_at (Some r) = accept_outlook r
accept_at None = Ready

abbrev pub listener_at : Option TcpRecord → Outlook
listener_at (Some r) = listening_outlook r.listening
listener_at None = Ready

abbrev pub connect_at : Option TcpRecord → Outlook
connect_at (Some r) = to_write (side_of r.inner)
connect_at None = Ready

abbrev pub incoming_at : Option OpenUdp → Outlook
incoming_at (Some o) = incoming_outlook o.incoming o.inner.side
incoming_at None = Ready

abbrev pub receive_at : Option OpenUdp → Outlook
receive_at (Some o) = receive_outlook o.incoming o.inner.side
receive_at None = Ready

abbrev pub receiving_at : Option OpenUdp → Outlook
receiving_at (Some o) = if receives o.incoming then to_read (Some o.inner.side) else Ready
receiving_at None = Ready

abbrev pub outgoing_at : Option OpenUdp → Outlook
outgoing_at (Some o) = outgoing_outlook o
outgoing_at None = Ready

-- a lookup in progress isn't ended by a socket
abbrev pub look_up_at : Option Lookup → Outlook
look_up_at l = if looks_on l then Held else Ready

-- == by what is watched
abbrev pub watched_outlook : List Record → Watched → Outlook
watched_outlook records (watched.Socket place) = socket_at (tcp2_at records place)
watched_outlook records (watched.Input place) = input_at (tcp2_at records place)
watched_outlook records (watched.Output place) = output_at (tcp2_at records place)
watched_outlook records (watched.Udp place) = Ready
watched_outlook records (watched.Incoming place) = incoming_at (open_at records place)
watched_outlook records (watched.Outgoing place) = outgoing_at (open_at records place)
watched_outlook records (watched.Lookup place) = look_up_at (lookup_at records place)
watched_outlook records watched.Plain = Ready

abbrev pub tcp_begins : Option TcpRecord → Bool
tcp_begins None = false
tcp_begins (Some r) = socket_begins r

abbrev pub udp_begins : Option OpenUdp → Bool
udp_begins None = false
udp_begins (Some o) = would_receive o.incoming

abbrev pub begins_at : List Record → Watched → Bool
begins_at records (watched.Socket place) = tcp_begins (tcp2_at records place)
begins_at records (watched.Incoming place) = udp_begins (open_at records place)
begins_at records _ = false

-- in a later look of a call what would have to begin is ready
abbrev pub again_outlook : List Record → Watched → Outlook
again_outlook records w = if begins_at records w then Ready else watched_outlook records w
