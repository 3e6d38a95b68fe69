-- Who asks in a turn.
use Rattle.std.specs.Prelude.{◌≡◌, List, Option, Some, None}
use Rattle.wasi_world.specs.declared.ids.OpId.{OpId}
use Rattle.wasi_tcp.specs.declared.writer.WriteState.{WriteState}
use Rattle.wasi_tcp.specs.declared.writer.WriteState.TheVariants as writing
use Rattle.wasi_records.specs.Records.{tcp2_at, open_at, lookup_at}
use Rattle.udp_records.specs.declared.datagrams.Incoming.{Incoming}
use Rattle.udp_records.specs.declared.datagrams.Outgoing.{Outgoing}
use Rattle.udp_records.specs.declared.datagrams.Receiving.{Receiving}
use Rattle.udp_records.specs.declared.datagrams.Receiving.TheVariants as receiving
use Rattle.udp_records.specs.declared.datagrams.Sending.{Sending}
use Rattle.udp_records.specs.declared.datagrams.Sending.TheVariants as sending
use Rattle.wasi_jobs.specs.declared.job.HostJob.{HostJob}
use Rattle.wasi_jobs.specs.declared.job.HostJob.TheVariants.{Write, Datagram, Receive, Lookup as LookupJob}
use Rattle.lookup_records.specs.declared.name_lookup.Lookup.{Lookup}
use Rattle.lookup_records.specs.declared.name_lookup.Lookup.TheVariants as lookup
use Rattle.wasi_records.specs.declared.records.Record.{Record}
use Rattle.udp_records.specs.declared.udp.OpenUdp.{OpenUdp}
use Rattle.host_store.specs.declared.machine.Machine.{Machine}
use Rattle.tcp_records.specs.declared.socket.Streams.{Streams}
use Rattle.tcp_records.specs.declared.socket.TcpRecord.{TcpRecord}
use Rattle.wasi_walks.specs.Answered.{streams_in}
use Rattle.wasi_walks.specs.Licence.{Has}

-- by which operation a write asks
abbrev pub writes_by : WriteState → Option OpId
writes_by (writing.Ready half permit) = None
writes_by (writing.Writing job) = Some job.write.who.id
writes_by (writing.Closing job) = Some job.write.who.id
writes_by (writing.Closed e) = None

abbrev pub writer_asks_by : Option Streams → Option OpId
writer_asks_by None = None
writer_asks_by (Some s) = writes_by s.writer

-- by which operation the write of a record asks
abbrev pub job_of : Option TcpRecord → Option OpId
job_of found = writer_asks_by (streams_in found)

-- by which operation a datagram is sent in the background, and by which one is received
abbrev pub sends_by : Sending → Option OpId
sends_by (sending.InProgress op) = Some op.who.id
sends_by _ = None

abbrev pub receives_by : Receiving → Option OpId
receives_by (receiving.InProgress op) = Some op.who.id
receives_by _ = None

abbrev pub outgoing_asks_by : Option Outgoing → Option OpId
outgoing_asks_by None = None
outgoing_asks_by (Some out) = sends_by out.sending

abbrev pub incoming_asks_by : Option Incoming → Option OpId
incoming_asks_by None = None
incoming_asks_by (Some inc) = receives_by inc.receiving

-- by which operation the outgoing stream of a UDP socket asks, and its incoming one
abbrev pub datagram_of : Option OpenUdp → Option OpId
datagram_of None = None
datagram_of (Some o) = outgoing_asks_by o.outgoing

abbrev pub receive_of : Option OpenUdp → Option OpId
receive_of None = None
receive_of (Some o) = incoming_asks_by o.incoming

-- by which operation a lookup asks
abbrev pub looks_by : Lookup → Option OpId
looks_by (lookup.InProgress op) = Some op.id
looks_by _ = None

abbrev pub lookup_of : Option Lookup → Option OpId
lookup_of None = None
lookup_of (Some l) = looks_by l

-- by which operation a job asks
abbrev pub asks_by : List Record → HostJob → Option OpId
asks_by records (Write place) = job_of (tcp2_at records place)
asks_by records (Datagram place) = datagram_of (open_at records place)
asks_by records (Receive place) = receive_of (open_at records place)
asks_by records (LookupJob place) = lookup_of (lookup_at records place)

-- The operation is that of a job: of the write of a record, of the datagram or the receive of a UDP socket, or of a lookup.
pub record IsOfJob (m : Machine) (op : OpId) : Type 0 where
  pub job : HostJob
  pub listed : Has m.store.jobs job
  pub is : asks_by m.store.records job ≡ Some op
