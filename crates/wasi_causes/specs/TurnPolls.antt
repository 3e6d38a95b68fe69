-- What a turn asks and leaves: each of its jobs is polled once, in the order of their making.
use Rattle.std.specs.Prelude.{◌≡◌, ℕ, true, false, List, [], ◌∷◌, ◌++◌, Option, Some, map}
use Rattle.wasi_addr.specs.declared.address.IpAddress.{IpAddress}
use Rattle.wasi_addr.specs.declared.address.IpSocketAddress.{IpSocketAddress}
use Rattle.wasi_addr.specs.declared.code.ErrorCode.{ErrorCode}
use Rattle.wasi_addr.specs.Address.{canonical}
use Rattle.wasi_world.specs.declared.call.Entry.{Entry}
use Rattle.wasi_world.specs.declared.call.Told.TheVariants as told
use Rattle.wasi_world.specs.Asks.{Give, Left}
use Rattle.wasi_world.specs.Operation.{Datagram, End, Waits, Done, Refused, Given, Item, Operation, poll_asks}
use Rattle.wasi_tcp.specs.Job.{Job}
use Rattle.wasi_tcp.specs.declared.writer.WriteState.{WriteState}
use Rattle.wasi_tcp.specs.declared.writer.WriteState.TheVariants.{Writing, Closing}
use Rattle.wasi_udp.specs.Receive.{wanting}
use Rattle.wasi_udp.specs.Send.{at_remote}
use Rattle.wasi_records.specs.Records.{tcp2_at, tcp2_put, open_at, open_put, lookup_at, lookup_put}
use Rattle.udp_records.specs.declared.datagrams.Incoming.{Incoming}
use Rattle.udp_records.specs.declared.datagrams.Outgoing.{Outgoing}
use Rattle.udp_records.specs.declared.datagrams.Receiving.{Receiving}
use Rattle.udp_records.specs.declared.datagrams.Receiving.TheVariants as receiving
use Rattle.udp_records.specs.declared.datagrams.Sending.{Sending}
use Rattle.udp_records.specs.declared.datagrams.Sending.TheVariants as sending
use Rattle.lookup_records.specs.declared.name_lookup.Lookup.{Lookup}
use Rattle.lookup_records.specs.declared.name_lookup.Lookup.TheVariants as lookup
use Rattle.lookup_records.specs.declared.name_lookup.LookupOp.{LookupOp}
use Rattle.wasi_records.specs.declared.records.Record.{Record}
use Rattle.tcp_records.specs.declared.socket.Streams.{Streams}
use Rattle.tcp_records.specs.declared.socket.TcpRecord.{TcpRecord}
use Rattle.udp_records.specs.declared.udp.OpenUdp.{OpenUdp}
use Rattle.wasi_jobs.specs.declared.job.HostJob.{HostJob}
use Rattle.wasi_jobs.specs.declared.job.HostJob.TheVariants as job
use Rattle.host_store.specs.Jobs.{is_going}
use Rattle.wasi_walks.specs.Answered.{EndsPending}
use Rattle.wasi_causes.specs.Lookups.{lookup_entry}
use Rattle.wasi_causes.specs.SendCauses.{DatagramFails}

-- == one poll
-- these are the entries of one poll of the operation, which ended so: it waits with these items left, is done, or has a
-- code
abbrev pub PolledOnce : Operation → List Entry → End × List Item → Type 0
PolledOnce op es ended = Left (poll_asks op) es (Give ended)

-- the same operation with these items left
abbrev pub still : Operation → List Item → Operation
still op items = record op { left = items }

-- A write that was polled: it continues with what is left, or ended as the poll did.
pub data WritePolled (job : Job) (es : List Entry) : Job → Type 0 where
  WriteGoesOn : (items : List Item) → PolledOnce job.write es (Waits, items)
      → WritePolled job es (record { write = still job.write items; end = Waits })
  WriteIsDone : (given : Given) (items : List Item) → PolledOnce job.write es (Done given, items)
      → WritePolled job es (record { write = still job.write items; end = Done given })
  WriteHasCode : (c : ErrorCode) (given : Given) (items : List Item) → PolledOnce job.write es (Refused c given, items)
      → WritePolled job es (record { write = still job.write items; end = Refused c given })

-- A datagram that was polled, while the socket has this remote address: it continues with what is left, was sent, or
-- failed with the code.
pub data SendPolled (remote : Option IpSocketAddress) (op : Operation) (es : List Entry) : Sending → Type 0 where
  SendGoesOn : (items : List Item) → PolledOnce (at_remote remote op) es (Waits, items)
      → SendPolled remote op es (sending.InProgress (still op items))
  SendIsDone : (given : Given) (items : List Item) → PolledOnce (at_remote remote op) es (Done given, items)
      → SendPolled remote op es sending.Nothing
  SendHasCode : (c : ErrorCode) (given : Given) (items : List Item)
      → PolledOnce (at_remote remote op) es (Refused c given, items) → SendPolled remote op es (sending.Failed c)

-- A receive that was polled, of a stream that keeps this address: it continues with what is left, has the datagram that
-- it gave, or failed with the code.
pub data ReceivePolled (only : Option IpSocketAddress) (op : Operation) (es : List Entry) : Receiving → Type 0 where
  ReceiveGoesOn : (items : List Item) → PolledOnce (wanting only op) es (Waits, items)
      → ReceivePolled only op es (receiving.InProgress (still op items))
  ReceiveHasDatagram : (bytes : List ℕ) (a : IpSocketAddress) (items : List Item)
      → PolledOnce (wanting only op) es (Done (Datagram bytes a), items)
      → ReceivePolled only op es (receiving.Came (record { bytes = bytes; remote_address = a }))
  ReceiveHasCode : (c : ErrorCode) (given : Given) (items : List Item)
      → PolledOnce (wanting only op) es (Refused c given, items) → ReceivePolled only op es (receiving.Failed c)

-- A lookup that was polled: its host was asked for once, and it waits, has found the names, or failed.
pub data LookupPolled (op : LookupOp) : List Entry → Lookup → Type 0 where
  LookupGoesOn : LookupPolled op (lookup_entry op.id op.host told.Pending ∷ []) (lookup.InProgress op)
  LookupHasNames : (names : List IpAddress)
      → LookupPolled op (lookup_entry op.id op.host (told.Names names) ∷ []) (lookup.Found (map canonical names))
  LookupHasCode : (c : ErrorCode) → LookupPolled op (lookup_entry op.id op.host (told.Code c) ∷ []) lookup.Failed

-- == one job
abbrev pub writing_now : TcpRecord → Streams → WriteState → TcpRecord
writing_now r s writer = record r { streams = Some (record s { writer = writer }) }

abbrev pub sending_now : OpenUdp → Outgoing → Sending → OpenUdp
sending_now o out now = record o { outgoing = Some (record out { sending = now }) }

abbrev pub receiving_now : OpenUdp → Incoming → Receiving → OpenUdp
receiving_now o inc now = record o { incoming = Some (record inc { receiving = now }) }

-- A job is polled once where it is in progress, and what is left of it is kept in its record; no other record changes.
pub data JobPolled (rs : List Record) : HostJob → List Entry → List Record → Type 0 where
  NothingToPoll : (one : HostJob) → is_going rs one ≡ false → JobPolled rs one [] rs
  PollsWrite : (place : ℕ) (r : TcpRecord) (s : Streams) (write now : Job) (es : List Entry) → tcp2_at rs place ≡ Some r
      → r.streams ≡ Some s → s.writer ≡ Writing write → write.end ≡ Waits → WritePolled write es now
      → JobPolled rs (job.Write place) es (tcp2_put rs place (writing_now r s (Writing now)))
  PollsLastWrite : (place : ℕ) (r : TcpRecord) (s : Streams) (write now : Job) (es : List Entry) → tcp2_at rs place ≡
      Some r
      → r.streams ≡ Some s → s.writer ≡ Closing write → write.end ≡ Waits → WritePolled write es now
      → JobPolled rs (job.Write place) es (tcp2_put rs place (writing_now r s (Closing now)))
  PollsDatagram : (place : ℕ) (o : OpenUdp) (out : Outgoing) (op : Operation) (now : Sending) (es : List Entry)
      → open_at rs place ≡ Some o → o.outgoing ≡ Some out → out.sending ≡ sending.InProgress op
      → SendPolled o.inner.remote op es now → JobPolled rs (job.Datagram place) es
      (open_put rs place (sending_now o out now))
  PollsReceive : (place : ℕ) (o : OpenUdp) (inc : Incoming) (op : Operation) (now : Receiving) (es : List Entry)
      → open_at rs place ≡ Some o → o.incoming ≡ Some inc → inc.receiving ≡ receiving.InProgress op
      → ReceivePolled inc.remote op es now → JobPolled rs (job.Receive place) es
      (open_put rs place (receiving_now o inc now))
  PollsLookup : (place : ℕ) (op : LookupOp) (now : Lookup) (es : List Entry) → lookup_at rs place ≡ Some
      (lookup.InProgress op)
      → LookupPolled op es now → JobPolled rs (job.Lookup place) es (lookup_put rs place now)

-- == all of them
-- Each is polled after those before it, and stays a job exactly where it is still in progress then.
pub data JobsPolled : List HostJob → List Record → List Entry → List HostJob → List Record → Type 0 where
  NoMoreJobs : (rs : List Record) → JobsPolled [] rs [] [] rs
  StaysJob : (one : HostJob) (jobs kept : List HostJob) (rs mid after : List Record) (es fs : List Entry) → JobPolled rs
      one es mid
      → is_going mid one ≡ true → JobsPolled jobs mid fs kept after → JobsPolled (one ∷ jobs) rs (es ++ fs) (one ∷ kept)
      after
  IsNoJobNow : (one : HostJob) (jobs kept : List HostJob) (rs mid after : List Record) (es fs : List Entry) → JobPolled
      rs one es mid
      → is_going mid one ≡ false → JobsPolled jobs mid fs kept after → JobsPolled (one ∷ jobs) rs (es ++ fs) kept after

-- what the last call of a poll of a datagram was answered: pending where it waits, and the cause of its code
abbrev pub SendTold : Operation → List Entry → End → Type 0
SendTold op es Waits = EndsPending op.who.id es
SendTold op es (Done given) = Unit {0}
SendTold op es (Refused c given) = DatagramFails op es c
