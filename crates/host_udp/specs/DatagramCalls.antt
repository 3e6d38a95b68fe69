-- The calls on the datagram streams of a UDP socket: what each asks, what it answers, and the state afterwards.
use Rattle.std.specs.Prelude.{◌≡◌, ℕ, Bool, true, false, not, ◌&&◌, List, Option, Some, None, Result, Ok, Err}
use Rattle.wasi_addr.specs.declared.address.IpSocketAddress.{IpSocketAddress}
use Rattle.wasi_world.specs.declared.datagram.IncomingDatagram.{IncomingDatagram}
use Rattle.wasi_world.specs.declared.datagram.OutgoingDatagram.{OutgoingDatagram}
use Rattle.wasi_world.specs.declared.ids.OpId.{OpId}
use Rattle.wasi_world.specs.declared.ids.Ids.{Ids}
use Rattle.wasi_world.specs.declared.outcome.Answer.{Answer}
use Rattle.wasi_world.specs.declared.outcome.Answer.TheVariants.{Ready, Pending}
use Rattle.wasi_world.specs.declared.outcome.TrapKind.TheVariants.{NoSuchHandle, StreamsAlive}
use Rattle.wasi_world.specs.Asks.{Asks, Give, bind}
use Rattle.wasi_world.specs.Seen.{Seen}
use Rattle.udp_records.specs.declared.datagrams.Outgoing.{Outgoing}
use Rattle.wasi_jobs.specs.declared.job.HostJob.TheVariants.{Datagram, Receive}
use Rattle.host_store.specs.declared.kind.Kind.TheVariants as kind
use Rattle.host_store.specs.declared.machine.Machine.{Machine}
use Rattle.host_store.specs.declared.store.StandingCall.TheVariants.{UdpConnect, DropOutgoing}
use Rattle.udp_records.specs.declared.udp.OpenUdp.{OpenUdp}
use Rattle.udp_records.specs.Datagrams.{has_streams, begin_streams_asks, poll_udp_connect_asks, sends, permit_of, permitted, send_datagrams_asks}
use Rattle.record_common.specs.Stops.{Stop, Trap}
use Rattle.host_store.specs.Jobs.{with_job, other_than_receive}
use Rattle.host_store.specs.Kinds.{HandleTable, kind_at, udp_of, make_asks}
use Rattle.record_common.specs.Names.{own_of}
use Rattle.udp_records.specs.Receiving.{StreamLoses, receives, receive_datagrams_asks, look_incoming, look_names}
use Rattle.wasi_records.specs.Records.{open_at, udp2_at}
use Rattle.host_store.specs.Standing.{standing_as}
use Rattle.host_store.specs.Store.{Records, with_open_udp}
use Rattle.host_udp.specs.UdpCalls.{udp_call_answered}
use Rattle.host_udp.specs.UdpCreates.{udp_side_at}

-- == the streams of a socket
abbrev pub start_streams_by : Records → Ids → ℕ → ℕ → Option IpSocketAddress → OpenUdp → Bool → Asks (Result (Answer (Unit {0})) Stop × Records)
start_streams_by store ids place handle remote o true = Give (Err (Trap StreamsAlive), store)
start_streams_by store ids place handle remote o false = bind (begin_streams_asks (own_of ids.line) o remote) (λ begun. Give (udp_call_answered store ids (UdpConnect place handle) begun))

-- while one of its streams is live it is a trap
abbrev pub start_streams_at : Records → Ids → ℕ → ℕ → Option IpSocketAddress → Option OpenUdp → Asks (Result (Answer (Unit {0})) Stop × Records)
start_streams_at store ids place handle remote None = Give (Err (Trap NoSuchHandle), store)
start_streams_at store ids place handle remote (Some o) = start_streams_by store ids place handle remote o (has_streams o)

-- a connect that was pending is polled again
abbrev pub reconnect_udp_at : Records → Ids → ℕ → ℕ → Option OpenUdp → Asks (Result (Answer (Unit {0})) Stop × Records)
reconnect_udp_at store ids place handle None = Give (Err (Trap NoSuchHandle), store)
reconnect_udp_at store ids place handle (Some o) = bind (poll_udp_connect_asks o) (λ done. Give (udp_call_answered store ids (UdpConnect place handle) done))

-- == their handles
-- two handles that were made, or why one was not
abbrev pub second_made : Machine → ℕ → Result ℕ Stop × HandleTable → Result (Answer (ℕ × ℕ)) Stop × Machine
second_made m first (Ok second, t) = (Ok (Ready (first, second)), record m { table = t })
second_made m first (Err stop, t) = (Err stop, record m { table = t })

abbrev pub outgoing_made : Machine → OpId → ℕ → ℕ → Option OpId → Result ℕ Stop × HandleTable → Asks (Result (Answer (ℕ × ℕ)) Stop × Machine)
outgoing_made m own handle place side (Ok incoming, t) = bind (make_asks t own (kind.Outgoing place) (Some handle) side) (λ made. Give (second_made m incoming made))
outgoing_made m own handle place side (Err stop, t) = Give (Err stop, record m { table = t })

-- the incoming one and the outgoing one, under the handle of the socket, which is live
abbrev pub mark_streams_of : Machine → OpId → ℕ → Option ℕ → Asks (Result (Answer (ℕ × ℕ)) Stop × Machine)
mark_streams_of m own handle None = Give (Err (Trap NoSuchHandle), m)
mark_streams_of m own handle (Some place) = bind (make_asks m.table own (kind.Incoming place) (Some handle) (udp_side_at (udp2_at m.store.records place))) (λ made. outgoing_made m own handle place (udp_side_at (udp2_at m.store.records place)) made)

abbrev pub mark_streams : Machine → OpId → ℕ → Asks (Result (Answer (ℕ × ℕ)) Stop × Machine)
mark_streams m own handle = mark_streams_of m own handle (udp_of (kind_at m.table handle))

-- the streams are there, or their connect is pending
abbrev pub streams_so : OpId → ℕ → Machine → Result (Answer (Unit {0})) Stop × Records → Asks (Result (Answer (ℕ × ℕ)) Stop × Machine)
streams_so own handle m (Ok Pending, store) = Give (Ok Pending, record m { store = store })
streams_so own handle m (Ok (Ready done), store) = mark_streams (record m { store = store }) own handle
streams_so own handle m (Err stop, store) = Give (Err stop, record m { store = store })

-- the streams of the socket of this number, whose handle this is
abbrev pub make_streams_asks : Machine → Ids → ℕ → Option IpSocketAddress → ℕ → Asks (Result (Answer (ℕ × ℕ)) Stop × Machine)
make_streams_asks m ids handle remote place =
    bind (start_streams_at m.store ids place handle remote (open_at m.store.records place)) (λ done. streams_so (own_of ids.line) handle m done)

abbrev pub remake_streams_asks : Machine → Ids → ℕ → ℕ → Asks (Result (Answer (ℕ × ℕ)) Stop × Machine)
remake_streams_asks m ids place handle =
    bind (reconnect_udp_at m.store ids place handle (open_at m.store.records place)) (λ done. streams_so (own_of ids.line) handle m done)

-- == permits
abbrev pub check_send_by : Records → ℕ → OpenUdp → Option Outgoing → Result ℕ Stop × Records
check_send_by store place o None = (Err (Trap NoSuchHandle), store)
check_send_by store place o (Some out) = (Ok (permit_of out.sending), with_open_udp store place (record o { outgoing = Some (permitted out) }))

-- nothing is asked
abbrev pub check_send_at : Records → ℕ → Option OpenUdp → Result ℕ Stop × Records
check_send_at store place None = (Err (Trap NoSuchHandle), store)
check_send_at store place (Some o) = check_send_by store place o o.outgoing

-- == datagrams
-- one that wasn't in the background before is a job now
abbrev pub begins_send : OpenUdp → OpenUdp → Bool
begins_send before now = not (sends before.outgoing) && sends now.outgoing

abbrev pub datagrams_sent : Records → ℕ → OpenUdp → Result ℕ Stop × OpenUdp → Result ℕ Stop × Records
datagrams_sent store place o done = (done.0, with_job (with_open_udp store place done.1) (Datagram place) (begins_send o done.1))

abbrev pub send_datagrams_at : Records → Ids → ℕ → List OutgoingDatagram → Option OpenUdp → Asks (Result ℕ Stop × Records)
send_datagrams_at store ids place ds None = Give (Err (Trap NoSuchHandle), store)
send_datagrams_at store ids place ds (Some o) = bind (send_datagrams_asks ids o o.outgoing ds) (λ done. Give (datagrams_sent store place o done))

-- a receive that wasn't in progress before is a job now
abbrev pub begins_receive : OpenUdp → OpenUdp → Bool
begins_receive before now = not (receives before.incoming) && receives now.incoming

abbrev pub with_receive : Records → ℕ → OpenUdp → OpenUdp → Records
with_receive store place o now = with_job (with_open_udp store place now) (Receive place) (begins_receive o now)

abbrev pub receive_datagrams_at : Records → Ids → ℕ → ℕ → Option OpenUdp → Asks (Result (List IncomingDatagram) Stop × Records)
receive_datagrams_at store ids place most None = Give (Err (Trap NoSuchHandle), store)
receive_datagrams_at store ids place most (Some o) = bind (receive_datagrams_asks ids most o o.incoming) (λ done. Give (done.0, with_receive store place o done.1))

-- For lack of memory the socket's stream lost what the call took, and nothing else is lost; a receive that is in progress is a job.
pub record StoreLost (most : ℕ) (ids : Ids) (place : ℕ) (old now : Records) (socket : OpenUdp) (before after : Seen) : Type 0 where
  pub left : OpenUdp
  pub loses : StreamLoses most ids socket left socket.incoming before after
  pub rest : now ≡ with_receive old place socket left

abbrev pub StoreLoses : ℕ → Ids → ℕ → Records → Records → Option OpenUdp → Seen → Seen → Type 0
StoreLoses most ids place old now None before after = (now ≡ old) × (after ≡ before)
StoreLoses most ids place old now (Some socket) before after = StoreLost most ids place old now socket before after

-- == a stream goes
-- an incoming one gives its receive up
abbrev pub without_receives : ℕ → Records → Records
without_receives place store = record store { jobs = other_than_receive place store.jobs }

abbrev pub drop_incoming_at : Records → ℕ → Option OpenUdp → Unit {0} × Records
drop_incoming_at store place None = (tt, store)
drop_incoming_at store place (Some o) = (tt, without_receives place (with_open_udp store place (record o { incoming = None })))

abbrev pub drop_outgoing_by : Records → Ids → ℕ → OpenUdp → Bool → Answer (Unit {0}) × Records
drop_outgoing_by store ids place o true = (Pending, record store { standing = Some (standing_as ids (DropOutgoing place)) })
drop_outgoing_by store ids place o false = (Ready tt, with_open_udp store place (record o { outgoing = None }))

-- an outgoing one waits until its datagram in the background is over, and stands until then
abbrev pub drop_outgoing_at : Records → Ids → ℕ → Option OpenUdp → Answer (Unit {0}) × Records
drop_outgoing_at store ids place None = (Ready tt, store)
drop_outgoing_at store ids place (Some o) = drop_outgoing_by store ids place o (sends o.outgoing)

-- == readiness
-- something has come, or failed: a receive that isn't begun yet is begun
abbrev pub incoming_looked : Records → ℕ → OpenUdp → OpenUdp → Result Bool Stop × Records
incoming_looked store place o now = (Ok (not (receives now.incoming)), with_receive store place o now)

abbrev pub ready_incoming_at : Records → Ids → ℕ → Option OpenUdp → Asks (Result Bool Stop × Records)
ready_incoming_at store ids place None = Give (Err (Trap NoSuchHandle), store)
ready_incoming_at store ids place (Some o) = bind (look_incoming ids o o.incoming) (λ now. Give (incoming_looked store place o now))

-- the names that are left to the line then
abbrev pub incoming_names : Ids → Option OpenUdp → Ids
incoming_names ids None = ids
incoming_names ids (Some o) = look_names ids o.incoming

-- nothing is sent in the background
abbrev pub outgoing_ready : Option OpenUdp → Bool
outgoing_ready None = true
outgoing_ready (Some o) = not (sends o.outgoing)
