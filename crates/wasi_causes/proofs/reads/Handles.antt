-- What handles stand for asks for no bytes: what is dropped, a turn, and a pending call that isn't of a stream.
use Rattle.wasi_causes.proofs.Words.{Answer, Asks, Bool, Code, Err, ErrorCode, HandleTable, Kind, List, Machine, None, Ok, OpId, Operation, Option}
use Rattle.wasi_causes.proofs.Words.{Records, Result, ShutdownType, Some, Standing, StandingCall, Stop, Streams, TcpRecord, [], call_place}
use Rattle.wasi_tcp.specs.Writer.{drop_permit}
use Rattle.wasi_causes.proofs.Words.{collected, drop_kind, drop_taken, false, go_on, kind_at, make_asks, own_of, refl, release_at, relisten_at}
use Rattle.wasi_causes.proofs.Words.{resume_call, side_at, side_of, true, turn_at, turn_job, turn_jobs, turn_machine_asks, turned, unstood, wait_at}
use Rattle.wasi_causes.proofs.Words.{with_listening, with_socket, ℕ, ⊤, ◌∷◌, ◌≡◌}
use Rattle.host_store.specs.Block.{give as block_give, last as block_last}
use Rattle.host_store.specs.Block as block
use Rattle.host_store.specs.Beside.{unbeside}
use Rattle.host_store.specs.Lines.{keeps}
use Rattle.host_tcp.specs.Connects.{reconnects}
use Rattle.host_udp.specs.DatagramCalls.{second_made}
use Rattle.host_store.specs.Lines.{storing, tabling}
use Rattle.host_tcp.specs.Listens.{relistens}
use Rattle.host_udp.specs.SocketDatagrams.{drop_datagram, drop_udp, is_udp_held, polled as block_polled, without_udp_handle}
use Rattle.host_store.specs.Store.{with_open_udp}
use Rattle.host_udp.specs.UdpCreates.{udp_side_at}
use Rattle.tcp_records.specs.Holding.{drop_listener_asks}
use Rattle.tcp_records.specs.declared.tcp_listening.Listening.TheVariants.{Not}
use Rattle.host_tcp.specs.Binds.{stands_of}
use Rattle.host_udp.specs.UdpBinds.{udp_stands_of}
use Rattle.host_store.specs.BaseStops.{trap_of}
use Rattle.host_udp.specs.DatagramCalls.{reconnect_udp_at}
use Rattle.host_store.specs.Lines.{same_stop}
use Rattle.host_store.specs.Machine.{tcp3_at}
use Rattle.host_udp.specs.SocketDatagrams.{goes_on_so as goes_on_as}
use Rattle.wasi_addr.specs.declared.address.ShutdownType.TheVariants.{Receive, Send}
use Rattle.wasi_world.specs.declared.ids.Ids.{Ids}
use Rattle.wasi_world.specs.declared.outcome.Answer.TheVariants.{Pending, Ready}
use Rattle.wasi_jobs.specs.declared.job.HostJob.{HostJob}
use Rattle.wasi_jobs.specs.declared.job.HostJob.TheVariants as host_job
use Rattle.udp_records.specs.Datagrams.{poll_udp_connecting, turn_outgoing, turn_sending, udp_reconnecting}
use Rattle.tcp_records.specs.Ends.{shut_half}
use Rattle.tcp_records.specs.Holding.{let_go_asks, let_go_by, is_held}
use Rattle.lookup_records.specs.NameLookup.{turn_lookup}
use Rattle.wasi_records.specs.Records.{turn_lookup_at}
use Rattle.udp_records.specs.Receiving.{turn_incoming, turn_receiving}
use Rattle.tcp_records.specs.Looks.{wait_writer}
use Rattle.wasi_records.specs.Records.{lookup_at, open_at, tcp2_at, udp2_at}
use Rattle.udp_records.specs.Udp.{close_udp_asks, poll_create_asks, poll_udp_binding}
use Rattle.udp_records.specs.declared.datagrams.Incoming.{Incoming}
use Rattle.udp_records.specs.declared.datagrams.Outgoing.{Outgoing}
use Rattle.udp_records.specs.declared.datagrams.Receiving.{Receiving}
use Rattle.udp_records.specs.declared.datagrams.Receiving.TheVariants as receiving
use Rattle.udp_records.specs.declared.datagrams.Sending.{Sending}
use Rattle.udp_records.specs.declared.datagrams.Sending.TheVariants as sending
use Rattle.lookup_records.specs.declared.name_lookup.Lookup.{Lookup}
use Rattle.lookup_records.specs.declared.name_lookup.Lookup.TheVariants as lookup
use Rattle.wasi_records.specs.declared.records.Record.{Record}
use Rattle.udp_records.specs.declared.udp.OpenUdp.{OpenUdp}
use Rattle.udp_records.specs.declared.udp.UdpInProgress.{UdpInProgress}
use Rattle.udp_records.specs.declared.udp.UdpInProgress.TheVariants as udp_doing
use Rattle.udp_records.specs.declared.udp.UdpRecord.{UdpRecord}
use Rattle.udp_records.specs.declared.udp.UdpRecord.TheVariants as udp
use Rattle.wasi_udp.specs.Shape.{Socket as UdpShape}
use Rattle.host_tcp.specs.ConnectionEnds.{end_goes, open_in, shut_at}
use Rattle.host_udp.specs.DatagramCalls.{mark_streams_of, outgoing_made, streams_so}
use Rattle.host_tcp.specs.Dropping.{let_go_at}
use Rattle.host_store.specs.Jobs.{turn_datagram_at, turn_receive_at, is_going, jobs_with}
use Rattle.host_tcp.specs.Listens.{listened}
use Rattle.host_udp.specs.SocketDatagrams.{polled_so, udp_goes}
use Rattle.host_udp.specs.UdpCalls.{release_udp_at}
use Rattle.host_udp.specs.UdpCreates.{create_so, mark_udp, poll_create_at}
use Rattle.host_store.specs.BaseStops.{BaseStop}
use Rattle.host_store.specs.Beside.{beside_of}
use Rattle.host_store.specs.Kinds.{udp_of}
use Rattle.wasi_host.specs.Pending.{go_on_beside, resume_beside}
use Rattle.host_store.specs.declared.beside.Beside.{Beside}
use Rattle.host_store.specs.declared.beside.BesideCall.{BesideCall}
use Rattle.host_store.specs.declared.beside.BesideCall.TheVariants as beside
use Rattle.host_store.specs.declared.kind.Interface.{Interface}
use Rattle.host_store.specs.declared.kind.Kind.TheVariants as kind
use Rattle.host_store.specs.declared.store.StandingCall.TheVariants as standing
use Rattle.wasi_world.specs.Operation.{Done, End, Item, Refused, Waits}
use Rattle.wasi_udp.specs.Receive.{wanting}
use Rattle.wasi_udp.specs.Send.{at_remote}
use Rattle.host_udp.specs.SocketDatagrams.{receive_polls, send_polls}
use Rattle.host_udp.specs.SocketDatagrams.{received_answer}
use Rattle.record_common.specs.Binding.{bind_answer}
use Rattle.wasi_causes.proofs.reads.Unread.{Unread, and_gives, and_then, asks_one, calls, gives, looks_up, polled}
use Rattle.wasi_causes.proofs.reads.Sockets.{binds_on, finishes_connect, gives_up, listens_closed, looks, marks, releases, shuts, turns}

-- == what is dropped
let_goes : (op : OpId) (r : TcpRecord) (held : Bool) → Unread (let_go_by op r held)
let_goes op r true = gives _
let_goes op r false = and_gives _ (releases op r)

let_goes_at : (store : Records) (place : ℕ) (goes : TcpRecord → Asks (Bool × TcpRecord)) (o : Option TcpRecord) → ((r : TcpRecord) → Unread (goes r)) → Unread (let_go_at store place goes o)
let_goes_at store place goes None k = gives _
let_goes_at store place goes (Some r) k = and_gives _ (k r)

releases_at : (store : Records) (op : OpId) (place : ℕ) (o : Option TcpRecord) → Unread (release_at store op place o)
releases_at store op place None = gives _
releases_at store op place (Some r) = and_gives _ (releases op r)

waits_writer : (op : OpId) (r : TcpRecord) (o : Option Streams) → Unread (wait_writer op r o)
waits_writer op r None = gives _
waits_writer op r (Some s) = and_gives _ (looks op (collected (drop_permit s.writer)))

waits_at : (store : Records) (op : OpId) (place : ℕ) (o : Option TcpRecord) → Unread (wait_at store op place o)
waits_at store op place None = gives _
waits_at store op place (Some r) = and_gives _ (waits_writer op r r.streams)

closes_udp : (op : OpId) (u : UdpRecord) → Unread (close_udp_asks op u)
closes_udp op (udp.Open o) = and_gives _ (asks_one tt (λ told. gives tt))
closes_udp op _ = gives _

releases_udp : (store : Records) (op : OpId) (place : ℕ) (o : Option UdpRecord) → Unread (release_udp_at store op place o)
releases_udp store op place None = gives _
releases_udp store op place (Some u) = and_gives _ (closes_udp op u)

udp_lets_go : (op : OpId) (place : ℕ) (store : Records) (held : Bool) → Unread (udp_goes op place store held)
udp_lets_go op place store true = gives _
udp_lets_go op place store false = releases_udp store op place (udp2_at store.records place)

drops_udp : (op : OpId) (place : ℕ) (store : Records) → Unread (drop_udp op place store)
drops_udp op place store = let now : Records = without_udp_handle store place (open_at store.records place) in udp_lets_go op place now (is_udp_held now place)

drops_listener : (op : OpId) (r : TcpRecord) → Unread (drop_listener_asks op r)
drops_listener op r = let now : TcpRecord = with_listening r Not in and_then (gives_up r.listening) (λ done. let_goes op now (is_held now))

shuts_half : (op : OpId) (how : ShutdownType) (r : TcpRecord) (o : Option Streams) → Unread (shut_half op how r o)
shuts_half op how r None = gives _
shuts_half op how r (Some s) = and_gives _ (shuts op how s)

shuts_at : (op : OpId) (how : ShutdownType) (place : ℕ) (store : Records) (o : Option TcpRecord) → Unread (shut_at op how place store o)
shuts_at op how place store None = gives _
shuts_at op how place store (Some r) = and_gives _ (shuts_half op how r r.streams)

end_lets_go : (op : OpId) (how : ShutdownType) (slot : ℕ) (store : Records) (o : Option ℕ) → Unread (end_goes op how slot store o)
end_lets_go op how slot store None = gives _
end_lets_go op how slot store (Some socket) =
    and_then (shuts_at op how socket store (tcp2_at store.records socket)) (λ done. let_goes_at _ socket (let_go_asks op) _ (λ r. let_goes op r (is_held r)))

drops : (m : Machine) (ids : Ids) (k : Kind) → Unread (drop_kind m ids k)
drops m ids (kind.Tcp2 place) = and_gives _ (releases_at m.store (own_of ids.line) place (tcp2_at m.store.records place))
drops m ids (kind.Udp2 place) = and_gives _ (releases_udp m.store (own_of ids.line) place (udp2_at m.store.records place))
drops m ids (kind.Tcp3 place) = and_gives _ (let_goes_at m.store place _ (tcp2_at m.store.records place) (λ r. let_goes (own_of ids.line) _ _))
drops m ids (kind.Udp3 place) = and_gives _ (drops_udp (own_of ids.line) place m.store)
drops m ids (kind.Listen3 place) = and_gives _ (let_goes_at m.store place (drop_listener_asks (own_of ids.line)) (tcp2_at m.store.records place) (drops_listener (own_of ids.line)))
drops m ids (kind.Output place) = and_gives _ (and_gives _ (waits_at m.store (own_of ids.line) place (tcp2_at m.store.records place)))
drops m ids (kind.Incoming place) = gives _
drops m ids (kind.Outgoing place) = gives _
drops m ids (kind.Lookup place) = gives _
drops m ids (kind.PlainInput i) = gives _
drops m ids (kind.PlainOutput o) = gives _
drops m ids (kind.Receive3 end) = and_gives _ (end_lets_go (own_of ids.line) Receive end.slot m.store (open_in Receive m.store end.socket))
drops m ids (kind.Send3 end) = and_gives _ (end_lets_go (own_of ids.line) Send end.slot m.store (open_in Send m.store end.socket))
drops m ids (kind.Result3 slot) = gives _
drops m ids _ = gives _

pub drops_taken : (m : Machine) (ids : Ids) (done : Result Kind Stop × HandleTable) → Unread (drop_taken m ids done)
drops_taken m ids (Ok k, t) = drops (record m { table = t }) ids k
drops_taken m ids (Err why, t) = gives _

-- == a turn
sends_on : (socket : UdpShape) (out : Outgoing) (s : Sending) → Unread (turn_sending socket out s)
sends_on socket out (sending.InProgress op) = and_gives _ (polled _)
sends_on socket out _ = gives _

outgoing_turns : (o : OpenUdp) (out : Option Outgoing) → Unread (turn_outgoing o out)
outgoing_turns o None = gives _
outgoing_turns o (Some out) = and_gives _ (sends_on o.inner out out.sending)

receives_on : (inc : Incoming) (r : Receiving) → Unread (turn_receiving inc r)
receives_on inc (receiving.InProgress op) = and_gives _ (polled _)
receives_on inc _ = gives _

incoming_turns : (o : OpenUdp) (inc : Option Incoming) → Unread (turn_incoming o inc)
incoming_turns o None = gives _
incoming_turns o (Some inc) = and_gives _ (receives_on inc inc.receiving)

lookup_turns : (l : Lookup) → Unread (turn_lookup l)
lookup_turns (lookup.InProgress op) = and_gives _ (asks_one tt (λ told. gives _))
lookup_turns _ = gives _

streams_turn : (r : TcpRecord) (o : Option Streams) → Unread (turned r o)
streams_turn r None = gives _
streams_turn r (Some s) = and_gives _ (turns s.writer)

write_at : (records : List Record) (place : ℕ) (o : Option TcpRecord) → Unread (turn_at records place o)
write_at records place None = gives _
write_at records place (Some r) = and_gives _ (streams_turn r r.streams)

datagram_at : (records : List Record) (place : ℕ) (o : Option OpenUdp) → Unread (turn_datagram_at records place o)
datagram_at records place None = gives _
datagram_at records place (Some o) = and_gives _ (outgoing_turns o o.outgoing)

receive_at : (records : List Record) (place : ℕ) (o : Option OpenUdp) → Unread (turn_receive_at records place o)
receive_at records place None = gives _
receive_at records place (Some o) = and_gives _ (incoming_turns o o.incoming)

names_at : (records : List Record) (place : ℕ) (o : Option Lookup) → Unread (turn_lookup_at records place o)
names_at records place None = gives _
names_at records place (Some l) = and_gives _ (lookup_turns l)

job_turns : (records : List Record) (job : HostJob) → Unread (turn_job records job)
job_turns records (host_job.Write place) = write_at records place (tcp2_at records place)
job_turns records (host_job.Datagram place) = datagram_at records place (open_at records place)
job_turns records (host_job.Receive place) = receive_at records place (open_at records place)
job_turns records (host_job.Lookup place) = names_at records place (lookup_at records place)

jobs_turn : (kept jobs : List HostJob) (records : List Record) → Unread (turn_jobs kept jobs records)
jobs_turn kept [] records = gives _
jobs_turn kept (job ∷ jobs) records = and_then (job_turns records job) (λ now. jobs_turn (jobs_with kept job (is_going now job)) jobs now)

pub machine_turns : (m : Machine) → Unread (turn_machine_asks m)
machine_turns m = and_gives _ (and_gives _ (jobs_turn [] m.store.jobs m.store.records))

-- == a pending call, which isn't of a stream
stands : (ids : Ids) (call : StandingCall) (asked : TcpRecord → Asks (Result (Answer (Unit {0})) ErrorCode × TcpRecord)) (store : Records) → ((r : TcpRecord) → Unread (asked r)) → Unread (stands_of ids call asked store)
stands ids call asked store k =
    looks_up (λ r. block.goes_on (block.Call Code (λ s. r) (λ s now. with_socket s (call_place call) now) asked) (keeps ids call)) store (tcp2_at store.records (call_place call))
    (λ r. calls Code (λ s now. with_socket s (call_place call) now) (keeps ids call) store (k r) (λ answer s. gives _))

udp_stands : (ids : Ids) (call : StandingCall) (asked : OpenUdp → Asks (Result (Answer (Unit {0})) ErrorCode × OpenUdp)) (store : Records) → ((o : OpenUdp) → Unread (asked o)) → Unread (udp_stands_of ids call asked store)
udp_stands ids call asked store k =
    looks_up (λ o. block.goes_on (block.Call Code (λ s. o) (λ s now. with_open_udp s (call_place call) now) asked) (keeps ids call)) store (open_at store.records (call_place call))
    (λ o. calls Code (λ s now. with_open_udp s (call_place call) now) (keeps ids call) store (k o) (λ answer s. gives _))

relistens_at : (store : Records) (ids : Ids) (place : ℕ) (o : Option TcpRecord) → Unread (relisten_at store ids place o)
relistens_at store ids place None = gives _
relistens_at store ids place (Some r) = and_gives _ (listens_closed r (side_of r.inner))

makes_listener : (own : OpId) (handle : ℕ) (answer : Answer (Unit {0})) (m : Machine) → Unread (listened own handle answer m)
makes_listener own handle (Ready done) m =
    looks_up (λ place n. block.goes_on (block.Call trap_of (λ x. x.table) tabling (λ t. make_asks t own (kind.Listen3 place) (Some handle) (side_at (tcp2_at n.store.records place)))) (λ listener. block_give (Ready listener)) n) m (tcp3_at m handle)
    (λ place. calls trap_of tabling (λ listener. block_give (Ready listener)) m (marks m.table own (kind.Listen3 place) (Some handle) (side_at (tcp2_at m.store.records place))) (λ listener n. gives _))
makes_listener own handle Pending m = gives _

create_polls : (u : UdpRecord) → Unread (poll_create_asks u)
create_polls (udp.Creating create) = and_gives _ (polled create.operation)
create_polls _ = gives _

creates_at : (store : Records) (place : ℕ) (o : Option UdpRecord) → Unread (poll_create_at store place o)
creates_at store place None = gives _
creates_at store place (Some u) = and_gives _ (create_polls u)

marks_udp : (face : Interface) (m : Machine) (place : ℕ) (o : Option UdpRecord) → Unread (mark_udp face m place o)
marks_udp face m place None = gives _
marks_udp face m place (Some u) = and_gives _ (marks m.table _ _ _ _)

creates_so : (face : Interface) (ids : Ids) (place : ℕ) (m : Machine) (done : Result (Answer (Unit {0})) BaseStop × Records) → Unread (create_so face ids place m done)
creates_so face ids place m (Ok Pending, store) = gives _
creates_so face ids place m (Ok (Ready done), store) = marks_udp face (record m { store = store }) place (udp2_at store.records place)
creates_so face ids place m (Err why, store) = gives _

udp_binds : (o : OpenUdp) (p : UdpInProgress) → Unread (poll_udp_binding o p)
udp_binds o (udp_doing.Binding op) = and_gives _ (polled op)
udp_binds o _ = gives _

udp_connects : (o : OpenUdp) (c : Option Operation) → Unread (poll_udp_connecting o c)
udp_connects o None = gives _
udp_connects o (Some op) = and_gives _ (polled op)

udp_reconnects : (o : OpenUdp) (c : Option Operation) → Unread (udp_reconnecting o c)
udp_reconnects o None = gives _
udp_reconnects o (Some op) = and_gives _ (polled op)

remakes_at : (store : Records) (ids : Ids) (place handle : ℕ) (o : Option OpenUdp) → Unread (reconnect_udp_at store ids place handle o)
remakes_at store ids place handle None = gives _
remakes_at store ids place handle (Some o) = and_gives _ (udp_connects o o.connecting)

makes_outgoing : (m : Machine) (own : OpId) (handle place : ℕ) (side : Option OpId) (made : Result ℕ Stop × HandleTable) → Unread (outgoing_made m own handle place side made)
makes_outgoing m own handle place side (Ok incoming, t) = and_gives (second_made m incoming) (marks t own (kind.Outgoing place) (Some handle) side)
makes_outgoing m own handle place side (Err why, t) = gives _

marks_streams : (m : Machine) (own : OpId) (handle : ℕ) (o : Option ℕ) → Unread (mark_streams_of m own handle o)
marks_streams m own handle None = gives _
marks_streams m own handle (Some place) =
    let side : Option OpId = udp_side_at (udp2_at m.store.records place) in
    and_then (marks m.table own (kind.Incoming place) (Some handle) side) (λ made. makes_outgoing m own handle place side made)

makes_streams : (own : OpId) (handle : ℕ) (m : Machine) (done : Result (Answer (Unit {0})) Stop × Records) → Unread (streams_so own handle m done)
makes_streams own handle m (Ok Pending, store) = gives _
makes_streams own handle m (Ok (Ready done), store) = marks_streams (record m { store = store }) own handle (udp_of (kind_at m.table handle))
makes_streams own handle m (Err why, store) = gives _

-- it isn't of a stream
abbrev pub OfNoStream : StandingCall → Type 0
OfNoStream (standing.Blocking call) = ⊥
OfNoStream _ = ⊤

goes_on : (m : Machine) (ids : Ids) (call : StandingCall) → OfNoStream call → Unread (go_on m ids call)
goes_on m ids (standing.Bind place face) k = and_gives _ (stands ids (standing.Bind place face) _ m.store (λ r. and_gives _ (binds_on r r.in_progress)))
goes_on m ids (standing.Listen place (Some handle)) k =
    and_gives _ (calls same_stop storing (listened (own_of ids.line) handle) m (stands ids (standing.Listen place (Some handle)) relistens m.store (λ r. and_gives _ (listens_closed r (side_of r.inner)))) (makes_listener (own_of ids.line) handle))
goes_on m ids (standing.Listen place None) k = and_gives _ (relistens_at m.store ids place (tcp2_at m.store.records place))
goes_on m ids (standing.DropOutput place) k = and_gives _ (and_gives _ (waits_at m.store (own_of ids.line) place (tcp2_at m.store.records place)))
goes_on m ids (standing.UdpCreate place face) k = and_gives _ (and_then (creates_at m.store place (udp2_at m.store.records place)) (creates_so face ids place m))
goes_on m ids (standing.UdpBind place face) k = and_gives _ (udp_stands ids (standing.UdpBind place face) _ m.store (λ o. and_gives _ (udp_binds o o.in_progress)))
goes_on m ids (standing.UdpConnect place handle) k = and_gives _ (and_then (remakes_at m.store ids place handle (open_at m.store.records place)) (makes_streams (own_of ids.line) handle m))
goes_on m ids (standing.UdpConnect3 place) k = and_gives _ (udp_stands ids (standing.UdpConnect3 place) _ m.store (λ o. udp_reconnects o o.connecting))
goes_on m ids (standing.DropOutgoing place) k = gives _
goes_on m ids (standing.Blocking call) k = absurd k

-- == a call that stands beside others
datagram_drops : (line place : ℕ) (store : Records) → Unread (drop_datagram line place store)
datagram_drops line place store = let now : Records = unbeside store line in udp_lets_go (own_of line) place now (is_udp_held now place)

datagram_ends : {A : Type 0} (told : End → Result (Answer A) ErrorCode) (line place : ℕ) (call : Operation → BesideCall) (op : Operation) (ended : End × List Item) (store : Records) → Unread (polled_so told line place call op ended store)
datagram_ends told line place call op (Waits, items) store = gives _
datagram_ends told line place call op (Done given, items) store = and_gives _ (datagram_drops line place store)
datagram_ends told line place call op (Refused c given, items) store = and_gives _ (datagram_drops line place store)

datagram_polls : {A : Type 0} (told : End → Result (Answer A) ErrorCode) (polls : OpenUdp → Operation → Asks (End × List Item)) (line place : ℕ) (call : Operation → BesideCall) (op : Operation) (store : Records) → ((o : OpenUdp) → Unread (polls o op)) → Unread (goes_on_as told polls line place call op store)
datagram_polls told polls line place call op store k =
    looks_up (λ o. block.goes_on (block_polled (polls o op)) (polled_so told line place call op)) store (open_at store.records place)
    (λ o. calls (λ why. why) (λ s none. s) (polled_so told line place call op) store (and_gives (λ ended. (Ok ended, tt)) (k o)) (datagram_ends told line place call op))

goes_on_so : (m : Machine) (line : ℕ) (call : BesideCall) → Unread (go_on_beside m line call)
goes_on_so m line (beside.Connect place) =
    and_gives _ (and_gives _ (looks_up (λ r. block_last (block.Call Code (λ s. r) (λ s now. with_socket s place now) reconnects)) m.store (tcp2_at m.store.records place)
    (λ r. calls Code (λ s now. with_socket s place now) block_give m.store (and_gives _ (finishes_connect r.inner)) (λ a s. gives _))))
goes_on_so m line (beside.Resolve host) = and_gives _ (and_gives _ (and_gives _ (asks_one tt (λ told. gives _))))
goes_on_so m line (beside.Send place op) = and_gives _ (datagram_polls bind_answer send_polls line place (beside.Send place) op m.store (λ o. polled (at_remote o.inner.remote op)))
goes_on_so m line (beside.Receive place op) = and_gives _ (datagram_polls received_answer receive_polls line place (beside.Receive place) op m.store (λ o. polled (wanting None op)))

resumes_beside : (m : Machine) (n : ℕ) (o : Option Beside) → Unread (resume_beside m n o)
resumes_beside m n None = gives _
resumes_beside m n (Some b) = and_gives _ (goes_on_so m n b.call)

pub resumes : (m : Machine) (n : ℕ) (o : Option Standing) → ((s : Standing) → o ≡ Some s → OfNoStream s.call) → Unread (resume_call m n o)
resumes m n None k = resumes_beside m n (beside_of m.store n)
resumes m n (Some s) k = and_gives _ (goes_on (record m { store = unstood m.store }) s.ids s.call (k s refl))
