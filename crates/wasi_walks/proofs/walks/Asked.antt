-- What a line asks, as cases: a part of its tree, why the line may ask it, and where the line is by what the part gives.
use Rattle.wasi_walks.proofs.Words.{create_to, ErrorCode, Asks, Call, End, ErrorValue, Has, IsBacklogSet, Item, Kind, List, None, Not, OpId, Operation, Option}
use Rattle.wasi_walks.proofs.Words.{HandleTable, Result, SocketAddressFamily, Some, GuestCall, Step, Stop, Streams, Tcp2, TcpRecord, TcpState, Told, WasiSocketsCtx, WriteState}
use Rattle.wasi_walks.proofs.Words.{Entry, Machine, after_local, give_up_asks, make_asks, own_of, poll_asks, side_at, side_of}
use Rattle.wasi_walks.proofs.Words.{told_addr, told_done, true, turn_asks, with_inner, with_listening, with_writer, ℕ, ◌≡◌, ◌⊎◌}
use Rattle.std.specs.Prelude.{Ok, take}
use Rattle.wasi_world.specs.declared.outcome.Answer.{Answer}
use Rattle.wasi_tcp.specs.Halves.{write_asks}
use Rattle.wasi_tcp.specs.declared.halves.TcpSendStream.{TcpSendStream}
use Rattle.host_store.specs.declared.kind.ConnectionEnd.{ConnectionEnd}
use Rattle.wasi_world.specs.Asks.{one}
use Rattle.wasi_walks.proofs.walks.Moves.{Interface, P2, P3, tcp_kind, Calls, Creates, CreatesUdp, Found, FoundUdp, HasNewStream, Held, Here, IsCreated, IsKnown, IsOn, IsQuestionOf}
use Rattle.wasi_world.specs.Typed.{told_names}
use Rattle.wasi_walks.proofs.walks.Moves.{StartsDatagram, PollsDatagram, datagram_begun, datagram_polled, Faulted, IsUdpQuestionOf, Joined, ListenerGoes, LooksUp, Marks, MarksNext, NoStart, OfStreams, Past, Releases, ReleasesUdp}
use Rattle.wasi_walks.proofs.walks.Moves.{SameSockets, ToListen, ToResult, MakesEnds, ToSend, Unused, Used, closed_record, made_so, part_of, put, put_udp, record_of, udp_begun, with_beside, with_records}
use Rattle.wasi_walks.proofs.walks.Failures.{Fails}
use Rattle.host_store.specs.declared.beside.Beside.{Beside}
use Rattle.host_store.specs.declared.beside.BesideCall.{BesideCall}
use Rattle.host_store.specs.declared.beside.BesideCall.TheVariants.{Resolve}
use Rattle.host_store.specs.Beside.{beside_as, beside_of}
use Rattle.host_lookups.specs.Resolves.{begun_lookup}
use Rattle.host_store.specs.Kinds.{kind_at, send3_of, tcp3_of, udp_kind, udp_of}
use Rattle.host_store.specs.declared.kind.Kind.TheVariants.{Listen3, Result3, Tcp3}
use Rattle.tcp_records.specs.Holding.{has_listener}
use Rattle.wasi_walks.specs.Licence.{IsDisconnect}
use Rattle.host_udp.specs.UdpCreates.{udp_side_at}
use Rattle.wasi_records.specs.Records.{tcp2_at, udp2_at, lookup_at}
use Rattle.udp_records.specs.Udp.{udp_side, with_udp_inner}
use Rattle.lookup_records.specs.declared.name_lookup.Lookup.TheVariants as lookup
use Rattle.lookup_records.specs.declared.name_lookup.LookupOp.{LookupOp}
use Rattle.wasi_records.specs.declared.records.Record.{Record}
use Rattle.udp_records.specs.declared.udp.OpenUdp.{OpenUdp}
use Rattle.udp_records.specs.declared.udp.UdpRecord.{UdpRecord}
use Rattle.wasi_udp.specs.Create.{Create, create_cancel_asks, after_create as udp_after_create}
use Rattle.wasi_udp.specs.Socket.{after_local as udp_after_local, after_peer}
use Rattle.wasi_steps.specs.declared.guest_call.TcpCall.{TcpCall}
use Rattle.wasi_steps.specs.declared.guest_call.P3TcpCall.{P3TcpCall}

pub data Asked (contexts : List WasiSocketsCtx) (line : ℕ) (origin : Step) (es : List Entry) (h : Here) : (A : Type 0) → Asks A → (A → Here) → Type 1 where
  -- one call on the record that the line works on
  Questions : (place n : ℕ) (r : TcpRecord) (side : OpId) (c : Call) → h.at ≡ Some (place, n) → Found h place r
      → IsOn r side → IsQuestionOf line origin n side c × IsKnown r c
      → Asked contexts line origin es h Told (one (own_of n) c) (λ told. h)
  SetsBacklog : (place : ℕ) (r : TcpRecord) (side : OpId) (backlog : ℕ) → h.at ≡ Some (place, line) → Found h place r
      → r.inner.state ≡ TcpState.Listening side → IsBacklogSet backlog origin
      → Asked contexts line origin es h Told (one (own_of line) (Call.SetBacklog side backlog)) (λ told. h)
  Learns : (place : ℕ) (r : TcpRecord) (side : OpId) → h.at ≡ Some (place, line) → Found h place r
      → r.inner.state ≡ TcpState.Default side
      → Asked contexts line origin es h Told (one (own_of line) (Call.Local side))
      (λ told. put h place (with_inner r (after_local r.inner (told_addr told)).1))
  Closes : (place : ℕ) (r : TcpRecord) (side : OpId) → Releases h place → Found h place r
      → side_of r.inner ≡ Some side → Asked contexts line origin es h Told (one (own_of line) (Call.Close side))
      (λ told. put h place (closed_record r))
  UdpQuestions : (place n : ℕ) (o : OpenUdp) (c : Call) → h.at ≡ Some (place, n)
      → FoundUdp h place (UdpRecord.Open o) → IsUdpQuestionOf line origin n o.inner.side c
      → Asked contexts line origin es h Told (one (own_of n) c) (λ told. h)
  UdpLearns : (place part : ℕ) (o : OpenUdp) → h.at ≡ Some (place, line) → FoundUdp h place (UdpRecord.Open o)
      → Asked contexts line origin es h Told (one (part_of line part) (Call.Local o.inner.side))
      (λ told. put_udp h place (UdpRecord.Open (with_udp_inner o (udp_after_local o.inner (told_addr told)).1)))
  UdpDisconnects : (place : ℕ) (o : OpenUdp) → h.at ≡ Some (place, line) → FoundUdp h place (UdpRecord.Open o)
      → IsDisconnect origin
      → Asked contexts line origin es h Told (one (own_of line) (Call.UdpDisconnect o.inner.side))
      (λ told. put_udp h place (UdpRecord.Open (with_udp_inner o (record o.inner { bound = true }))))
  UdpPeers : (place : ℕ) (o : OpenUdp) → h.at ≡ Some (place, line) → FoundUdp h place (UdpRecord.Open o)
      → Asked contexts line origin es h Told (one (own_of line) (Call.Peer o.inner.side))
      (λ told. put_udp h place (UdpRecord.Open (with_udp_inner o (after_peer o.inner (told_addr told)))))
  UdpCloses : (place n : ℕ) (o : OpenUdp) → ReleasesUdp h place → FoundUdp h place (UdpRecord.Open o)
      → Asked contexts line origin es h Told (one (own_of n) (Call.Close o.inner.side))
      (λ told. put_udp h place (UdpRecord.Closed o.inner.side))
  UdpBegins : (face : Interface) (ctx : WasiSocketsCtx) (family : SocketAddressFamily) → CreatesUdp contexts ctx family face origin
      → ctx.udp ≡ true → h.at ≡ None → h.own ≡ Unused → h.made ≡ Past
      → Asked contexts line origin es h Told (one (own_of line) (Call.UdpCreate ctx.name family))
      (λ told. udp_begun h (udp_after_create (own_of line) ctx.name family (told_done told)))
  Resolves : (host : List ℕ) (records : Told → List Record) → LooksUp contexts host origin
      → ((told : Told) → SameSockets (λ op. op ≡ record { id = own_of line; host = host }) h.machine.store.records
      (records told))
      → Asked contexts line origin es h Told (one (own_of line) (Call.Lookup host))
      (λ told. with_records h (records told))
  Looks : (place : ℕ) (op : LookupOp) → lookup_at h.machine.store.records place ≡ Some (lookup.InProgress op)
      → Asked contexts line origin es h Told (one op.id (Call.Lookup op.host)) (λ told. h)
  -- one of 0.3 stands beside other calls while it is pending, and is asked about again
  ResolvesBeside : (host : List ℕ) → LooksUp contexts host origin
      → Asked contexts line origin es h Told (one (own_of line) (Call.Lookup host))
      (λ told. with_beside h (begun_lookup h.machine.store.beside (beside_as line (Resolve host)) (Ok (told_names told))))
  LooksBeside : (n : ℕ) (b : Beside) (host : List ℕ) → beside_of h.machine.store n ≡ Some b → b.call ≡ Resolve host
      → Asked contexts line origin es h Told (one (own_of n) (Call.Lookup host)) (λ told. h)
  -- a handle is made
  MarksOne : (kind : Kind) (parent : Option ℕ) (sock : Option OpId) → Marks origin h kind parent sock
      → Asked contexts line origin es h (Result ℕ Stop × HandleTable)
      (make_asks h.machine.table (own_of line) kind parent sock)
      (λ made. record h { machine = record h.machine { table = made.1 } })
  MarksAccepted : (c listener place : ℕ) (r : TcpRecord) → origin ≡ Step.Call c (GuestCall.Tcp (TcpCall.Accept listener)) → h.made ≡ Joined P2 place
      → h.own ≡ Used → Found h place r
      → Asked contexts line origin es h (Result ℕ Stop × HandleTable)
      (make_asks h.machine.table (own_of line) (Tcp2 place) (Some listener)
      (side_at (tcp2_at h.machine.store.records place)))
      (λ made. record h { machine = record h.machine { table = made.1 }; made = made_so place made.0 })
  MarksPlain : (c listener remaining place : ℕ) (r : TcpRecord) → origin ≡ Step.Call c (GuestCall.P3Tcp (P3TcpCall.Accept listener remaining))
      → (h.made ≡ Joined P3 place) ⊎ (h.made ≡ Faulted place) → h.own ≡ Used → Found h place r
      → Asked contexts line origin es h (Result ℕ Stop × HandleTable)
      (make_asks h.machine.table (own_of line) (Tcp3 place) (Some listener)
      (side_at (tcp2_at h.machine.store.records place)))
      (λ made. record h { machine = record h.machine { table = made.1 }; made = Past })
  MarksListener : (n handle reached place : ℕ) (r : TcpRecord) → NoStart h → h.made ≡ ToListen n (Some handle) reached
      → Found h reached r → has_listener r.listening ≡ true → tcp3_of (kind_at h.machine.table handle) ≡ Some place
      → Asked contexts line origin es h (Result ℕ Stop × HandleTable)
      (make_asks h.machine.table (own_of n) (Listen3 place) (Some handle)
      (side_at (tcp2_at h.machine.store.records place)))
      (λ made. record h { machine = record h.machine { table = made.1 }; made = Past })
  MarksResult : (socket place slot : ℕ) (r : TcpRecord) → MakesEnds socket origin → h.made ≡ ToResult slot
      → kind_at h.machine.table socket ≡ Some (Tcp3 place) → Found h place r
      → Asked contexts line origin es h (Result ℕ Stop × HandleTable)
      (make_asks h.machine.table (own_of line) (Result3 slot) (Some socket)
      (side_at (tcp2_at h.machine.store.records place)))
      (λ made. record h { machine = record h.machine { table = made.1 }; made = Past })
  MarksUdp : (face : Interface) (place : ℕ) (u : UdpRecord) → IsCreated h face place u
      → Asked contexts line origin es h (Result ℕ Stop × HandleTable)
      (make_asks h.machine.table (udp_side u) (udp_kind face place) None (Some (udp_side u)))
      (λ made. record h { machine = record h.machine { table = made.1 }; made = Past })
  MarksStream : (place n handle reached : ℕ) (kind : Kind) → MarksNext h.made n handle reached kind place
      → HasNewStream h.machine.store reached → udp_of (kind_at h.machine.table handle) ≡ Some place
      → Asked contexts line origin es h (Result ℕ Stop × HandleTable)
      (make_asks h.machine.table (own_of n) kind (Some handle) (udp_side_at (udp2_at h.machine.store.records place)))
      (λ made. record h { machine = record h.machine { table = made.1 }; made = ToSend n handle reached })
  MarksError : (n handle place : ℕ) (handles : List ℕ) → h.made ≡ Calls OfStreams n handles → Has handles handle
      → record_of (kind_at h.machine.table handle) ≡ Some place → Fails es h.machine n handle place
      → Asked contexts line origin es h (Result ℕ Stop × HandleTable)
      (make_asks h.machine.table (own_of n) ErrorValue (Some handle)
      (side_at (tcp2_at h.machine.store.records place)))
      (λ made. record h { machine = record h.machine { table = made.1 } })
  -- a write of 0.3 offers its bytes once, by the half of its end
  WritesOnce : (c handle place : ℕ) (given : List ℕ) (end : ConnectionEnd) (r : TcpRecord) (s : Streams) (half : TcpSendStream) (permit : ℕ)
      → origin ≡ Step.Call c (GuestCall.P3Tcp (P3TcpCall.Write handle given)) → send3_of (kind_at h.machine.table handle) ≡ Some end
      → end.socket ≡ Some place → h.at ≡ Some (place, line) → Found h place r → r.streams ≡ Some s
      → s.writer ≡ WriteState.Ready half permit → h.own ≡ Unused
      → Asked contexts line origin es h (Result (Answer ℕ) ErrorCode)
      (write_asks (own_of line) half.side (take 4294967295 given)) (λ told. record h { own = Used })
  -- several calls
  AsksCreate : {T : Type 0} (tells : Result ℕ Stop → T) (fails : ErrorCode → T) (face : Interface)
      (ctx : WasiSocketsCtx) (family : SocketAddressFamily) → Creates contexts ctx family face origin
      → h.at ≡ None → h.own ≡ Unused → h.made ≡ Past
      → Asked contexts line origin es h (T × Machine) (create_to tells fails (tcp_kind face) h.machine (own_of line) ctx family)
      (λ done. record h { machine = done.1; own = Used })
  Polls : (op : Operation) (after : End × List Item → Here) → Held h op after
      → Asked contexts line origin es h (End × List Item) (poll_asks op) after
  -- a datagram of 0.3 begins, and is polled
  BeginsDatagram : (place : ℕ) (o : OpenUdp) (call : Operation → BesideCall) (op polled : Operation) → h.at ≡ Some (place, line)
      → FoundUdp h place (UdpRecord.Open o) → StartsDatagram line origin h.machine.table place o call op polled → h.made ≡ Past → h.own ≡ Unused
      → Asked contexts line origin es h (End × List Item) (poll_asks polled)
      (λ ended. record (with_beside h (datagram_begun h.machine.store.beside line call op ended)) { own = Used })
  -- and is polled again by its number, where it stands
  PollsBeside : (n : ℕ) (b : Beside) (place : ℕ) (o : OpenUdp) (call : Operation → BesideCall) (op polled : Operation) → origin ≡ Step.Poll n
      → beside_of h.machine.store n ≡ Some b → FoundUdp h place (UdpRecord.Open o) → PollsDatagram place o b.call call op polled
      → Asked contexts line origin es h (End × List Item) (poll_asks polled)
      (λ ended. with_beside h (datagram_polled h.machine.store.beside n call op ended))
  Turns : (place : ℕ) (r : TcpRecord) (s : Streams) → Found h place r → r.streams ≡ Some s
      → Asked contexts line origin es h (Unit {0} × WriteState) (turn_asks s.writer)
      (λ done. put h place (with_writer r s done.1))
  GivesUp : (place : ℕ) (r : TcpRecord) → NoStart h → ListenerGoes h place r → Found h place r
      → Asked contexts line origin es h (Unit {0}) (give_up_asks r.listening)
      (λ done. put h place (with_listening r Not))
  UdpGivesUp : (place : ℕ) (create : Create) → NoStart h → FoundUdp h place (UdpRecord.Creating create)
      → Asked contexts line origin es h (Unit {0}) (create_cancel_asks create)
      (λ done. put_udp h place (UdpRecord.Closed create.operation.who.side))
