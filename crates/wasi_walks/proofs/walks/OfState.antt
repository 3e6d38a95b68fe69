-- A law of the state alone, which says nothing of the log: what each move keeps, what each thing that is asked leaves, and what a poll
-- does.
use Rattle.wasi_walks.proofs.Words.{made_to, create_to, Allows, Asks, End, Entry, Err, ErrorValue, Has, HandleTable, Item, Kind, List, None, Not, Ok, OpId, Operation, Option}
use Rattle.wasi_walks.proofs.Words.{ErrorCode, Result, SocketAddressFamily, Some, GuestCall, Step, Streams, Tcp2, TcpRecord, TcpState, Told, WasiSocketsCtx, Socket}
use Rattle.wasi_walks.proofs.Words.{after_create, after_local, allows_if, allows_then, allows_weaker, bind, is_full, length, make_asks, new_asks, new_socket, own_of, poll_asks, side_of, told_addr, told_done, turn_asks, with_handle, with_inner, with_listening, with_record, with_writer, ℕ, ◌≡◌, refl, subst, sym}
use Rattle.wasi_walks.proofs.Words.{Full, Stop, Trap}
use Rattle.std.specs.Prelude.{true, ⊤, ◌⊎◌}
use Rattle.wasi_walks.proofs.fits.Polls.{Anything}
use Rattle.wasi_walks.proofs.Gives.{gives_any, gives_where}
use Rattle.wasi_walks.proofs.fits.DatagramPolls.{LeavesReceive, LeavesSend, receive_leaves, send_leaves, wanted_left}
use Rattle.wasi_walks.proofs.fits.UdpFits.{begun_receive, begun_send, learnt_side}
use Rattle.wasi_walks.proofs.walks.Asked.{Asked, Questions, SetsBacklog, Learns, Closes, UdpQuestions, UdpDisconnects, UdpLearns, UdpPeers, UdpCloses, UdpBegins, Resolves, ResolvesBeside, BeginsDatagram, PollsBeside, Looks, LooksBeside, MarksOne, MarksAccepted, MarksUdp, MarksStream, MarksError, AsksCreate, MarksListener, MarksPlain, MarksResult, WritesOnce, Polls, Turns, GivesUp, UdpGivesUp}
use Rattle.wasi_walks.proofs.walks.Law.{BeginsIn, BeginsWrites, Rests}
use Rattle.wasi_walks.proofs.walks.Moves.{Interface, P2, P3, Faulted, ListenerGoes, ToListen, ToResult, MakesEnds, tcp_kind, Calls, Creates, CreatesUdp, Found, FoundUdp, HasNewStream, Held, Here, IsCreated, Joined, LooksUp, Made, Marked, Marks, MarksNext, Move}
use Rattle.wasi_walks.proofs.walks.Moves.{PollsDatagram, PollsSend, PollsReceive, StartsDatagram, StartsSend, StartsReceive, datagram_begun, datagram_polled, NoStart, OfStreams, Past, Releases, ReleasesUdp, SameSockets, Spends, ToSend, Unused, Used, closed_record, put, put_udp, record_of, udp_begun, with_beside, with_records}
use Rattle.host_store.specs.declared.beside.BesideCall.{BesideCall}
use Rattle.host_store.specs.declared.beside.BesideCall.TheVariants.{Resolve}
use Rattle.host_store.specs.Beside.{beside_as, beside_of}
use Rattle.host_store.specs.declared.beside.Beside.{Beside}
use Rattle.host_lookups.specs.Resolves.{begun_lookup}
use Rattle.host_store.specs.Kinds.{udp_kind, kind_at, tcp3_of, udp_of}
use Rattle.host_store.specs.declared.kind.Kind.TheVariants.{Listen3, Result3, Tcp3}
use Rattle.tcp_records.specs.Holding.{has_listener}
use Rattle.udp_records.specs.Udp.{with_udp_inner}
use Rattle.wasi_records.specs.declared.records.Record.{Record}
use Rattle.udp_records.specs.declared.udp.OpenUdp.{OpenUdp}
use Rattle.udp_records.specs.declared.udp.UdpRecord.{UdpRecord}
use Rattle.wasi_udp.specs.Create.{Create, after_create as udp_after_create}
use Rattle.wasi_udp.specs.Receive.{IsLeftOfReceive, receive_start, wanting}
use Rattle.wasi_udp.specs.Send.{IsLeftOfSend, at_remote, send_start}
use Rattle.wasi_udp.specs.Shape.{Socket as UdpSocket}
use Rattle.wasi_world.specs.Typed.{told_names}
use Rattle.wasi_udp.specs.Socket.{after_local as udp_after_local, after_peer}
use Rattle.wasi_steps.specs.declared.guest_call.TcpCall.{TcpCall}
use Rattle.wasi_steps.specs.declared.guest_call.P3TcpCall.{P3TcpCall}

-- a handle is made, which is of this kind under this parent; what the line has made is this then
pub data Handles (origin : Step) (h : Here) : Kind → Option ℕ → Made → Type 0 where
  OfLine : (kind : Kind) (parent : Option ℕ) (sock : Option OpId) → Marks origin h kind parent sock
      → Handles origin h kind parent h.made
  OfAccepted : (c listener place : ℕ) (r : TcpRecord) → origin ≡ Step.Call c (GuestCall.Tcp (TcpCall.Accept listener)) → h.made ≡ Joined P2 place
      → h.own ≡ Used → Found h place r → Handles origin h (Tcp2 place) (Some listener)
      (Marked h.machine.table.next place)
  OfPlain : (c listener remaining place : ℕ) (r : TcpRecord) → origin ≡ Step.Call c (GuestCall.P3Tcp (P3TcpCall.Accept listener remaining))
      → (h.made ≡ Joined P3 place) ⊎ (h.made ≡ Faulted place) → h.own ≡ Used → Found h place r
      → Handles origin h (Tcp3 place) (Some listener) Past
  OfListener : (n handle reached place : ℕ) (r : TcpRecord) → NoStart h → h.made ≡ ToListen n (Some handle) reached
      → Found h reached r → has_listener r.listening ≡ true → tcp3_of (kind_at h.machine.table handle) ≡ Some place
      → Handles origin h (Listen3 place) (Some handle) Past
  OfResult : (socket place slot : ℕ) (r : TcpRecord) → MakesEnds socket origin → h.made ≡ ToResult slot
      → kind_at h.machine.table socket ≡ Some (Tcp3 place) → Found h place r
      → Handles origin h (Result3 slot) (Some socket) Past
  OfCreated : (face : Interface) (place : ℕ) (u : UdpRecord) → IsCreated h face place u → Handles origin h (udp_kind face place) None Past
  OfStream : (place n handle reached : ℕ) (kind : Kind) → MarksNext h.made n handle reached kind place
      → HasNewStream h.machine.store reached → udp_of (kind_at h.machine.table handle) ≡ Some place
      → Handles origin h kind (Some handle) (ToSend n handle reached)
  OfError : (n handle place : ℕ) (handles : List ℕ) → h.made ≡ Calls OfStreams n handles → Has handles handle
      → record_of (kind_at h.machine.table handle) ≡ Some place → Handles origin h ErrorValue (Some handle) h.made

-- what the line has made where there was no room for a handle
abbrev pub HasNoRoom : Made → Type 0
HasNoRoom Past = ⊤
HasNoRoom (ToSend n handle reached) = ⊤
HasNoRoom _ = ⊥

-- a socket that is created joins the records
abbrev pub creating : Here → OpId → WasiSocketsCtx → SocketAddressFamily → Here
creating h own ctx family = record h { machine = record h.machine { store = with_record h.machine.store (new_socket own ctx.name family) }; own = Used }

-- what is left of a datagram that begins once it was polled, and of one that was pending
abbrev pub LeavesDatagram : {line : ℕ} {origin : Step} {t : HandleTable} {place : ℕ} {o : OpenUdp} {call : Operation → BesideCall} {op polled : Operation}
    → StartsDatagram line origin t place o call op polled → End × List Item → Type 0
LeavesDatagram (StartsSend c s d bound is at known) ended = LeavesSend ended
LeavesDatagram (StartsReceive c s bound is at known) ended = LeavesReceive ended

abbrev pub LeavesPolled : {place : ℕ} {o : OpenUdp} {was : BesideCall} {call : Operation → BesideCall} {op polled : Operation}
    → PollsDatagram place o was call op polled → End × List Item → Type 0
LeavesPolled (PollsSend op) ended = IsLeftOfSend op.left → LeavesSend ended
LeavesPolled (PollsReceive op) ended = IsLeftOfReceive op.left → LeavesReceive ended

-- what something that is asked leaves
pub data Becomes (contexts : List WasiSocketsCtx) (line : ℕ) (origin : Step) (h : Here) : Here → Type 0 where
  Learnt : (place : ℕ) (r : TcpRecord) (side : OpId) (told : Told) → h.at ≡ Some (place, line) → Found h place r
      → r.inner.state ≡ TcpState.Default side
      → Becomes contexts line origin h (put h place (with_inner r (after_local r.inner (told_addr told)).1))
  IsClosed : (place : ℕ) (r : TcpRecord) (side : OpId) → Releases h place → Found h place r
      → side_of r.inner ≡ Some side → Becomes contexts line origin h (put h place (closed_record r))
  GivenUp : (place : ℕ) (r : TcpRecord) → NoStart h → ListenerGoes h place r → Found h place r
      → Becomes contexts line origin h (put h place (with_listening r Not))
  UdpLearnt : (place : ℕ) (o : OpenUdp) (socket : UdpSocket) → FoundUdp h place (UdpRecord.Open o)
      → socket.side ≡ o.inner.side → Becomes contexts line origin h
      (put_udp h place (UdpRecord.Open (with_udp_inner o socket)))
  UdpIsClosed : (place : ℕ) (o : OpenUdp) → ReleasesUdp h place → FoundUdp h place (UdpRecord.Open o)
      → Becomes contexts line origin h (put_udp h place (UdpRecord.Closed o.inner.side))
  UdpGivenUp : (place : ℕ) (create : Create) → NoStart h → FoundUdp h place (UdpRecord.Creating create)
      → Becomes contexts line origin h (put_udp h place (UdpRecord.Closed create.operation.who.side))
  UdpBegun : (face : Interface) (ctx : WasiSocketsCtx) (family : SocketAddressFamily) (r : Result (Unit {0}) ErrorCode)
      → CreatesUdp contexts ctx family face origin → h.own ≡ Unused → h.made ≡ Past
      → Becomes contexts line origin h (udp_begun h (udp_after_create (own_of line) ctx.name family r))
  Resolved : (host : List ℕ) (records : List Record) → LooksUp contexts host origin
      → SameSockets (λ op. op ≡ record { id = own_of line; host = host }) h.machine.store.records records
      → Becomes contexts line origin h (with_records h records)
  StandsOn : (host : List ℕ) (told : Told) → Becomes contexts line origin h
      (with_beside h (begun_lookup h.machine.store.beside (beside_as line (Resolve host)) (Ok (told_names told))))
  DatagramBegan : (place : ℕ) (o : OpenUdp) (call : Operation → BesideCall) (op polled : Operation) (ended : End × List Item)
      → h.at ≡ Some (place, line) → FoundUdp h place (UdpRecord.Open o)
      → (starts : StartsDatagram line origin h.machine.table place o call op polled) → h.made ≡ Past → h.own ≡ Unused
      → LeavesDatagram starts ended → Becomes contexts line origin h
      (record (with_beside h (datagram_begun h.machine.store.beside line call op ended)) { own = Used })
  DatagramPolled : (n : ℕ) (b : Beside) (place : ℕ) (o : OpenUdp) (call : Operation → BesideCall) (op polled : Operation) (ended : End × List Item)
      → origin ≡ Step.Poll n → beside_of h.machine.store n ≡ Some b → FoundUdp h place (UdpRecord.Open o)
      → (polls : PollsDatagram place o b.call call op polled) → LeavesPolled polls ended → Becomes contexts line origin h
      (with_beside h (datagram_polled h.machine.store.beside n call op ended))
  HasHandle : (kind : Kind) (parent : Option ℕ) (made : Made) → Handles origin h kind parent made
      → Becomes contexts line origin h (record h
      { machine = record h.machine { table = with_handle h.machine.table kind parent }; made = made })
  NoRoom : (made : Made) → HasNoRoom made → Becomes contexts line origin h (record h { made = made })
  Created : (face : Interface) (ctx : WasiSocketsCtx) (family : SocketAddressFamily)
      → Creates contexts ctx family face origin
      → h.own ≡ Unused → h.made ≡ Past → Becomes contexts line origin h (creating h (own_of line) ctx family)
  CreatedWith : (face : Interface) (ctx : WasiSocketsCtx) (family : SocketAddressFamily)
      → Creates contexts ctx family face origin
      → h.own ≡ Unused → h.made ≡ Past
      → Becomes contexts line origin h (record (creating h (own_of line) ctx family) {
        machine = record (creating h (own_of line) ctx family).machine
            { table = with_handle h.machine.table (tcp_kind face (length h.machine.store.records)) None };
      })
  Writing : (now : Here) → BeginsIn h now → Becomes contexts line origin h now

pub record OfState (contexts : List WasiSocketsCtx) (line : ℕ) (origin : Step) (B : List Entry → Here → Type 0) : Type 1 where
  pub Holds : Here → Type 0
  pub moves : (es : List Entry) (h now : Here) → Move line origin h now → B es h → Holds h → Holds now
  pub becomes : (es : List Entry) (h now : Here) → Becomes contexts line origin h now → B es h → Holds h → Holds now
  pub polls : (es : List Entry) (h : Here) (op : Operation) (after : End × List Item → Here) → Held h op after
      → B es h → Holds h → Allows Anything (λ fs ended. Holds (after ended)) es (poll_asks op)
  pub turns : (es : List Entry) (h : Here) (place : ℕ) (r : TcpRecord) (s : Streams) → Found h place r
      → r.streams ≡ Some s → B es h → Holds h
      → Allows Anything (λ fs done. Holds (put h place (with_writer r s done.1))) es (turn_asks s.writer)

abbrev IsNewSocket : Socket → Result Socket ErrorCode → Type 0
IsNewSocket new (Ok socket) = socket ≡ new
IsNewSocket new (Err c) = ⊤

leaves_datagram : {line : ℕ} {origin : Step} {t : HandleTable} {place : ℕ} {o : OpenUdp} {call : Operation → BesideCall} {op polled : Operation}
    → (starts : StartsDatagram line origin t place o call op polled) (es : List Entry) → Allows Anything (λ fs ended. LeavesDatagram starts ended) es (poll_asks polled)
leaves_datagram {line} {o = o} (StartsSend c s d bound is at known) es =
    let op : Operation = send_start (own_of line) o.inner d.bytes d.remote_address bound in
    send_leaves (at_remote o.inner.remote op) (begun_send (own_of line) o.inner d.bytes d.remote_address bound).send.left es
leaves_datagram {line} {o = o} (StartsReceive c s bound is at known) es =
    let op : Operation = receive_start (own_of line) o.inner bound in
    receive_leaves (wanting None op) (wanted_left None op.left (begun_receive (own_of line) o.inner bound).receive.left) es

leaves_polled : {place : ℕ} {o : OpenUdp} {was : BesideCall} {call : Operation → BesideCall} {op polled : Operation}
    → (polls : PollsDatagram place o was call op polled) (es : List Entry) → Allows Anything (λ fs ended. LeavesPolled polls ended) es (poll_asks polled)
leaves_polled {o = o} (PollsSend op) es =
    let polled : Operation = at_remote o.inner.remote op in
    gives_where (IsLeftOfSend op.left) (λ fs ended. LeavesSend ended) es (poll_asks polled) (λ left. send_leaves polled left es)
leaves_polled (PollsReceive op) es =
    let polled : Operation = wanting None op in
    gives_where (IsLeftOfReceive op.left) (λ fs ended. LeavesReceive ended) es (poll_asks polled) (λ left. receive_leaves polled (wanted_left None op.left left) es)

module _ {contexts : List WasiSocketsCtx} {line : ℕ} {origin : Step} {B : List Entry → Here → Type 0} (a : OfState contexts line origin B) where
  -- a handle is made, or there is no room for it
  makes : (es : List Entry) (op : OpId) (t : HandleTable) (kind : Kind) (parent : Option ℕ) (sock : Option OpId)
      (end : Result ℕ Stop × HandleTable → Here) → a.Holds (end (Err (Trap Full), t))
      → a.Holds (end (Ok t.next, with_handle t kind parent))
      → Allows Anything (λ fs made. a.Holds (end made)) es (make_asks t op kind parent sock)
  unfolding bind
  makes es op t kind parent sock end none some =
      allows_if Anything (λ fs made. a.Holds (end made)) es (is_full t) _ _ (λ full. none)
      (λ room. (tt, λ told fits. some))

  new_is : (es : List Entry) (ctx : WasiSocketsCtx) (family : SocketAddressFamily)
      → Allows Anything (λ fs made. IsNewSocket (new_socket (own_of line) ctx.name family) made) es
      (new_asks (own_of line) ctx family)
  unfolding bind
  new_is es ctx family =
      allows_if Anything (λ fs made. IsNewSocket (new_socket (own_of line) ctx.name family) made) es ctx.tcp _ _
      (λ tcp. (tt, λ t f. by_told (told_done t))) (λ other. tt)
    where
      by_told : (r : Result (Unit {0}) ErrorCode)
          → IsNewSocket (new_socket (own_of line) ctx.name family) (after_create (own_of line) ctx.name family r)
      by_told (Ok done) = refl
      by_told (Err c) = tt

  joins : {T : Type 0} (tells : Result ℕ Stop → T) (fails : ErrorCode → T) (face : Interface) (es : List Entry) (h : Here) (ctx : WasiSocketsCtx) (family : SocketAddressFamily)
      (made : Result Socket ErrorCode) → IsNewSocket (new_socket (own_of line) ctx.name family) made
      → Creates contexts ctx family face origin → h.own ≡ Unused → h.made ≡ Past → B es h → a.Holds h
      → (fs : List Entry) → Allows Anything (λ gs done. a.Holds (record h { machine = done.1; own = Used })) fs
      (made_to tells fails (tcp_kind face) h.machine (own_of line) made)
  joins tells fails face es h ctx family (Err e) k c u m b i fs = a.moves es h _ (Spends h u) b i
  joins tells fails face es h ctx family (Ok socket) k c u m b i fs =
      let now : Here = creating h (own_of line) ctx family in
      let at : HandleTable → Here = λ t. record now { machine = record now.machine { table = t } } in
      subst (λ (x : Socket). Allows Anything (λ gs done. a.Holds (record h { machine = done.1; own = Used })) fs
      (made_to tells fails (tcp_kind face) h.machine (own_of line) (Ok x))) (sym k)
      (allows_then Anything (λ gs made. a.Holds (at made.1))
      (λ gs done. a.Holds (record h { machine = done.1; own = Used })) fs
      (make_asks h.machine.table (own_of line) (tcp_kind face (length h.machine.store.records)) None (Some (own_of line))) _
      (makes fs (own_of line) h.machine.table (tcp_kind face (length h.machine.store.records)) None (Some (own_of line))
      (λ made. at made.1) (a.becomes es h _ (Created face ctx family c u m) b i)
      (a.becomes es h _ (CreatedWith face ctx family c u m) b i)) (λ gs made l. l))

  created : {T : Type 0} (tells : Result ℕ Stop → T) (fails : ErrorCode → T) (face : Interface) (es : List Entry)
      (h : Here) (ctx : WasiSocketsCtx) (family : SocketAddressFamily)
      → Creates contexts ctx family face origin → h.own ≡ Unused → h.made ≡ Past → B es h → a.Holds h
      → Allows Anything (λ fs done. a.Holds (record h { machine = done.1; own = Used })) es
      (create_to tells fails (tcp_kind face) h.machine (own_of line) ctx family)
  created tells fails face es h ctx family c u m b i =
      allows_then Anything (λ fs made. IsNewSocket (new_socket (own_of line) ctx.name family) made)
      (λ fs done. a.Holds (record h { machine = done.1; own = Used })) es (new_asks (own_of line) ctx family)
      (made_to tells fails (tcp_kind face) h.machine (own_of line)) (new_is es ctx family)
      (λ fs made k. joins tells fails face es h ctx family made k c u m b i fs)

  pub asks : (es : List Entry) (h : Here) (A : Type 0) (tree : Asks A) (end : A → Here)
      → Asked contexts line origin es h A tree end → B es h → a.Holds h
      → Allows Anything (λ fs x. a.Holds (end x)) es tree
  asks es h _ _ _ (Questions place n r side c at g o q) b i = (tt, λ told fits. i)
  asks es h _ _ _ (SetsBacklog place r side backlog at g s is) b i = (tt, λ told fits. i)
  asks es h _ _ _ (Learns place r side at g e) b i =
      (tt, λ told fits. a.becomes es h _ (Learnt place r side told at g e) b i)
  asks es h _ _ _ (Closes place r side q g e) b i =
      (tt, λ told fits. a.becomes es h _ (IsClosed place r side q g e) b i)
  asks es h _ _ _ (UdpQuestions place n o c at g q) b i = (tt, λ told fits. i)
  asks es h _ _ _ (UdpLearns place part o at g) b i = (
    tt,
    λ told fits. a.becomes es h _ (UdpLearnt place o (udp_after_local o.inner (told_addr told)).1 g
        (learnt_side o.inner (told_addr told))) b i,
  )
  asks es h _ _ _ (UdpDisconnects place o at g is) b i =
      (tt, λ told fits. a.becomes es h _ (UdpLearnt place o (record o.inner { bound = true }) g refl) b i)
  asks es h _ _ _ (UdpPeers place o at g) b i =
      (tt, λ told fits. a.becomes es h _ (UdpLearnt place o (after_peer o.inner (told_addr told)) g refl) b i)
  asks es h _ _ _ (UdpCloses place n o q g) b i = (tt, λ told fits. a.becomes es h _ (UdpIsClosed place o q g) b i)
  asks es h _ _ _ (UdpBegins face ctx family c may t o m) b i =
      (tt, λ told fits. a.becomes es h _ (UdpBegun face ctx family (told_done told) c o m) b i)
  asks es h _ _ _ (Resolves host records l s) b i =
      (tt, λ told fits. a.becomes es h _ (Resolved host (records told) l (s told)) b i)
  asks es h _ _ _ (Looks place op e) b i = (tt, λ told fits. i)
  asks es h _ _ _ (ResolvesBeside host l) b i = (tt, λ told fits. a.becomes es h _ (StandsOn host told) b i)
  asks es h _ _ _ (LooksBeside n call host g e) b i = (tt, λ told fits. i)
  asks es h _ _ end (MarksOne kind parent sock m) b i =
      makes es _ h.machine.table kind parent sock end i
      (a.becomes es h _ (HasHandle kind parent h.made (OfLine kind parent sock m)) b i)
  asks es h _ _ end (MarksAccepted c listener place r is e o g) b i =
      makes es _ h.machine.table _ _ _ end (a.becomes es h _ (NoRoom Past tt) b i)
      (a.becomes es h _ (HasHandle _ _ _ (OfAccepted c listener place r is e o g)) b i)
  asks es h _ _ end (MarksPlain c listener remaining place r is e o g) b i =
      makes es _ h.machine.table _ _ _ end (a.becomes es h _ (NoRoom Past tt) b i)
      (a.becomes es h _ (HasHandle _ _ _ (OfPlain c listener remaining place r is e o g)) b i)
  asks es h _ _ end (MarksListener n handle reached place r q m g has e) b i =
      makes es _ h.machine.table _ _ _ end (a.becomes es h _ (NoRoom Past tt) b i)
      (a.becomes es h _ (HasHandle _ _ _ (OfListener n handle reached place r q m g has e)) b i)
  asks es h _ _ end (MarksResult socket place slot r is made e g) b i =
      makes es _ h.machine.table _ _ _ end (a.becomes es h _ (NoRoom Past tt) b i)
      (a.becomes es h _ (HasHandle _ _ _ (OfResult socket place slot r is made e g)) b i)
  asks es h _ tree _ (WritesOnce c handle place given of r s half permit is e f at g q w own) b i =
      gives_any (λ fs told. a.Holds (record h { own = Used })) (λ fs told. a.moves es h _ (Spends h own) b i) es tree
  asks es h _ _ end (MarksUdp face place u g) b i =
      makes es _ h.machine.table _ _ _ end (a.becomes es h _ (NoRoom Past tt) b i)
      (a.becomes es h _ (HasHandle _ _ _ (OfCreated face place u g)) b i)
  asks es h _ _ end (MarksStream place n handle reached kind m new e) b i =
      makes es _ h.machine.table _ _ _ end (a.becomes es h _ (NoRoom (ToSend n handle reached) tt) b i)
      (a.becomes es h _ (HasHandle _ _ _ (OfStream place n handle reached kind m new e)) b i)
  asks es h _ _ end (MarksError n handle place handles m k e f) b i =
      makes es _ h.machine.table _ _ _ end i (a.becomes es h _
      (HasHandle _ _ _ (OfError n handle place handles m k e)) b i)
  asks es h _ _ _ (AsksCreate tells fails face ctx family c t o m) b i = created tells fails face es h ctx family c o m b i
  asks es h _ _ _ (Polls op after k) b i = a.polls es h op after k b i
  asks es h _ tree _ (BeginsDatagram place o call op polled at g starts m own) b i =
      allows_weaker Anything (λ fs ended. LeavesDatagram starts ended)
      (λ fs ended. a.Holds (record (with_beside h (datagram_begun h.machine.store.beside line call op ended)) { own = Used }))
      (λ fs ended left. a.becomes es h _ (DatagramBegan place o call op polled ended at g starts m own left) b i) es tree (leaves_datagram starts es)
  asks es h _ tree _ (PollsBeside n call place o make op polled is at g polls) b i =
      allows_weaker Anything (λ fs ended. LeavesPolled polls ended)
      (λ fs ended. a.Holds (with_beside h (datagram_polled h.machine.store.beside n make op ended)))
      (λ fs ended left. a.becomes es h _ (DatagramPolled n call place o make op polled ended is at g polls left) b i) es tree (leaves_polled polls es)
  asks es h _ _ _ (Turns place r s g e) b i = a.turns es h place r s g e b i
  asks es h _ tree _ (GivesUp place r q l g) b i =
      gives_any (λ fs done. a.Holds (put h place (with_listening r Not)))
      (λ fs done. a.becomes es h _ (GivenUp place r q l g) b i) es tree
  asks es h _ tree _ (UdpGivesUp place create q g) b i =
      gives_any (λ fs done. a.Holds (put_udp h place (UdpRecord.Closed create.operation.who.side)))
      (λ fs done. a.becomes es h _ (UdpGivenUp place create q g) b i) es tree

  -- as a law
  abbrev pub of_state : Rests contexts line origin B
  of_state = record { P = Anything; Inv = λ es h. a.Holds h; moves = λ es h now m b i. a.moves es h now m b i; asks = λ es h A tree end q b i. asks es h A tree end q b i }

  pub begins_state : BeginsWrites of_state
  begins_state = record { begins = λ es h now w b i. a.becomes es h now (Writing now w) b i }
