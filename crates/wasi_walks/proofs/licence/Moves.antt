-- Each move keeps that the state fits the log.
use Rattle.wasi_walks.proofs.licence.Ends.{adds_slot, reaches_end}
use Rattle.tcp_records.specs.Ends.{ends_of}
use Rattle.wasi_walks.proofs.walks.Moves.{AddsSlot, DropsUdp, MakesRoom, put_udp, OfReceive, OfSend, ReachesEnd, TakesEnd, TakesHalf, with_receive, with_send}
use Rattle.wasi_walks.proofs.walks.Moves.{Frees, Freed, IsUnheld, Joined, JoinsFault, JoinsPlain, P2, P3, RecallsListen, RemembersListen, StandsListen, ToListen, Unmade, faulted, joined_plain, joins_as, record_of, FoundUdp, Awaited, AwaitsCreate, Begun, CreateIsFor, Interface, MakesUdpFor, Recalled, Emptied, Empties, GivesBack, Numbers}
use Rattle.wasi_walks.proofs.owners.Law.{left_none}
use Rattle.wasi_walks.proofs.Words.{listen_first, listen_operation, IsBoundSide, kind_at, Accepting, Accepts, Bool, Connection, Done, End, Entry, Handed, InProgress, IpSocketAddress, IsMaker}
use Rattle.wasi_walks.proofs.Words.{BeganBy, Job, List, Listener, MarksNoSocket, MayGoOut, None, Not, OpId, Operation, ReadState, Refused, Socket}
use Rattle.wasi_walks.proofs.Words.{SocketAddressFamily, Some, StandingCall, Step, Streams, TcpSendStream, TcpRecord, TcpState, Waits, WasiSocketsCtx, WriteState}
use Rattle.wasi_walks.proofs.Words.{accepted_socket, ap, call_place, closed_by, connect_first, connect_operation, false, gone, inl, inr}
use Rattle.wasi_walks.proofs.Words.{new_job, new_streams, own_of, refl, side_in, side_of, standing_as, step_at, subst}
use Rattle.wasi_walks.proofs.Words.{sym, true, wildcard, with_inner, with_listening, with_progress, with_state, with_writer, written_by, ℕ, ◌∙◌, ◌≡◌}
use Rattle.wasi_walks.proofs.licence.Besides.{besides_push, besides_without}
use Rattle.wasi_walks.proofs.licence.Wilds.{Wilds}
use Rattle.wasi_walks.proofs.licence.ListenAsks.{IsFree, ListenLeft, Whole as WholeListen, WholeUnbound}
use Rattle.wasi_walks.proofs.claims.Law.{Base, same_begun, fresh_to_come}
use Rattle.wasi_walks.proofs.walks.Moves.{EndsConnect, Own, Past, ToConnect, ToStream, Used, CallsHandles, RecallsCall, ReachesHandle, StandsBlocking, CancelsBind, CancelsUdpBind, CancelsUdpConnect, GoesOn, RemembersStreams, RecallsConnect, RecallsStreams, BeginsUdpConnect, StandsConnect, StandsUdpConnect, StandsDropOutgoing, Counts, SpendsNames, BeginsSend, BeginsReceive, closed_record, Here, put, Found, WriterMoves, Collects, LastsAfter, Closes, Plain, Move, Reaches, ReachesUdp, Leaves, Spends, Changes, ClosesReader, Writes, IsGone, opened_by, Reconnects, Opens, BeginsConnect, BeginsBind, BeginsWrite, begun_bind, Stands, Resumes, Unstands, StandsBeside, EndsBeside, UdpChanges, BeginsUdpBind, StandsUdpBind, StandsUdpCreate, Finds, Lists, Takes, BeginsListen, BeginsAccept, Unlistens, Forgets, Watches, Joins, accepting_now, begun_listen, beginning_listen, new_accept, joined, part_of}
use Rattle.std.specs.Prelude.{Option, is_some, length, ◌+◌}
use Rattle.wasi_walks.proofs.walks.Here.{IsToCome, next_shrinks, next_to_come, shrinks_to}
use Rattle.wasi_walks.proofs.licence.State.{IsConnectStep, OpenIsFine, accept_name, ConnectIsFine, ConnectLeft, Unbound, Unchecked, ReadsOn, Whole, ToWrite, Names, BindIsFine, EndTold, ErrorTold, JobIsFine, WritesOn, StreamsAreFine, AcceptingIsFine, ListeningIsFine, SocketIsFine, RecordIsFine, IsHanded, Unarrived, AcceptingStands, ListeningStands, ListenerIsFine, MakesStreams, OfTcp, OfUdp, StreamsStand, CreateStands, name_in}
use Rattle.wasi_walks.proofs.licence.Frames.{same_listening, listening_kept, listening_gone, Only, KeepsSide, record_kept}
use Rattle.wasi_walks.proofs.licence.States.{state_put_udp, state_taken, state_put, state_stands, state_unstands, state_beside, state_jobs, state_room, state_renewed, state_joined}
use Rattle.wasi_walks.proofs.licence.WriteJobs.{shut_after}
use Rattle.wasi_walks.proofs.licence.Line.{put_udp_fine, some_same, AcceptsFor, IsAccept, fault_seam, same_face, put_with, keeps_plain, seam, no_listen, part_names, ListenGoesOn, NotMarked, NamesMade, Licensed, MakingStands, KeepsListen, put_fine, owned, remade, spent, elsewhere}
use Rattle.wasi_walks.proofs.licence.LookupMoves.{another_stands, fewer_fine, records_fine}
use Rattle.wasi_walks.proofs.licence.UdpMoves.{begins_receive, begins_send, begins_udp_connect, recalls_streams, remembers_streams, reaches_udp, resumes, udp_changes, begins_udp_bind, cancels_udp_bind, cancels_udp_connect}
use Rattle.wasi_walks.proofs.licence.StreamMoves.{calls_handles, is_side, reaches, reaches_handle, recalls_call, stands_blocking}
use Rattle.wasi_records.specs.Records.{tcp2_at, tcp2_put}
use Rattle.wasi_records.specs.declared.records.Record.{Record}
use Rattle.udp_records.specs.declared.udp.UdpRecord.{UdpRecord}
use Rattle.udp_records.specs.Udp.{udp_side, without_udp_socket}
use Rattle.wasi_udp.specs.Create.{Create}
use Rattle.wasi_addr.specs.declared.code.ErrorCode.{ErrorCode}
use Rattle.wasi_tcp.specs.Writer.{error_of_code}
use Rattle.wasi_walks.specs.Licence.{WriteFailed}
use Rattle.wasi_walks.proofs.Places.{push_new, tcp_sort}

module _ (contexts : List WasiSocketsCtx) (steps : List Step) (line : ℕ) (origin : Step) (is_line : step_at steps line ≡ Some origin) where
  plain_socket : {goes begins : Type 0} (es : List Entry) (r now : TcpRecord) → Plain goes begins r now → SocketIsFine steps es r.inner → SocketIsFine steps es now.inner
  plain_socket es r now p f = record {
    knows = record { maker = λ side e. rw (p.maker, p.family) (f.knows.maker side (sym (ap side_in p.does) ∙ e)) };
    tcp = λ side e. f.tcp side (sym p.does ∙ e);
    bound = λ side e b. let d = sym p.does ∙ e in f.bound side d (p.bound side d b);
    listens = λ side e. f.listens side (sym p.does ∙ e);
    connect = λ op e. f.connect op (sym p.does ∙ e);
  }

  plain_fine : {goes begins : Type 0} (es : List Entry) (h : Here) (place : ℕ) (r now : TcpRecord) → Found h place r → Plain goes begins r now → Licensed contexts steps line origin es h → Licensed contexts steps line origin es (put h place now)
  plain_fine es h place r now g p i =
      let f = i.fine.records place r g in
      put_fine es h place r now g p.side (listening_kept r.listening now.listening p.listening) (λ op e. (sym p.listening ∙ e, (p.maker, p.family))) (record_kept steps es r now (keeps_plain r now p) (plain_socket es r now p f.socket) f) i

  -- other streams, of the same network socket
  pub streams_fine : (es : List Entry) (h : Here) (place : ℕ) (r : TcpRecord) (s now : Streams) → Found h place r → r.streams ≡ Some s
      → ((f : StreamsAreFine steps es r.inner s) → ReadsOn f.side now.reader × WritesOn steps es f.side now.writer) → Licensed contexts steps line origin es h → Licensed contexts steps line origin es (put h place (record r { streams = Some now }))
  streams_fine es h place r s now g e k i =
      let x = i.fine.records place r g in
      let f = x.streams s e in
      let on = k f in
      let it : StreamsAreFine steps es r.inner now = record { side = f.side; connected = f.connected; reads = on.0; writes = on.1 } in
      put_fine es h place r _ g refl (same_listening r.listening) (λ op p. (p, (refl, refl)))
      (record { socket = x.socket; named = x.named; streams = λ others p. let q : now ≡ others = cc in subst (StreamsAreFine steps es r.inner) q it; listening = x.listening; progress = x.progress }) i

  kept_error : (es : List Entry) (side : OpId) (c : ErrorCode) → WriteFailed es side → ErrorTold es side (error_of_code c)
  kept_error es side ErrorCode.ConnectionBroken f = tt
  kept_error es side _ f = f

  written_on : (es : List Entry) (side : OpId) (job : Job) (e : End) → JobIsFine steps es side job → EndTold es side e → WritesOn steps es side (written_by job e)
  written_on es side job Waits h t = h
  written_on es side job (Done given) h t = h.on
  written_on es side job (Refused c given) h t = kept_error es side c t

  closed_on : (es : List Entry) (side : OpId) (job : Job) (e : End) → JobIsFine steps es side job → EndTold es side e → WritesOn steps es side (closed_by job e)
  closed_on es side job Waits h t = h
  closed_on es side job (Done given) h t = tt
  closed_on es side job (Refused c given) h t = kept_error es side c t

  writes_on : {most : ℕ} (es : List Entry) (side : OpId) (w now : WriteState) → WriterMoves most w now → WritesOn steps es side w → WritesOn steps es side now
  writes_on es side _ _ (Collects (WriteState.Writing job)) on = written_on es side job job.end on on.ended
  writes_on es side _ _ (Collects (WriteState.Closing job)) on = closed_on es side job job.end on on.ended
  writes_on es side _ _ (LastsAfter job) on = record { named = on.named; on = on.on; last = on.last; left = shut_after contexts steps job.write.left on.left; ended = on.ended }
  writes_on es side _ _ (Closes w) on = tt
  writes_on es side _ _ _ on = on

  pub closed_fine : (es : List Entry) (r : TcpRecord) → RecordIsFine steps es (closed_record r)
  closed_fine es r = record {
    socket = record { knows = record { maker = λ side e. absurd (cc) }; tcp = λ side e. absurd (cc); bound = λ side e b. absurd (cc); listens = λ side e. absurd (cc); connect = λ op e. absurd (cc) };
    named = λ side e. absurd (cc);
    streams = λ s e. absurd (cc);
    listening = tt;
    progress = tt;
  }

  pub held_side : (es : List Entry) (r : TcpRecord) (s : Streams) (f : StreamsAreFine steps es r.inner s) → side_of r.inner ≡ Some f.side
  held_side es r s f = ap side_in f.connected.state ∙ ap (λ (x : OpId). Some x) f.connected.same

  names_streams : (es : List Entry) (n : ℕ) (r : TcpRecord) (s : Streams) → NamesMade steps n es r → RecordIsFine steps es r → (f : StreamsAreFine steps es r.inner s) → Names steps es (own_of n) f.side
  names_streams es n r s names h f = names f.side (h.named f.side (held_side es r s f))

  -- a write begins, by the operation of a line that names the stream
  pub begins_write : (es : List Entry) (h : Here) (place n : ℕ) (r : TcpRecord) (s : Streams) (half : TcpSendStream) (permit : ℕ) (bytes : List ℕ) → h.at ≡ Some (place, n) → Found h place r → r.streams ≡ Some s → s.writer ≡ WriteState.Ready half permit → Licensed contexts steps line origin es h
      → Licensed contexts steps line origin es (record (put h place (with_writer r s (WriteState.Writing (new_job (own_of n) half.side bytes)))) { own = Used })
  begins_write es h place n r s half permit bytes at g e w i =
      spent es _ (streams_fine es h place r s (record s { writer = WriteState.Writing (new_job (own_of n) half.side bytes) }) g e
      (λ f. (f.reads, record { named = names_streams es n r s (i.names place n r at g) (i.fine.records place r g) f; on = subst (WritesOn steps es f.side) w f.writes; last = refl; left = ToWrite bytes; ended = tt })) i)

  -- another connection of the same network socket
  still_connected : (r : TcpRecord) (c now : Connection) → r.inner.state ≡ TcpState.Connected c → now.side ≡ c.side → KeepsSide r.inner (with_state r.inner (TcpState.Connected now))
  still_connected r c now e s = record {
    maker = refl;
    family = refl;
    side = λ side p. ap side_in e ∙ (ap (λ (x : OpId). Some x) (sym s) ∙ p);
    connected = λ d p. let q : TcpState.Connected c ≡ TcpState.Connected d = sym e ∙ p in let z : c ≡ d = cc in record { connection = now; state = refl; same = s ∙ ap (λ (x : Connection). x.side) z };
  }

  connected_fine : (es : List Entry) (socket : Socket) (c now : Connection) → socket.state ≡ TcpState.Connected c → now.side ≡ c.side → SocketIsFine steps es socket → SocketIsFine steps es (with_state socket (TcpState.Connected now))
  connected_fine es socket c now e s f = record {
    knows = record { maker = λ side p. f.knows.maker side (ap side_in e ∙ (ap (λ (x : OpId). Some x) (sym s) ∙ p)) };
    tcp = λ side p. absurd (cc);
    bound = λ side p b. absurd (cc);
    listens = λ side p. absurd (cc);
    connect = λ op p. absurd (cc);
  }

  not_default : (side : OpId) (c : Connection) → TcpState.Default side ≡ TcpState.Connected c → ⊥
  not_default side c e = absurd (cc)

  first_left : (es : List Entry) (side : OpId) (maker : ℕ) (family : SocketAddressFamily) (a : IpSocketAddress) (b : Bool) → IsMaker es maker family side → (b ≡ true → MayGoOut es (own_of line) side)
      → ConnectLeft es (own_of line) side maker a (connect_operation (record { op = own_of line; side = side; maker = maker }) (wildcard family) a (connect_first b)).left
  first_left es side maker family a true m o = Unchecked (o refl)
  first_left es side maker family a false m o = Unbound family m

  -- and of a listen
  first_listen : (es : List Entry) (side : OpId) (maker backlog : ℕ) (family : SocketAddressFamily) (b : Bool) → (b ≡ true → IsBoundSide es side) → (b ≡ false → IsFree steps es (own_of line) side maker family)
      → ListenLeft steps es (own_of line) side maker (listen_operation (record { op = own_of line; side = side; maker = maker }) (wildcard family) backlog (listen_first b)).left
  first_listen es side maker backlog family true bound free = WholeListen backlog (bound refl)
  first_listen es side maker backlog family false bound free = WholeUnbound family backlog (free refl)

  pub same_listen : (r now : TcpRecord) → now.listening ≡ r.listening → now.inner.maker ≡ r.inner.maker → now.inner.family ≡ r.inner.family → KeepsListen r now
  same_listen r now l m f op e = (sym l ∙ e, (m, f))

  pub gone_maker : (r : TcpRecord) (socket : Socket) → KeepsListen r (gone r socket)
  gone_maker r socket op e = absurd (cc)

  no_streams : (es : List Entry) (r : TcpRecord) (side : OpId) (s : Streams) → r.inner.state ≡ TcpState.Default side → RecordIsFine steps es r → r.streams ≡ Some s → ⊥
  no_streams es r side s d f e = not_default side (f.streams s e).connected.connection (sym d ∙ (f.streams s e).connected.state)

  pub listener_fine : (es : List Entry) (r : TcpRecord) (l : Listener) → r.listening ≡ Accepts l → RecordIsFine steps es r → ListenerIsFine steps es r.side l
  listener_fine es r l e f = subst (ListeningIsFine steps es r.side) e f.listening

  -- the accept of a listener is another, of a name that no other record has
  renewed_fine : (es : List Entry) (h : Here) (place : ℕ) (r : TcpRecord) (l : Listener) (a : Accepting) → Found h place r → r.listening ≡ Accepts l → AcceptingIsFine steps es l.side l.maker a → AcceptingStands es l.side a → ((x : OpId) → name_in a ≡ Some x → Only h.machine.store.records place x) → Licensed contexts steps line origin es h → Licensed contexts steps line origin es (put h place (accepting_now r l a))
  renewed_fine es h place r l a g e f s o i =
      let x = i.fine.records place r g in let lf = listener_fine es r l e x in
      put_with es h place r (accepting_now r l a) g refl i
      (state_renewed contexts steps es h.machine place r (accepting_now r l a) g refl (record { socket = x.socket; named = x.named; streams = x.streams; listening = record { side = lf.side; maker = lf.maker; accept = f }; progress = x.progress }) s o i.fine)
      (λ op p. absurd (cc))

  joined_record : (es : List Entry) (l : Listener) (new : OpId) (peer : IpSocketAddress) → IsMaker es l.maker l.family l.side → IsHanded es new l.side peer → RecordIsFine steps es (joined l new peer)
  joined_record es l new peer m k =
      let c : Connection = record { side = new; peer = Some peer; receive_taken = true; send_taken = true } in
      let socket : Socket = accepted_socket l.family l.maker (TcpState.Connected c) in
      let made : IsMaker es l.maker l.family new = Handed new l.side peer k.told k.hand m in
      let it : StreamsAreFine steps es socket (new_streams (record { side = new }) (record { side = new })) = record { side = new; connected = record { connection = c; state = refl; same = refl }; reads = refl; writes = refl } in
      record {
        socket = record { knows = record { maker = λ side e. (let p : new ≡ side = cc in subst (IsMaker es l.maker l.family) p made) }; tcp = λ side e. absurd (cc); bound = λ side e b. absurd (cc); listens = λ side e. absurd (cc); connect = λ op e. absurd (cc) };
        named = λ side e. e;
        streams = λ s e. (let p : new_streams (record { side = new }) (record { side = new }) ≡ s = cc in subst (StreamsAreFine steps es socket) p it);
        listening = tt;
        progress = tt;
      }

  -- a call of a TCP socket makes no datagram streams
  -- a create that goes on for an interface was begun for it
  made_for : (es : List Entry) (h : Here) (place : ℕ) (face : Interface) (create : Create) → CreateIsFor line origin h.machine.store.standing place face create.operation.who.side → FoundUdp h place (UdpRecord.Creating create) → Licensed contexts steps line origin es h → BeganBy steps create.operation.who.side (MakesUdpFor face)
  made_for es h place face create (Begun makes own) g i = subst (λ (o : OpId). BeganBy steps o (MakesUdpFor face)) (sym own) (record { origin = origin; at = is_line; holds = makes })
  made_for es h place face create (Recalled ids e) g i =
      let k = (i.fine.standing (standing_as ids (StandingCall.UdpCreate place face)) e).2 in
      let same : k.found ≡ UdpRecord.Creating create = (let at = k.at in cc) in
      subst (λ (u : UdpRecord). BeganBy steps (udp_side u) (MakesUdpFor face)) same k.made

  no_streams_stand : (r : TcpRecord) (records : List Record) (n : ℕ) (call : StandingCall) → tcp2_at records (call_place call) ≡ Some r → GoesOn call r → StreamsStand steps n call × CreateStands steps records call
  no_streams_stand r records n (StandingCall.UdpConnect place handle) g k = absurd k
  no_streams_stand r records n (StandingCall.UdpConnect3 place) g k = absurd k
  no_streams_stand r records n (StandingCall.UdpCreate place face) g k = absurd k
  no_streams_stand r records n (StandingCall.Listen place marks) g k = absurd k
  no_streams_stand r records n (StandingCall.Blocking call) g k = absurd k
  no_streams_stand r records n (StandingCall.DropOutput place) g k = (tt, ap (λ (o : Option TcpRecord). is_some o) g)
  no_streams_stand r records n _ g k = (tt, tt)

  -- the connect of a record is that of its line
  connects_beside : (es : List Entry) (h : Here) (place : ℕ) (r : TcpRecord) (op : Operation) → Found h place r → r.inner.state ≡ TcpState.Connecting op → op.who.id ≡ own_of line → Licensed contexts steps line origin es h → BeganBy steps (own_of line) IsConnectStep
  connects_beside es h place r op g s e i =
      let f = (i.fine.records place r g).socket.connect op s in
      subst (λ (x : OpId). BeganBy steps x IsConnectStep) e (record { origin = f.to.origin; at = f.to.at; holds = (f.addr, f.to.holds) })

  -- that of 0.3 has no streams, and that of a fault no network socket
  plain_record : (es : List Entry) (l : Listener) (new : OpId) (peer : IpSocketAddress) → IsMaker es l.maker l.family l.side → IsHanded es new l.side peer → RecordIsFine steps es (joined_plain l new peer)
  plain_record es l new peer m k =
      let made : IsMaker es l.maker l.family new = Handed new l.side peer k.told k.hand m in
      record {
        socket = record { knows = record { maker = λ side e. (let p : new ≡ side = cc in subst (IsMaker es l.maker l.family) p made) }; tcp = λ side e. absurd (cc); bound = λ side e b. absurd (cc); listens = λ side e. absurd (cc); connect = λ op e. absurd (cc) };
        named = λ side e. e;
        streams = λ s e. absurd (cc);
        listening = tt;
        progress = tt;
      }

  faulted_record : (es : List Entry) (l : Listener) (c : ErrorCode) → RecordIsFine steps es (faulted l c)
  faulted_record es l c = record {
    socket = record { knows = record { maker = λ side e. absurd (cc) }; tcp = λ side e. absurd (cc); bound = λ side e b. absurd (cc); listens = λ side e. absurd (cc); connect = λ op e. absurd (cc) };
    named = λ side e. absurd (cc);
    streams = λ s e. absurd (cc);
    listening = tt;
    progress = tt;
  }

  -- it joins the records
  took : (es : List Entry) (h : Here) (face : Interface) (listener place : ℕ) (r : TcpRecord) (l : Listener) (new : OpId) (peer : IpSocketAddress) (now : TcpRecord) → AcceptsFor face listener origin → IsAccept origin → record_of (kind_at h.machine.table listener) ≡ Some place → h.made ≡ Unmade
      → Found h place r → r.listening ≡ Accepts l → l.accept ≡ Accepting.Arrived new peer → now.side ≡ Some new → now.listening ≡ Not → (IsMaker es l.maker l.family l.side → IsHanded es new l.side peer → RecordIsFine steps es now)
      → Licensed contexts steps line origin es h → (let records = tcp2_put h.machine.store.records place (accepting_now r l Accepting.Idle) in Licensed contexts steps line origin es (joins_as h records now (Joined face (length records))))
  took es h face listener place r l new peer now by accepts of u g e a its quiet fine i =
      let idle = accepting_now r l Accepting.Idle in
      let records = tcp2_put h.machine.store.records place idle in
      let lf = listener_fine es r l e (i.fine.records place r g) in
      let handed : IsHanded es new l.side peer = subst (AcceptingIsFine steps es l.side l.maker) a lf.accept in
      let free : MarksNoSocket es new = subst (AcceptingStands es l.side) a (subst (ListeningStands es) e (i.fine.accepts place r g)) in
      let k = renewed_fine es h place r l Accepting.Idle g e tt tt (λ y p. absurd (cc)) i in
      record {
        fine = state_joined contexts steps es (put h place idle).machine now (fine lf.maker handed) (subst (ListeningStands es) (sym quiet) tt) (ap accept_name quiet) k.fine;
        names = λ p n q at d. absurd (cc);
        udp_names = λ p n q at d. absurd (cc);
        listens = λ p q op d m. elim (push_new tcp_sort records now p q d) [ inl v ↦ k.listens p q op v m | inr v ↦ absurd (no_listen op (sym quiet ∙ (ap (λ (y : TcpRecord). y.listening) v ∙ m))) ];
        new = i.new;
        unmade = λ t is. i.unmade (inr (subst NotMarked (sym u) tt)) accepts;
        joined = λ its_face p m. record {
          new = new;
          on = l.side;
          peer = peer;
          listener = listener;
          by = subst (λ (f : Interface). AcceptsFor f listener origin) (same_face face its_face (length records) p m) by;
          side = λ q d. ap (λ (y : TcpRecord). y.side) (sym (seam face its_face records now p q m d)) ∙ its;
          of_listener = is_side contexts steps line origin is_line es h listener place of i r g l.side lf.side;
          handed = handed;
          fresh = free;
        };
        faulted = λ p m. absurd (cc);
        marked = λ s p m. absurd (cc);
        making = tt;
      }

  -- datagram streams are made for a line whose step says so
  streams_of : (es : List Entry) (h : Here) (n handle place : ℕ) → h.made ≡ ToStream n handle place → Licensed contexts steps line origin es h → MakesStreams steps n handle
  streams_of es h n handle place m i = subst (MakingStands steps) m i.making

  -- a half is taken
  writes_of : (es : List Entry) (r : TcpRecord) (c : Connection) → r.inner.state ≡ TcpState.Connected c → RecordIsFine steps es r → WritesOn steps es c.side (ends_of r.streams).writer
  writes_of es r c e f = by_streams r.streams (λ s q. q)
    where
      by_streams : (o : Option Streams) → ((s : Streams) → o ≡ Some s → r.streams ≡ Some s) → WritesOn steps es c.side (ends_of o).writer
      by_streams None k = tt
      by_streams (Some s) k = let t = f.streams s (k s refl) in subst (λ (x : OpId). WritesOn steps es x s.writer) (some_same t.side c.side (ap side_in (sym e) ∙ held_side es r s t)) t.writes

  reads_of : (es : List Entry) (r : TcpRecord) (c : Connection) → r.inner.state ≡ TcpState.Connected c → RecordIsFine steps es r → ReadsOn c.side (ends_of r.streams).reader
  reads_of es r c e f = by_streams r.streams (λ s q. q)
    where
      by_streams : (o : Option Streams) → ((s : Streams) → o ≡ Some s → r.streams ≡ Some s) → ReadsOn c.side (ends_of o).reader
      by_streams None k = tt
      by_streams (Some s) k = let t = f.streams s (k s refl) in subst (λ (x : OpId). ReadsOn x s.reader) (some_same t.side c.side (ap side_in (sym e) ∙ held_side es r s t)) t.reads

  half_fine : (es : List Entry) (r now : TcpRecord) → TakesHalf r now → RecordIsFine steps es r → RecordIsFine steps es now
  half_fine es r _ (OfReceive c e free) f =
      let made : Connection = record c { receive_taken = true } in
      let streams : Streams = record (ends_of r.streams) { reader = ReadState.Open (record { side = c.side }) } in
      let it : StreamsAreFine steps es (with_state r.inner (TcpState.Connected made)) streams = record { side = c.side; connected = record { connection = made; state = refl; same = refl }; reads = refl; writes = writes_of es r c e f } in
      record { socket = connected_fine es r.inner c made e refl f.socket; named = λ side p. f.named side (ap side_in e ∙ p); streams = λ s p. (let q : streams ≡ s = cc in subst (StreamsAreFine steps es (with_state r.inner (TcpState.Connected made))) q it); listening = f.listening; progress = f.progress }
  half_fine es r _ (OfSend c e free) f =
      let made : Connection = record c { send_taken = true } in
      let streams : Streams = record (ends_of r.streams) { writer = WriteState.Ready (record { side = c.side }) 0 } in
      let it : StreamsAreFine steps es (with_state r.inner (TcpState.Connected made)) streams = record { side = c.side; connected = record { connection = made; state = refl; same = refl }; reads = reads_of es r c e f; writes = refl } in
      record { socket = connected_fine es r.inner c made e refl f.socket; named = λ side p. f.named side (ap side_in e ∙ p); streams = λ s p. (let q : streams ≡ s = cc in subst (StreamsAreFine steps es (with_state r.inner (TcpState.Connected made))) q it); listening = f.listening; progress = f.progress }

  takes_end : (es : List Entry) (h : Here) (place : ℕ) (r now : TcpRecord) → Found h place r → TakesHalf r now → Licensed contexts steps line origin es h → Licensed contexts steps line origin es (put h place now)
  takes_end es h place r _ g (OfReceive c e free) i = put_fine es h place r (with_receive r c) g refl (same_listening r.listening) (same_listen r (with_receive r c) refl refl refl) (half_fine es r _ (OfReceive c e free) (i.fine.records place r g)) i
  takes_end es h place r _ g (OfSend c e free) i = put_fine es h place r (with_send r c) g refl (same_listening r.listening) (same_listen r (with_send r c) refl refl refl) (half_fine es r _ (OfSend c e free) (i.fine.records place r g)) i

  pub moves_fine : (es : List Entry) (h now : Here) → Move line origin h now → Base contexts line origin h → Wilds line es h → Licensed contexts steps line origin es h → Licensed contexts steps line origin es now
  moves_fine es _ _ (Reaches h handle place named e) b w i = reaches contexts steps line origin is_line es h line handle place (record { origin = origin; at = is_line; holds = named }) e i
  moves_fine es _ _ (ReachesUdp h handle place named e) b w i = reaches_udp contexts steps line origin is_line es h handle place named e i
  moves_fine es _ _ (Leaves h) b w i = elsewhere es (record h { made = Past }) (record h { at = None; made = Past }) refl refl refl (remade es h Past tt tt i) i.fine (λ k n r a g. absurd (cc)) (λ k n u a g. absurd (cc))
  moves_fine es _ _ (Spends h e) b w i = spent es h i
  moves_fine es _ _ (EndsConnect h place e over) b w i = spent es h i
  moves_fine es _ _ (Changes h place r now g p) b w i = plain_fine es h place r now g p i
  moves_fine es _ _ (ClosesReader h place r s g e) b w i = streams_fine es h place r s (record s { reader = ReadState.Closed }) g e (λ f. (tt, f.writes)) i
  moves_fine es _ _ (Writes h place r s x g e m) b w i = streams_fine es h place r s (record s { writer = x }) g e (λ f. (f.reads, writes_on es f.side s.writer x m f.writes)) i
  moves_fine es _ _ (IsGone h place r q g e) b w i =
      let f = i.fine.records place r g in
      put_fine es h place r (gone r r.inner) g refl (listening_gone r.listening) (gone_maker r r.inner) (record { socket = f.socket; named = f.named; streams = λ s p. absurd (cc); listening = tt; progress = tt }) i
  moves_fine es _ _ (Reconnects h place r c now g e s t u) b w i =
      let f = i.fine.records place r g in
      put_fine es h place r _ g refl (same_listening r.listening) (same_listen r (with_inner r (with_state r.inner (TcpState.Connected now))) refl refl refl) (record_kept steps es r _ (record { keeps = still_connected r c now e s; side = refl; streams = refl; listening = refl; binds = inl refl }) (connected_fine es r.inner c now e s f.socket) f) i
  moves_fine es _ _ (Opens h place r c d g e n) b w i =
      let f = i.fine.records place r g in let now : Connection = record c { send_taken = true } in
      let it : StreamsAreFine steps es (with_state r.inner (TcpState.Connected now)) (new_streams (record { side = c.side }) (record { side = c.side })) = record { side = c.side; connected = record { connection = now; state = refl; same = refl }; reads = refl; writes = refl } in
      put_fine es h place r (opened_by r c) g refl (same_listening r.listening) (same_listen r (opened_by r c) refl refl refl)
      (record { socket = connected_fine es r.inner c now e refl f.socket; named = λ side p. f.named side (ap side_in e ∙ p); streams = λ s p. let q : new_streams (record { side = c.side }) (record { side = c.side }) ≡ s = cc in subst (StreamsAreFine steps es (with_state r.inner (TcpState.Connected now))) q it; listening = f.listening; progress = tt }) i
  moves_fine es _ _ (BeginsConnect h place r side a bound at g d to known idle o) b w i =
      let f = i.fine.records place r g in
      let e : side_of r.inner ≡ Some side = ap side_in d in
      let op = connect_operation (record { op = own_of line; side = side; maker = r.inner.maker }) (wildcard r.inner.family) a (connect_first bound) in
      let may : ConnectIsFine steps es op = record {
        addr = a;
        to = record { origin = origin; at = is_line; holds = to };
        tcp = f.socket.tcp side d;
        works = record { family = r.inner.family; made = f.socket.knows.maker side e; named = i.names place line r at g side (f.named side e) };
        last = refl;
        left = first_left es side r.inner.maker r.inner.family a bound (f.socket.knows.maker side e) (λ yes. inl (f.socket.bound side d (known yes)));
      } in
      let socket : SocketIsFine steps es (with_state r.inner (TcpState.Connecting op)) = record {
        knows = record { maker = λ s p. f.socket.knows.maker s (e ∙ p) };
        tcp = λ s p. absurd (cc);
        bound = λ s p q. absurd (cc);
        listens = λ s p. absurd (cc);
        connect = λ x p. let same : op ≡ x = cc in subst (ConnectIsFine steps es) same may;
      } in
      spent es _ (put_fine es h place r (with_inner r (with_state r.inner (TcpState.Connecting op))) g refl (same_listening r.listening) (same_listen r (with_inner r (with_state r.inner (TcpState.Connecting op))) refl refl refl)
      (record_kept steps es r _ (record { keeps = record { maker = refl; family = refl; side = λ s p. e ∙ p; connected = λ c p. absurd (not_default side c (sym d ∙ p)) }; side = refl; streams = refl; listening = refl; binds = inl refl }) socket f) i)
  moves_fine es _ _ (BeginsBind h place r side a at g d to o) b w i =
      let f = i.fine.records place r g in
      let e : side_of r.inner ≡ Some side = ap side_in d in
      let begun : BindIsFine steps es (begun_bind (own_of line) side r a) = record {
        addr = a;
        to = record { origin = origin; at = is_line; holds = to };
        tcp = f.socket.tcp side d;
        works = record { family = r.inner.family; made = f.socket.knows.maker side e; named = i.names place line r at g side (f.named side e) };
        last = refl;
        left = Whole;
      } in
      let now = with_progress r (InProgress.Binding (begun_bind (own_of line) side r a)) in
      spent es _ (put_fine es h place r now g refl (same_listening r.listening) (same_listen r now refl refl refl) (record { socket = f.socket; named = f.named; streams = f.streams; listening = f.listening; progress = begun }) i)
  moves_fine es _ _ (BeginsWrite h place n r s half permit bytes at g e y within o) b w i = begins_write es h place n r s half permit bytes at g e y i
  moves_fine es _ _ (BeginsListen h place r side bound at g d known un none to idle o) b w i =
      let f = i.fine.records place r g in
      let e : side_of r.inner ≡ Some side = ap side_in d in
      let now = beginning_listen (own_of line) side r bound in
      let goes : ListenGoesOn steps es now (begun_listen (own_of line) side r bound) = record {
        fine = record { to = record { origin = origin; at = is_line; holds = to }; tcp = f.socket.tcp side d; works = record { family = r.inner.family; made = f.socket.knows.maker side e; named = i.names place line r at g side (f.named side e) }; last = refl; so_far = first_listen es side r.inner.maker r.inner.backlog r.inner.family bound (λ b. f.socket.bound side d (known b)) (λ b. record { anywhere = record { origin = origin; at = is_line; holds = (un b).0 }; maker_is = f.socket.knows.maker side e; wild = w.wild place r g side d (un b).2 }) };
        asks = refl;
        made = f.socket.knows.maker side e;
        tcp = f.socket.tcp side d;
      } in
      spent es _ (put_with es h place r now g refl i
      (state_put contexts steps es h.machine place r now g refl (record { stands = λ fs k. tt; names = λ x p. absurd (cc) })
      (record { socket = record { knows = record { maker = λ x p. absurd (cc) }; tcp = λ x p. absurd (cc); bound = λ x p q. absurd (cc); listens = λ x p. absurd (cc); connect = λ x p. absurd (cc) }; named = λ x p. absurd (cc); streams = λ t p. absurd (no_streams es r side t d f p); listening = tt; progress = f.progress }) i.fine)
      (λ op p. subst (ListenGoesOn steps es now) (same_begun _ op p) goes))
  moves_fine es _ _ (BeginsAccept h place part r l at g e a o) b w i =
      let x = i.fine.records place r g in let lf = listener_fine es r l e x in
      let name : OpId = part_of line part in
      let new : IsToCome line h.own name = next_to_come line part h.own o in
      let n = i.new name new in
      owned es _ (Own.Names (part + 1)) (λ e. absurd (cc)) (next_shrinks line part h.own o)
      (renewed_fine es h place r l (new_accept name l) g e
      (record { named = part_names es line part l.side (i.names place line r at g l.side lf.side); on = refl; asks = refl; last = refl }) (record { handed = n.0; marked = n.1; so_far = Unarrived })
      (λ y p k q u v. absurd (fresh_to_come contexts line origin h b.1 y (subst (IsToCome line h.own) (some_name y p) new) k q u (inr v))) i)
    where
      some_name : (x : OpId) → Some (part_of line part) ≡ Some x → part_of line part ≡ x
      some_name x p = cc
  moves_fine es _ _ (Unlistens h place r op q g e c o) b w i =
      let f = i.fine.records place r g in put_fine es h place r (with_listening r Not) g refl (listening_gone r.listening) (λ op p. absurd (cc)) (record { socket = f.socket; named = f.named; streams = f.streams; listening = tt; progress = f.progress }) i
  moves_fine es _ _ (Forgets h place r l c g e a) b w i = renewed_fine es h place r l Accepting.Idle g e tt tt (λ x p. absurd (cc)) i
  moves_fine es _ _ (Watches h o) b w i = record { fine = i.fine; names = i.names; udp_names = i.udp_names; listens = i.listens; new = i.new; unmade = λ e is. i.unmade (inl o) is; joined = λ face p e. absurd (cc); faulted = λ p e. absurd (cc); marked = λ handle p e. absurd (cc); making = tt }
  moves_fine es _ _ (Joins h c handle place r l new peer is of u g e a) b w i =
      took es h P2 handle place r l new peer (joined l new peer) (subst (AcceptsFor P2 handle) (sym is) refl) (subst IsAccept (sym is) tt) of u g e a refl refl (λ made handed. joined_record es l new peer made handed) i
  moves_fine es _ _ (JoinsPlain h c listener remaining place r l new peer is of u g e a) b w i =
      took es h P3 listener place r l new peer (joined_plain l new peer) (subst (AcceptsFor P3 listener) (sym is) refl) (subst IsAccept (sym is) tt) of u g e a refl refl (λ made handed. plain_record es l new peer made handed) i
  moves_fine es _ _ (JoinsFault h place r l c u g e a) b w i =
      let idle = accepting_now r l Accepting.Idle in
      let records = tcp2_put h.machine.store.records place idle in
      let k = renewed_fine es h place r l Accepting.Idle g e tt tt (λ y p. absurd (cc)) i in
      record {
        fine = state_joined contexts steps es (put h place idle).machine (faulted l c) (faulted_record es l c) tt refl k.fine;
        names = λ p n q at d. absurd (cc);
        udp_names = λ p n q at d. absurd (cc);
        listens = λ p q op d m. elim (push_new tcp_sort records (faulted l c) p q d) [ inl v ↦ k.listens p q op v m | inr v ↦ absurd (no_listen op (ap (λ (y : TcpRecord). y.listening) v ∙ m)) ];
        new = i.new;
        unmade = λ t is. i.unmade (inr (subst NotMarked (sym u) tt)) is;
        joined = λ face p m. absurd (cc);
        faulted = λ p m q d. ap (λ (y : TcpRecord). y.side) (sym (fault_seam records (faulted l c) p q m d));
        marked = λ s p m. absurd (cc);
        making = tt;
      }
  moves_fine es _ _ (RemembersListen h marks place r is under g none) b w i = remade es h (ToListen line marks place) tt (record { origin = origin; at = is_line; holds = is }) i
  moves_fine es _ _ (RecallsListen h ids place marks e) b w i = remade es h (ToListen ids.line marks place) tt (i.fine.standing (standing_as ids (StandingCall.Listen place marks)) e).1 i
  moves_fine es _ _ (StandsListen h ids place marks r quiet at made g goes) b w i =
      elsewhere es h _ refl refl refl i (state_stands contexts steps es h.machine (standing_as ids (StandingCall.Listen place marks)) (λ o. OfTcp r g (i.names place ids.line r at g), subst (MakingStands steps) made i.making, tt) i.fine) i.names i.udp_names
  moves_fine es _ _ (Frees h place made) b w i = remade es h (Freed place) tt tt i
  moves_fine es _ _ (IsUnheld h place r g free) b w i = remade es h (Freed place) tt tt i
  moves_fine es _ _ (Stands h ids call r quiet at g k) b w i = elsewhere es h _ refl refl refl i (state_stands contexts steps es h.machine (standing_as ids call) (let none = no_streams_stand r h.machine.store.records ids.line call g k in (λ o. OfTcp r g (i.names (call_place call) ids.line r at g), none.0, none.1)) i.fine) i.names i.udp_names
  moves_fine es _ _ (Resumes h s e o) b w i = resumes contexts steps line origin is_line es h s e o i
  moves_fine es _ _ (Unstands h over) b w i = elsewhere es h _ refl refl refl i (state_unstands contexts steps es h.machine i.fine) i.names i.udp_names
  moves_fine es _ _ (StandsBeside h place r op at g s e) b w i = elsewhere es h _ refl refl refl i (state_beside contexts steps es h.machine _ (besides_push contexts steps es h.machine.store.beside _ (connects_beside es h place r op g s e i) i.fine.besides) i.fine) i.names i.udp_names
  moves_fine es _ _ (EndsBeside h n) b w i = elsewhere es h _ refl refl refl i (state_beside contexts steps es h.machine _ (besides_without contexts steps es h.machine.store.beside n i.fine.besides) i.fine) i.names i.udp_names
  moves_fine es _ _ (UdpChanges h place o now g p keeps) b w i = udp_changes contexts steps line origin is_line es h place o now g p i
  moves_fine es _ _ (BeginsUdpBind h place o a at g to u) b w i = begins_udp_bind contexts steps line origin is_line es h place o a at g to i
  moves_fine es _ _ (StandsUdpBind h ids place face o op quiet at g e) b w i =
      elsewhere es h _ refl refl refl i (state_stands contexts steps es h.machine (standing_as ids (StandingCall.UdpBind place face)) (λ c. OfUdp (UdpRecord.Open o) g (i.udp_names place ids.line (UdpRecord.Open o) at g), tt, tt) i.fine) i.names i.udp_names
  moves_fine es _ _ (StandsUdpCreate h ids place face create quiet m g its) b w i =
      let made : BeganBy steps create.operation.who.side (MakesUdpFor face) = subst (MakingStands steps) m i.making in
      elsewhere es h _ refl refl refl i (state_stands contexts steps es h.machine (standing_as ids (StandingCall.UdpCreate place face)) (λ c. absurd c, tt, record { found = UdpRecord.Creating create; at = g; made = made }) i.fine) i.names i.udp_names
  moves_fine es _ _ (RemembersStreams h c handle place remote is of o g none) b w i = remembers_streams contexts steps line origin is_line es h c handle place remote is i
  moves_fine es _ _ (RecallsStreams h ids place handle e own) b w i = recalls_streams contexts steps line origin is_line es h ids place handle e i
  moves_fine es _ _ (RecallsConnect h ids place e own) b w i = owned es h (ToConnect place) (λ u. absurd (cc)) (λ x t. absurd t) i
  moves_fine es _ _ (BeginsUdpConnect h place o a bound at g to known none u) b w i = begins_udp_connect contexts steps line origin is_line es h place o a bound at g to known i
  moves_fine es _ _ (StandsUdpConnect h ids place handle o op quiet at m g e) b w i =
      elsewhere es h _ refl refl refl i (state_stands contexts steps es h.machine (standing_as ids (StandingCall.UdpConnect place handle)) (λ c. OfUdp (UdpRecord.Open o) g (i.udp_names place ids.line (UdpRecord.Open o) at g), streams_of es h ids.line handle place m i, tt) i.fine) i.names i.udp_names
  moves_fine es _ _ (StandsConnect h ids place o op quiet at past g e) b w i =
      elsewhere es h _ refl refl refl i (state_stands contexts steps es h.machine (standing_as ids (StandingCall.UdpConnect3 place)) (λ c. OfUdp (UdpRecord.Open o) g (i.udp_names place ids.line (UdpRecord.Open o) at g), tt, tt) i.fine) i.names i.udp_names
  moves_fine es _ _ (StandsDropOutgoing h ids place o quiet at g e) b w i =
      elsewhere es h _ refl refl refl i (state_stands contexts steps es h.machine (standing_as ids (StandingCall.DropOutgoing place)) (λ c. OfUdp (UdpRecord.Open o) g (i.udp_names place ids.line (UdpRecord.Open o) at g), tt, tt) i.fine) i.names i.udp_names
  moves_fine es _ _ (Counts h u) b w i = owned es h (Own.Names 1) (λ e. absurd (cc)) (shrinks_to line h.own Own.Unused (Own.Names 1) u (λ x t. t)) i
  moves_fine es _ _ (SpendsNames h n u) b w i = spent es h i
  moves_fine es _ _ (BeginsSend h place n o out d bound at g e is known u) b w i = begins_send contexts steps line origin is_line es h place n o out d bound at g is known u i
  moves_fine es _ _ (BeginsReceive h place n o inc bound at g e is u) b w i = begins_receive contexts steps line origin is_line es h place n o inc bound at g is.0 u i
  moves_fine es _ _ (CallsHandles h kind c quiet) b w i = calls_handles contexts steps line origin is_line es h kind c i
  moves_fine es _ _ (RecallsCall h ids call e) b w i = recalls_call contexts steps line origin is_line es h ids call e i
  moves_fine es _ _ (ReachesHandle h kind n handle place handles m k e) b w i = reaches_handle contexts steps line origin is_line es h kind n handle place handles m k e i
  moves_fine es _ _ (StandsBlocking h ids call handles m k) b w i = stands_blocking contexts steps line origin is_line es h ids call handles m k i
  moves_fine es _ _ (CancelsBind h place r op q g e) b w i =
      let f = i.fine.records place r g in let now = with_progress r InProgress.Nothing in
      put_fine es h place r now g refl (same_listening r.listening) (same_listen r now refl refl refl) (record { socket = f.socket; named = f.named; streams = f.streams; listening = f.listening; progress = tt }) i
  moves_fine es _ _ (CancelsUdpBind h place o op q g e) b w i = cancels_udp_bind contexts steps line origin is_line es h place o g i
  moves_fine es _ _ (CancelsUdpConnect h place o q g) b w i = cancels_udp_connect contexts steps line origin is_line es h place o g i
  moves_fine es _ _ (ReachesEnd h handle place end r named e s g) b w i = reaches_end contexts steps line origin is_line es h handle place end r named e s g i
  moves_fine es _ _ (TakesEnd h handle place r now of g takes) b w i = takes_end es h place r now g takes i
  moves_fine es _ _ (AddsSlot h s) b w i = adds_slot contexts steps line origin is_line es h s i
  moves_fine es _ _ (Finds h records s) b w i = records_fine (λ op. ⊥) (λ op e. absurd e) es h records s i
  moves_fine es _ _ (AwaitsCreate h place face create is g) b w i = remade es h (Awaited face create.operation.who.side place) tt (made_for es h place face create is g i) i
  moves_fine es _ _ (Empties h handle kind q e none) b w i =
      let was : Here = record h { made = Emptied kind } in
      elsewhere es was _ refl refl refl (remade es h (Emptied kind) tt tt i) (state_taken contexts steps es h.machine handle i.fine) i.names i.udp_names
  moves_fine es _ _ (DropsUdp h place o idle made g) b w i =
      let x = i.fine.udp place (UdpRecord.Open o) g in
      let f : OpenIsFine steps es (without_udp_socket o) = record { made = x.made; bound = x.bound; progress = x.progress; connecting = x.connecting; sending = x.sending; receiving = x.receiving } in
      let now : Here = put_udp h place (UdpRecord.Open (without_udp_socket o)) in
      elsewhere es now (record now { at = None }) refl refl refl (put_udp_fine es h place (UdpRecord.Open o) (UdpRecord.Open (without_udp_socket o)) g refl f i) (state_put_udp contexts steps es h.machine place (UdpRecord.Open o) (UdpRecord.Open (without_udp_socket o)) g refl f i.fine) (λ k n r a e. absurd (cc)) (λ k n u a e. absurd (cc))
  moves_fine es _ _ (GivesBack h place idle left) b w i = fewer_fine es h place (another_stands h place idle b.0 b.3 i) (left_none h place left b.2) b.2.0 i
  moves_fine es _ _ (Numbers h) b w i = remade es h _ tt tt i
  moves_fine es _ _ (MakesRoom h c family ctx is) b w i = elsewhere es h _ refl refl refl i (state_room contexts steps es h.machine ctx i.fine) i.names i.udp_names
  moves_fine es _ _ (Lists h jobs keeps) b w i = elsewhere es h _ refl refl refl i (state_jobs contexts steps es h.machine jobs i.fine) i.names i.udp_names
  moves_fine es _ _ (Takes h handle q past none) b w i = elsewhere es h _ refl refl refl i (state_taken contexts steps es h.machine handle i.fine) i.names i.udp_names
