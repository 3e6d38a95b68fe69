-- A law by its single asks: what each ask of a line must be, and what its answer keeps. It rests on the base law, and on the
-- shape of records.
use Rattle.wasi_world.specs.declared.call.Call.TheVariants as call
use Rattle.wasi_world.specs.declared.call.Told.TheVariants as told
use Rattle.wasi_tcp.specs.declared.listener.Accepting.TheVariants as accepting
use Rattle.wasi_tcp.specs.declared.socket.TcpState.TheVariants as state
use Rattle.socket_common.specs.Rounds.{is_going, some_left}
use Rattle.host_store.specs.declared.kind.Kind.TheVariants.{Listen3, Result3, Tcp3}
use Rattle.std.specs.Prelude.{take}
use Rattle.wasi_steps.specs.declared.guest_call.GuestCall.{GuestCall}
use Rattle.wasi_steps.specs.declared.guest_call.P3TcpCall.{P3TcpCall}
use Rattle.wasi_tcp.specs.Halves.{write_asks}
use Rattle.wasi_tcp.specs.declared.halves.TcpSendStream.{TcpSendStream}
use Rattle.wasi_walks.proofs.claims.Law.{begins_on_names}
use Rattle.wasi_walks.proofs.walks.Runs.{each_entry}
use Rattle.wasi_walks.proofs.Words.{allows_at, is_trap}
use Rattle.std.specs.Prelude.{slice_get, suc}
use Rattle.std.proofs.Common.{arith}
use Rattle.wasi_laws.proofs.Words.{made_to, false, ErrorValue, BeginsWrites, Accepts, Allows, Asks, Base, BaseBetween, Begins, Call, End, Entry, Err, ErrorCode, FitListening, Found, HandleTable, Held, Here, HoldsAccept, IpSocketAddress, IsAcceptOn, IsDoneOrCode, Item, Job, Kind, Law, Left, List, Listener, Machine, Made, Move, None, Not, Ok, OpId, Operation, Option, Over, Own, Reply, Result, Socket, SocketAddressFamily, Some, Spends, Starts, Step, Streams, Tcp2, TcpRecord, Told, Unused, Used, Walks, WasiSocketsCtx, WriteState, [], after_create, allows_if, allows_then, allows_weaker, ap, base_over, base_starts, bind, closed_record, entry, first_base, first_state, job_after, length, machine_asks, machine_walks, made_so, make_asks, may_while, new_asks, new_socket, on_along, on_names, own_of, poll_asks, put, refl, run, side_at, side_in, side_of, socket_of, subst, sym, told_addr, told_done, told_same, true, with_listening, with_writer, ℕ, ◌++◌, ◌+◌, ◌∙◌, ◌∷◌, ◌≡◌}
use Rattle.wasi_walks.proofs.walks.Asked.{Asked, Questions, SetsBacklog, Learns, Closes, UdpQuestions, UdpDisconnects, UdpLearns, UdpPeers, UdpCloses, UdpBegins, Resolves, Looks, MarksOne, MarksAccepted, MarksListener, MarksPlain, MarksResult, WritesOnce, MarksUdp, MarksStream, MarksError, AsksCreate, Polls, Turns, GivesUp, UdpGivesUp}
use Rattle.wasi_walks.proofs.walks.Asked.{ResolvesBeside, LooksBeside, BeginsDatagram, PollsBeside}
use Rattle.wasi_walks.proofs.walks.Layers.{begins_layer, layer}
use Rattle.wasi_walks.proofs.walks.OfState.{begins_state, creating, of_state}
use Rattle.wasi_laws.proofs.Words.{BeginsIn, Rests}
use Rattle.wasi_walks.proofs.walks.Later.{GivesLater, may_later}
use Rattle.wasi_walks.proofs.Words.{Stop}
use Rattle.wasi_laws.proofs.asks.Fronts.{is_calm, CalmOn, NoRecv, question_calm, udp_question_calm}
use Rattle.wasi_laws.proofs.asks.Trees as tree
use Rattle.wasi_laws.proofs.asks.Trees.{GoesOn, Undoes, Then, makes_by, turns_by, gives_up_by}
use Rattle.wasi_laws.proofs.shapes.Shape.{ListenerShape, on_socket, Same, SocketsStay, sockets_stay, UdpLives}
use Rattle.wasi_laws.proofs.shapes.Law.{Shaped, shapes}
use Rattle.wasi_records.specs.Records.{tcp2_at, udp2_at}
use Rattle.host_store.specs.Beside.{beside_as, beside_of}
use Rattle.host_lookups.specs.Resolves.{begun_lookup}
use Rattle.host_store.specs.declared.beside.Beside.{Beside}
use Rattle.host_store.specs.declared.beside.BesideCall.{BesideCall}
use Rattle.host_store.specs.declared.beside.BesideCall.TheVariants.{Resolve}
use Rattle.wasi_world.specs.Typed.{told_names}
use Rattle.host_store.specs.Kinds.{udp_kind}
use Rattle.wasi_records.specs.declared.records.Record.{Record}
use Rattle.udp_records.specs.declared.udp.OpenUdp.{OpenUdp}
use Rattle.udp_records.specs.declared.udp.UdpRecord.{UdpRecord}
use Rattle.udp_records.specs.Udp.{udp_side, with_udp_inner}
use Rattle.host_udp.specs.UdpCreates.{udp_side_at}
use Rattle.wasi_udp.specs.Create.{Create, create_cancel_asks, new_create, after_create as udp_after_create}
use Rattle.wasi_udp.specs.Shape.{Socket as UdpShape}
use Rattle.wasi_udp.specs.Socket.{after_local as udp_after_local, after_peer}
use Rattle.wasi_walks.proofs.fits.UdpFits.{learnt_side}
use Rattle.wasi_walks.proofs.walks.Moves.{PollsDatagram, StartsDatagram, datagram_begun, datagram_polled, Interface, tcp_kind, Past, ToSend, put_udp, FoundUdp, part_of, udp_begun, with_beside, with_records}

-- a close of this network socket leaves the record so
pub data Closing (r : TcpRecord) : TcpRecord → OpId → Type 0 where
  ClosesSocket : (side : OpId) → side_of r.inner ≡ Some side → Closing r (closed_record r) side
  ClosesListen : (op : Operation) → r.listening ≡ Begins op → Closing r (with_listening r Not) op.who.side
  ClosesArrived : (l : Listener) (new : OpId) (peer : IpSocketAddress) → r.listening ≡ Accepts l → l.accept ≡ accepting.Arrived new peer → Closing r (with_listening r Not) new

module _ (contexts : List WasiSocketsCtx) (line : ℕ) (origin : Step) where
  abbrev pub Grounds : Here → Type 0
  Grounds h = Base contexts line origin h × Shaped h

  -- the socket that a calm call is on, where it is on one; it asks for no datagram
  pub data IsAskedOn (h : Here) (c : Call) : Type 0 where
    OnNone : socket_of c ≡ None → IsAskedOn h c
    OnSide : (place : ℕ) (r : TcpRecord) (side : OpId) → Found h place r → side_of r.inner ≡ Some side → socket_of c ≡ Some side → Grounds h → NoRecv c → IsAskedOn h c
    OnUdp : (place : ℕ) (o : OpenUdp) → FoundUdp h place (UdpRecord.Open o) → socket_of c ≡ Some o.inner.side → Grounds h → NoRecv c → IsAskedOn h c

  -- P is what each ask must be, and Inv what holds between the asks.
  pub record Single (P : List Entry → OpId → Call → Type 0) (Inv : List Entry → Here → Type 0) : Type 0 where
    -- what asks nothing: the moves; a record that is as it was; another table; a listening that is over
    pub moves : (es : List Entry) (h now : Here) → Move line origin h now → Grounds h → Inv es h → Inv es now
    pub same : (es : List Entry) (h : Here) (place : ℕ) (r now : TcpRecord) → Found h place r → Same r now → Inv es h → Inv es (put h place now)
    pub tables : (es : List Entry) (h : Here) (t : HandleTable) (m : Made) → Inv es h → Inv es (record h { machine = record h.machine { table = t }; made = m })
    pub stops : (es : List Entry) (h : Here) (place : ℕ) (r : TcpRecord) → Found h place r → Inv es h → Inv es (put h place (with_listening r Not))
    -- what is asked: a calm call; a create that is answered done; a close
    pub asks : (es : List Entry) (h : Here) (op : OpId) (c : Call) → is_calm c ≡ true → IsAskedOn h c → Inv es h → Then P (λ fs. Inv fs h) es op c
    pub creates : (es : List Entry) (h : Here) (ctx : WasiSocketsCtx) (family : SocketAddressFamily) → h.own ≡ Unused → Grounds h → Inv es h → Inv (es ++ entry (own_of line) (call.TcpCreate ctx.name family) told.Done ∷ []) (creating h (own_of line) ctx family)
    pub closes : (es : List Entry) (h : Here) (place : ℕ) (r now : TcpRecord) (op side : OpId) → Found h place r → Closing r now side → Grounds h → Inv es h → Then P (λ fs. Inv fs (put h place now)) es op (call.Close side)
    -- a UDP socket: one that is in the middle of what it was, with the same network socket; a create that is answered done; a close
    pub udp_same : (es : List Entry) (h : Here) (place : ℕ) (o now : OpenUdp) → FoundUdp h place (UdpRecord.Open o) → now.inner.side ≡ o.inner.side → now ≡ with_udp_inner o now.inner → Inv es h → Inv es (put_udp h place (UdpRecord.Open now))
    pub udp_creates : (es : List Entry) (h : Here) (ctx : WasiSocketsCtx) (family : SocketAddressFamily) → h.own ≡ Unused → Grounds h → Inv es h → Inv (es ++ entry (own_of line) (call.UdpCreate ctx.name family) told.Done ∷ []) (udp_begun h (Ok (new_create (own_of line) ctx.name family)))
    pub udp_closes : (es : List Entry) (h : Here) (place : ℕ) (u : UdpRecord) (op : OpId) → FoundUdp h place u → UdpLives u → Grounds h → Inv es h → Then P (λ fs. Inv fs (put_udp h place (UdpRecord.Closed (udp_side u)))) es op (call.Close (udp_side u))
    -- a lookup changes: other records, with the same sockets among them
    pub lookups : (es : List Entry) (h : Here) (records : List Record) → SocketsStay h.machine.store.records records → Inv es h → Inv es (with_records h records)
    -- a lookup stands beside others, or is answered
    pub stands : (es : List Entry) (h : Here) (host : List ℕ) (told : Told) → Inv es h → Inv es (with_beside h (begun_lookup h.machine.store.beside (beside_as line (Resolve host)) (Ok (told_names told))))
    -- what is in progress: an operation, and a write
    pub polls : (es : List Entry) (h : Here) (op : Operation) (after : End × List Item → Here) → Held h op after → Grounds h → Inv es h → Allows P (λ fs ended. Inv fs (after ended)) es (poll_asks op)
    -- a datagram of 0.3 begins; it is polled again
    pub datagrams : (es : List Entry) (h : Here) (place : ℕ) (o : OpenUdp) (call : Operation → BesideCall) (op polled : Operation) → h.at ≡ Some (place, line) → FoundUdp h place (UdpRecord.Open o) → StartsDatagram line origin h.machine.table place o call op polled → h.own ≡ Unused → Grounds h → Inv es h
        → Allows P (λ fs ended. Inv fs (record (with_beside h (datagram_begun h.machine.store.beside line call op ended)) { own = Used })) es (poll_asks polled)
    pub repolls : (es : List Entry) (h : Here) (n : ℕ) (b : Beside) (place : ℕ) (o : OpenUdp) (call : Operation → BesideCall) (op polled : Operation) → origin ≡ Step.Poll n → beside_of h.machine.store n ≡ Some b → FoundUdp h place (UdpRecord.Open o) → PollsDatagram place o b.call call op polled → Grounds h → Inv es h
        → Allows P (λ fs ended. Inv fs (with_beside h (datagram_polled h.machine.store.beside n call op ended))) es (poll_asks polled)
    pub turns : (es : List Entry) (h : Here) (place : ℕ) (r : TcpRecord) (s : Streams) (job : Job) (now : Job → WriteState) → Found h place r → r.streams ≡ Some s → GoesOn s.writer job now → Grounds h → Inv es h
        → Allows P (λ fs ended. Inv fs (put h place (with_writer r s (now (job_after job.write.who ended))))) es (poll_asks job.write)
    -- a write of 0.3, which offers its bytes once
    pub offers : (es : List Entry) (h : Here) (ctx handle place : ℕ) (given : List ℕ) (r : TcpRecord) (s : Streams) (half : TcpSendStream) (permit : ℕ) → origin ≡ Step.Call ctx (GuestCall.P3Tcp (P3TcpCall.Write handle given)) → Found h place r → r.streams ≡ Some s → s.writer ≡ WriteState.Ready half permit → h.own ≡ Unused → Grounds h → Inv es h
        → (let c : Call = call.Write half.side (length (take 4294967295 given)) in P es (own_of line) c × ((told : Told) → Inv (es ++ entry (own_of line) c told ∷ []) (record h { own = Used })))

  -- it is kept where a write begins in a call of streams, of whatever line
  abbrev pub KeepsWrites : (List Entry → Here → Type 0) → Type 0
  KeepsWrites Inv = (es : List Entry) (h now : Here) → BeginsIn h now → Grounds h → Inv es h → Inv es now

  module _ {P : List Entry → OpId → Call → Type 0} {Inv : List Entry → Here → Type 0} (a : Single P Inv) where
    -- a calm call on a record
    on_record : (es : List Entry) (h : Here) (place : ℕ) (r : TcpRecord) (op side : OpId) (c : Call) → Found h place r → side_of r.inner ≡ Some side → CalmOn side c → Grounds h → Inv es h → Then P (λ fs. Inv fs h) es op c
    on_record es h place r op side c g s k b i = a.asks es h op c k.calm (OnSide place r side g s k.on b k.quiet) i

    -- a create of a UDP socket that was answered
    udp_created : (es : List Entry) (h : Here) (ctx : WasiSocketsCtx) (family : SocketAddressFamily) → h.own ≡ Unused → Grounds h → Inv es h → (t : Told) → IsDoneOrCode t → Inv (es ++ entry (own_of line) (call.UdpCreate ctx.name family) t ∷ []) (udp_begun h (udp_after_create (own_of line) ctx.name family (told_done t)))
    udp_created es h ctx family u b i told.Done f = a.udp_creates es h ctx family u b i
    udp_created es h ctx family u b i (told.Code c) f = a.moves _ h _ (Spends h u) b ((a.asks es h (own_of line) (call.UdpCreate ctx.name family) refl (OnNone refl) i).1 (told.Code c))
    udp_created es h ctx family u b i _ f = absurd f

    -- whatever is learnt of a UDP socket
    udp_told : (es : List Entry) (h : Here) (place : ℕ) (o : OpenUdp) (op : OpId) (c : Call) (socket : Told → UdpShape) → CalmOn o.inner.side c → ((told : Told) → (socket told).side ≡ o.inner.side) → FoundUdp h place (UdpRecord.Open o) → Grounds h → Inv es h
        → P es op c × ((told : Told) → Inv (es ++ entry op c told ∷ []) (put_udp h place (UdpRecord.Open (with_udp_inner o (socket told)))))
    udp_told es h place o op c socket k same g b i = let x = a.asks es h op c k.calm (OnUdp place o g k.on b k.quiet) i in (x.0, λ told. a.udp_same _ h place o (with_udp_inner o (socket told)) g (same told) refl (x.1 told))

    marked : (es : List Entry) (h : Here) (kind : Kind) (parent : Option ℕ) (sock : Option OpId) → Inv es h → Allows P (λ fs made. Inv fs h) es (make_asks h.machine.table (own_of line) kind parent sock)
    marked es h kind parent sock i = makes_by P (λ fs. Inv fs h) es h.machine.table (own_of line) kind parent sock i (a.asks es h (own_of line) _ refl (OnNone refl) i)

    -- a socket that is created
    abbrev Created : Here → WasiSocketsCtx → SocketAddressFamily → List Entry → Result Socket ErrorCode → Type 0
    Created h ctx family fs (Ok socket) = (socket ≡ new_socket (own_of line) ctx.name family) × Inv fs (creating h (own_of line) ctx family)
    Created h ctx family fs (Err c) = Inv fs h

    created : (es : List Entry) (h : Here) (ctx : WasiSocketsCtx) (family : SocketAddressFamily) → h.own ≡ Unused → Grounds h → Inv es h → Allows P (Created h ctx family) es (new_asks (own_of line) ctx family)
    unfolding bind
    created es h ctx family u b i = allows_if P (Created h ctx family) es ctx.tcp _ _ (λ tcp. (x.0, by_told)) (λ other. i)
      where
        x : Then P (λ fs. Inv fs h) es (own_of line) (call.TcpCreate ctx.name family)
        x = a.asks es h (own_of line) _ refl (OnNone refl) i

        by_told : (t : Told) → IsDoneOrCode t → Created h ctx family (es ++ entry (own_of line) (call.TcpCreate ctx.name family) t ∷ []) (after_create (own_of line) ctx.name family (told_done t))
        by_told told.Done f = (refl, a.creates es h ctx family u b i)
        by_told (told.Code c) f = x.1 (told.Code c)
        by_told _ f = absurd f

    joins : {T : Type 0} (tells : Result ℕ Stop → T) (fails : ErrorCode → T) (face : Interface) (fs : List Entry) (h : Here) (ctx : WasiSocketsCtx) (family : SocketAddressFamily) (made : Result Socket ErrorCode) → h.own ≡ Unused → Created h ctx family fs made → Grounds h → Allows P (λ gs done. Inv gs (record h { machine = done.1; own = Used })) fs (made_to tells fails (tcp_kind face) h.machine (own_of line) made)
    joins tells fails face fs h ctx family (Err c) u k b = a.moves fs h _ (Spends h u) b k
    joins tells fails face fs h ctx family (Ok socket) u k b =
        subst (λ (x : Socket). Allows P (λ gs done. Inv gs (record h { machine = done.1; own = Used })) fs (made_to tells fails (tcp_kind face) h.machine (own_of line) (Ok x))) (sym k.0)
        (let now = creating h (own_of line) ctx family in allows_then P (λ gs made. Inv gs now) (λ gs done. Inv gs (record h { machine = done.1; own = Used })) fs (make_asks h.machine.table (own_of line) (tcp_kind face (length h.machine.store.records)) None (Some (own_of line))) _
        (marked fs now (tcp_kind face (length h.machine.store.records)) None (Some (own_of line)) k.1) (λ gs made i. a.tables gs now made.1 h.made i))

    -- a listening that is released
    undoes : (es : List Entry) (h : Here) (place : ℕ) (r : TcpRecord) (op : OpId) (c : Call) → Found h place r → Undoes r.listening op c → Grounds h → Inv es h → Then P (λ fs. Inv fs (put h place (with_listening r Not))) es op c
    undoes es h place r _ _ g (tree.ClosesBegun op e) b i = a.closes es h place r _ op.who.id op.who.side g (ClosesListen op e) b i
    undoes es h place r _ _ g (tree.RefusesArrival l op peer e d) b i =
        let its : IsAcceptOn l.side l.maker op = subst (HoldsAccept l.side l.maker) d (subst FitListening e (b.0.0.records place r g).1) in
        let listens : r.inner.state ≡ state.Listening l.side = subst (ListenerShape r.inner.state) e (b.1 place r g).1 in
        let x = on_record es h place r op.who.id op.who.side (call.Refuse op.who.side peer) g (ap side_in listens ∙ ap (λ (y : OpId). Some y) (sym its.of_side)) (record { calm = refl; quiet = tt; on = refl }) b i in
        (x.0, λ told. a.stops _ h place r g (x.1 told))
    undoes es h place r _ _ g (tree.ClosesArrived l new peer e d) b i = a.closes es h place r _ new new g (ClosesArrived l new peer e d) b i

    -- a create that is given up waits for its network socket, and closes it
    udp_gone : (es : List Entry) (h : Here) (place : ℕ) (create : Create) → FoundUdp h place (UdpRecord.Creating create) → Grounds h → Inv es h → Allows P (λ fs done. Inv fs (put_udp h place (UdpRecord.Closed create.operation.who.side))) es (create_cancel_asks create)
    unfolding bind
    udp_gone es h place create g b i =
        let x = a.udp_closes es h place (UdpRecord.Creating create) create.operation.who.id g tt b i in
        let goes : is_going create.operation ≡ true = ap some_left (b.0.0.udps place (UdpRecord.Creating create) g).1 in
        allows_if P (λ fs done. Inv fs (put_udp h place (UdpRecord.Closed create.operation.who.side))) es (is_going create.operation) _ _ (λ going. (x.0, λ told fits. x.1 told)) (λ over. absurd (let z : true ≡ false = sym goes ∙ over in cc))

    -- a handle is made, or there is no room for it
    made_by : (es : List Entry) (h : Here) (op : OpId) (kind : Kind) (parent : Option ℕ) (sock : Option OpId) (so : Result ℕ Stop × HandleTable → Made) → Inv es h → Allows P (λ fs made. Inv fs (record h { machine = record h.machine { table = made.1 }; made = so made })) es (make_asks h.machine.table op kind parent sock)
    made_by es h op kind parent sock so i =
        allows_weaker P (λ fs made. Inv fs h) (λ fs made. Inv fs (record h { machine = record h.machine { table = made.1 }; made = so made })) (λ fs made k. a.tables fs h made.1 (so made) k) es _ (makes_by P (λ fs. Inv fs h) es h.machine.table op kind parent sock i (a.asks es h op _ refl (OnNone refl) i))

    -- bytes are offered once
    offered : (es : List Entry) (h : Here) (side : OpId) (bytes : List ℕ) → (let c : Call = call.Write side (length bytes) in P es (own_of line) c × ((told : Told) → Inv (es ++ entry (own_of line) c told ∷ []) (record h { own = Used }))) → Allows P (λ fs told. Inv fs (record h { own = Used })) es (write_asks (own_of line) side bytes)
    unfolding bind
    offered es h side bytes x = (x.0, λ told fits front. x.1 told)

    single_asks : (es : List Entry) (h : Here) (A : Type 0) (tree : Asks A) (end : A → Here)
        → Asked contexts line origin es h A tree end → Grounds h → Inv es h
        → Allows P (λ fs x. Inv fs (end x)) es tree
    single_asks es h _ _ _ (Questions place n r side c at g o q) b i = let x = on_record es h place r (own_of n) side c g (on_socket r side (b.1 place r g) o) (question_calm line origin n side c q.0) b i in (x.0, λ told f. x.1 told)
    single_asks es h _ _ _ (SetsBacklog place r side backlog at g s is) b i = let x = on_record es h place r (own_of line) side (call.SetBacklog side backlog) g (ap side_in s) (record { calm = refl; quiet = tt; on = refl }) b i in (x.0, λ told f. x.1 told)
    single_asks es h _ _ _ (Learns place r side at g e) b i =
        let x = on_record es h place r (own_of line) side (call.Local side) g (ap side_in e) (record { calm = refl; quiet = tt; on = refl }) b i in
        (x.0, λ told f. a.same _ h place r _ g (record { side = refl; streams = refl; listening = refl; does = told_same r.inner (told_addr told); doing = refl }) (x.1 told))
    single_asks es h _ _ _ (Closes place r side q g e) b i = let x = a.closes es h place r _ (own_of line) side g (ClosesSocket side e) b i in (x.0, λ told f. x.1 told)
    single_asks es h _ _ _ (UdpQuestions place n o c at g q) b i = let k = udp_question_calm line origin n o.inner.side c q in let x = a.asks es h (own_of n) c k.calm (OnUdp place o g k.on b k.quiet) i in (x.0, λ told f. x.1 told)
    single_asks es h _ _ _ (UdpLearns place part o at g) b i = let x = udp_told es h place o (part_of line part) (call.Local o.inner.side) (λ told. (udp_after_local o.inner (told_addr told)).1) (record { calm = refl; quiet = tt; on = refl }) (λ told. learnt_side o.inner (told_addr told)) g b i in (x.0, λ told f. x.1 told)
    single_asks es h _ _ _ (UdpDisconnects place o at g is) b i = let x = udp_told es h place o (own_of line) (call.UdpDisconnect o.inner.side) (λ told. let now : UdpShape = record o.inner { bound = true } in now) (record { calm = refl; quiet = tt; on = refl }) (λ told. refl) g b i in (x.0, λ told f. x.1 told)
    single_asks es h _ _ _ (UdpPeers place o at g) b i = let x = udp_told es h place o (own_of line) (call.Peer o.inner.side) (λ told. after_peer o.inner (told_addr told)) (record { calm = refl; quiet = tt; on = refl }) (λ told. refl) g b i in (x.0, λ told f. x.1 told)
    single_asks es h _ _ _ (UdpCloses place n o q g) b i = let x = a.udp_closes es h place (UdpRecord.Open o) (own_of n) g tt b i in (x.0, λ told f. x.1 told)
    single_asks es h _ _ _ (UdpBegins face ctx family c may at u m) b i = ((a.asks es h (own_of line) (call.UdpCreate ctx.name family) refl (OnNone refl) i).0, λ told f. udp_created es h ctx family u b i told f)
    single_asks es h _ _ _ (Resolves host records l s) b i = let x = a.asks es h (own_of line) (call.Lookup host) refl (OnNone refl) i in (x.0, λ told f. a.lookups _ h (records told) (sockets_stay (s told)) (x.1 told))
    single_asks es h _ _ _ (Looks place op g) b i = let x = a.asks es h op.id (call.Lookup op.host) refl (OnNone refl) i in (x.0, λ told f. x.1 told)
    single_asks es h _ _ _ (ResolvesBeside host l) b i = let x = a.asks es h (own_of line) (call.Lookup host) refl (OnNone refl) i in (x.0, λ told f. a.stands _ h host told (x.1 told))
    single_asks es h _ _ _ (LooksBeside n b host g e) c i = let x = a.asks es h (own_of n) (call.Lookup host) refl (OnNone refl) i in (x.0, λ told f. x.1 told)
    single_asks es h _ _ _ (MarksOne kind parent sock m) b i = made_by es h (own_of line) kind parent sock (λ made. h.made) i
    single_asks es h _ _ _ (MarksAccepted c listener place r is e o g) b i = made_by es h (own_of line) (Tcp2 place) (Some listener) (side_at (tcp2_at h.machine.store.records place)) (λ made. made_so place made.0) i
    single_asks es h _ _ _ (MarksPlain c listener remaining place r is e o g) b i = made_by es h (own_of line) (Tcp3 place) (Some listener) (side_at (tcp2_at h.machine.store.records place)) (λ made. Past) i
    single_asks es h _ _ _ (MarksListener n handle reached place r q m g has e) b i = made_by es h (own_of n) (Listen3 place) (Some handle) (side_at (tcp2_at h.machine.store.records place)) (λ made. Past) i
    single_asks es h _ _ _ (MarksResult socket place slot r makes made e g) b i = made_by es h (own_of line) (Result3 slot) (Some socket) (side_at (tcp2_at h.machine.store.records place)) (λ made. Past) i
    single_asks es h _ _ _ (WritesOnce c handle place given end r s half permit is to of at g e w own) b i = offered es h half.side (take 4294967295 given) (a.offers es h c handle place given r s half permit is g e w own b i)
    single_asks es h _ _ _ (MarksUdp face place u g) b i = made_by es h (udp_side u) (udp_kind face place) None (Some (udp_side u)) (λ made. Past) i
    single_asks es h _ _ _ (MarksStream place n handle reached kind m new e) b i = made_by es h (own_of n) kind (Some handle) (udp_side_at (udp2_at h.machine.store.records place)) (λ made. ToSend n handle reached) i
    single_asks es h _ _ _ (MarksError n handle place handles m k e f) b i = made_by es h (own_of n) ErrorValue (Some handle) (side_at (tcp2_at h.machine.store.records place)) (λ made. h.made) i
    single_asks es h _ _ _ (AsksCreate tells fails face ctx family c at u m) b i = allows_then P (Created h ctx family) (λ fs done. Inv fs (record h { machine = done.1; own = Used })) es (new_asks (own_of line) ctx family) (made_to tells fails (tcp_kind face) h.machine (own_of line)) (created es h ctx family u b i) (λ fs made k. joins tells fails face fs h ctx family made u k b)
    single_asks es h _ _ _ (Polls op after k) b i = a.polls es h op after k b i
    single_asks es h _ _ _ (BeginsDatagram place o call op polled at g starts m own) b i = a.datagrams es h place o call op polled at g starts own b i
    single_asks es h _ _ _ (PollsBeside n call place o make op polled is at g polls) b i = a.repolls es h n call place o make op polled is at g polls b i
    single_asks es h _ _ _ (Turns place r s g e) b i = turns_by P (λ fs w. Inv fs (put h place (with_writer r s w))) es s.writer (a.same es h place r (with_writer r s s.writer) g (record { side = refl; streams = sym e; listening = refl; does = refl; doing = refl }) i) (λ job now on. a.turns es h place r s job now g e on b i)
    single_asks es h _ _ _ (GivesUp place r q goes g) b i = gives_up_by P (λ fs. Inv fs (put h place (with_listening r Not))) es (a.stops es h place r g i) r.inner.state r.listening (b.1 place r g).1 (λ op c u. undoes es h place r op c g u b i)
    single_asks es h _ _ _ (UdpGivesUp place create q g) b i = udp_gone es h place create g b i

    -- the law, over that the records have their shape
    unfoldable single : Rests contexts line origin (λ es h. Base contexts line origin h × Shaped h)
    single = record { P = P; Inv = Inv; moves = λ es h now m b i. a.moves es h now m b i; asks = single_asks }

    -- what it says of a tree
    pub single_law : Law contexts line origin
    unfolding shapes
    single_law = on_names contexts line origin (layer (of_state (shapes contexts line origin)) single)

    -- what begins a write keeps it
    pub single_begins : KeepsWrites Inv → BeginsWrites single_law
    unfolding single_law single shapes
    single_begins k = begins_on_names contexts line origin (layer (of_state (shapes contexts line origin)) single) (begins_layer (of_state (shapes contexts line origin)) single (begins_state (shapes contexts line origin)) (record { begins = λ es h now w b i. k es h now w b i }))

    pub single_along : {A : Type 0} {h : Here} {end : A → Here} {asks : Asks A} → Walks single_law h end asks → (es : List Entry) → Base contexts line origin h → Shaped h → Inv es h → Allows P (λ fs x. Base contexts line origin (end x) × (Shaped (end x) × Inv fs (end x))) es asks
    unfolding single_law single shapes
    single_along w es b s i = on_along contexts line origin (layer (of_state (shapes contexts line origin)) single) w es b (s, i)

module _ (contexts : List WasiSocketsCtx) {P : List Entry → OpId → Call → Type 0} (Inv : ℕ → List Entry → Here → Type 0) (law : (line : ℕ) (origin : Step) → Single contexts line origin P (Inv line)) (writes : (line : ℕ) (origin : Step) → KeepsWrites contexts line origin (Inv line)) where
  -- Before the line of this number.
  record Between (line : ℕ) (es : List Entry) (m : Machine) : Type 0 where
    pub base : BaseBetween line m
    pub shaped : Shaped (Over m)
    pub kept : Inv line es (Starts m Unused)

  module _ (starts : (line : ℕ) (es : List Entry) (m : Machine) (own : Own) → GivesLater own → Inv line es (Starts m Unused) → Inv line es (Starts m own)) (next : (line : ℕ) (es : List Entry) (m : Machine) → Inv line es (Over m) → Inv (line + 1) es (Starts m Unused)) where
    line_kept : (line : ℕ) (s : Step) (m : Machine) (es : List Entry) → Between line es m → Allows P (λ fs done. Between (line + 1) fs done.1) es (machine_asks contexts m line s)
    line_kept line s m es i =
        let own = may_while m s m.store.standing in
        allows_weaker P _ (λ fs done. Between (line + 1) fs done.1) (λ fs done k. record { base = base_over contexts line s done.1 k.0; shaped = k.1.0; kept = next line fs done.1 k.1.1 }) es (machine_asks contexts m line s)
        (single_along contexts line s (law line s) (machine_walks line s (single_begins contexts line s (law line s) (writes line s)) m m.store.standing refl) es (base_starts contexts line s m own i.base) i.shaped (starts line es m own (may_later m s m.store.standing) i.kept))

    pub each_ask : Inv 1 [] (Starts first_state Unused) → (steps : List Step) (log : List Entry) (rest : Asks (List Reply × Machine)) → Left (run contexts [] first_state 1 steps) log rest → (before : List Entry) (e : Entry) (after : List Entry) → log ≡ before ++ e ∷ after → P before e.op e.call
    each_ask first steps log rest w before e after cut = each_entry contexts P Between line_kept (record { base = first_base; shaped = λ place r e. absurd (cc); kept = first }) steps log rest w before e after cut

-- The same, where the law of a line may rest on what its step meets.
module _ (contexts : List WasiSocketsCtx) {P : List Entry → OpId → Call → Type 0} (Inv : ℕ → List Entry → Here → Type 0) (Meets : ℕ → Step → Type 0) (law : (line : ℕ) (origin : Step) → Meets line origin → Single contexts line origin P (Inv line)) (writes : (line : ℕ) (origin : Step) → KeepsWrites contexts line origin (Inv line)) where
  -- Before the line of this number.
  record BetweenMet (line : ℕ) (es : List Entry) (m : Machine) : Type 0 where
    pub base : BaseBetween line m
    pub shaped : Shaped (Over m)
    pub kept : Inv line es (Starts m Unused)

  abbrev KeepsMet : List Entry → List Reply × Machine → Type 0
  KeepsMet es done = (line : ℕ) × BetweenMet line es done.1

  module _ (starts : (line : ℕ) (es : List Entry) (m : Machine) (own : Own) → GivesLater own → Inv line es (Starts m Unused) → Inv line es (Starts m own)) (next : (line : ℕ) (es : List Entry) (m : Machine) → Inv line es (Over m) → Inv (line + 1) es (Starts m Unused)) where
    met_kept : (line : ℕ) (s : Step) → Meets line s → (m : Machine) (es : List Entry) → BetweenMet line es m → Allows P (λ fs done. BetweenMet (line + 1) fs done.1) es (machine_asks contexts m line s)
    met_kept line s met m es i =
        let own = may_while m s m.store.standing in
        allows_weaker P _ (λ fs done. BetweenMet (line + 1) fs done.1) (λ fs done k. record { base = base_over contexts line s done.1 k.0; shaped = k.1.0; kept = next line fs done.1 k.1.1 }) es (machine_asks contexts m line s)
        (single_along contexts line s (law line s met) (machine_walks line s (single_begins contexts line s (law line s met) (writes line s)) m m.store.standing refl) es (base_starts contexts line s m own i.base) i.shaped (starts line es m own (may_later m s m.store.standing) i.kept))

    run_met : (replies : List Reply) (line : ℕ) (todo : List Step) (m : Machine) (es : List Entry) → ((i : ℕ) (s : Step) → slice_get todo i ≡ Some s → Meets (line + i) s) → BetweenMet line es m → Allows P KeepsMet es (run contexts replies m line todo)
    run_met replies line [] m es met i = (line, i)
    run_met replies line (s ∷ todo) m es met i =
        allows_then P (λ fs done. BetweenMet (line + 1) fs done.1) KeepsMet es (machine_asks contexts m line s) _ (met_kept line s (subst (λ (n : ℕ). Meets n s) (let z : line + 0 ≡ line = omega arith in z) (met 0 s refl)) m es i)
        (λ fs done k. allows_if P KeepsMet fs (is_trap done.0) _ _ (λ trap. (line + 1, k)) (λ on. run_met (replies ++ done.0 ∷ []) (line + 1) todo done.1 fs (λ j x e. subst (λ (n : ℕ). Meets n x) (let z : line + suc j ≡ (line + 1) + j = omega arith in z) (met (suc j) x e)) k))

    pub each_met : Inv 1 [] (Starts first_state Unused) → (steps : List Step) → ((i : ℕ) (s : Step) → slice_get steps i ≡ Some s → Meets (1 + i) s) → (log : List Entry) (rest : Asks (List Reply × Machine)) → Left (run contexts [] first_state 1 steps) log rest → (before : List Entry) (e : Entry) (after : List Entry) → log ≡ before ++ e ∷ after → P before e.op e.call
    each_met first steps met log rest w before e after cut =
        allows_at P KeepsMet [] (run contexts [] first_state 1 steps) rest before e after (run_met [] 1 steps first_state [] met (record { base = first_base; shaped = λ place r e. absurd (cc); kept = first })) (subst (λ (es : List Entry). Left (run contexts [] first_state 1 steps) es rest) cut w)
