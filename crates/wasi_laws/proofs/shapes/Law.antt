-- The law that each record has its shape.
use Rattle.wasi_tcp.specs.declared.halves.TcpSendStream.{TcpSendStream}
use Rattle.wasi_tcp.specs.declared.reader.ReadState.TheVariants as reading
use Rattle.wasi_tcp.specs.declared.socket.Connection.{Connection}
use Rattle.wasi_tcp.specs.declared.socket.TcpState.TheVariants as state
use Rattle.wasi_tcp.specs.declared.writer.WriteState.TheVariants as writing
use Rattle.wasi_walks.proofs.walks.Moves.{JoinsFault, JoinsPlain, faulted, joined_plain}
use Rattle.wasi_walks.proofs.fits.Polls.{Anything}
use Rattle.wasi_walks.proofs.walks.OfState.{Becomes as Leaves, Learnt, IsClosed, GivenUp, UdpLearnt, UdpIsClosed, UdpGivenUp, UdpBegun, Resolved, Created, CreatedWith, Writing, OfState}
use Rattle.wasi_laws.proofs.Words.{Base, InCall, closed_record, told_addr, told_same, with_listening, Not}
use Rattle.wasi_laws.proofs.Words.{Accepts, Allows, Awaits, BeginsAccept, BeginsBind, BeginsConnect, BeginsListen, BeginsWrite, BindsOn, Changes, CloseLast, ClosesReader, Connects, Done, End, Entry, Err, ErrorCode, Forgets, Found, Given, Held, Here, IsGone, Item, Job, Joins, LastAsk, List, Listener, Listening, Listens, Move, None, NothingLast, Ok, OpId, Opens, Operation, Option, Reconnects, Result, ShutdownLast, Some, Step, Streams, TcpRecord, TcpState, Unclosed, Unlistens, WasiSocketsCtx, Who, WriteState, Writes, accepting_now, allows_weaker, ap, bind, bind_progress, connect_ended, inl, inr, job_after, joined, last_ask, listen_after, new_job, opened_by, own_of, poll_asks, put, refl, side_of, subst, sym, true, turn_asks, whatever, with_inner, with_progress, with_reader, with_state, with_writer, ℕ, ◌∙◌, ◌≡◌}
use Rattle.wasi_laws.proofs.asks.Fronts.{Becomes, ToldAddress, PollLaw, polls_by}
use Rattle.wasi_laws.proofs.asks.Trees.{GoesOn, InWriting, InClosing, turns_by}
use Rattle.wasi_laws.proofs.shapes.Shape.{IsOfWrite, AreOfWrite, end_write, JobIs, WriterIs, writer_moves, HasStreams, StreamsShape, IsUsed, moves_used, ListenerShape, RecordShape, Unconnected, bare, sideless, restated, SocketsStay, sockets_stay}
use Rattle.wasi_records.specs.Records.{tcp2_at, tcp2_of, tcp2_put, tcp2_pushed}
use Rattle.wasi_walks.proofs.GoneLists.{was_there}
use Rattle.udp_records.specs.declared.udp.UdpRecord.{UdpRecord}
use Rattle.udp_records.specs.Udp.{udp_create_left}
use Rattle.wasi_udp.specs.Create.{Create}
use Rattle.tcp_records.specs.Ends.{ends_of}
use Rattle.wasi_walks.proofs.PipeLists.{slot_push_same}
use Rattle.wasi_walks.proofs.walks.Moves.{AddsSlot, OfReceive, OfSend, TakesEnd, GivesBack, CancelsBind, CancelsUdpBind, CancelsUdpConnect, DropsUdp, put_udp, udp_begun, with_records, Finds, UdpChanges, BeginsUdpBind, BeginsUdpConnect, BeginsSend, BeginsReceive, UdpCreates, UdpBindsOn, UdpConnectsOn, UdpReconnectsOn, SendsOn, ReceivesOn}
use Rattle.wasi_records.specs.declared.records.Record.{Record}
use Rattle.wasi_walks.proofs.Places.{push_new, push_was, put_found, put_was, tcp_sort, udp_sort}

-- what is left of a write takes no other form
pub never : (i j : Item) → Becomes i j → IsOfWrite i → ⊥
never _ _ (ToldAddress a usage) k = k
never _ _ _ k = k

last_left : (who : Who) (es : List Entry) (a : LastAsk) (c : ErrorCode) (given : Given) → Allows Anything (λ fs ended. AreOfWrite ended.1) es (last_ask who a c given)
unfolding bind
last_left who es NothingLast c given = tt
last_left who es CloseLast c given = (tt, λ told fits. tt)
last_left who es ShutdownLast c given = (tt, λ told fits. tt)

-- a poll of a write leaves a write
left_law : (who : Who) → PollLaw Anything who (λ es items. AreOfWrite items) (λ es ended. AreOfWrite ended.1)
left_law who = record {
  asks = λ es i items c a k. (tt, λ told fits. k);
  writes = λ es b bytes items k. (tt, λ told fits front. k);
  becomes = λ es i j items b k. absurd (never i j b k.0);
  drops = λ es i items s k. end_write items k.1;
  ends = λ es i items c given k. last_left who es who.last c given;
  waits = λ es items k. k;
  done = λ es given m k. k;
}

job_now : (at : OpId) (job : Job) (ended : End × List Item) → JobIs at job → AreOfWrite ended.1 → JobIs at (job_after job.write.who ended)
job_now at job (e, items) k l = record { side = k.side; last = k.last; left = l }

-- the job that a writer continues with, and the writer with another
pub job_of : {at : OpId} (w : WriteState) (job : Job) (now : Job → WriteState) → GoesOn w job now → WriterIs at w → JobIs at job × ((j : Job) → JobIs at j → WriterIs at (now j))
job_of _ _ _ (InWriting job e) k = (k, λ j l. l)
job_of _ _ _ (InClosing job e) k = (k, λ j l. l)

pub goes_used : (w : WriteState) (job : Job) (now : Job → WriteState) → GoesOn w job now → IsUsed w
goes_used _ _ _ (InWriting job e) = tt
goes_used _ _ _ (InClosing job e) = tt

turned : (at : OpId) (es : List Entry) (w : WriteState) (job : Job) (now : Job → WriteState) → GoesOn w job now → WriterIs at w → Allows Anything (λ fs ended. WriterIs at (now (job_after job.write.who ended))) es (poll_asks job.write)
turned at es w job now on k =
    let j = job_of w job now on k in
    allows_weaker Anything (λ fs ended. AreOfWrite ended.1) (λ fs ended. WriterIs at (now (job_after job.write.who ended))) (λ fs ended l. j.1 _ (job_now at job ended j.0 l)) es _ (polls_by (left_law job.write.who) job.write.left es j.0.left)

-- == records
pub has_streams : (r : TcpRecord) (s : Streams) → r.streams ≡ Some s → RecordShape r → HasStreams r.inner.state s
has_streams r s e k = subst (StreamsShape r.inner.state) e k.0

writes_on : (r : TcpRecord) (s : Streams) (w : WriteState) (e : r.streams ≡ Some s) (k : RecordShape r) → WriterIs (has_streams r s e k).connection.side w → (IsUsed w → IsUsed s.writer) → RecordShape (with_writer r s w)
writes_on r s w e k is used = let o = has_streams r s e k in (record { connection = o.connection; is = o.is; taken = λ u. o.taken (used u); reader = o.reader; writer = is }, k.1)

-- a connection changes, on its network socket
reconnected : (c now : Connection) (o : Option Streams) (l : Listening) → now.side ≡ c.side → (c.send_taken ≡ true → now.send_taken ≡ true) → StreamsShape (state.Connected c) o × ListenerShape (state.Connected c) l → StreamsShape (state.Connected now) o × ListenerShape (state.Connected now) l
reconnected c now o l s t k = (by_streams o k.0, by_listening l k.1)
  where
    by_streams : (o : Option Streams) → StreamsShape (state.Connected c) o → StreamsShape (state.Connected now) o
    by_streams None h = tt
    by_streams (Some x) h =
        let same : h.connection ≡ c = cc in
        let of : h.connection.side ≡ now.side = ap (λ (y : Connection). y.side) same ∙ sym s in
        record { connection = now; is = refl; taken = λ u. t (sym (ap (λ (y : Connection). y.send_taken) same) ∙ h.taken u); reader = λ half e. h.reader half e ∙ of; writer = subst (λ (y : OpId). WriterIs y x.writer) of h.writer }

    by_listening : (l : Listening) → ListenerShape (state.Connected c) l → ListenerShape (state.Connected now) l
    by_listening (Accepts l) h = absurd (cc)
    by_listening (Unclosed x) h = h
    by_listening _ h = tt

-- a half is taken as an end of 0.3, beside the other or alone
reads_by : (c : Connection) (o : Option Streams) → (let now : TcpState = state.Connected (record c { receive_taken = true }) in StreamsShape now o → HasStreams now (record (ends_of o) { reader = reading.Open (record { side = c.side }) }))
reads_by c None k = record { connection = _; is = refl; taken = λ u. absurd u; reader = λ half d. (let q : record { side = c.side } ≡ half = cc in ap (λ y. y.side) (sym q)); writer = tt }
reads_by c (Some s) k =
    let same : k.connection ≡ record c { receive_taken = true } = cc in
    record { connection = k.connection; is = k.is; taken = k.taken; reader = λ half d. (let q : record { side = c.side } ≡ half = cc in ap (λ y. y.side) (sym q) ∙ ap (λ (y : Connection). y.side) (sym same)); writer = k.writer }

writes_by : (c : Connection) (o : Option Streams) → (let now : TcpState = state.Connected (record c { send_taken = true }) in StreamsShape now o → HasStreams now (record (ends_of o) { writer = writing.Ready (record { side = c.side }) 0 }))
writes_by c None k = record { connection = _; is = refl; taken = λ u. refl; reader = λ half d. absurd (cc); writer = refl }
writes_by c (Some s) k =
    let same : k.connection ≡ record c { send_taken = true } = cc in
    record { connection = k.connection; is = k.is; taken = λ u. ap (λ (y : Connection). y.send_taken) same; reader = k.reader; writer = ap (λ (y : Connection). y.side) (sym same) }

-- another socket, or another listening, of a record that has none of these
pub restates : (r : TcpRecord) (t : TcpState) → Unconnected r.inner.state → ((x : OpId) → r.inner.state ≡ state.Listening x → ⊥) → RecordShape r → RecordShape (with_inner r (with_state r.inner t))
restates r t n m k = restated r.inner.state t r.streams r.listening n m k

ended_shape : (r : TcpRecord) (op : Operation) (end : End × List Item) → r.inner.state ≡ state.Connecting op → RecordShape r → RecordShape (with_inner r (with_state r.inner (connect_ended op.who end).1))
ended_shape r op end e k = restates r (connect_ended op.who end).1 (λ c d. let p : state.Connecting op ≡ state.Connected c = sym e ∙ d in absurd (cc)) (λ x d. let p : state.Connecting op ≡ state.Listening x = sym e ∙ d in absurd (cc)) k

listened_shape : (r : TcpRecord) (op : Operation) (end : End × List Item) → side_of r.inner ≡ None → RecordShape r → RecordShape (listen_after op r end)
listened_shape r op (Done given, items) c k = (subst (StreamsShape (state.Listening op.who.side)) (sym (bare r.inner.state r.streams (sideless r.inner.state c) k.0)) tt, refl)
listened_shape r op (_, items) c k = (k.0, tt)

accepts_shape : (r : TcpRecord) (l : Listener) → r.listening ≡ Accepts l → RecordShape r → ListenerShape r.inner.state (Accepts l)
accepts_shape r l e k = subst (ListenerShape r.inner.state) e k.1

-- each record has its shape
abbrev pub Shaped : Here → Type 0
Shaped h = (place : ℕ) (r : TcpRecord) → Found h place r → RecordShape r

pub put_shape : (h : Here) (place : ℕ) (now : TcpRecord) → RecordShape now → Shaped h → Shaped (put h place now)
put_shape h place now k i = λ n r e. elim (put_found tcp_sort h.machine.store.records place now n r e) [ inl p ↦ subst RecordShape p.1 k | inr p ↦ i n r p ]

pub udp_shape : (h : Here) (place : ℕ) (now : UdpRecord) → Shaped h → Shaped (put_udp h place now)
udp_shape h place now i = λ n r e. i n r (put_was udp_sort tcp_sort (λ t. refl) h.machine.store.records place now n r e)

-- a UDP socket is polled: the records keep their shape, whatever is left of it
udp_polled : (es : List Entry) (h : Here) (place : ℕ) (op : Operation) (now : End × List Item → UdpRecord) → Shaped h → Allows Anything (λ fs ended. Shaped (put_udp h place (now ended))) es (poll_asks op)
udp_polled es h place op now i = whatever (λ ended. Shaped (put_udp h place (now ended))) (λ ended. udp_shape h place (now ended) i) es (poll_asks op)

pub begun_shape : (h : Here) (made : Result Create ErrorCode) → Shaped h → Shaped (udp_begun h made)
begun_shape h (Ok create) i = λ n r e. i n r (push_was udp_sort tcp_sort (λ t. refl) h.machine.store.records (UdpRecord.Creating create) n r e)
begun_shape h (Err c) i = i

-- a lookup has no shape
pub lookup_shape : (h : Here) (records : List Record) → SocketsStay h.machine.store.records records → Shaped h → Shaped (with_records h records)
lookup_shape h records s i = λ place r e. i place r (sym (s.tcp place) ∙ e)

push_shape : (records : List Record) (now : TcpRecord) → RecordShape now → ((place : ℕ) (r : TcpRecord) → tcp2_at records place ≡ Some r → RecordShape r) → (place : ℕ) (r : TcpRecord) → tcp2_at (tcp2_pushed records now) place ≡ Some r → RecordShape r
push_shape records now k i place r e = elim (push_new tcp_sort records now place r e) [ inl p ↦ i place r p | inr p ↦ subst RecordShape p k ]

module _ (contexts : List WasiSocketsCtx) (line : ℕ) (origin : Step) where
  -- a write begins, of whatever line
  pub write_shape : (h : Here) (place n : ℕ) (r : TcpRecord) (s : Streams) (half : TcpSendStream) (permit : ℕ) (bytes : List ℕ) → Found h place r → r.streams ≡ Some s → s.writer ≡ writing.Ready half permit → Shaped h → Shaped (put h place (with_writer r s (writing.Writing (new_job (own_of n) half.side bytes))))
  write_shape h place n r s half permit bytes g e w i =
      let k = i place r g in put_shape h place _ (writes_on r s _ e k (record { side = subst (WriterIs _) w (has_streams r s e k).writer; last = refl; left = (tt, tt) }) (λ u. subst IsUsed (sym w) tt)) i

  pub moves_shape : (h now : Here) → Move line origin h now → Shaped h → Shaped now
  moves_shape _ _ (Changes h place r now g p) i = put_shape h place now (rw (p.does, p.streams, p.listening) (i place r g)) i
  moves_shape _ _ (ClosesReader h place r s g e) i =
      let k = i place r g in let o = has_streams r s e k in
      put_shape h place (with_reader r s reading.Closed) (record { connection = o.connection; is = o.is; taken = o.taken; reader = λ half d. absurd (cc); writer = o.writer }, k.1) i
  moves_shape _ _ (Writes h place r s w g e m) i = let k = i place r g in put_shape h place _ (writes_on r s w e k (writer_moves _ s.writer w m (has_streams r s e k).writer) (moves_used s.writer w m)) i
  moves_shape _ _ (IsGone h place r q g e) i = put_shape h place _ (tt, tt) i
  moves_shape _ _ (Reconnects h place r c now g e s t u) i = put_shape h place _ (reconnected c now r.streams r.listening s t (subst (λ (x : TcpState). StreamsShape x r.streams × ListenerShape x r.listening) e (i place r g))) i
  moves_shape _ _ (Opens h place r c d g e n) i =
      let now : Connection = record c { send_taken = true } in
      let k = reconnected c now r.streams r.listening refl (λ t. refl) (subst (λ (x : TcpState). StreamsShape x r.streams × ListenerShape x r.listening) e (i place r g)) in
      put_shape h place (opened_by r c) (record { connection = now; is = refl; taken = λ u. refl; reader = λ half d. (let q : record { side = c.side } ≡ half = cc in ap (λ y. y.side) (sym q)); writer = refl }, k.1) i
  moves_shape _ _ (TakesEnd h handle place r _ t g (OfReceive c e free)) i =
      let k = reconnected c (record c { receive_taken = true }) r.streams r.listening refl (λ t. t) (subst (λ (x : TcpState). StreamsShape x r.streams × ListenerShape x r.listening) e (i place r g)) in
      put_shape h place _ (reads_by c r.streams k.0, k.1) i
  moves_shape _ _ (TakesEnd h handle place r _ t g (OfSend c e free)) i =
      let k = reconnected c (record c { send_taken = true }) r.streams r.listening refl (λ t. refl) (subst (λ (x : TcpState). StreamsShape x r.streams × ListenerShape x r.listening) e (i place r g)) in
      put_shape h place _ (writes_by c r.streams k.0, k.1) i
  moves_shape _ _ (AddsSlot h s) i = lookup_shape h _ (sockets_stay (slot_push_same {new = λ op. ⊥} h.machine.store.records s)) i
  moves_shape _ _ (BeginsConnect h place r side a bound at g d to known idle own) i = put_shape h place _ (restates r _ (λ c e. let p : state.Default side ≡ state.Connected c = sym d ∙ e in absurd (cc)) (λ x e. let p : state.Default side ≡ state.Listening x = sym d ∙ e in absurd (cc)) (i place r g)) i
  moves_shape _ _ (BeginsBind h place r side a at g d to own) i = put_shape h place _ (i place r g) i
  moves_shape _ _ (BeginsWrite h place part r s half permit bytes at g e w within own) i = write_shape h place part r s half permit bytes g e w i
  moves_shape _ _ (BeginsListen h place r side bound at g d known free none to idle own) i =
      let k = restates r (state.Closed _) (λ c e. let p : state.Default side ≡ state.Connected c = sym d ∙ e in absurd (cc)) (λ x e. let p : state.Default side ≡ state.Listening x = sym d ∙ e in absurd (cc)) (i place r g) in put_shape h place _ (k.0, tt) i
  moves_shape _ _ (BeginsAccept h place part r l at g e a own) i = let k = i place r g in put_shape h place _ (k.0, accepts_shape r l e k) i
  moves_shape _ _ (Unlistens h place r op q g e c o) i = put_shape h place _ ((i place r g).0, tt) i
  moves_shape _ _ (Forgets h place r l c g e a) i = let k = i place r g in put_shape h place _ (k.0, accepts_shape r l e k) i
  moves_shape _ _ (Joins h c handle place r l new peer is of u g e a) i =
      let k = i place r g in
      let idle : TcpRecord = accepting_now r l _ in
      push_shape (tcp2_put h.machine.store.records place idle) (joined l new peer) (record { connection = _; is = refl; taken = λ u. refl; reader = λ half d. (let q : record { side = new } ≡ half = cc in ap (λ y. y.side) (sym q)); writer = refl }, tt) (put_shape h place idle (k.0, accepts_shape r l e k) i)
  moves_shape _ _ (JoinsPlain h c listener remaining place r l new peer is of u g e a) i =
      let k = i place r g in
      let idle : TcpRecord = accepting_now r l _ in
      push_shape (tcp2_put h.machine.store.records place idle) (joined_plain l new peer) (tt, tt) (put_shape h place idle (k.0, accepts_shape r l e k) i)
  moves_shape _ _ (JoinsFault h place r l c u g e a) i =
      let k = i place r g in
      let idle : TcpRecord = accepting_now r l _ in
      push_shape (tcp2_put h.machine.store.records place idle) (faulted l c) (tt, tt) (put_shape h place idle (k.0, accepts_shape r l e k) i)
  moves_shape _ _ (UdpChanges h place o now g p keeps) i = udp_shape h place _ i
  moves_shape _ _ (BeginsUdpBind h place o a at g to own) i = udp_shape h place _ i
  moves_shape _ _ (BeginsUdpConnect h place o a bound at g to known none own) i = udp_shape h place _ i
  moves_shape _ _ (BeginsSend h place part o out d bound at g e is known own) i = udp_shape h place _ i
  moves_shape _ _ (BeginsReceive h place part o inc bound at g e is own) i = udp_shape h place _ i
  moves_shape _ _ (CancelsBind h place r op q g e) i = put_shape h place _ (i place r g) i
  moves_shape _ _ (CancelsUdpBind h place o op q g e) i = udp_shape h place _ i
  moves_shape _ _ (CancelsUdpConnect h place o q g) i = udp_shape h place _ i
  moves_shape _ _ (DropsUdp h place o idle made g) i = udp_shape h place _ i
  moves_shape _ _ (Finds h records s) i = lookup_shape h records (sockets_stay s) i
  moves_shape _ _ (GivesBack h place idle left) i = λ k r e. i k r (was_there tcp2_of refl h.machine.store.records place k r e)
  -- the others leave all that is looked at
  moves_shape _ _ _ i = i

  pub polls_shape : (es : List Entry) (h : Here) (op : Operation) (after : End × List Item → Here) → Held h op after → Shaped h → Allows Anything (λ fs ended. Shaped (after ended)) es (poll_asks op)
  polls_shape es h _ _ (BindsOn place r op q g e) i = whatever (λ ended. Shaped (put h place (with_progress r (bind_progress op ended)))) (λ ended. put_shape h place _ (i place r g) i) es (poll_asks op)
  polls_shape es h _ _ (Connects place r op g e) i = whatever (λ ended. Shaped (put h place (with_inner r (with_state r.inner (connect_ended op.who ended).1)))) (λ ended. put_shape h place _ (ended_shape r op ended e (i place r g)) i) es (poll_asks op)
  polls_shape es h _ _ (Listens place r op q g e c) i = whatever (λ ended. Shaped (put h place (listen_after op r ended))) (λ ended. put_shape h place _ (listened_shape r op ended c (i place r g)) i) es (poll_asks op)
  polls_shape es h _ _ (Awaits place r l op g e a) i = let k = i place r g in whatever (λ ended. Shaped (put h place (accepting_now r l _))) (λ ended. put_shape h place _ (k.0, accepts_shape r l e k) i) es (poll_asks op)
  polls_shape es h _ _ (UdpCreates place create q g) i = udp_polled es h place create.operation (udp_create_left create) i
  polls_shape es h op _ (UdpBindsOn place o _ q g e) i = udp_polled es h place op _ i
  polls_shape es h op _ (UdpConnectsOn place o _ q g e) i = udp_polled es h place op _ i
  polls_shape es h op _ (UdpReconnectsOn place o _ q g e) i = udp_polled es h place op _ i
  polls_shape es h op _ (SendsOn place o out _ left g e s settles) i = udp_polled es h place op _ i
  polls_shape es h op _ (ReceivesOn place o inc _ g e r) i = udp_polled es h place op _ i

  pub turns_shape : (es : List Entry) (h : Here) (place : ℕ) (r : TcpRecord) (s : Streams) → Found h place r → r.streams ≡ Some s → Shaped h → Allows Anything (λ fs done. Shaped (put h place (with_writer r s done.1))) es (turn_asks s.writer)
  turns_shape es h place r s g e i =
      let k = i place r g in let o = has_streams r s e k in
      turns_by Anything (λ fs w. Shaped (put h place (with_writer r s w))) es s.writer (put_shape h place _ (writes_on r s s.writer e k o.writer (λ u. u)) i)
      (λ job now on. allows_weaker Anything (λ fs ended. WriterIs o.connection.side (now (job_after job.write.who ended))) (λ fs ended. Shaped (put h place (with_writer r s (now (job_after job.write.who ended)))))
      (λ fs ended l. put_shape h place _ (writes_on r s _ e k l (λ u. goes_used s.writer job now on)) i) es (poll_asks job.write) (turned o.connection.side es s.writer job now on o.writer))

  pub becomes_shape : (h now : Here) → Leaves contexts line origin h now → Shaped h → Shaped now
  becomes_shape h _ (Learnt place r side told at g e) i = put_shape h place _ (rw (told_same r.inner (told_addr told)) (i place r g)) i
  becomes_shape h _ (IsClosed place r side q g e) i = put_shape h place (closed_record r) (tt, tt) i
  becomes_shape h _ (GivenUp place r q goes g) i = put_shape h place (with_listening r Not) ((i place r g).0, tt) i
  becomes_shape h _ (UdpLearnt place o socket g e) i = udp_shape h place _ i
  becomes_shape h _ (UdpIsClosed place o q g) i = udp_shape h place _ i
  becomes_shape h _ (UdpGivenUp place create q g) i = udp_shape h place _ i
  becomes_shape h _ (UdpBegun face ctx family r c u m) i = begun_shape h _ i
  becomes_shape h _ (Resolved host records l s) i = lookup_shape h records (sockets_stay s) i
  becomes_shape h _ (Created face ctx family c u m) i = push_shape h.machine.store.records _ (tt, tt) i
  becomes_shape h _ (CreatedWith face ctx family c u m) i = push_shape h.machine.store.records _ (tt, tt) i
  becomes_shape h _ (Writing _ (InCall place n r s half permit bytes at g e w within used)) i = write_shape h place n r s half permit bytes g e w i
  becomes_shape h _ _ i = i

  unfoldable pub shapes : OfState contexts line origin (λ es h. Base contexts line origin h)
  shapes = record { Holds = Shaped; moves = λ es h now m b i. moves_shape h now m i; becomes = λ es h now k b i. becomes_shape h now k i; polls = λ es h op after k b i. polls_shape es h op after k i; turns = λ es h place r s g e b i. turns_shape es h place r s g e i }
