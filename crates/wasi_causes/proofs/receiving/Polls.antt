-- What polls leave of the stream of a handle: those of its receives are exact, and all others do nothing to it.
use Rattle.wasi_causes.proofs.Words.{Allows, Asks, End, Entry, Item, List, None, OpId, Operation, Option, Some, Step, TcpRecord, WasiSocketsCtx, ap, arith, inl, inr, kind_at, poll_asks, refl, subst, sym, true, false, Bool, ℕ, ⊤, ◌∙◌, ◌≡◌, ◌⊎◌}
use Rattle.wasi_udp.specs.Create.{Create}
use Rattle.wasi_udp.specs.Receive.{receive_first, receive_left as left_of_receive, wanting}
use Rattle.wasi_world.specs.declared.datagram.IncomingDatagram.{IncomingDatagram}
use Rattle.udp_records.specs.Receiving.{receive_left, with_receiving}
use Rattle.wasi_records.specs.Records.{tcp2_put, udp2_put}
use Rattle.udp_records.specs.declared.datagrams.Incoming.{Incoming as IncomingStream}
use Rattle.udp_records.specs.declared.datagrams.Receiving.{Receiving}
use Rattle.host_store.specs.declared.kind.Kind.TheVariants.{Incoming}
use Rattle.wasi_records.specs.declared.records.Record.{Record}
use Rattle.udp_records.specs.declared.udp.OpenUdp.{OpenUdp}
use Rattle.udp_records.specs.declared.udp.UdpRecord.{UdpRecord}
use Rattle.wasi_walks.proofs.Words.{allows_weaker}
use Rattle.wasi_walks.proofs.claims.Law.{Base}
use Rattle.wasi_walks.proofs.fits.Polls.{Anything}
use Rattle.wasi_walks.proofs.fits.Records.{ReceiveOn}
use Rattle.wasi_walks.proofs.received.Polls.{AreSilent, Elsewhere, IsApart, silent_poll}
use Rattle.wasi_walks.proofs.received.Silent.{apart_silent}
use Rattle.wasi_walks.proofs.remotes.State.{Keeps}
use Rattle.wasi_walks.proofs.walks.Moves.{Found, FoundUdp, Here, put, put_udp, receive_op, receiving_in}
use Rattle.wasi_causes.proofs.StreamHandles.{StreamsApart, apart_here, apart_in, streams_law}
use Rattle.wasi_causes.proofs.receiving.Along.{HandName}
use Rattle.wasi_causes.proofs.receiving.Named.{NamesApart, name_of_op, receive_name}
use Rattle.wasi_causes.proofs.receiving.Older.{AllOlder}
use Rattle.wasi_causes.proofs.receiving.Polled.{Exact, hand_in, hand_of, poll_exact}
use Rattle.wasi_causes.proofs.receiving.Unmarked.{Unmarked, polls_unmarked}
use Rattle.wasi_causes.proofs.receiving.Streams.{Becomes, IsFresh, Knows, StreamAt, StreamIs, at_other, at_silent, its_name, put_at, same_place, stream_along, tcp_at}
use Rattle.wasi_walks.proofs.Places.{put_finds, udp_sort}

-- a receive that begins has nothing in hand
pub begun_none : (op : OpId) (bound : Bool) → hand_in op (left_of_receive None (receive_first bound)) ≡ None
begun_none op true = refl
begun_none op false = refl

pub same_open : (a b : OpenUdp) → UdpRecord.Open a ≡ UdpRecord.Open b → a ≡ b
same_open a b e = cc

module _ (handle : ℕ) (list : List IncomingDatagram) (contexts : List WasiSocketsCtx) (line : ℕ) (origin : Step) where
  -- what the law rests on
  abbrev pub Rest : List Entry → Here → Type 0
  Rest es h = (Base contexts line origin h × Keeps es h.machine.store.records) × ((streams_law contexts line origin).Inv es h × (NamesApart line h.own h.machine.store.records × AllOlder line h.own es))

  abbrev pub Mine : List Entry → Here → Type 0
  Mine es h = StreamIs handle list es h.machine.table h.machine.store.records × IsFresh handle list h.machine.table

  pub apart_of : (es : List Entry) (h : Here) → (streams_law contexts line origin).Inv es h → StreamsApart h.machine.table h.machine.store.records
  apart_of es h b = apart_here h (apart_in contexts line origin es h b)

  -- == what the stream isn't
  -- another socket isn't on its network socket
  pub other_side : (es : List Entry) (h : Here) (b : Rest es h) (k : ℕ) (o : OpenUdp) (place : ℕ) (s : StreamAt handle list es h.machine.store.records place) → FoundUdp h k (UdpRecord.Open o) → (k ≡ place → ⊥) → o.inner.side ≡ s.socket.inner.side → ⊥
  other_side es h b k o place s g n e = n (b.0.0.1.udps.one s.socket.inner.side k place (UdpRecord.Open o) (UdpRecord.Open s.socket) g s.at e refl)

  -- what it has in hand has the name of its receive
  pub hand_named : (es : List Entry) (records : List Record) (place : ℕ) (s : StreamAt handle list es records place) (x : OpId) → HandName (hand_of s.stream.receiving) x → receive_name (UdpRecord.Open s.socket) ≡ Some x
  hand_named es records place s x k = ap (λ (inc : Option IncomingStream). name_of_op (receiving_in inc)) s.has ∙ its_name s.stream.receiving x k

  -- which no line has first
  pub not_first : (es : List Entry) (h : Here) (b : Rest es h) (place : ℕ) (s : StreamAt handle list es h.machine.store.records place) (x : OpId) → x.part ≡ 0 → HandName (hand_of s.stream.receiving) x → ⊥
  not_first es h b place s x first k = let l = (b.1.1.0.later place (UdpRecord.Open s.socket) x s.at (hand_named es h.machine.store.records place s x k)).0 in absurd (omega (arith, first, l))

  -- == along a tree
  -- which does nothing to the stream
  pub quietly : {A : Type 0} (h : Here) (end : A → List Record) (es : List Entry) (asks : Asks A) → Mine es h
      → ((fs : List Entry) (a : A) (place : ℕ) → kind_at h.machine.table handle ≡ Some (Incoming place) → StreamAt handle list fs h.machine.store.records place → StreamAt handle list fs (end a) place)
      → ((place : ℕ) → kind_at h.machine.table handle ≡ Some (Incoming place) → (s : StreamAt handle list es h.machine.store.records place) → Allows (Elsewhere s.socket.inner.side ⊤ (HandName (hand_of s.stream.receiving))) (λ fs a. ⊤) es asks)
      → Allows Unmarked (λ fs a. ⊤) es asks
      → Allows Anything (λ fs a. StreamIs handle list fs h.machine.table (end a) × IsFresh handle list h.machine.table) es asks
  quietly h end es asks i ends n u =
      allows_weaker Anything (λ fs a. StreamIs handle list fs h.machine.table (end a)) (λ fs a. StreamIs handle list fs h.machine.table (end a) × IsFresh handle list h.machine.table) (λ fs a k. (k, i.1)) es asks
      (stream_along handle list h.machine.table end es asks (λ place e. let s = i.0 place e in
      allows_weaker Anything (λ fs a. StreamAt handle list fs h.machine.store.records place) (λ fs a. StreamAt handle list fs (end a) place) (λ fs a k. ends fs a place e k) es asks (at_silent handle list es h.machine.store.records place asks s (n place e s) u)))

  -- a poll of an operation of a TCP socket
  pub polled_tcp : (es : List Entry) (h : Here) (k : ℕ) (r : TcpRecord) (op : Operation) (now : End × List Item → TcpRecord) → Found h k r → ((side : OpId) (Names : OpId → Type 0) → AreSilent side ⊤ Names op.who op.left) → Mine es h → Allows Anything (λ fs ended. Mine fs (put h k (now ended))) es (poll_asks op)
  polled_tcp es h k r op now g n i =
      quietly h (λ ended. tcp2_put h.machine.store.records k (now ended)) es (poll_asks op) i (λ fs ended place e s. tcp_at handle list fs h.machine.store.records k place r (now ended) g s)
      (λ place e s. silent_poll s.socket.inner.side ⊤ (HandName (hand_of s.stream.receiving)) op es (n s.socket.inner.side (HandName (hand_of s.stream.receiving)))) (polls_unmarked op es)

  -- and of one of a UDP socket, which leaves what there is of the stream
  pub polled_udp : (es : List Entry) (h : Here) (k : ℕ) (u : UdpRecord) (op : Operation) (now : End × List Item → UdpRecord) → FoundUdp h k u → ((fs : List Entry) (ended : End × List Item) → Becomes handle list fs u (now ended))
      → ((place : ℕ) (s : StreamAt handle list es h.machine.store.records place) → AreSilent s.socket.inner.side ⊤ (HandName (hand_of s.stream.receiving)) op.who op.left) → Mine es h → Allows Anything (λ fs ended. Mine fs (put_udp h k (now ended))) es (poll_asks op)
  polled_udp es h k u op now g becomes n i =
      quietly h (λ ended. udp2_put h.machine.store.records k (now ended)) es (poll_asks op) i (λ fs ended place e s. put_at handle list fs h.machine.table h.machine.store.records k place u (now ended) g e (λ live. becomes fs ended) s)
      (λ place e s. silent_poll s.socket.inner.side ⊤ (HandName (hand_of s.stream.receiving)) op es (n place s)) (polls_unmarked op es)

  -- what isn't open has no stream
  pub no_stream : (es : List Entry) (create : Create) (now : UdpRecord) → Becomes handle list es (UdpRecord.Creating create) now
  no_stream es create now o inc is has k = absurd (cc)

  -- nor has a socket that connects
  pub connecting_none : (es : List Entry) (h : Here) (b : Rest es h) (place : ℕ) (o : OpenUdp) (op : Operation) → FoundUdp h place (UdpRecord.Open o) → o.connecting ≡ Some op → (fs : List Entry) (now : UdpRecord) → Becomes handle list fs (UdpRecord.Open o) now
  connecting_none es h b place o op g e fs now p inc is has k =
      let none : o.incoming ≡ None = ((apart_of es h b.1.0).quiet place o op g e).0 in
      let same : o ≡ p = same_open o p is in
      let some : o.incoming ≡ Some inc = ap (λ (x : OpenUdp). x.incoming) same ∙ has in
      let both : None ≡ Some inc = sym none ∙ some in
      absurd (cc)

  -- == a receive is polled
  -- of the stream: it is exact
  receives_own : (es : List Entry) (h : Here) (k : ℕ) (o : OpenUdp) (inc : IncomingStream) (op : Operation) → FoundUdp h k (UdpRecord.Open o) → o.incoming ≡ Some inc → inc.receiving ≡ Receiving.InProgress op → ReceiveOn o.inner.side op → StreamAt handle list es h.machine.store.records k
      → Allows Anything (λ fs ended. StreamAt handle list fs (udp2_put h.machine.store.records k (UdpRecord.Open (record o { incoming = Some (with_receiving inc (receive_left op ended)) }))) k) es (poll_asks (wanting inc.remote op))
  receives_own es h k o inc op g e f its s =
      let now : End × List Item → OpenUdp = λ ended. record o { incoming = Some (with_receiving inc (receive_left op ended)) } in
      let same : o ≡ s.socket = same_open o s.socket (let p : Some (UdpRecord.Open o) ≡ Some (UdpRecord.Open s.socket) = sym g ∙ s.at in cc) in
      let stream : inc ≡ s.stream = (let p : Some inc ≡ Some s.stream = sym e ∙ (ap (λ (x : OpenUdp). x.incoming) same ∙ s.has) in cc) in
      let first : Knows handle list es o s.stream = subst (λ (x : OpenUdp). Knows handle list es x s.stream) (sym same) s.knows in
      let knows : Knows handle list es o inc = subst (λ (x : IncomingStream). Knows handle list es o x) (sym stream) first in
      let hand : Exact handle o.inner.side inc.remote es list (Receiving.InProgress op) = subst (λ (r : Receiving). Exact handle o.inner.side inc.remote es list r) f knows in
      allows_weaker Anything (λ fs ended. Exact handle op.who.side inc.remote fs list (receive_left op ended)) (λ fs ended. StreamAt handle list fs (udp2_put h.machine.store.records k (UdpRecord.Open (now ended))) k)
      (λ fs ended n. record { socket = now ended; at = put_finds udp_sort h.machine.store.records k (UdpRecord.Open o) (UdpRecord.Open (now ended)) g; stream = with_receiving inc (receive_left op ended); has = refl; knows = subst (λ (x : OpId). Exact handle x inc.remote fs list (receive_left op ended)) its.of_side n }) es (poll_asks (wanting inc.remote op))
      (poll_exact handle inc.remote list op es its.receive (subst (λ (x : OpId). Exact handle x inc.remote es list (Receiving.InProgress op)) (sym its.of_side) hand))

  -- of another one: it asks another network socket, by another name
  receives_apart : (es : List Entry) (h : Here) (b : Rest es h) (k : ℕ) (o : OpenUdp) (inc : IncomingStream) (op : Operation) → FoundUdp h k (UdpRecord.Open o) → o.incoming ≡ Some inc → inc.receiving ≡ Receiving.InProgress op → ReceiveOn o.inner.side op → (place : ℕ) (s : StreamAt handle list es h.machine.store.records place) → (k ≡ place → ⊥)
      → IsApart s.socket.inner.side ⊤ (HandName (hand_of s.stream.receiving)) op.who
  receives_apart es h b k o inc op g e f its place s n x = (
    (λ d. other_side es h b k o place s g n (sym its.of_side ∙ d)),
    (λ d. n (b.1.1.0.apart k place (UdpRecord.Open o) (UdpRecord.Open s.socket) op.who.id g s.at (ap (λ (i : Option IncomingStream). name_of_op (receiving_in i)) e ∙ ap (λ (r : Receiving). name_of_op (receive_op r)) f) (hand_named es h.machine.store.records place s op.who.id d))),
  )

  pub receives : (es : List Entry) (h : Here) (b : Rest es h) (k : ℕ) (o : OpenUdp) (inc : IncomingStream) (op : Operation) → FoundUdp h k (UdpRecord.Open o) → o.incoming ≡ Some inc → inc.receiving ≡ Receiving.InProgress op → ReceiveOn o.inner.side op → Mine es h
      → Allows Anything (λ fs ended. Mine fs (put_udp h k (UdpRecord.Open (record o { incoming = Some (with_receiving inc (receive_left op ended)) })))) es (poll_asks (wanting inc.remote op))
  receives es h b k o inc op g e f its i =
      let end : End × List Item → List Record = λ ended. udp2_put h.machine.store.records k (UdpRecord.Open (record o { incoming = Some (with_receiving inc (receive_left op ended)) })) in
      allows_weaker Anything (λ fs ended. StreamIs handle list fs h.machine.table (end ended)) (λ fs ended. StreamIs handle list fs h.machine.table (end ended) × IsFresh handle list h.machine.table) (λ fs ended m. (m, i.1)) es (poll_asks (wanting inc.remote op))
      (stream_along handle list h.machine.table end es (poll_asks (wanting inc.remote op)) (λ place live. by_place place (i.0 place live) (same_place k place)))
    where
      by_place : (place : ℕ) → StreamAt handle list es h.machine.store.records place → (k ≡ place) ⊎ (k ≡ place → ⊥)
          → Allows Anything (λ fs ended. StreamAt handle list fs (udp2_put h.machine.store.records k (UdpRecord.Open (record o { incoming = Some (with_receiving inc (receive_left op ended)) }))) place) es (poll_asks (wanting inc.remote op))
      by_place place s (inl same) =
          subst (λ (p : ℕ). Allows Anything (λ fs ended. StreamAt handle list fs (udp2_put h.machine.store.records k (UdpRecord.Open (record o { incoming = Some (with_receiving inc (receive_left op ended)) }))) p) es (poll_asks (wanting inc.remote op))) same
          (receives_own es h k o inc op g e f its (subst (StreamAt handle list es h.machine.store.records) (sym same) s))
      by_place place s (inr not) =
          allows_weaker Anything (λ fs ended. StreamAt handle list fs h.machine.store.records place) (λ fs ended. StreamAt handle list fs (udp2_put h.machine.store.records k (UdpRecord.Open (record o { incoming = Some (with_receiving inc (receive_left op ended)) }))) place)
          (λ fs ended m. at_other handle list fs h.machine.store.records k place (UdpRecord.Open (record o { incoming = Some (with_receiving inc (receive_left op ended)) })) not m) es (poll_asks (wanting inc.remote op))
          (at_silent handle list es h.machine.store.records place (poll_asks (wanting inc.remote op)) s (silent_poll s.socket.inner.side ⊤ (HandName (hand_of s.stream.receiving)) (wanting inc.remote op) es (apart_silent s.socket.inner.side ⊤ (HandName (hand_of s.stream.receiving)) op.who (receives_apart es h b k o inc op g e f its place s not) (wanting inc.remote op).left)) (polls_unmarked (wanting inc.remote op) es))
