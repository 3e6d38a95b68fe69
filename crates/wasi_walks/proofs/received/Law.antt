-- The law that what the incoming stream of a network socket holds was received from a place of the log on.
use Rattle.std.specs.Prelude.{is_some, take}
use Rattle.wasi_tcp.specs.Halves.{write_asks}
use Rattle.wasi_walks.proofs.PipeLists.{slot_push_same}
use Rattle.wasi_walks.proofs.walks.Asked.{MarksResult, WritesOnce}
use Rattle.host_store.specs.declared.kind.Kind.TheVariants.{Result3}
use Rattle.wasi_walks.proofs.walks.Asked.{Asked, Questions, SetsBacklog, Learns, Closes, MarksOne, AsksCreate, MarksAccepted, MarksListener, MarksPlain, Polls, Turns, GivesUp, UdpQuestions, UdpDisconnects, UdpLearns, UdpPeers, UdpCloses, UdpBegins, MarksUdp, MarksStream, MarksError, UdpGivesUp, Resolves, Looks}
use Rattle.wasi_walks.proofs.walks.Asked.{BeginsDatagram, PollsBeside, ResolvesBeside, LooksBeside}
use Rattle.wasi_walks.proofs.Words.{bind, made_to, create_to, Stop, refl, Option, HoldsAccept, HoldsConnect, IsAcceptOn, Job, HandleTable, Kind, Streams, WriteState, allows_keep, arith, inl, inr, ⊤, ◌⊎◌, ◌≤◌, Allows, Asks, Call, Done, End, Entry, Err, ErrorCode, ErrorValue, IsDoneOrCode, Item, List, Machine}
use Rattle.wasi_walks.proofs.Words.{None, Not, Ok, OpId, Operation, Refused, Result, Socket, SocketAddressFamily, Some, Step, Tcp2, TcpRecord, Told, Waits}
use Rattle.wasi_walks.proofs.Words.{WasiSocketsCtx, [], allows_then, allows_weaker, ap, bind_progress, connect_ended, accept_ended, entry, give_up_asks, length, make_asks}
use Rattle.wasi_walks.proofs.Words.{new_asks, new_record, own_of, poll_asks, side_of, subst, sym, told_addr, told_done, turn_asks}
use Rattle.wasi_walks.proofs.Words.{with_inner, with_listening, with_progress, with_state, with_writer, Bool, true, false, ℕ, ◌++◌, ◌∙◌, ◌∷◌, ◌≡◌}
use Rattle.wasi_udp.specs.Create.{Create, create_cancel_asks, new_create, after_create as udp_after_create}
use Rattle.wasi_udp.specs.Connect.{with_given}
use Rattle.wasi_udp.specs.Receive.{receive_first, receive_left as left_of_receive, wanting}
use Rattle.wasi_udp.specs.Send.{IsLeftOfSend, at_remote}
use Rattle.std.proofs.lemmas.Bool.{eq-eqb}
use Rattle.host_store.specs.declared.beside.Beside.{Beside}
use Rattle.host_store.specs.declared.beside.BesideCall.{BesideCall}
use Rattle.host_store.specs.Beside.{beside_of}
use Rattle.host_store.specs.Beside.{is_datagram_of}
use Rattle.udp_records.specs.Datagrams.{udp_connect_left, udp_reconnect_left, with_sending}
use Rattle.udp_records.specs.Receiving.{receive_left, with_receiving}
use Rattle.host_store.specs.Kinds.{udp_kind}
use Rattle.udp_records.specs.Udp.{open_of}
use Rattle.wasi_records.specs.Records.{tcp2_put, udp2_at, udp2_put}
use Rattle.udp_records.specs.Udp.{udp_side, udp_bind_progress, udp_create_left, with_udp_progress}
use Rattle.udp_records.specs.declared.datagrams.Incoming.{Incoming}
use Rattle.udp_records.specs.declared.datagrams.Receiving.{Receiving}
use Rattle.wasi_records.specs.declared.records.Record.{Record}
use Rattle.udp_records.specs.declared.udp.OpenUdp.{OpenUdp}
use Rattle.udp_records.specs.declared.udp.UdpRecord.{UdpRecord}
use Rattle.wasi_world.specs.Operation.{Given, Remote}
use Rattle.wasi_walks.proofs.claims.Law.{begins_on_two, Named, Base, on_two, on_two_along}
use Rattle.wasi_walks.proofs.fits.Polls.{Anything}
use Rattle.wasi_walks.proofs.fits.Records.{FitProgress, FitListening, FitUdpProgress, FitConnecting, FitSending, UdpBindOn, UdpConnectOn, SendOn, FitReceiving, ReceiveOn}
use Rattle.wasi_walks.proofs.Gives.{gives_any}
use Rattle.wasi_walks.proofs.fits.Besides.{found_beside}
use Rattle.wasi_walks.proofs.fits.DatagramFacts.{datagram_streamless, handle_streamless}
use Rattle.wasi_walks.proofs.fits.Datagrams.{FitBeside}
use Rattle.wasi_walks.proofs.fits.UdpFits.{begun_send, learnt_side}
use Rattle.wasi_walks.proofs.walks.Law.{BeginsWrites, Law, Rests, Walks, begins_by}
use Rattle.wasi_walks.proofs.walks.Moves as walk
use Rattle.host_store.specs.declared.kind.Kind.TheVariants.{Listen3, Tcp3}
use Rattle.wasi_walks.proofs.walks.Moves.{Interface, tcp_kind, IsQuestionOf, IsUdpQuestionOf, Found, send_op, sending_in, FoundUdp, Held, Here, Move, Used, accepting_now, closed_record, faulted, joined, joined_plain, listen_after, opened_by, part_of, receive_op, receiving_in, udp_begun}
use Rattle.wasi_walks.proofs.remotes.Law.{begins_kept, remotes}
use Rattle.wasi_walks.proofs.remotes.State.{WritesBy, Keeps, OpenKeeps, ReceivesFor, maker_of}
use Rattle.wasi_walks.proofs.received.Late.{NoRecvOf, OnlyOf, long_more, only_other, InHandLate, IncomingLate, ReceivingLate, poll_late}
use Rattle.wasi_tcp.specs.Connect as connect
use Rattle.wasi_tcp.specs.Listen.{IsListen}
use Rattle.wasi_walks.proofs.received.Polls.{AreSilent, Elsewhere, NoName, silent_poll}
use Rattle.wasi_walks.proofs.received.Silent.{WritesApart, accept_silent, apart_silent, bind_silent, cancelled_silent, connect_silent, given_up_silent, listen_silent, made_silent, new_silent, send_silent, turn_silent, udp_bind_silent, udp_connect_silent}
use Rattle.wasi_walks.proofs.received.State.{IsHeld, Late, OneEach, UdpLate, late_along, one_late, plain_late, put_later, push_tcp, push_udps, put_tcp, put_udps, same_late, same_or_not, fewer_late}

-- a receive that begins has nothing in hand
begun_empty : (from : ℕ) (es : List Entry) (own side : OpId) (bound : Bool) → InHandLate from es own side (left_of_receive None (receive_first bound))
begun_empty from es own side true = tt
begun_empty from es own side false = tt

module _ (side : OpId) (from : ℕ) where
  abbrev pub It : List Entry → List Record → Type 0
  It es records = Late side from es records

  -- it holds along a tree that asks for no datagram there
  pub along : {A : Type 0} (records : List Record) (es : List Entry) (asks : Asks A) → It es records → Allows (Elsewhere side (IsHeld side records) NoName) (λ fs a. ⊤) es asks → Allows Anything (λ fs a. It fs records) es asks
  along records es asks i n = allows_weaker Anything (λ fs a. It fs records × ⊤) (λ fs a. It fs records) (λ fs a k. k.0) es asks (late_along side from records (λ fs a. ⊤) es asks i n)

  -- a mark
  pub marks_late : (records : List Record) (es : List Entry) (t : HandleTable) (op : OpId) (kind : Kind) (parent : Option ℕ) (sock : Option OpId) → It es records → Allows Anything (λ fs made. It fs records) es (make_asks t op kind parent sock)
  marks_late records es t op kind parent sock i = along records es (make_asks t op kind parent sock) i (made_silent side (IsHeld side records) NoName es t op kind parent sock)

  -- a socket that is created joins the records
  pub socket_adds : {T : Type 0} (tells : Result ℕ Stop → T) (fails : ErrorCode → T) (face : Interface) (es : List Entry) (m : Machine) (own : OpId) (made : Result Socket ErrorCode) → It es m.store.records → Allows Anything (λ fs done. It fs done.1.store.records) es (made_to tells fails (tcp_kind face) m own made)
  socket_adds tells fails face es m own (Err c) i = i
  socket_adds tells fails face es m own (Ok socket) i =
      allows_then Anything (λ fs made. It fs m.store.records) (λ fs done. It fs done.1.store.records) es (make_asks m.table own (tcp_kind face (length m.store.records)) None (side_of socket)) _ (marks_late m.store.records es m.table own (tcp_kind face (length m.store.records)) None (side_of socket) i)
      (λ fs made k. push_tcp side from fs m.store.records (new_record socket) k)

  pub creates_late : {T : Type 0} (tells : Result ℕ Stop → T) (fails : ErrorCode → T) (face : Interface) (es : List Entry) (m : Machine) (own : OpId) (ctx : WasiSocketsCtx) (family : SocketAddressFamily) → It es m.store.records → Allows Anything (λ fs done. It fs done.1.store.records) es (create_to tells fails (tcp_kind face) m own ctx family)
  creates_late tells fails face es m own ctx family i =
      allows_then Anything (λ fs made. It fs m.store.records) (λ fs done. It fs done.1.store.records) es (new_asks own ctx family) (made_to tells fails (tcp_kind face) m own) (along m.store.records es (new_asks own ctx family) i (new_silent side (IsHeld side m.store.records) NoName es own ctx family)) (λ fs made k. socket_adds tells fails face fs m own made k)

  -- a create of a UDP socket was answered
  pub begun_late : (es : List Entry) (h : Here) (own : OpId) (maker : ℕ) (family : SocketAddressFamily) (told : Told) → IsDoneOrCode told → It es h.machine.store.records
      → It (es ++ entry own (Call.UdpCreate maker family) told ∷ []) (udp_begun h (udp_after_create own maker family (told_done told))).machine.store.records
  begun_late es h own maker family Told.Done f i = push_udps side from _ h.machine.store.records (UdpRecord.Creating (new_create own maker family)) tt (one_late side from es own (Call.UdpCreate maker family) Told.Done h.machine.store.records (λ x. tt) i)
  begun_late es h own maker family (Told.Code c) f i = one_late side from es own (Call.UdpCreate maker family) (Told.Code c) h.machine.store.records (λ x. tt) i
  begun_late es h own maker family _ f i = absurd f

  -- == polls
  polled_tcp : (es : List Entry) (h : Here) (place : ℕ) (op : Operation) (now : End × List Item → TcpRecord) → AreSilent side (IsHeld side h.machine.store.records) NoName op.who op.left → It es h.machine.store.records → Allows Anything (λ fs ended. It fs (tcp2_put h.machine.store.records place (now ended))) es (poll_asks op)
  polled_tcp es h place op now n i =
      allows_weaker Anything (λ fs ended. It fs h.machine.store.records) (λ fs ended. It fs (tcp2_put h.machine.store.records place (now ended))) (λ fs ended k. put_tcp side from fs h.machine.store.records place (now ended) k) es _ (along h.machine.store.records es (poll_asks op) i (silent_poll side (IsHeld side h.machine.store.records) NoName op es n))

  polled_udp : (es : List Entry) (h : Here) (place : ℕ) (u : UdpRecord) (op : Operation) (now : End × List Item → UdpRecord) → FoundUdp h place u → ((fs : List Entry) (ended : End × List Item) → UdpLate side from fs u → UdpLate side from fs (now ended)) → AreSilent side (IsHeld side h.machine.store.records) NoName op.who op.left → It es h.machine.store.records
      → Allows Anything (λ fs ended. It fs (udp2_put h.machine.store.records place (now ended))) es (poll_asks op)
  polled_udp es h place u op now g f n i =
      allows_weaker Anything (λ fs ended. It fs h.machine.store.records) (λ fs ended. It fs (udp2_put h.machine.store.records place (now ended))) (λ fs ended k. put_udps side from fs h.machine.store.records place (now ended) (f fs ended (k.udps place u g)) k) es _ (along h.machine.store.records es (poll_asks op) i (silent_poll side (IsHeld side h.machine.store.records) NoName op es n))

  -- a create leaves no stream
  created_late : (create : Create) (fs : List Entry) (ended : End × List Item) → UdpLate side from fs (udp_create_left create ended)
  created_late create fs (Waits, items) = tt
  created_late create fs (Done given, items) = λ e. tt
  created_late create fs (Refused c given, items) = tt

  -- a connect leaves it, or makes new streams
  given_late : (fs : List Entry) (o : OpenUdp) (given : Given) → UdpLate side from fs (UdpRecord.Open o) → UdpLate side from fs (UdpRecord.Open (record o { inner = with_given o.inner given; connecting = None }))
  given_late fs o (Remote remote) k = k
  given_late fs o _ k = k

  connected_late : (fs : List Entry) (o : OpenUdp) (op : Operation) (ended : End × List Item) → UdpLate side from fs (UdpRecord.Open o) → UdpLate side from fs (UdpRecord.Open (udp_connect_left op o ended))
  connected_late fs o op (Waits, items) k = k
  connected_late fs o op (Done given, items) k = λ e. tt
  connected_late fs o op (Refused c given, items) k = given_late fs o given k

  reconnected_late : (fs : List Entry) (o : OpenUdp) (op : Operation) (ended : End × List Item) → UdpLate side from fs (UdpRecord.Open o) → UdpLate side from fs (UdpRecord.Open (udp_reconnect_left op o ended))
  reconnected_late fs o op (Waits, items) k = k
  reconnected_late fs o op (Done given, items) k = given_late fs o given k
  reconnected_late fs o op (Refused c given, items) k = given_late fs o given k

  -- nothing is to be known of a socket without streams, which alone is on the network socket
  none_comes : (es : List Entry) (inc : Option Incoming) → (is_some inc ≡ true → ⊥) → IncomingLate from es side inc
  none_comes es None none = tt
  none_comes es (Some inc) none = absurd (none refl)

  streamless_late : {A : Type 0} (h : Here) (place : ℕ) (o : OpenUdp) → FoundUdp h place (UdpRecord.Open o) → (is_some o.incoming ≡ true → ⊥) → OneEach h.machine.store.records → o.inner.side ≡ side → (es : List Entry) (asks : Asks A) → It es h.machine.store.records
      → Allows Anything (λ fs a. It fs h.machine.store.records) es asks
  streamless_late h place o g none one is es asks i =
      allows_weaker Anything (λ fs a. It fs h.machine.store.records × ⊤) (λ fs a. It fs h.machine.store.records) (λ fs a k. k.0) es asks
      (allows_keep Anything Anything (λ fs. It fs h.machine.store.records) (λ fs a. ⊤) (λ fs own c told f m n. longer fs own c told m) (λ fs own c n. tt) es asks i (gives_any (λ fs a. ⊤) (λ fs a. tt) es asks))
    where
      its : (fs : List Entry) (p : ℕ) (u : UdpRecord) → FoundUdp h p u → UdpLate side from fs u
      its fs p (UdpRecord.Open x) e = λ q. (
          let same : p ≡ place = one p place x o e g (q ∙ sym is) in
          let both : Some x ≡ Some o = ap open_of (sym e ∙ (ap (udp2_at h.machine.store.records) same ∙ g)) in
          let it : x ≡ o = cc in
          none_comes fs x.incoming (subst (λ (y : OpenUdp). is_some y.incoming ≡ true → ⊥) (sym it) none))
      its fs p (UdpRecord.Creating create) e = tt
      its fs p (UdpRecord.Closed y) e = tt

      longer : (fs : List Entry) (own : OpId) (c : Call) (told : Told) → It fs h.machine.store.records → It (fs ++ entry own c told ∷ []) h.machine.store.records
      longer fs own c told m = record { long = long_more from fs _ m.long; udps = its _ }

  -- a datagram of 0.3 is polled: one that is sent asks for none, and a receive is on a socket without streams
  datagram_late : (es : List Entry) (h : Here) (place : ℕ) (o : OpenUdp) (polled : Operation) → FoundUdp h place (UdpRecord.Open o) → (is_some o.incoming ≡ true → ⊥) → OneEach h.machine.store.records → IsLeftOfSend polled.left ⊎ (polled.who.side ≡ o.inner.side) → It es h.machine.store.records
      → Allows Anything (λ fs ended. It fs h.machine.store.records) es (poll_asks polled)
  datagram_late es h place o polled g none one (inl send) i = along h.machine.store.records es (poll_asks polled) i (silent_poll side (IsHeld side h.machine.store.records) NoName polled es (send_silent side (IsHeld side h.machine.store.records) NoName polled.who polled.left send))
  datagram_late es h place o polled g none one (inr of_side) i = by_side (same_or_not o.inner.side side)
    where
      by_side : (o.inner.side ≡ side) ⊎ (o.inner.side ≡ side → ⊥) → Allows Anything (λ fs ended. It fs h.machine.store.records) es (poll_asks polled)
      by_side (inl is) = streamless_late h place o g none one is es (poll_asks polled) i
      by_side (inr not) = along h.machine.store.records es (poll_asks polled) i (silent_poll side (IsHeld side h.machine.store.records) NoName polled es (apart_silent side (IsHeld side h.machine.store.records) NoName polled.who (λ held. (λ e. not (sym of_side ∙ e), λ n. n)) polled.left))

  -- a receive is polled
  polled_receive : (Exact : Type 0) (at : ℕ) (es : List Entry) (h : Here) (place : ℕ) (o : OpenUdp) (inc : Incoming) (op : Operation) → FoundUdp h place (UdpRecord.Open o) → o.incoming ≡ Some inc → inc.receiving ≡ Receiving.InProgress op → ReceiveOn o.inner.side op → Keeps es h.machine.store.records → at ≤ length es
      → (Exact → IncomingLate at es o.inner.side o.incoming) → Allows (OnlyOf o.inner.side) (λ fs ended. Exact → ReceivingLate at fs o.inner.side (receive_left op ended)) es (poll_asks (wanting inc.remote op))
  polled_receive Exact at es h place o inc op g e f its keeps long late =
      let k : OpenKeeps es o = keeps.udps place (UdpRecord.Open o) g in
      let for : ReceivesFor o.inner.maker (Some op) = subst (ReceivesFor o.inner.maker) (ap receiving_in e ∙ ap receive_op f) k.receiver in
      let hand : Exact → InHandLate at es op.who.id o.inner.side op.left = λ x. subst (ReceivingLate at es o.inner.side) f (subst (IncomingLate at es o.inner.side) e (late x)) in
      subst (λ (x : OpId). Allows (OnlyOf x) (λ fs ended. Exact → ReceivingLate at fs x (receive_left op ended)) es (poll_asks (wanting inc.remote op))) its.of_side
      (poll_late Exact at op inc.remote o.inner.family es its.receive (rw (its.of_side, for) (maker_of es o k)) long (λ x. subst (λ (y : OpId). InHandLate at es op.who.id y op.left) (sym its.of_side) (hand x)))

  -- of this network socket, which no other record is on; or of another one, where nothing is to be shown
  receives_late : (es : List Entry) (h : Here) (place : ℕ) (o : OpenUdp) (inc : Incoming) (op : Operation) → FoundUdp h place (UdpRecord.Open o) → o.incoming ≡ Some inc → inc.receiving ≡ Receiving.InProgress op → ReceiveOn o.inner.side op → Keeps es h.machine.store.records → OneEach h.machine.store.records → It es h.machine.store.records
      → (o.inner.side ≡ side) ⊎ (o.inner.side ≡ side → ⊥)
      → Allows Anything (λ fs ended. It fs (udp2_put h.machine.store.records place (UdpRecord.Open (record o { incoming = Some (with_receiving inc (receive_left op ended)) })))) es (poll_asks (wanting inc.remote op))
  receives_late es h place o inc op g e f its keeps one i (inl is) =
      let now : End × List Item → OpenUdp = λ ended. record o { incoming = Some (with_receiving inc (receive_left op ended)) } in
      allows_weaker Anything (λ fs ended. (from ≤ length fs) × (⊤ → ReceivingLate from fs o.inner.side (receive_left op ended))) (λ fs ended. It fs (udp2_put h.machine.store.records place (UdpRecord.Open (now ended))))
      (λ fs ended k. put_later side from fs h.machine.store.records place o (now ended) one g is k.0 (λ q. subst (λ (x : OpId). ReceivingLate from fs x (receive_left op ended)) is (k.1 tt))) es _
      (allows_keep (OnlyOf o.inner.side) Anything (λ fs. from ≤ length fs) (λ fs ended. ⊤ → ReceivingLate from fs o.inner.side (receive_left op ended)) (λ fs own c t fits m n. long_more from fs _ m) (λ fs own c n. tt) es _ i.long
      (polled_receive ⊤ from es h place o inc op g e f its keeps i.long (λ x. subst (λ (y : OpId). IncomingLate from es y o.incoming) (sym is) (i.udps place (UdpRecord.Open o) g is))))
  receives_late es h place o inc op g e f its keeps one i (inr not) =
      let now : End × List Item → UdpRecord = λ ended. UdpRecord.Open (record o { incoming = Some (with_receiving inc (receive_left op ended)) }) in
      allows_weaker Anything (λ fs ended. It fs h.machine.store.records × (⊥ → ReceivingLate 0 fs o.inner.side (receive_left op ended))) (λ fs ended. It fs (udp2_put h.machine.store.records place (now ended)))
      (λ fs ended k. put_udps side from fs h.machine.store.records place (now ended) (λ q. absurd (not q)) k.0) es _
      (allows_keep (OnlyOf o.inner.side) Anything (λ fs. It fs h.machine.store.records) (λ fs ended. ⊥ → ReceivingLate 0 fs o.inner.side (receive_left op ended)) (λ fs own c t fits m n. one_late side from fs own c t h.machine.store.records (λ x. only_other o.inner.side side fs own c not n) m) (λ fs own c n. tt) es _ i
      (polled_receive ⊥ 0 es h place o inc op g e f its keeps (omega arith) (λ x. absurd x)))

  -- no question asks for a datagram
  pub question_quiet : (line : ℕ) (origin : Step) (n : ℕ) (x : OpId) (c : Call) → IsQuestionOf line origin n x c → NoRecvOf side c
  question_quiet line origin n x (Call.Recv y) q = absurd q
  question_quiet line origin n x _ q = tt

  pub udp_question_quiet : (line : ℕ) (origin : Step) (n : ℕ) (x : OpId) (c : Call) → IsUdpQuestionOf line origin n x c → NoRecvOf side c
  udp_question_quiet line origin n x (Call.Recv y) q = absurd q
  udp_question_quiet line origin n x _ q = tt

  -- a writer is on a network socket of TCP
  pub writer_apart : (line : ℕ) (es : List Entry) (h : Here) (place : ℕ) (r : TcpRecord) (s : Streams) → Found h place r → r.streams ≡ Some s → Named line h → Keeps es h.machine.store.records → WritesApart side (IsHeld side h.machine.store.records) NoName s.writer
  writer_apart line es h place r s g e names keeps = by_writer s.writer (keeps.tcps place r g s e).1
    where
      not_here : (job : Job) → r.side ≡ Some job.write.who.side → IsHeld side h.machine.store.records → job.write.who.side ≡ side → ⊥
      not_here job made x is = names.udps.apart side place x.place r (UdpRecord.Open x.socket) g x.found (inl (made ∙ ap (λ (y : OpId). Some y) is)) x.is

      by_writer : (w : WriteState) → WritesBy r.side w → WritesApart side (IsHeld side h.machine.store.records) NoName w
      by_writer (WriteState.Writing job) k = λ x. (not_here job k.0 x, λ n. n)
      by_writer (WriteState.Closing job) k = λ x. (not_here job k.0 x, λ n. n)
      by_writer (WriteState.Ready half permit) k = tt
      by_writer (WriteState.Closed c) k = tt

  module _ (contexts : List WasiSocketsCtx) (line : ℕ) (origin : Step) where
    pub moves_late : (es : List Entry) (h now : Here) → Move line origin h now → It es h.machine.store.records → It es now.machine.store.records
    moves_late es _ _ (walk.Changes h place r now g p) i = put_tcp side from es _ place now i
    moves_late es _ _ (walk.ClosesReader h place r s g e) i = put_tcp side from es _ place _ i
    moves_late es _ _ (walk.Writes h place r s w g e m) i = put_tcp side from es _ place _ i
    moves_late es _ _ (walk.IsGone h place r q g e) i = put_tcp side from es _ place _ i
    moves_late es _ _ (walk.Reconnects h place r c now g e s t u) i = put_tcp side from es _ place _ i
    moves_late es _ _ (walk.Opens h place r c d g e k) i = put_tcp side from es _ place _ i
    moves_late es _ _ (walk.BeginsConnect h place r x a bound at g d to known idle own) i = put_tcp side from es _ place _ i
    moves_late es _ _ (walk.BeginsBind h place r x a at g d to own) i = put_tcp side from es _ place _ i
    moves_late es _ _ (walk.BeginsWrite h place n r s half permit bytes at g e w within own) i = put_tcp side from es _ place _ i
    moves_late es _ _ (walk.BeginsListen h place r x bound at g d known un none to idle own) i = put_tcp side from es _ place _ i
    moves_late es _ _ (walk.BeginsAccept h place part r l at g e a own) i = put_tcp side from es _ place _ i
    moves_late es _ _ (walk.Unlistens h place r op q g e c o) i = put_tcp side from es _ place _ i
    moves_late es _ _ (walk.Forgets h place r l c g e a) i = put_tcp side from es _ place _ i
    moves_late es _ _ (walk.Joins h c handle place r l new peer is of u g e a) i = push_tcp side from es _ (joined l new peer) (put_tcp side from es _ place _ i)
    moves_late es _ _ (walk.JoinsPlain h c listener remaining place r l new peer is of u g e a) i = push_tcp side from es _ (joined_plain l new peer) (put_tcp side from es _ place _ i)
    moves_late es _ _ (walk.JoinsFault h place r l c u g e a) i = push_tcp side from es _ (faulted l c) (put_tcp side from es _ place _ i)
    moves_late es _ _ (walk.UdpChanges h place o now g p keeps) i = put_udps side from es _ place (UdpRecord.Open now) (plain_late side from es o now p (i.udps place (UdpRecord.Open o) g)) i
    moves_late es _ _ (walk.BeginsUdpBind h place o a at g to own) i = put_udps side from es _ place (UdpRecord.Open _) (i.udps place (UdpRecord.Open o) g) i
    moves_late es _ _ (walk.BeginsUdpConnect h place o a bound at g to known none own) i = put_udps side from es _ place (UdpRecord.Open _) (i.udps place (UdpRecord.Open o) g) i
    moves_late es _ _ (walk.BeginsSend h place n o out d bound at g e is known own) i = put_udps side from es _ place (UdpRecord.Open _) (i.udps place (UdpRecord.Open o) g) i
    moves_late es _ _ (walk.BeginsReceive h place n o inc bound at g e is own) i = put_udps side from es _ place (UdpRecord.Open _) (λ q. begun_empty from es (part_of line n) side bound) i
    moves_late es _ _ (walk.CancelsBind h place r op q g e) i = put_tcp side from es _ place _ i
    moves_late es _ _ (walk.CancelsUdpBind h place o op q g e) i = put_udps side from es _ place (UdpRecord.Open _) (i.udps place (UdpRecord.Open o) g) i
    moves_late es _ _ (walk.CancelsUdpConnect h place o q g) i = put_udps side from es _ place (UdpRecord.Open _) (i.udps place (UdpRecord.Open o) g) i
    moves_late es _ _ (walk.TakesEnd h handle place r now of g takes) i = put_tcp side from es _ place now i
    moves_late es _ _ (walk.AddsSlot h s) i = same_late side {new = λ op. ⊥} from es h.machine.store.records _ (slot_push_same h.machine.store.records s) i
    moves_late es _ _ (walk.Finds h records s) i = same_late side from es h.machine.store.records records s i
    moves_late es _ _ (walk.DropsUdp h place o idle made g) i = put_udps side from es _ place (UdpRecord.Open _) (i.udps place (UdpRecord.Open o) g) i
    moves_late es _ _ (walk.GivesBack h place idle left) i = fewer_late side from es h.machine.store.records place i
    moves_late es _ _ _ i = i

    -- a poll of what is in progress
    pub polls_late : (es : List Entry) (h : Here) (op : Operation) (after : End × List Item → Here) → Held h op after → Base contexts line origin h → Keeps es h.machine.store.records → It es h.machine.store.records
        → Allows Anything (λ fs ended. It fs (after ended).machine.store.records) es (poll_asks op)
    polls_late es h _ _ (walk.BindsOn place r op q g e) b keeps i = let its = subst (FitProgress r.inner.state) e (b.0.records place r g).2 in
        polled_tcp es h place op (λ ended. with_progress r (bind_progress op ended)) (bind_silent side (IsHeld side h.machine.store.records) NoName op.who op.left its.1.left) i
    polls_late es h _ _ (walk.Connects place r op g e) b keeps i = let its : connect.IsConnect op = subst HoldsConnect e (b.0.records place r g).0 in
        polled_tcp es h place op (λ ended. with_inner r (with_state r.inner (connect_ended op.who ended).1)) (connect_silent side (IsHeld side h.machine.store.records) NoName op.who op.left its.left) i
    polls_late es h _ _ (walk.Listens place r op q g e c) b keeps i = let its : IsListen op = subst FitListening e (b.0.records place r g).1 in
        polled_tcp es h place op (listen_after op r) (listen_silent side (IsHeld side h.machine.store.records) NoName op.who op.left its.left) i
    polls_late es h _ _ (walk.Awaits place r l op g e a) b keeps i = let its : IsAcceptOn l.side l.maker op = subst (HoldsAccept l.side l.maker) a (subst FitListening e (b.0.records place r g).1) in
        polled_tcp es h place op (λ ended. accepting_now r l (accept_ended op.who ended)) (accept_silent side (IsHeld side h.machine.store.records) NoName op.who op.left its.accept.left) i
    polls_late es h _ _ (walk.UdpCreates place create q g) b keeps i = polled_udp es h place (UdpRecord.Creating create) create.operation (udp_create_left create) g (λ fs ended k. created_late create fs ended) (subst (AreSilent side (IsHeld side h.machine.store.records) NoName create.operation.who) (sym (b.0.udps place (UdpRecord.Creating create) g).1) (tt, tt)) i
    polls_late es h _ _ (walk.UdpBindsOn place o op q g e) b keeps i = let its : UdpBindOn o.inner.side op = subst (FitUdpProgress o.inner.side) e (b.0.udps place (UdpRecord.Open o) g).0 in
        polled_udp es h place (UdpRecord.Open o) op (λ ended. UdpRecord.Open (with_udp_progress o (udp_bind_progress op ended))) g (λ fs ended k. k) (udp_bind_silent side (IsHeld side h.machine.store.records) NoName op.who op.left its.bind.left) i
    polls_late es h _ _ (walk.UdpConnectsOn place o op q g e) b keeps i = let its : UdpConnectOn o.inner.side op = subst (FitConnecting o.inner.side) e (b.0.udps place (UdpRecord.Open o) g).1 in
        polled_udp es h place (UdpRecord.Open o) op (λ ended. UdpRecord.Open (udp_connect_left op o ended)) g (λ fs ended k. connected_late fs o op ended k) (udp_connect_silent side (IsHeld side h.machine.store.records) NoName op.who (λ x n. n) op.left its.connect.left) i
    polls_late es h _ _ (walk.UdpReconnectsOn place o op q g e) b keeps i = let its : UdpConnectOn o.inner.side op = subst (FitConnecting o.inner.side) e (b.0.udps place (UdpRecord.Open o) g).1 in
        polled_udp es h place (UdpRecord.Open o) op (λ ended. UdpRecord.Open (udp_reconnect_left op o ended)) g (λ fs ended k. reconnected_late fs o op ended k) (udp_connect_silent side (IsHeld side h.machine.store.records) NoName op.who (λ x n. n) op.left its.connect.left) i
    polls_late es h _ _ (walk.SendsOn place o out op left g e f s) b keeps i =
        let its : SendOn o.inner.side op = subst (FitSending o.inner.side) (ap sending_in e ∙ ap send_op f) (b.0.udps place (UdpRecord.Open o) g).2 in
        polled_udp es h place (UdpRecord.Open o) (at_remote o.inner.remote op) (λ ended. UdpRecord.Open (record o { outgoing = Some (with_sending out (left ended)) })) g (λ fs ended k. k) (send_silent side (IsHeld side h.machine.store.records) NoName op.who op.left its.send.left) i
    polls_late es h _ _ (walk.ReceivesOn place o inc op g e f) b keeps i =
        let its : ReceiveOn o.inner.side op = subst (FitReceiving o.inner.side) (ap receiving_in e ∙ ap receive_op f) (b.0.udps place (UdpRecord.Open o) g).3 in
        receives_late es h place o inc op g e f its keeps (λ x k p q a c z. b.1.udps.one q.inner.side x k (UdpRecord.Open p) (UdpRecord.Open q) a c z refl) i (same_or_not o.inner.side side)

    -- a datagram of 0.3, whose socket has no streams
    one_each : (h : Here) → Base contexts line origin h → OneEach h.machine.store.records
    one_each h b x k p q a c z = b.1.udps.one q.inner.side x k (UdpRecord.Open p) (UdpRecord.Open q) a c z refl

    begins_late : (es : List Entry) (h : Here) (place : ℕ) (o : OpenUdp) (call : Operation → BesideCall) (op polled : Operation) → walk.StartsDatagram line origin h.machine.table place o call op polled → FoundUdp h place (UdpRecord.Open o) → Base contexts line origin h → It es h.machine.store.records
        → Allows Anything (λ fs ended. It fs h.machine.store.records) es (poll_asks polled)
    begins_late es h place o _ _ _ (walk.StartsSend c s d bound is at known) g b i = datagram_late es h place o _ g (handle_streamless h b.3 place o g s at) (one_each h b) (inl (begun_send (own_of line) o.inner d.bytes d.remote_address bound).send.left) i
    begins_late es h place o _ _ _ (walk.StartsReceive c s bound is at known) g b i = datagram_late es h place o _ g (handle_streamless h b.3 place o g s at) (one_each h b) (inr refl) i

    beside_late : (es : List Entry) (h : Here) (n : ℕ) (c : Beside) (place : ℕ) (o : OpenUdp) → beside_of h.machine.store n ≡ Some c → FoundUdp h place (UdpRecord.Open o) → Base contexts line origin h → (was : BesideCall) → c.call ≡ was
        → (call : Operation → BesideCall) (op polled : Operation) → walk.PollsDatagram place o was call op polled → It es h.machine.store.records → Allows Anything (λ fs ended. It fs h.machine.store.records) es (poll_asks polled)
    beside_late es h n c place o at g b _ e _ _ _ (walk.PollsSend op) i =
        let f = subst (FitBeside h.machine.store.records c.line) e (b.3.besides c (found_beside h.machine.store.beside n c at).0) in
        datagram_late es h place o _ g (datagram_streamless h b.3 place o g n c at (ap (is_datagram_of place) e ∙ eq-eqb place place refl)) (one_each h b) (inl f.1.left) i
    beside_late es h n c place o at g b _ e _ _ _ (walk.PollsReceive op) i =
        let f = subst (FitBeside h.machine.store.records c.line) e (b.3.besides c (found_beside h.machine.store.beside n c at).0) in
        let same : Some f.0.was ≡ Some o = ap open_of (sym f.0.at ∙ g) in
        let its : f.0.was.inner.side ≡ o.inner.side = (let q : f.0.was ≡ o = cc in ap (λ (y : OpenUdp). y.inner.side) q) in
        datagram_late es h place o _ g (datagram_streamless h b.3 place o g n c at (ap (is_datagram_of place) e ∙ eq-eqb place place refl)) (one_each h b) (inr (f.0.of_side ∙ its)) i

    -- a write that is offered once asks for no datagram
    write_late : (es : List Entry) (records : List Record) (op x : OpId) (bytes : List ℕ) → It es records → Allows Anything (λ fs told. It fs records) es (write_asks op x bytes)
    unfolding bind
    write_late es records op x bytes i = (tt, λ told f front. one_late side from es op _ told records (λ y. tt) i)

    -- the law: the calls may be any
    pub lates_asks : (es : List Entry) (h : Here) (A : Type 0) (tree : Asks A) (end : A → Here)
        → Asked contexts line origin es h A tree end → Base contexts line origin h × Keeps es h.machine.store.records
        → It es h.machine.store.records → Allows (Anything)
        (λ fs x. (λ (es : List Entry) (h : Here). It es h.machine.store.records) fs (end x)) es tree
    lates_asks es h _ _ _ (Questions place n r x c at g o q) b i = (tt, λ told f. one_late side from es (own_of n) c told _ (λ y. question_quiet line origin n x c q.0) i)
    lates_asks es h _ _ _ (SetsBacklog place r x backlog at g s is) b i = (tt, λ told f. one_late side from es (own_of line) (Call.SetBacklog x backlog) told _ (λ y. tt) i)
    lates_asks es h _ _ _ (Learns place r x at g e) b i = (tt, λ told f. put_tcp side from _ _ place _ (one_late side from es (own_of line) (Call.Local x) told _ (λ y. tt) i))
    lates_asks es h _ _ _ (Closes place r x q g e) b i = (tt, λ told f. put_tcp side from _ _ place (closed_record r) (one_late side from es (own_of line) (Call.Close x) told _ (λ y. tt) i))
    lates_asks es h _ _ _ (MarksOne kind parent sock m) b i = marks_late _ es h.machine.table (own_of line) kind parent sock i
    lates_asks es h _ _ _ (AsksCreate tells fails face ctx family c a o m) b i = creates_late tells fails face es h.machine (own_of line) ctx family i
    lates_asks es h _ _ _ (MarksAccepted c s place r is e o g) b i = marks_late _ es h.machine.table (own_of line) (Tcp2 place) (Some s) _ i
    lates_asks es h _ _ _ (MarksPlain c s remaining place r is e o g) b i = marks_late _ es h.machine.table (own_of line) (Tcp3 place) (Some s) _ i
    lates_asks es h _ _ _ (MarksListener n handle reached place r q m g has e) b i = marks_late _ es h.machine.table (own_of n) (Listen3 place) (Some handle) _ i
    lates_asks es h _ _ _ (MarksResult socket place slot r m made e g) b i = marks_late _ es h.machine.table (own_of line) (Result3 slot) (Some socket) _ i
    lates_asks es h _ _ _ (WritesOnce c handle place given end r s half permit is e f at g q w own) b i = write_late es h.machine.store.records (own_of line) half.side (take 4294967295 given) i
    lates_asks es h _ _ _ (Polls op after k) b i = polls_late es h op after k b.0 b.1 i
    lates_asks es h _ _ _ (BeginsDatagram place o call op polled at g starts made own) b i = begins_late es h place o call op polled starts g b.0 i
    lates_asks es h _ _ _ (PollsBeside n c place o call op polled is at g polls) b i = beside_late es h n c place o at g b.0 c.call refl call op polled polls i
    lates_asks es h _ _ _ (Turns place r s g e) b i = allows_weaker Anything (λ fs done. It fs h.machine.store.records) (λ fs done. It fs (tcp2_put h.machine.store.records place (with_writer r s done.1))) (λ fs done k. put_tcp side from fs _ place _ k) es (turn_asks s.writer) (along _ es (turn_asks s.writer) i (turn_silent side (IsHeld side h.machine.store.records) NoName es s.writer (writer_apart line es h place r s g e b.0.1 b.1)))
    lates_asks es h _ _ _ (GivesUp place r q goes g) b i = allows_weaker Anything (λ fs done. It fs h.machine.store.records) (λ fs done. It fs (tcp2_put h.machine.store.records place (with_listening r Not))) (λ fs done k. put_tcp side from fs _ place _ k) es (give_up_asks r.listening) (along _ es (give_up_asks r.listening) i (given_up_silent side (IsHeld side h.machine.store.records) NoName es r.listening))
    lates_asks es h _ _ _ (UdpQuestions place n o c at g q) b i = (tt, λ told f. one_late side from es (own_of n) c told _ (λ y. udp_question_quiet line origin n o.inner.side c q) i)
    lates_asks es h _ _ _ (UdpLearns place part o at g) b i = (tt, λ told f. (let k = one_late side from es (part_of line part) (Call.Local o.inner.side) told _ (λ y. tt) i in put_udps side from _ _ place (UdpRecord.Open _) (λ q. k.udps place (UdpRecord.Open o) g (sym (learnt_side o.inner (told_addr told)) ∙ q)) k))
    lates_asks es h _ _ _ (UdpDisconnects place o at g is) b i = (tt, λ told f. (let k = one_late side from es (own_of line) (Call.UdpDisconnect o.inner.side) told _ (λ y. tt) i in put_udps side from _ _ place (UdpRecord.Open _) (k.udps place (UdpRecord.Open o) g) k))
    lates_asks es h _ _ _ (UdpPeers place o at g) b i = (tt, λ told f. (let k = one_late side from es (own_of line) (Call.Peer o.inner.side) told _ (λ y. tt) i in put_udps side from _ _ place (UdpRecord.Open _) (k.udps place (UdpRecord.Open o) g) k))
    lates_asks es h _ _ _ (UdpCloses place n o q g) b i = (tt, λ told f. put_udps side from _ _ place (UdpRecord.Closed o.inner.side) tt (one_late side from es (own_of n) (Call.Close o.inner.side) told _ (λ y. tt) i))
    lates_asks es h _ _ _ (UdpBegins face ctx family c may a o m) b i = (tt, λ told f. begun_late es h (own_of line) ctx.name family told f i)
    lates_asks es h _ _ _ (MarksUdp face place u g) b i = marks_late _ es h.machine.table (udp_side u) (udp_kind face place) None (Some (udp_side u)) i
    lates_asks es h _ _ _ (MarksStream place n handle reached kind m new e) b i = marks_late _ es h.machine.table (own_of n) kind (Some handle) _ i
    lates_asks es h _ _ _ (MarksError n handle place handles m k e f) b i = marks_late _ es h.machine.table (own_of n) ErrorValue (Some handle) _ i
    lates_asks es h _ _ _ (UdpGivesUp place create q g) b i = allows_weaker Anything (λ fs done. It fs h.machine.store.records) (λ fs done. It fs (udp2_put h.machine.store.records place (UdpRecord.Closed create.operation.who.side))) (λ fs done k. put_udps side from fs _ place (UdpRecord.Closed create.operation.who.side) tt k) es (create_cancel_asks create) (along _ es (create_cancel_asks create) i (cancelled_silent side (IsHeld side h.machine.store.records) NoName es create))
    lates_asks es h _ _ _ (Resolves host records l same) b i = (tt, λ told f. same_late side from _ _ (records told) (same told) (one_late side from es (own_of line) (Call.Lookup host) told _ (λ y. tt) i))
    lates_asks es h _ _ _ (Looks place op g) b i = (tt, λ told f. one_late side from es op.id (Call.Lookup op.host) told _ (λ y. tt) i)
    lates_asks es h _ _ _ (ResolvesBeside host l) b i = (tt, λ told f. one_late side from es (own_of line) (Call.Lookup host) told _ (λ y. tt) i)
    lates_asks es h _ _ _ (LooksBeside n call host g e) b i = (tt, λ told f. one_late side from es (own_of n) (Call.Lookup host) told _ (λ y. tt) i)

    unfoldable pub lates : Rests contexts line origin (λ es h. Base contexts line origin h × Keeps es h.machine.store.records)
    lates = record {
      P = Anything;
      Inv = λ es h. It es h.machine.store.records;
      moves = λ es h now m b i. moves_late es h now m i;
      asks = lates_asks;
    }

    pub later : Law contexts line origin
    unfolding remotes
    later = on_two contexts line origin (remotes contexts line origin) lates

    -- a write that begins in a call of streams
    pub begins_later : BeginsWrites later
    unfolding later lates remotes
    begins_later = begins_on_two contexts line origin (remotes contexts line origin) lates (begins_kept contexts line origin) (begins_by lates (λ es h place n r s half permit bytes at g e w within used b i. put_tcp side from es _ place _ i))

    -- what it says of a tree
    pub later_along : {A : Type 0} {h : Here} {end : A → Here} {asks : Asks A} → Walks later h end asks → (es : List Entry) → Base contexts line origin h → Keeps es h.machine.store.records → It es h.machine.store.records
        → Allows Anything (λ fs a. (Base contexts line origin (end a) × Keeps fs (end a).machine.store.records) × It fs (end a).machine.store.records) es asks
    unfolding later lates remotes
    later_along w es b k i = on_two_along contexts line origin (remotes contexts line origin) lates w es b k i
