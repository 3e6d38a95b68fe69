-- The law that of what the stream of a handle received all was handed out but what waits: by each line but one that receives on it.
use Rattle.wasi_walks.proofs.walks.Law.{BeginsWrites, Rests, begins_by}
use Rattle.wasi_walks.proofs.walks.Asked.{BeginsDatagram, PollsBeside, Asked, Questions, SetsBacklog, Learns, Closes, MarksOne, AsksCreate, MarksAccepted, MarksListener, MarksPlain, Polls, Turns, GivesUp, UdpQuestions, UdpDisconnects, UdpLearns, UdpPeers, UdpCloses, UdpBegins, MarksUdp, MarksStream, MarksError, UdpGivesUp, Resolves, Looks}
use Rattle.std.specs.Prelude.{length, take}
use Rattle.wasi_tcp.specs.Halves.{write_asks}
unfoldable use Rattle.wasi_causes.proofs.Words.{bind}
use Rattle.wasi_walks.proofs.PipeLists.{slot_push_same}
use Rattle.wasi_walks.proofs.walks.Asked.{MarksResult, ResolvesBeside, LooksBeside, WritesOnce}
use Rattle.wasi_causes.proofs.Words.{made_to, Stop, Allows, Asks, Call, End, Entry, Err, ErrorCode, ErrorValue, HoldsAccept, HoldsConnect, IsAcceptOn, Item, Job, Kind, List, None, Ok, OpId, Operation, Option, Result, Socket, Some, GuestCall, Step, Streams, Tcp2, TcpRecord, Told, WasiSocketsCtx, WriteState, [], accept_ended, allows_if, allows_then, ap, arith, bind, bind_progress, connect_ended, entry, give_up_asks, inl, inr, is_full, kind_at, length, make_asks, name_of, new_asks, new_record, own_of, poll_asks, refl, side_at, side_of, subst, sym, told_done, turn_asks, with_handle, with_inner, with_listening, with_progress, with_state, with_writer, Bool, ℕ, ⊤, ◌++◌, ◌∙◌, ◌∷◌, ◌≡◌}
use Rattle.wasi_tcp.specs.Connect as connect
use Rattle.wasi_tcp.specs.Listen.{IsListen}
use Rattle.wasi_tcp.specs.declared.listener.Accepting.TheVariants as accepting
use Rattle.wasi_udp.specs.Create.{Create, after_create as udp_after_create, create_cancel_asks}
use Rattle.wasi_udp.specs.Receive.{receive_start}
use Rattle.wasi_udp.specs.Send.{at_remote}
use Rattle.wasi_world.specs.declared.datagram.IncomingDatagram.{IncomingDatagram}
use Rattle.udp_records.specs.Datagrams.{udp_connect_left, udp_reconnect_left, with_sending}
use Rattle.host_store.specs.Kinds.{udp_kind, udp_of}
use Rattle.udp_records.specs.Receiving.{with_receiving}
use Rattle.wasi_records.specs.Records.{tcp2_at, tcp2_put, udp2_at, udp2_put}
use Rattle.udp_records.specs.Udp.{udp_bind_progress, udp_create_left, udp_side, with_udp_progress}
use Rattle.host_udp.specs.UdpCreates.{udp_side_at}
use Rattle.udp_records.specs.declared.datagrams.Incoming.{Incoming as IncomingStream}
use Rattle.udp_records.specs.declared.datagrams.Receiving.{Receiving}
use Rattle.host_store.specs.declared.kind.Kind.TheVariants.{Incoming, Listen3, Result3, Tcp3, Udp3}
use Rattle.tcp_records.specs.declared.tcp_listening.Listening.TheVariants as listening
use Rattle.udp_records.specs.declared.udp.OpenUdp.{OpenUdp}
use Rattle.udp_records.specs.declared.udp.UdpRecord.{UdpRecord}
use Rattle.wasi_walks.proofs.Words.{Fits, told_addr}
use Rattle.wasi_walks.proofs.fits.Polls.{Anything}
use Rattle.wasi_walks.proofs.fits.Records.{FitConnecting, FitListening, FitProgress, FitSending, FitReceiving, FitUdpProgress, SendOn, UdpBindOn, UdpConnectOn}
use Rattle.wasi_walks.proofs.fits.UdpFits.{learnt_side}
use Rattle.wasi_walks.proofs.received.Handles.{MakesUnder, Under, was_or_new}
use Rattle.wasi_walks.proofs.received.Polls.{AreSilent, Elsewhere, IsApart, silent_poll}
use Rattle.wasi_walks.proofs.received.Silent.{WritesApart, accept_silent, apart_silent, bind_silent, cancelled_silent, connect_silent, given_up_silent, listen_silent, new_silent, send_silent, turn_silent, udp_bind_silent, udp_connect_silent}
use Rattle.wasi_walks.proofs.remotes.State.{OpenKeeps, WritesBy}
use Rattle.wasi_walks.proofs.walks.Moves as walk
use Rattle.wasi_walks.proofs.walks.Moves.{Interface, tcp_kind, Found, FoundUdp, HasNewStream, Held, Here, MarksNext, Move, Names, StreamMoves, UdpPlain, joined, listen_after, part_of, put, put_udp, receive_op, receiving_in, send_op, sending_in, udp_begun}
use Rattle.wasi_causes.proofs.Slots.{SlotOf, slot_of}
use Rattle.wasi_causes.proofs.StreamsLive.{IsOther, MadeSo, NoIncoming, tcp_other, udp_other}
use Rattle.wasi_causes.proofs.StreamHandles.{apart_in, is_other, streams_law}
use Rattle.wasi_walks.specs.Allowed.{Has}
use Rattle.wasi_walks.proofs.Words.{◌≤◌}
use Rattle.wasi_walks.proofs.walks.Here.{IsToCome, next_to_come, not_given}
use Rattle.wasi_causes.proofs.receiving.Along.{Along, HandName, along_named}
use Rattle.wasi_causes.proofs.receiving.Named.{GivesLater, IsFirst, job_name, name_of_op, streams_name}
use Rattle.wasi_causes.proofs.receiving.Polled.{Exact, hand_of}
use Rattle.wasi_causes.proofs.GivenBack.{open_stays}
use Rattle.wasi_causes.proofs.receiving.Older.{polls_first, polls_side, question_else, starts_first, starts_side, udp_question_else}
use Rattle.wasi_causes.proofs.Beside.{datagram_has, find_has}
use Rattle.host_store.specs.Beside.{has_datagram, is_datagram_of}
use Rattle.wasi_causes.proofs.Words.{eq-eqb, false, is_some, true}
use Rattle.host_store.specs.Beside.{beside_of}
use Rattle.host_store.specs.declared.beside.Beside.{Beside}
use Rattle.host_store.specs.declared.beside.BesideCall.{BesideCall}
use Rattle.wasi_causes.proofs.receiving.Polls.{Mine, Rest, apart_of, begun_none, connecting_none, no_stream, not_first, other_side, polled_tcp, polled_udp, quietly, receives, same_open}
use Rattle.wasi_causes.proofs.receiving.Unmarked.{Unmarked, polls_unmarked, cancels_unmarked, creates_unmarked, releases_unmarked, turns_unmarked}
use Rattle.wasi_causes.proofs.receiving.Streams.{Becomes, IsElse, IsFresh, Knows, StreamAt, StreamIs, at_more, fresh_with, mark_else, put_at, stays_so, stream_more, stream_push, stream_push_tcp, stream_put, stream_put_tcp, stream_same, stream_stays, stream_with, stream_without, tcp_at}
use Rattle.wasi_walks.proofs.Places.{put_finds, udp_sort}
use Rattle.wasi_steps.specs.declared.guest_call.UdpCall.{UdpCall}

-- a call that is polled so is a datagram of this socket
polls_datagram : {k : ℕ} {o : OpenUdp} {was : BesideCall} {call : Operation → BesideCall} {op polls : Operation} → walk.PollsDatagram k o was call op polls → is_datagram_of k was ≡ true
polls_datagram {k} (walk.PollsSend op) = eq-eqb k k refl
polls_datagram {k} (walk.PollsReceive op) = eq-eqb k k refl

module _ (handle : ℕ) (list : List IncomingDatagram) (contexts : List WasiSocketsCtx) (line : ℕ) (origin : Step) where
  abbrev pub B : List Entry → Here → Type 0
  B es h = Rest handle list contexts line origin es h

  abbrev pub Inv : List Entry → Here → Type 0
  Inv es h = Mine handle list contexts line origin es h

  -- == records change
  pub tcp : (es : List Entry) (h : Here) (k : ℕ) (r now : TcpRecord) → Found h k r → Inv es h → Inv es (put h k now)
  tcp es h k r now g i = (stream_put_tcp handle list es h.machine.table h.machine.store.records k r now g i.0, i.1)

  pub udp : (es : List Entry) (h : Here) (k : ℕ) (u now : UdpRecord) → FoundUdp h k u → (kind_at h.machine.table handle ≡ Some (Incoming k) → Becomes handle list es u now) → Inv es h → Inv es (put_udp h k now)
  udp es h k u now g becomes i = (stream_put handle list es h.machine.table h.machine.store.records k u now g becomes i.0, i.1)

  -- the stream is as it was
  pub udp_same : (es : List Entry) (h : Here) (k : ℕ) (o now : OpenUdp) → FoundUdp h k (UdpRecord.Open o) → now.inner.side ≡ o.inner.side → now.incoming ≡ o.incoming → Inv es h → Inv es (put_udp h k (UdpRecord.Open now))
  udp_same es h k o now g side same i = udp es h k (UdpRecord.Open o) (UdpRecord.Open now) g (λ live. stays_so handle list es o now side same) i

  -- == moves
  -- where the stream is live, it is there afterwards
  still_there : (es : List Entry) (h : Here) (b : B es h) (k : ℕ) (o now : OpenUdp) → FoundUdp h k (UdpRecord.Open o) → Move line origin h (put_udp h k (UdpRecord.Open now)) → kind_at h.machine.table handle ≡ Some (Incoming k) → now.incoming ≡ None → ⊥
  still_there es h b k o now g m live none =
      let after : Here = put_udp h k (UdpRecord.Open now) in
      let s : SlotOf h.machine.table.live handle (Incoming k) = slot_of h.machine.table.live handle (Incoming k) live in
      let has = (apart_of handle list contexts line origin es after ((streams_law contexts line origin).moves es h after m tt b.1.0)).there s.slot k s.live_one s.value in
      let same : now ≡ has.socket = same_open now has.socket (let p : Some (UdpRecord.Open now) ≡ Some (UdpRecord.Open has.socket) = sym (put_finds udp_sort h.machine.store.records k (UdpRecord.Open o) (UdpRecord.Open now) g) ∙ has.at in cc) in
      let p : None ≡ Some has.stream = sym none ∙ (ap (λ (x : OpenUdp). x.incoming) same ∙ has.has) in
      absurd (cc)

  -- the line receives on another handle
  module _ (other : (ctx most : ℕ) → origin ≡ Step.Call ctx (GuestCall.Udp (UdpCall.Receive handle most)) → ⊥) where
    taken_other : (es : List Entry) (h : Here) (b : B es h) (k : ℕ) → walk.TakesFrom origin h.machine.table k → kind_at h.machine.table handle ≡ Some (Incoming k) → ⊥
    taken_other es h b k takes live =
        let s : SlotOf h.machine.table.live handle (Incoming k) = slot_of h.machine.table.live handle (Incoming k) live in
        let t : SlotOf h.machine.table.live takes.handle (Incoming k) = slot_of h.machine.table.live takes.handle (Incoming k) takes.of in
        let same : takes.handle ≡ handle = sym t.its ∙ ((apart_of handle list contexts line origin es h b.1.0).single t.slot s.slot k t.live_one s.live_one t.value s.value ∙ s.its) in
        other takes.ctx takes.most (takes.is ∙ ap (λ (n : ℕ). Step.Call takes.ctx (GuestCall.Udp (UdpCall.Receive n takes.most))) same)

    changes : (es : List Entry) (h : Here) (b : B es h) (k : ℕ) (o now : OpenUdp) → FoundUdp h k (UdpRecord.Open o) → UdpPlain o now → StreamMoves origin h k o.incoming now.incoming → Move line origin h (put_udp h k (UdpRecord.Open now)) → kind_at h.machine.table handle ≡ Some (Incoming k) → Becomes handle list es (UdpRecord.Open o) (UdpRecord.Open now)
    changes es h b k o now g p stream m live = by_move o.incoming now.incoming stream refl refl
      where
        by_move : (old new : Option IncomingStream) → StreamMoves origin h k old new → o.incoming ≡ old → now.incoming ≡ new → Becomes handle list es (UdpRecord.Open o) (UdpRecord.Open now)
        by_move _ _ (walk.StreamStays inc) e f = stays_so handle list es o now p.side (f ∙ sym e)
        by_move _ _ (walk.StreamIsMade inc under) e f = λ q stream is has knows. let none : None ≡ Some stream = sym e ∙ (ap (λ (x : OpenUdp). x.incoming) (same_open o q is) ∙ has) in absurd (cc)
        by_move _ _ (walk.StreamIsTaken inc takes) e f = absurd (taken_other es h b k takes live)
        by_move _ _ (walk.StreamGoes inc gone) e f = absurd (still_there es h b k o now g m live f)

    -- a receive begins, where the stream holds nothing
    begins : (es : List Entry) (here : Here) (b : B es here) (n : ℕ) → here.own ≡ Names n → (o : OpenUdp) (inc : IncomingStream) (bound : Bool) → o.incoming ≡ Some inc → inc.receiving ≡ Receiving.Nothing → Becomes handle list es (UdpRecord.Open o) (UdpRecord.Open (walk.receiving_now o inc (receive_start (part_of line n) o.inner bound)))
    begins es here b n own o inc bound e idle q stream is has k =
        let same : q ≡ o = sym (same_open o q is) in
        let its : stream ≡ inc = (let p : Some stream ≡ Some inc = sym has ∙ (ap (λ (x : OpenUdp). x.incoming) same ∙ e) in cc) in
        let first : Knows handle list es o stream = subst (λ (x : OpenUdp). Knows handle list es x stream) same k in
        let knows : Knows handle list es o inc = subst (λ (x : IncomingStream). Knows handle list es o x) its first in
        let none : Exact handle o.inner.side inc.remote es list Receiving.Nothing = subst (λ (r : Receiving). Exact handle o.inner.side inc.remote es list r) idle knows in
        record {
          socket = walk.receiving_now o inc (receive_start (part_of line n) o.inner bound);
          is = refl;
          stream = with_receiving inc (Receiving.InProgress (receive_start (part_of line n) o.inner bound));
          has = refl;
          knows = subst (λ (hand : Option _). Along handle o.inner.side inc.remote es list hand (Some (part_of line n))) (sym (begun_none (part_of line n) bound)) (along_named handle o.inner.side inc.remote es list None None (part_of line n) new none);
        }
      where
        -- no `recv` is by the name that is given now
        new : (e : Entry) → Has es e → e.op ≡ part_of line n → e.call ≡ Call.Recv o.inner.side → ⊥
        new e h q c =
            let first : GivesLater (Names n) = subst GivesLater own b.1.1.0.gives in
            not_given line here.own e.op (b.1.1.1 e o.inner.side h c (subst (λ (x : OpId). 1 ≤ x.part) (sym q) first)) (subst (IsToCome line here.own) (sym q) (next_to_come line n here.own own))

    pub moves_exact : (es : List Entry) (h now : Here) → Move line origin h now → B es h → Inv es h → Inv es now
    moves_exact es _ _ (walk.Changes h place r now g p) b i = tcp es h place r now g i
    moves_exact es _ _ (walk.ClosesReader h place r s g e) b i = tcp es h place r _ g i
    moves_exact es _ _ (walk.Writes h place r s w g e m) b i = tcp es h place r _ g i
    moves_exact es _ _ (walk.IsGone h place r q g e) b i = tcp es h place r _ g i
    moves_exact es _ _ (walk.Reconnects h place r c now g e s t u) b i = tcp es h place r _ g i
    moves_exact es _ _ (walk.Opens h place r c d g e k) b i = tcp es h place r _ g i
    moves_exact es _ _ (walk.TakesEnd h its place r now of g takes) b i = tcp es h place r now g i
    moves_exact es _ _ (walk.AddsSlot h s) b i = (stream_same handle list es h.machine.table h.machine.store.records _ (slot_push_same {new = λ op. ⊥} h.machine.store.records s) i.0, i.1)
    moves_exact es _ _ (walk.BeginsConnect h place r x a bound at g d to known idle own) b i = tcp es h place r _ g i
    moves_exact es _ _ (walk.BeginsBind h place r x a at g d to own) b i = tcp es h place r _ g i
    moves_exact es _ _ (walk.BeginsWrite h place n r s half permit bytes at g e w within own) b i = tcp es h place r _ g i
    moves_exact es _ _ (walk.BeginsListen h place r x bound at g d known free none to idle own) b i = tcp es h place r _ g i
    moves_exact es _ _ (walk.BeginsAccept h place n r l at g e a own) b i = tcp es h place r _ g i
    moves_exact es _ _ (walk.Unlistens h place r op q g e c o) b i = tcp es h place r _ g i
    moves_exact es _ _ (walk.Forgets h place r l c g e a) b i = tcp es h place r _ g i
    moves_exact es _ _ (walk.Joins h c its place r l new peer is of u g e a) b i =
        (stream_push_tcp handle list es h.machine.table (tcp2_put h.machine.store.records place (walk.accepting_now r l accepting.Idle)) (joined l new peer) (tcp es h place r (walk.accepting_now r l accepting.Idle) g i).0, i.1)
    moves_exact es _ _ (walk.JoinsPlain h c listener remaining place r l new peer is of u g e a) b i =
        (stream_push_tcp handle list es h.machine.table (tcp2_put h.machine.store.records place (walk.accepting_now r l accepting.Idle)) (walk.joined_plain l new peer) (tcp es h place r (walk.accepting_now r l accepting.Idle) g i).0, i.1)
    moves_exact es _ _ (walk.JoinsFault h place r l c u g e a) b i =
        (stream_push_tcp handle list es h.machine.table (tcp2_put h.machine.store.records place (walk.accepting_now r l accepting.Idle)) (walk.faulted l c) (tcp es h place r (walk.accepting_now r l accepting.Idle) g i).0, i.1)
    moves_exact es _ _ (walk.UdpChanges h place o now g p keeps) b i = udp es h place (UdpRecord.Open o) (UdpRecord.Open now) g (changes es h b place o now g p keeps.incoming (walk.UdpChanges h place o now g p keeps)) i
    moves_exact es _ _ (walk.BeginsUdpBind h place o a at g to own) b i = udp_same es h place o _ g refl refl i
    moves_exact es _ _ (walk.BeginsUdpConnect h place o a bound at g to known none own) b i = udp_same es h place o _ g refl refl i
    moves_exact es _ _ (walk.BeginsSend h place n o out d bound at g e is known own) b i = udp_same es h place o _ g refl refl i
    moves_exact es _ _ (walk.BeginsReceive h place n o inc bound at g e is own) b i = udp es h place (UdpRecord.Open o) (UdpRecord.Open _) g (λ live. begins es h b n own o inc bound e is.1) i
    moves_exact es _ _ (walk.CancelsBind h place r op q g e) b i = tcp es h place r _ g i
    moves_exact es _ _ (walk.CancelsUdpBind h place o op q g e) b i = udp_same es h place o _ g refl refl i
    moves_exact es _ _ (walk.CancelsUdpConnect h place o q g) b i = udp_same es h place o _ g refl refl i
    moves_exact es _ _ (walk.GivesBack h place idle left) b i = (stream_stays handle list es h.machine.table h.machine.store.records _ (open_stays h place left) i.0, i.1)
    moves_exact es _ _ (walk.Finds h records s) b i = (stream_same handle list es h.machine.table h.machine.store.records records s i.0, i.1)
    moves_exact es _ _ (walk.Empties h gone kind q e none) b i = (stream_without handle list es h.machine.table h.machine.store.records gone i.0, i.1)
    moves_exact es _ _ (walk.Takes h gone q made none) b i = (stream_without handle list es h.machine.table h.machine.store.records gone i.0, i.1)
    moves_exact es _ _ (walk.DropsUdp h place o idle made g) b i = udp_same es h place o _ g refl refl i
    moves_exact es _ _ _ b i = i

    -- == polls
    pub polls_exact : (es : List Entry) (h : Here) (op : Operation) (after : End × List Item → Here) → Held h op after → B es h → Inv es h → Allows Anything (λ fs ended. Inv fs (after ended)) es (poll_asks op)
    polls_exact es h _ _ (walk.BindsOn place r op q g e) b i = let its = subst (FitProgress r.inner.state) e (b.0.0.0.records place r g).2 in
        polled_tcp handle list contexts line origin es h place r op (λ ended. with_progress r (bind_progress op ended)) g (λ side Names. bind_silent side ⊤ Names op.who op.left its.1.left) i
    polls_exact es h _ _ (walk.Connects place r op g e) b i = let its : connect.IsConnect op = subst HoldsConnect e (b.0.0.0.records place r g).0 in
        polled_tcp handle list contexts line origin es h place r op (λ ended. with_inner r (with_state r.inner (connect_ended op.who ended).1)) g (λ side Names. connect_silent side ⊤ Names op.who op.left its.left) i
    polls_exact es h _ _ (walk.Listens place r op q g e c) b i = let its : IsListen op = subst FitListening e (b.0.0.0.records place r g).1 in
        polled_tcp handle list contexts line origin es h place r op (listen_after op r) g (λ side Names. listen_silent side ⊤ Names op.who op.left its.left) i
    polls_exact es h _ _ (walk.Awaits place r l op g e a) b i = let its : IsAcceptOn l.side l.maker op = subst (HoldsAccept l.side l.maker) a (subst FitListening e (b.0.0.0.records place r g).1) in
        polled_tcp handle list contexts line origin es h place r op (λ ended. walk.accepting_now r l (accept_ended op.who ended)) g (λ side Names. accept_silent side ⊤ Names op.who op.left its.accept.left) i
    polls_exact es h _ _ (walk.UdpCreates place create q g) b i =
        polled_udp handle list contexts line origin es h place (UdpRecord.Creating create) create.operation (udp_create_left create) g (λ fs ended. no_stream handle list contexts line origin fs create (udp_create_left create ended))
        (λ p s. subst (AreSilent s.socket.inner.side ⊤ (HandName (hand_of s.stream.receiving)) create.operation.who) (sym (b.0.0.0.udps place (UdpRecord.Creating create) g).1) (tt, tt)) i
    polls_exact es h _ _ (walk.UdpBindsOn place o op q g e) b i = let its : UdpBindOn o.inner.side op = subst (FitUdpProgress o.inner.side) e (b.0.0.0.udps place (UdpRecord.Open o) g).0 in
        polled_udp handle list contexts line origin es h place (UdpRecord.Open o) op (λ ended. UdpRecord.Open (with_udp_progress o (udp_bind_progress op ended))) g (λ fs ended. stays_so handle list fs o _ refl refl)
        (λ p s. udp_bind_silent s.socket.inner.side ⊤ (HandName (hand_of s.stream.receiving)) op.who op.left its.bind.left) i
    polls_exact es h _ _ (walk.UdpConnectsOn place o op q g e) b i =
        let its : UdpConnectOn o.inner.side op = subst (FitConnecting o.inner.side) e (b.0.0.0.udps place (UdpRecord.Open o) g).1 in
        let first : IsFirst (Some op.who.id) = subst (λ (x : Option Operation). IsFirst (name_of_op x)) e (b.1.1.0.connects place (UdpRecord.Open o) g) in
        polled_udp handle list contexts line origin es h place (UdpRecord.Open o) op (λ ended. UdpRecord.Open (udp_connect_left op o ended)) g (λ fs ended. connecting_none handle list contexts line origin es h b place o op g e fs (UdpRecord.Open (udp_connect_left op o ended)))
        (λ p s. udp_connect_silent s.socket.inner.side ⊤ (HandName (hand_of s.stream.receiving)) op.who (λ x. not_first handle list contexts line origin es h b p s op.who.id first) op.left its.connect.left) i
    polls_exact es h _ _ (walk.UdpReconnectsOn place o op q g e) b i =
        let its : UdpConnectOn o.inner.side op = subst (FitConnecting o.inner.side) e (b.0.0.0.udps place (UdpRecord.Open o) g).1 in
        let first : IsFirst (Some op.who.id) = subst (λ (x : Option Operation). IsFirst (name_of_op x)) e (b.1.1.0.connects place (UdpRecord.Open o) g) in
        polled_udp handle list contexts line origin es h place (UdpRecord.Open o) op (λ ended. UdpRecord.Open (udp_reconnect_left op o ended)) g (λ fs ended. connecting_none handle list contexts line origin es h b place o op g e fs (UdpRecord.Open (udp_reconnect_left op o ended)))
        (λ p s. udp_connect_silent s.socket.inner.side ⊤ (HandName (hand_of s.stream.receiving)) op.who (λ x. not_first handle list contexts line origin es h b p s op.who.id first) op.left its.connect.left) i
    polls_exact es h _ _ (walk.SendsOn place o out op left g e f s) b i =
        let its : SendOn o.inner.side op = subst (FitSending o.inner.side) (ap sending_in e ∙ ap send_op f) (b.0.0.0.udps place (UdpRecord.Open o) g).2 in
        polled_udp handle list contexts line origin es h place (UdpRecord.Open o) (at_remote o.inner.remote op) (λ ended. UdpRecord.Open (record o { outgoing = Some (with_sending out (left ended)) })) g (λ fs ended. stays_so handle list fs o _ refl refl)
        (λ p s. send_silent s.socket.inner.side ⊤ (HandName (hand_of s.stream.receiving)) op.who op.left its.send.left) i
    polls_exact es h _ _ (walk.ReceivesOn place o inc op g e f) b i =
        receives handle list contexts line origin es h b place o inc op g e f (subst (FitReceiving o.inner.side) (ap receiving_in e ∙ ap receive_op f) (b.0.0.0.udps place (UdpRecord.Open o) g).3) i

    -- == marks
    -- of anything but an incoming stream
    pub marks_other : (es : List Entry) (h : Here) (op : OpId) (kind : Kind) (parent : Option ℕ) (sock : Option OpId) → IsOther kind → Inv es h → Allows Anything (λ fs made. StreamIs handle list fs made.1 h.machine.store.records × IsFresh handle list made.1) es (make_asks h.machine.table op kind parent sock)
    unfolding bind
    marks_other es h op kind parent sock not i =
        allows_if Anything (λ fs made. StreamIs handle list fs made.1 h.machine.store.records × IsFresh handle list made.1) es (is_full h.machine.table) _ _ (λ no. i)
        (λ free. (
          tt,
          λ told f. (
            stream_with handle list _ h.machine.table h.machine.store.records kind parent not (stream_more handle list es op (Call.Made h.machine.table.next (name_of kind) parent sock) told h.machine.table h.machine.store.records (mark_else h.machine.table.next kind parent sock not) i.0),
            fresh_with handle list h.machine.table kind parent i.1,
          ),
        ))

    -- that of a new stream: nothing was received on it
    module _ (es : List Entry) (h : Here) (b : B es h) (place n socket : ℕ) (o : OpenUdp) (at : FoundUdp h place (UdpRecord.Open o)) (new : o.incoming ≡ Some (record { remote = o.inner.remote; receiving = Receiving.Nothing })) (none : NoIncoming h.machine.table place) (i : Inv es h) where
      abbrev mark : ℕ → Told → Entry
      mark number told = entry (own_of n) (Call.Made number (name_of (Incoming place)) (Some socket) (Some o.inner.side)) told

      new_stream : (told : Told) → h.machine.table.next ≡ handle → StreamAt handle list (es ++ mark h.machine.table.next told ∷ []) h.machine.store.records place
      new_stream told its = record {
        socket = o;
        at = at;
        stream = record { remote = o.inner.remote; receiving = Receiving.Nothing };
        has = new;
        knows = record {
          later = [];
          marked = record { front = es; op = own_of n; parent = Some socket; told = told; cut = ap (λ (number : ℕ). es ++ mark number told ∷ []) its };
          reported = (let keeps : OpenKeeps es o = b.0.1.udps place (UdpRecord.Open o) at in keeps.remote);
          exactly =
              (let keeps : OpenKeeps es o = b.0.1.udps place (UdpRecord.Open o) at in (o.inner.family, keeps.told));
          all = sym (i.1 (omega (arith, its)));
          left = refl;
          one = tt;
          each = tt;
          free = tt;
          mine = record { alone = λ e h m. absurd h; begun = λ e h q. absurd h };
          new = tt;
        };
      }

      marks_new : Allows Anything (λ fs made. StreamIs handle list fs made.1 h.machine.store.records × IsFresh handle list made.1) es (make_asks h.machine.table (own_of n) (Incoming place) (Some socket) (Some o.inner.side))
      unfolding bind
      marks_new =
          allows_if Anything (λ fs made. StreamIs handle list fs made.1 h.machine.store.records × IsFresh handle list made.1) es (is_full h.machine.table) _ _ (λ no. i)
          (λ free. (tt, λ told f. (live told, fresh_with handle list h.machine.table (Incoming place) (Some socket) i.1)))
        where
          same_place : (p : ℕ) → Incoming place ≡ Incoming p → place ≡ p
          same_place p e = cc

          -- a live one is of another network socket
          another : (p : ℕ) → kind_at h.machine.table handle ≡ Some (Incoming p) → (s : StreamAt handle list es h.machine.store.records p) → o.inner.side ≡ s.socket.inner.side → ⊥
          another p was s same =
              let slot : SlotOf h.machine.table.live handle (Incoming p) = slot_of h.machine.table.live handle (Incoming p) was in
              let its : place ≡ p = b.0.0.1.udps.one s.socket.inner.side place p (UdpRecord.Open o) (UdpRecord.Open s.socket) at s.at same refl in
              none slot.slot slot.live_one (slot.value ∙ ap (λ (k : ℕ). Incoming k) (sym its))

          live : (told : Told) → StreamIs handle list (es ++ mark h.machine.table.next told ∷ []) (with_handle h.machine.table (Incoming place) (Some socket)) h.machine.store.records
          live told p e = elim (was_or_new h.machine.table (Incoming place) (Some socket) handle (Incoming p) e) [
            | inl was ↦ at_more handle list es (own_of n) (Call.Made h.machine.table.next (name_of (Incoming place)) (Some socket) (Some o.inner.side)) told h.machine.store.records p (i.0 p was) tt (another p was (i.0 p was))
            | inr is ↦ subst (StreamAt handle list (es ++ mark h.machine.table.next told ∷ []) h.machine.store.records) (same_place p is.1) (new_stream told is.0)
          ]

    pub marks_next : (es : List Entry) (h : Here) (b : B es h) (place n socket reached : ℕ) (kind : Kind) → MarksNext h.made n socket reached kind place → HasNewStream h.machine.store reached → udp_of (kind_at h.machine.table socket) ≡ Some place → Inv es h
        → Allows Anything (λ fs made. StreamIs handle list fs made.1 h.machine.store.records × IsFresh handle list made.1) es (make_asks h.machine.table (own_of n) kind (Some socket) (udp_side_at (udp2_at h.machine.store.records place)))
    marks_next es h b place n socket reached kind (inr m) new of i = marks_other es h (own_of n) kind (Some socket) (udp_side_at (udp2_at h.machine.store.records place)) (subst IsOther (sym m.0) tt) i
    marks_next es h b place n socket reached kind (inl (e, made)) new of i =
        let under : Under h = (apart_in contexts line origin es h b.1.0).1.1 in
        let same : place ≡ reached = (subst (MakesUnder h.machine.table) made under.makes).of place of in
        let at : FoundUdp h place (UdpRecord.Open new.socket) = ap (udp2_at h.machine.store.records) same ∙ new.at in
        let none : NoIncoming h.machine.table reached = subst (MadeSo h.machine.table) made (apart_in contexts line origin es h b.1.0).1.0.makes in
        subst (λ (k : Kind). Allows Anything (λ fs made. StreamIs handle list fs made.1 h.machine.store.records × IsFresh handle list made.1) es (make_asks h.machine.table (own_of n) k (Some socket) (udp_side_at (udp2_at h.machine.store.records place)))) (sym e)
        (subst (λ (sock : Option OpId). Allows Anything (λ fs made. StreamIs handle list fs made.1 h.machine.store.records × IsFresh handle list made.1) es (make_asks h.machine.table (own_of n) (Incoming place) (Some socket) sock)) (sym (ap udp_side_at at))
        (marks_new es h b place n socket new.socket at new.new (subst (NoIncoming h.machine.table) (sym same) none) i))

    -- == what is created
    pub joins : {T : Type 0} (tells : Result ℕ Stop → T) (fails : ErrorCode → T) (face : Interface) (es : List Entry) (h : Here) (own : OpId) (made : Result Socket ErrorCode) → Inv es h → Allows Anything (λ fs done. StreamIs handle list fs done.1.table done.1.store.records × IsFresh handle list done.1.table) es (made_to tells fails (tcp_kind face) h.machine own made)
    joins tells fails face es h own (Err c) i = i
    joins tells fails face es h own (Ok socket) i =
        allows_then Anything (λ fs made. StreamIs handle list fs made.1 h.machine.store.records × IsFresh handle list made.1) (λ fs done. StreamIs handle list fs done.1.table done.1.store.records × IsFresh handle list done.1.table) es (make_asks h.machine.table own (tcp_kind face (length h.machine.store.records)) None (side_of socket)) _
        (marks_other es h own (tcp_kind face (length h.machine.store.records)) None (side_of socket) (tcp_other face (length h.machine.store.records)) i) (λ fs made k. (stream_push_tcp handle list fs made.1 h.machine.store.records (new_record socket) k.0, k.1))

    pub begun : (es : List Entry) (h : Here) (made : Result Create ErrorCode) → Inv es h → Inv es (udp_begun h made)
    begun es h (Ok create) i = (stream_push handle list es h.machine.table h.machine.store.records (UdpRecord.Creating create) i.0, i.1)
    begun es h (Err c) i = i

    -- one ask that does nothing to it
    pub asked : (es : List Entry) (h : Here) (op : OpId) (c : Call) (told : Told) → IsElse c → Inv es h → Inv (es ++ entry op c told ∷ []) h
    asked es h op c told n i = (stream_more handle list es op c told h.machine.table h.machine.store.records n i.0, i.1)

    -- a tree that does nothing to it, and leaves the records
    pub silent : {A : Type 0} (es : List Entry) (h : Here) (asks : Asks A) → ((side : OpId) (Names : OpId → Type 0) → Allows (Elsewhere side ⊤ Names) (λ fs a. ⊤) es asks) → Allows Unmarked (λ fs a. ⊤) es asks → Inv es h → Allows Anything (λ fs a. Inv fs h) es asks
    silent es h asks n u i = quietly handle list contexts line origin h (λ a. h.machine.store.records) es asks i (λ fs a place e s. s) (λ place e s. n s.socket.inner.side (HandName (hand_of s.stream.receiving))) u

    -- a write is on a network socket of TCP, and has the first name of its line
    pub writer_apart : (es : List Entry) (h : Here) (b : B es h) (k : ℕ) (r : TcpRecord) (s : Streams) → Found h k r → r.streams ≡ Some s → (place : ℕ) (st : StreamAt handle list es h.machine.store.records place) → WritesApart st.socket.inner.side ⊤ (HandName (hand_of st.stream.receiving)) s.writer
    writer_apart es h b k r s g e place st = by_writer s.writer (b.0.1.tcps k r g s e).1 (subst (λ (x : Option Streams). IsFirst (streams_name x)) e (b.1.1.0.writes k r g))
      where
        apart : (job : Job) → r.side ≡ Some job.write.who.side → IsFirst (Some job.write.who.id) → IsApart st.socket.inner.side ⊤ (HandName (hand_of st.stream.receiving)) job.write.who
        apart job made first x = ((λ d. b.0.0.1.udps.apart job.write.who.side k place r (UdpRecord.Open st.socket) g st.at (inl made) (sym d)), (λ d. not_first handle list contexts line origin es h b place st job.write.who.id first d))

        by_writer : (w : WriteState) → WritesBy r.side w → IsFirst (job_name w) → WritesApart st.socket.inner.side ⊤ (HandName (hand_of st.stream.receiving)) w
        by_writer (WriteState.Writing job) made first = apart job made.0 first
        by_writer (WriteState.Closing job) made first = apart job made.0 first
        by_writer (WriteState.Ready half permit) made first = tt
        by_writer (WriteState.Closed c) made first = tt

    -- a socket that is closed has no live stream
    pub closed_none : (es : List Entry) (h : Here) (b : B es h) (k n : ℕ) (o : OpenUdp) (q : walk.ReleasesUdp h k) (g : FoundUdp h k (UdpRecord.Open o)) (told : Told) → Fits (Call.Close o.inner.side) told → kind_at h.machine.table handle ≡ Some (Incoming k) → ⊥
    closed_none es h b k n o q g told f live =
        let after : Here = put_udp h k (UdpRecord.Closed o.inner.side) in
        let s : SlotOf h.machine.table.live handle (Incoming k) = slot_of h.machine.table.live handle (Incoming k) live in
        let has = (apart_of handle list contexts line origin _ after (((streams_law contexts line origin).asks es h _ _ _ (UdpCloses k n o q g) tt b.1.0).1 told f)).there s.slot k s.live_one s.value in
        let p : Some (UdpRecord.Closed o.inner.side) ≡ Some (UdpRecord.Open has.socket) = sym (put_finds udp_sort h.machine.store.records k (UdpRecord.Open o) (UdpRecord.Closed o.inner.side) g) ∙ has.at in
        absurd (cc)

    -- no stream is of the socket of a datagram of 0.3
    old_handle : (es : List Entry) (h : Here) (b : B es h) (k its place : ℕ) (s : StreamAt handle list es h.machine.store.records place) → kind_at h.machine.table its ≡ Some (Udp3 k) → k ≡ place → ⊥
    old_handle es h b k its place s at same =
        let live = slot_of h.machine.table.live its (Udp3 k) at in
        (b.0.0.3.streams place s.socket s.at (ap is_some s.has)).handle live.slot live.live_one (live.value ∙ ap Udp3 same)

    starts_alone : (es : List Entry) (h : Here) (b : B es h) (k : ℕ) (o : OpenUdp) {call : Operation → BesideCall} {op polls : Operation} → walk.StartsDatagram line origin h.machine.table k o call op polls → FoundUdp h k (UdpRecord.Open o)
        → (place : ℕ) (s : StreamAt handle list es h.machine.store.records place) → k ≡ place → ⊥
    starts_alone es h b k o (walk.StartsSend c its d bound is at known) g place s same = old_handle es h b k its place s at same
    starts_alone es h b k o (walk.StartsReceive c its bound is at known) g place s same = old_handle es h b k its place s at same

    polls_alone : (es : List Entry) (h : Here) (b : B es h) (n k : ℕ) (o : OpenUdp) (was : Beside) {call : Operation → BesideCall} {op polls : Operation} → walk.PollsDatagram k o was.call call op polls → beside_of h.machine.store n ≡ Some was → FoundUdp h k (UdpRecord.Open o)
        → (place : ℕ) (s : StreamAt handle list es h.machine.store.records place) → k ≡ place → ⊥
    polls_alone es h b n k o was its at g place s same =
        let none : has_datagram h.machine.store.beside place ≡ false = (b.0.0.3.streams place s.socket s.at (ap is_some s.has)).none in
        let some : has_datagram h.machine.store.beside k ≡ true = datagram_has h.machine.store.beside k was (find_has h.machine.store.beside n was at).0 (polls_datagram its) in
        let both : has_datagram h.machine.store.beside place ≡ true = ap (has_datagram h.machine.store.beside) (sym same) ∙ some in
        absurd (cc)

    -- a datagram of 0.3
    datagram_exact : (es : List Entry) (h : Here) (b : B es h) (k : ℕ) (o : OpenUdp) (op : Operation) → FoundUdp h k (UdpRecord.Open o) → {n : ℕ} → op.who.id ≡ own_of n → op.who.side ≡ o.inner.side
        → ((place : ℕ) (s : StreamAt handle list es h.machine.store.records place) → k ≡ place → ⊥) → Inv es h → Allows Anything (λ fs ended. Inv fs h) es (poll_asks op)
    datagram_exact es h b k o op g first side alone i =
        quietly handle list contexts line origin h (λ ended. h.machine.store.records) es (poll_asks op) i (λ fs ended place live s. s)
        (λ place live s. silent_poll s.socket.inner.side ⊤ (HandName (hand_of s.stream.receiving)) op es
        (apart_silent s.socket.inner.side ⊤ (HandName (hand_of s.stream.receiving)) op.who
        (λ x. (λ d. other_side handle list contexts line origin es h b k o place s g (alone place s) (sym side ∙ d), not_first handle list contexts line origin es h b place s op.who.id (ap (λ (y : OpId). y.part) first))) op.left))
        (polls_unmarked op es)

    -- one write is asked
    wrote : (es : List Entry) (h : Here) (side : OpId) (bytes : List ℕ) → Inv es h → Allows Anything (λ fs x. Inv fs h) es (write_asks (own_of line) side bytes)
    unfolding bind
    wrote es h side bytes i = (tt, λ told f front. asked es h (own_of line) (Call.Write side (length bytes)) told tt i)

    -- the law: the calls may be any
    pub exacts_asks : (es : List Entry) (h : Here) (A : Type 0) (tree : Asks A) (end : A → Here)
        → Asked contexts line origin es h A tree end → B es h → Inv es h
        → Allows (Anything) (λ fs x. (Inv) fs (end x)) es tree
    exacts_asks es h _ _ _ (Questions place n r x c at g o q) b i = (tt, λ told f. asked es h (own_of n) c told (question_else line origin n x c q.0) i)
    exacts_asks es h _ _ _ (SetsBacklog place r x backlog at g s is) b i = (tt, λ told f. asked es h (own_of line) (Call.SetBacklog x backlog) told tt i)
    exacts_asks es h _ _ _ (Learns place r x at g e) b i = (tt, λ told f. tcp _ h place r _ g (asked es h (own_of line) (Call.Local x) told tt i))
    exacts_asks es h _ _ _ (Closes place r x q g e) b i = (tt, λ told f. tcp _ h place r _ g (asked es h (own_of line) (Call.Close x) told tt i))
    exacts_asks es h _ _ _ (MarksOne kind parent sock m) b i = marks_other es h (own_of line) kind parent sock (is_other contexts line origin h kind parent sock m) i
    exacts_asks es h _ _ _ (AsksCreate tells fails face ctx family c a o m) b i = allows_then Anything (λ fs made. Inv fs h) (λ fs done. StreamIs handle list fs done.1.table done.1.store.records × IsFresh handle list done.1.table) es (new_asks (own_of line) ctx family) (made_to tells fails (tcp_kind face) h.machine (own_of line)) (silent es h (new_asks (own_of line) ctx family) (λ side Names. new_silent side ⊤ Names es (own_of line) ctx family) (creates_unmarked es (own_of line) ctx family) i) (λ fs made k. joins tells fails face fs h (own_of line) made k)
    exacts_asks es h _ _ _ (MarksAccepted c s place r is e o g) b i = marks_other es h (own_of line) (Tcp2 place) (Some s) _ tt i
    exacts_asks es h _ _ _ (MarksPlain c s remaining place r is e o g) b i = marks_other es h (own_of line) (Tcp3 place) (Some s) _ tt i
    exacts_asks es h _ _ _ (MarksListener n its reached place r q m g has e) b i = marks_other es h (own_of n) (Listen3 place) (Some its) _ tt i
    exacts_asks es h _ _ _ (MarksResult socket place slot r m made e g) b i = marks_other es h (own_of line) (Result3 slot) (Some socket) _ tt i
    exacts_asks es h _ _ _ (WritesOnce c its place given end r s half permit is e f at g q w own) b i = wrote es h half.side (take 4294967295 given) i
    exacts_asks es h _ _ _ (Polls op after k) b i = polls_exact es h op after k b i
    exacts_asks es h _ _ _ (Turns place r s g e) b i = quietly handle list contexts line origin h (λ done. tcp2_put h.machine.store.records place (with_writer r s done.1)) es (turn_asks s.writer) i (λ fs done p live st. tcp_at handle list fs h.machine.store.records place p r _ g st) (λ p live st. turn_silent st.socket.inner.side ⊤ (HandName (hand_of st.stream.receiving)) es s.writer (writer_apart es h b place r s g e p st)) (turns_unmarked es s.writer)
    exacts_asks es h _ _ _ (GivesUp place r q goes g) b i = quietly handle list contexts line origin h (λ done. tcp2_put h.machine.store.records place (with_listening r listening.Not)) es (give_up_asks r.listening) i (λ fs done p live st. tcp_at handle list fs h.machine.store.records place p r _ g st) (λ p live st. given_up_silent st.socket.inner.side ⊤ (HandName (hand_of st.stream.receiving)) es r.listening) (releases_unmarked es r.listening)
    exacts_asks es h _ _ _ (UdpQuestions place n o c at g q) b i = (tt, λ told f. asked es h (own_of n) c told (udp_question_else line origin n o.inner.side c q) i)
    exacts_asks es h _ _ _ (UdpLearns place part o at g) b i = (tt, λ told f. udp_same _ h place o _ g (learnt_side o.inner (told_addr told)) refl (asked es h (part_of line part) (Call.Local o.inner.side) told tt i))
    exacts_asks es h _ _ _ (UdpDisconnects place o at g is) b i = (tt, λ told f. udp_same _ h place o _ g refl refl (asked es h (own_of line) (Call.UdpDisconnect o.inner.side) told tt i))
    exacts_asks es h _ _ _ (UdpPeers place o at g) b i = (tt, λ told f. udp_same _ h place o _ g refl refl (asked es h (own_of line) (Call.Peer o.inner.side) told tt i))
    exacts_asks es h _ _ _ (UdpCloses place n o q g) b i = (tt, λ told f. udp _ h place (UdpRecord.Open o) (UdpRecord.Closed o.inner.side) g (λ live. absurd (closed_none es h b place n o q g told f live)) (asked es h (own_of n) (Call.Close o.inner.side) told tt i))
    exacts_asks es h _ _ _ (UdpBegins face ctx family c may a o m) b i = (tt, λ told f. begun _ h (udp_after_create (own_of line) ctx.name family (told_done told)) (asked es h (own_of line) (Call.UdpCreate ctx.name family) told tt i))
    exacts_asks es h _ _ _ (MarksUdp face place u g) b i = marks_other es h (udp_side u) (udp_kind face place) None (Some (udp_side u)) (udp_other face place) i
    exacts_asks es h _ _ _ (MarksStream place n socket reached kind next new of) b i = marks_next es h b place n socket reached kind next new of i
    exacts_asks es h _ _ _ (MarksError n its place handles m k e f) b i = marks_other es h (own_of n) ErrorValue (Some its) (side_at (tcp2_at h.machine.store.records place)) tt i
    exacts_asks es h _ _ _ (UdpGivesUp place create q g) b i = quietly handle list contexts line origin h (λ done. udp2_put h.machine.store.records place (UdpRecord.Closed create.operation.who.side)) es (create_cancel_asks create) i (λ fs done p live st. put_at handle list fs h.machine.table h.machine.store.records place p (UdpRecord.Creating create) (UdpRecord.Closed create.operation.who.side) g live (λ same. no_stream handle list contexts line origin fs create (UdpRecord.Closed create.operation.who.side)) st) (λ p live st. cancelled_silent st.socket.inner.side ⊤ (HandName (hand_of st.stream.receiving)) es create) (cancels_unmarked es create)
    exacts_asks es h _ _ _ (Resolves host records l same) b i = (tt, λ told f. (stream_same handle list _ h.machine.table h.machine.store.records (records told) (same told) (asked es h (own_of line) (Call.Lookup host) told tt i).0, i.1))
    exacts_asks es h _ _ _ (Looks place op g) b i = (tt, λ told f. asked es h op.id (Call.Lookup op.host) told tt i)
    exacts_asks es h _ _ _ (BeginsDatagram place o call op polls at g starts m own) b i =
        datagram_exact es h b place o polls g (starts_first line origin starts) (starts_side line origin starts) (starts_alone es h b place o starts g) i
    exacts_asks es h _ _ _ (PollsBeside n was place o call op polls is at g its) b i =
        let fit = b.0.0.3.besides was (find_has h.machine.store.beside n was at).0 in
        datagram_exact es h b place o polls g (polls_first h.machine.store.records its fit) (polls_side h.machine.store.records was.line its fit o g) (polls_alone es h b n place o was its at g) i
    exacts_asks es h _ _ _ (ResolvesBeside host l) b i = (tt, λ told f. asked es h (own_of line) (Call.Lookup host) told tt i)
    exacts_asks es h _ _ _ (LooksBeside n call host g e) b i = (tt, λ told f. asked es h (own_of n) (Call.Lookup host) told tt i)

    unfoldable pub exacts : Rests contexts line origin B
    exacts = record {
      P = Anything;
      Inv = Inv;
      moves = λ es h now m b i. moves_exact es h now m b i;
      asks = exacts_asks;
    }

    -- a write that begins in a call of streams
    pub begins_exacts : BeginsWrites exacts
    unfolding exacts
    begins_exacts = begins_by exacts (λ es h place n r s half permit bytes at g e w within own b i. tcp es h place r _ g i)
