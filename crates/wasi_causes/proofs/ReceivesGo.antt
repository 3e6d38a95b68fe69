-- The law that a receive in progress has something left to ask: a poll of it waits, gives a datagram or ends with a
-- code.
use Rattle.wasi_causes.proofs.Words.{Allows, accept_ended, bind_progress, connect_ended, with_inner, with_progress}
use Rattle.wasi_causes.proofs.Words.{with_state, Bool, Done, End, Entry, Err, ErrorCode, Front, FrontKeeps, Give, Given}
use Rattle.wasi_causes.proofs.Words.{Gives, gives_more, IpSocketAddress, Item, LastAsk, Left, List, Machine, None}
use Rattle.wasi_causes.proofs.Words.{Nothing, NothingLast, Ok, OpId, Operation, Option, Refused, Reply, Result, Some}
use Rattle.wasi_causes.proofs.Words.{Step, TcpRecord, Verdict, Waits, WasiSocketsCtx, Who, [], allows_polls, bind}
use Rattle.wasi_causes.proofs.Words.{false, first_state, front, if◌then◌else◌, inl, inr, last_ask, machine_asks, own_of}
use Rattle.wasi_causes.proofs.Words.{poll_asks, refl, run, subst, sym, told_datagram, told_verdict, true, turn_asks}
use Rattle.wasi_causes.proofs.Words.{with_writer, ℕ, ⊤, ◌∙◌, ◌∷◌, ◌≡◌}
use Rattle.wasi_walks.proofs.fits.Polls.{Anything}
use Rattle.wasi_world.specs.Operation.{Again, Datagram, Goes, Receive, check_peer_front, is_wanted, receive_front}
use Rattle.wasi_world.specs.Operation.{received_front}
use Rattle.wasi_world.specs.declared.asks.Polled.{Polled}
use Rattle.socket_common.specs.Rounds.{some_left}
use Rattle.wasi_udp.specs.Create.{Create, after_create as udp_after_create}
use Rattle.wasi_udp.specs.Receive.{IsLeftOfReceive, IsReceive, receive_start, wanted_in, wanting}
use Rattle.wasi_udp.specs.Receive as receive
use Rattle.wasi_udp.specs.Send.{at_remote}
use Rattle.wasi_udp.specs.Shape.{Socket}
use Rattle.udp_records.specs.Datagrams.{udp_connect_left, udp_reconnect_left, with_sending}
use Rattle.wasi_records.specs.Numbered.{record_gone}
use Rattle.udp_records.specs.Receiving.{receive_left, with_receiving}
use Rattle.wasi_records.specs.Records.{tcp2_put, tcp2_pushed, udp2_at, udp2_of, udp2_put, udp2_pushed}
use Rattle.udp_records.specs.Udp.{udp_bind_progress, udp_create_left, with_udp_progress}
use Rattle.udp_records.specs.declared.datagrams.Incoming.{Incoming}
use Rattle.udp_records.specs.declared.datagrams.Receiving.{Receiving}
use Rattle.wasi_records.specs.declared.records.Record.{Record}
use Rattle.udp_records.specs.declared.udp.OpenUdp.{OpenUdp}
use Rattle.udp_records.specs.declared.udp.UdpRecord.{UdpRecord}
use Rattle.wasi_walks.proofs.GoneLists.{was_there}
use Rattle.wasi_walks.proofs.Places.{push_found, push_was, put_found, put_was, tcp_sort, udp_sort}
use Rattle.wasi_walks.proofs.fits.DatagramPolls.{wanted_left}
use Rattle.wasi_walks.proofs.fits.Law.{whatever}
use Rattle.wasi_walks.proofs.fits.UdpFits.{begun_receive}
use Rattle.wasi_walks.proofs.walks.Law.{InCall}
use Rattle.wasi_walks.proofs.walks.Moves as walk
use Rattle.wasi_walks.proofs.walks.Moves.{FoundUdp, Held, Here, KeepsOp, Move, joined, part_of, put_udp, receive_op}
use Rattle.wasi_walks.proofs.walks.Moves.{receiving_in, udp_begun}
use Rattle.wasi_walks.proofs.walks.OfState.{Becomes, Created, CreatedWith, GivenUp, IsClosed, Learnt, OfState, Resolved}
use Rattle.wasi_walks.proofs.walks.OfState.{UdpBegun}
use Rattle.wasi_walks.proofs.walks.OfState.{UdpGivenUp, UdpIsClosed, UdpLearnt, Writing, begins_state, of_state}
use Rattle.wasi_walks.proofs.walks.Runs.{run_ends}
use Rattle.wasi_walks.proofs.walks.Steps.{machine_walks}
use Rattle.wasi_walks.proofs.PipeLists.{slot_push_same}

-- == one receive
abbrev pub HasLeft : List Item → Type 0
HasLeft items = IsLeftOfReceive items × (some_left items ≡ true)

-- how a poll of it ends
abbrev pub ReceiveEnds : End × List Item → Type 0
ReceiveEnds (Waits, items) = HasLeft items
ReceiveEnds (Done (Datagram bytes a), items) = ⊤
ReceiveEnds (Done given, items) = ⊥
ReceiveEnds (Refused c given, items) = ⊤

module _ (who : Who) where
  abbrev Leaving : List Entry → End × List Item → Type 0
  Leaving es end = ReceiveEnds end

  -- nothing follows what a receive gives
  abbrev Going : List Entry → Given → List Item → Type 0
  Going es Nothing items = HasLeft items
  Going es (Datagram bytes a) items = items ≡ []
  Going es given items = ⊥

  abbrev Keeps : List Item → List Entry → Front → Type 0
  Keeps items es f = FrontKeeps Anything who Going Leaving items es f

  ends_so : (es : List Entry) (last : LastAsk) (c : ErrorCode) (given : Given) → Gives Leaving es
      (last_ask who last c given)
  unfolding bind
  ends_so es NothingLast c given = tt
  ends_so es _ c given = (tt, λ t fits. tt)

  module _ (only : Option IpSocketAddress) where
    -- one of another sender than the wanted one is dropped
    by_sender : (es : List Entry) (bytes : List ℕ) (a : IpSocketAddress) (b : Bool) → Keeps [] es
        (if b then Goes (Datagram bytes a) else Again (Receive only))
    by_sender es bytes a true = refl
    by_sender es bytes a false = (receive.Unreceived only, refl)

    checked : (es : List Entry) (bytes : List ℕ) (a : IpSocketAddress) (v : Verdict) → Keeps [] es
        (received_front only bytes a v)
    checked es bytes a Verdict.Yes = by_sender es bytes a (is_wanted only a)
    checked es bytes a Verdict.No = (receive.Unreceived only, refl)
    checked es bytes a Verdict.Pending = (receive.Received only bytes a, refl)

    checks : (es : List Entry) (bytes : List ℕ) (a : IpSocketAddress) → Gives (λ fs f. Keeps [] fs f) es
        (check_peer_front who only bytes a)
    unfolding bind
    checks es bytes a = (tt, λ t fits. checked _ bytes a (told_verdict t))

    received : (es : List Entry) (p : Polled (List ℕ × IpSocketAddress)) → Gives (λ fs f. Keeps [] fs f) es
        (receive_front who only p)
    received es Polled.Pending = (receive.Unreceived only, refl)
    received es (Polled.Ready d) = checks es d.0 d.1
    received es (Polled.Code c) = ends_so es who.last c Nothing

  by_left : (es : List Entry) (item : Item) (items : List Item) → IsLeftOfReceive (item ∷ items) → Gives
      (λ fs f. Keeps items fs f) es (front who item)
  unfolding bind
  by_left es _ _ (receive.ToRefuse c) = ends_so es who.last c Nothing
  by_left es _ _ (receive.Unreceived only) = (tt, λ t fits. received only _ (told_datagram t))
  by_left es _ _ (receive.Received only bytes a) = checks only es bytes a

  fronts : (es : List Entry) (given : Given) (item : Item) (items : List Item) → Going es given (item ∷ items) → Gives
      (λ fs f. Keeps items fs f) es (front who item)
  fronts es Nothing item items k = by_left es item items k.0
  fronts es (Datagram bytes a) item items k = absurd (cc)
  fronts es _ item items k = absurd k

  over : (es : List Entry) (given : Given) → Going es given [] → Leaving es (Done given, [])
  over es Nothing k = absurd (let none = k.1 in cc)
  over es (Datagram bytes a) k = tt
  over es _ k = absurd k

pub receive_ends : (op : Operation) → HasLeft op.left → (es : List Entry) → Gives (λ fs end. ReceiveEnds end) es
    (poll_asks op)
receive_ends op its es = allows_polls Anything op.who (Going op.who) (Leaving op.who) (fronts op.who) (λ fs left k. k)
    (over op.who) 64 op.left es its

-- whomever it is wanted from
pub wanted_goes : (only : Option IpSocketAddress) (items : List Item) → HasLeft items → HasLeft (wanted_in only items)
wanted_goes only items k = (wanted_left only items k.0, by_left items k.0 k.1)
  where
    by_left : (items : List Item) → IsLeftOfReceive items → some_left items ≡ true → some_left (wanted_in only items) ≡
        true
    by_left _ (receive.ToRefuse c) e = e
    by_left _ (receive.Unreceived any) e = refl
    by_left _ (receive.Received any bytes peer) e = refl
    by_left _ receive.Ended e = e

-- == of records
abbrev pub GoesBy : Option Operation → Type 0
GoesBy None = ⊤
GoesBy (Some op) = HasLeft op.left

abbrev pub GoesIn : UdpRecord → Type 0
GoesIn (UdpRecord.Open o) = GoesBy (receiving_in o.incoming)
GoesIn u = ⊤

abbrev pub AllGo : List Record → Type 0
AllGo records = (k : ℕ) (u : UdpRecord) → udp2_at records k ≡ Some u → GoesIn u

-- what a poll leaves
pub left_goes : (op : Operation) (end : End × List Item) → ReceiveEnds end → GoesBy (receive_op (receive_left op end))
left_goes op (Waits, items) k = k
left_goes op (Done (Datagram bytes a), items) k = tt
left_goes op (Done _, items) k = absurd k
left_goes op (Refused c given, items) k = tt

kept_goes : (old now : Option Operation) → KeepsOp old now → GoesBy old → GoesBy now
kept_goes old now (inl same) k = subst GoesBy (sym same) k
kept_goes old now (inr none) k = subst GoesBy (sym none) tt

pub start_goes : (own : OpId) (socket : Socket) (bound : Bool) → HasLeft (receive_start own socket bound).left
start_goes own socket true = ((begun_receive own socket true).receive.left, refl)
start_goes own socket false = ((begun_receive own socket false).receive.left, refl)

module _ (records : List Record) (i : AllGo records) where
  pub tcp_put : (place : ℕ) (now : TcpRecord) → AllGo (tcp2_put records place now)
  tcp_put place now k u e = i k u (put_was tcp_sort udp_sort (λ t. refl) records place now k u e)

  tcp_push : (now : TcpRecord) → AllGo (tcp2_pushed records now)
  tcp_push now k u e = i k u (push_was tcp_sort udp_sort (λ t. refl) records now k u e)

  pub udp_put : (place : ℕ) (now : UdpRecord) → GoesIn now → AllGo (udp2_put records place now)
  udp_put place now goes k u e = elim (put_found udp_sort records place now k u e)
      [ inl p ↦ subst GoesIn p.1 goes | inr p ↦ i k u p ]

  udp_push : (now : UdpRecord) → GoesIn now → AllGo (udp2_pushed records now)
  udp_push now goes k u e = elim (push_found udp_sort records now k u e)
      [ inl p ↦ i k u p | inr p ↦ subst GoesIn p.0 goes ]

  gone : (place : ℕ) → AllGo (record_gone records place)
  gone place k u e = i k u (was_there udp2_of refl records place k u e)

module _ (contexts : List WasiSocketsCtx) (line : ℕ) (origin : Step) where
  abbrev Go : Here → Type 0
  Go h = AllGo h.machine.store.records

  moves_go : (h now : Here) → Move line origin h now → Go h → Go now
  moves_go _ _ (walk.Changes h place r now g p) i = tcp_put h.machine.store.records i place _
  moves_go _ _ (walk.ClosesReader h place r s g e) i = tcp_put h.machine.store.records i place _
  moves_go _ _ (walk.Writes h place r s w g e m) i = tcp_put h.machine.store.records i place _
  moves_go _ _ (walk.IsGone h place r q g e) i = tcp_put h.machine.store.records i place _
  moves_go _ _ (walk.Reconnects h place r c now g e s t u) i = tcp_put h.machine.store.records i place _
  moves_go _ _ (walk.Opens h place r c d g e k) i = tcp_put h.machine.store.records i place _
  moves_go _ _ (walk.TakesEnd h handle place r now of g takes) i = tcp_put h.machine.store.records i place now
  moves_go _ _ (walk.AddsSlot h s) i = λ k u e. let same = slot_push_same {new = λ op. ⊥} h.machine.store.records s in i k u (sym (same.udp k) ∙ e)
  moves_go _ _ (walk.BeginsConnect h place r x a bound at g d to known idle own) i = tcp_put h.machine.store.records i
      place _
  moves_go _ _ (walk.BeginsBind h place r x a at g d to own) i = tcp_put h.machine.store.records i place _
  moves_go _ _ (walk.BeginsWrite h place n r s half permit bytes at g e w within own) i = tcp_put
      h.machine.store.records i place _
  moves_go _ _ (walk.BeginsListen h place r x bound at g d known free none to idle own) i = tcp_put h.machine.store.records i place
      _
  moves_go _ _ (walk.BeginsAccept h place n r l at g e a own) i = tcp_put h.machine.store.records i place _
  moves_go _ _ (walk.Unlistens h place r op q g e c o) i = tcp_put h.machine.store.records i place _
  moves_go _ _ (walk.Forgets h place r l c g e a) i = tcp_put h.machine.store.records i place _
  moves_go _ _ (walk.Joins h c handle place r l new peer is of u g e a) i = tcp_push _
      (tcp_put h.machine.store.records i place _) (joined l new peer)
  moves_go _ _ (walk.JoinsPlain h c listener remaining place r l new peer is of u g e a) i = tcp_push _
      (tcp_put h.machine.store.records i place _) (walk.joined_plain l new peer)
  moves_go _ _ (walk.JoinsFault h place r l c u g e a) i = tcp_push _
      (tcp_put h.machine.store.records i place _) (walk.faulted l c)
  moves_go _ _ (walk.UdpChanges h place o now g p keeps) i = udp_put h.machine.store.records i place
      (UdpRecord.Open now) (kept_goes _ _ p.receives (i place (UdpRecord.Open o) g))
  moves_go _ _ (walk.BeginsUdpBind h place o a at g to own) i = udp_put h.machine.store.records i place _
      (i place (UdpRecord.Open o) g)
  moves_go _ _ (walk.BeginsUdpConnect h place o a bound at g to known none own) i = udp_put h.machine.store.records i place _
      (i place (UdpRecord.Open o) g)
  moves_go _ _ (walk.BeginsSend h place n o out d bound at g e is known own) i = udp_put h.machine.store.records i place
      _ (i place (UdpRecord.Open o) g)
  moves_go _ _ (walk.BeginsReceive h place n o inc bound at g e is own) i = udp_put h.machine.store.records i place _
      (start_goes (part_of line n) o.inner bound)
  moves_go _ _ (walk.CancelsBind h place r op q g e) i = tcp_put h.machine.store.records i place _
  moves_go _ _ (walk.CancelsUdpBind h place o op q g e) i = udp_put h.machine.store.records i place _
      (i place (UdpRecord.Open o) g)
  moves_go _ _ (walk.CancelsUdpConnect h place o q g) i = udp_put h.machine.store.records i place _
      (i place (UdpRecord.Open o) g)
  moves_go _ _ (walk.GivesBack h place idle left) i = gone h.machine.store.records i place
  moves_go _ _ (walk.Finds h records s) i = λ k u e. i k u (sym (s.udp k) ∙ e)
  moves_go _ _ (walk.DropsUdp h place o idle made g) i = udp_put h.machine.store.records i place _
      (i place (UdpRecord.Open o) g)
  moves_go _ _ _ i = i

  created : (create : Create) (ended : End × List Item) → GoesIn (udp_create_left create ended)
  created create (Waits, items) = tt
  created create (Done given, items) = tt
  created create (Refused c given, items) = tt

  connected : (o : OpenUdp) (op : Operation) (ended : End × List Item) → GoesIn (UdpRecord.Open o) → GoesIn
      (UdpRecord.Open (udp_connect_left op o ended))
  connected o op (Waits, items) k = k
  connected o op (Done given, items) k = tt
  connected o op (Refused c given, items) k = k

  reconnected : (o : OpenUdp) (op : Operation) (ended : End × List Item) → GoesIn (UdpRecord.Open o) → GoesIn
      (UdpRecord.Open (udp_reconnect_left op o ended))
  reconnected o op (Waits, items) k = k
  reconnected o op (Done given, items) k = k
  reconnected o op (Refused c given, items) k = k

  polls_go : (es : List Entry) (h : Here) (op : Operation) (after : End × List Item → Here) → Held h op after → Go h →
      Allows Anything (λ fs ended. Go (after ended)) es (poll_asks op)
  polls_go es h _ _ (walk.ReceivesOn place o inc op g e f) i =
      let had : GoesBy (Some op) = subst GoesBy (ap_of f)
      (subst (λ (x : Option Incoming). GoesBy (receiving_in x)) e (i place (UdpRecord.Open o) g)) in
      gives_more (λ fs end. ReceiveEnds end) (λ fs end. Go
      (put_udp h place (UdpRecord.Open (record o { incoming = Some (with_receiving inc (receive_left op end)) }))))
      (λ fs end k. udp_put h.machine.store.records i place _ (left_goes op end k)) es
      (poll_asks (wanting inc.remote op))
      (receive_ends (wanting inc.remote op) (wanted_goes inc.remote op.left had) es)
    where
      ap_of : inc.receiving ≡ Receiving.InProgress op → receive_op inc.receiving ≡ Some op
      ap_of f = rw f refl
  polls_go es h _ _ (walk.BindsOn place r op q g e) i = whatever
      (λ end. Go (walk.put h place (with_progress r (bind_progress op end))))
      (λ end. tcp_put h.machine.store.records i place _) es (poll_asks op)
  polls_go es h _ _ (walk.Connects place r op g e) i = whatever
      (λ end. Go (walk.put h place (with_inner r (with_state r.inner (connect_ended op.who end).1))))
      (λ end. tcp_put h.machine.store.records i place _) es (poll_asks op)
  polls_go es h _ _ (walk.Listens place r op q g e c) i = whatever
      (λ end. Go (walk.put h place (walk.listen_after op r end))) (λ end. tcp_put h.machine.store.records i place _) es
      (poll_asks op)
  polls_go es h _ _ (walk.Awaits place r l op g e a) i = whatever
      (λ end. Go (walk.put h place (walk.accepting_now r l (accept_ended op.who end))))
      (λ end. tcp_put h.machine.store.records i place _) es (poll_asks op)
  polls_go es h _ _ (walk.UdpCreates place create q g) i = whatever
      (λ end. Go (put_udp h place (udp_create_left create end)))
      (λ end. udp_put h.machine.store.records i place _ (created create end)) es (poll_asks create.operation)
  polls_go es h _ _ (walk.UdpBindsOn place o op q g e) i = whatever
      (λ end. Go (put_udp h place (UdpRecord.Open (with_udp_progress o (udp_bind_progress op end)))))
      (λ end. udp_put h.machine.store.records i place _ (i place (UdpRecord.Open o) g)) es (poll_asks op)
  polls_go es h _ _ (walk.UdpConnectsOn place o op q g e) i = whatever
      (λ end. Go (put_udp h place (UdpRecord.Open (udp_connect_left op o end))))
      (λ end. udp_put h.machine.store.records i place _ (connected o op end (i place (UdpRecord.Open o) g))) es
      (poll_asks op)
  polls_go es h _ _ (walk.UdpReconnectsOn place o op q g e) i = whatever
      (λ end. Go (put_udp h place (UdpRecord.Open (udp_reconnect_left op o end))))
      (λ end. udp_put h.machine.store.records i place _ (reconnected o op end (i place (UdpRecord.Open o) g))) es
      (poll_asks op)
  polls_go es h _ _ (walk.SendsOn place o out op left g e f s) i = whatever
      (λ end. Go (put_udp h place (UdpRecord.Open (record o { outgoing = Some (with_sending out (left end)) }))))
      (λ end. udp_put h.machine.store.records i place _ (i place (UdpRecord.Open o) g)) es
      (poll_asks (at_remote o.inner.remote op))

  begun : (h : Here) (made : Result Create ErrorCode) → Go h → Go (udp_begun h made)
  begun h (Ok create) i = udp_push h.machine.store.records i (UdpRecord.Creating create) tt
  begun h (Err c) i = i

  becomes_go : (h now : Here) → Becomes contexts line origin h now → Go h → Go now
  becomes_go h _ (Learnt place r side told at g e) i = tcp_put h.machine.store.records i place _
  becomes_go h _ (IsClosed place r side q g e) i = tcp_put h.machine.store.records i place _
  becomes_go h _ (GivenUp place r q goes g) i = tcp_put h.machine.store.records i place _
  becomes_go h _ (UdpLearnt place o socket g e) i = udp_put h.machine.store.records i place _
      (i place (UdpRecord.Open o) g)
  becomes_go h _ (UdpIsClosed place o q g) i = udp_put h.machine.store.records i place _ tt
  becomes_go h _ (UdpGivenUp place create q g) i = udp_put h.machine.store.records i place _ tt
  becomes_go h _ (UdpBegun face ctx family r c u m) i = begun h (udp_after_create (own_of line) ctx.name family r) i
  becomes_go h _ (Resolved host records l same) i = λ k u e. i k u (sym (same.udp k) ∙ e)
  becomes_go h _ (Created face ctx family c u m) i = tcp_push h.machine.store.records i _
  becomes_go h _ (CreatedWith face ctx family c u m) i = tcp_push h.machine.store.records i _
  becomes_go h _ (Writing _ (InCall place n r s half permit bytes at g e w within own)) i = tcp_put
      h.machine.store.records i place _
  becomes_go h _ _ i = i

  abbrev go_state : OfState contexts line origin (λ es h. ⊤)
  go_state = record {
    Holds = Go;
    moves = λ es h now m b i. moves_go h now m i;
    becomes = λ es h now k b i. becomes_go h now k i;
    polls = λ es h op after k b i. polls_go es h op after k i;
    turns = λ es h place r s g e b i. whatever (λ done. Go (walk.put h place (with_writer r s done.1)))
        (λ done. tcp_put h.machine.store.records i place _) es (turn_asks s.writer);
  }

  pub line_goes : (m : Machine) (es : List Entry) → AllGo m.store.records → Allows Anything
      (λ fs done. AllGo done.1.store.records) es (machine_asks contexts m line origin)
  line_goes m es i =
      (machine_walks line origin {law = of_state go_state} (begins_state go_state) m m.store.standing refl).along es i

-- == of a run
pub first_go : AllGo first_state.store.records
first_go k u e = absurd (cc)

pub runs_go : (contexts : List WasiSocketsCtx) (steps : List Step) (es : List Entry) (replies : List Reply)
    (m : Machine) → Left (run contexts [] first_state 1 steps) es (Give (replies, m)) → AllGo m.store.records
runs_go contexts steps es replies m w = (run_ends contexts Anything (λ line fs now. AllGo now.store.records)
    (λ line s now fs i. line_goes contexts line s now fs i) first_go steps es replies m w).1
