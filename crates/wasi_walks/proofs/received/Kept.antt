-- The law that an incoming stream holds only what came from the remote address that it keeps.
use Rattle.wasi_walks.proofs.PipeLists.{slot_push_same}
use Rattle.wasi_walks.proofs.walks.OfState.{Becomes, Created, CreatedWith, GivenUp, IsClosed, Learnt, OfState, Resolved, UdpBegun}
use Rattle.wasi_walks.proofs.walks.OfState.{UdpGivenUp, UdpIsClosed, UdpLearnt, Writing, begins_state, of_state}
use Rattle.wasi_walks.proofs.Words.{Allows, Done, End, Entry, Err, ErrorCode, Item, List, Machine, None, Ok, Operation, Option, Refused, Result, Some, Step, TcpRecord, Waits, WasiSocketsCtx}
use Rattle.wasi_walks.proofs.Words.{allows_weaker, ap, first_state, inl, inr, machine_asks, own_of, poll_asks, refl, subst, sym, true, turn_asks}
use Rattle.wasi_walks.proofs.Words.{with_writer, ℕ, ⊤, ◌+◌, ◌∙◌, ◌≡◌}
use Rattle.wasi_udp.specs.Create.{Create, after_create as udp_after_create}
use Rattle.wasi_udp.specs.Receive.{wanting}
use Rattle.udp_records.specs.Datagrams.{udp_connect_left, udp_reconnect_left}
use Rattle.udp_records.specs.Receiving.{receive_left, with_receiving}
use Rattle.wasi_records.specs.Records.{tcp2_put, tcp2_pushed, udp2_at, udp2_of, udp2_put}
use Rattle.wasi_walks.proofs.GoneLists.{was_there}
use Rattle.udp_records.specs.Udp.{udp_create_left}
use Rattle.udp_records.specs.declared.datagrams.Incoming.{Incoming}
use Rattle.udp_records.specs.declared.datagrams.Receiving.{Receiving}
use Rattle.lookup_records.specs.declared.name_lookup.LookupOp.{LookupOp}
use Rattle.wasi_records.specs.declared.records.Record.{Record}
use Rattle.udp_records.specs.declared.udp.OpenUdp.{OpenUdp}
use Rattle.udp_records.specs.declared.udp.UdpRecord.{UdpRecord}
use Rattle.wasi_world.specs.Operation.{is_wanted}
use Rattle.wasi_walks.proofs.claims.Law.{Base, begins_on_names, on_along, on_names}
use Rattle.wasi_walks.proofs.claims.Lines.{BaseBetween, base_over, base_starts, first_base}
use Rattle.wasi_walks.proofs.fits.Law.{whatever}
use Rattle.wasi_walks.proofs.fits.Polls.{Anything}
use Rattle.wasi_walks.proofs.fits.Records.{FitReceiving, ReceiveOn}
use Rattle.wasi_walks.proofs.fits.UdpFits.{kept_op}
use Rattle.wasi_walks.proofs.received.Wanted.{IncomingWanted, ReceivingWanted, poll_wanted}
use Rattle.wasi_walks.proofs.walks.Law.{BeginsWrites, InCall, Law, Rests}
use Rattle.wasi_walks.proofs.walks.Moves as walk
use Rattle.wasi_walks.proofs.walks.Moves.{Held, Here, Kept, Move, SameSockets, UdpPlain, came_from, came_in, came_of, faulted, joined, joined_plain, put_udp, receive_op, receiving_in, udp_begun}
use Rattle.wasi_walks.proofs.walks.Steps.{machine_walks, may_while}
use Rattle.wasi_walks.proofs.Places.{push_found, push_was, put_found, put_was, tcp_sort, udp_sort}

abbrev pub UdpWanted : UdpRecord → Type 0
UdpWanted (UdpRecord.Open o) = IncomingWanted o.incoming
UdpWanted u = ⊤

-- of all records
abbrev pub AllWanted : List Record → Type 0
AllWanted records = (place : ℕ) (u : UdpRecord) → udp2_at records place ≡ Some u → UdpWanted u

-- == a record changes, or joins them
put_tcp : (records : List Record) (place : ℕ) (now : TcpRecord) → AllWanted records → AllWanted (tcp2_put records place now)
put_tcp records place now k i u e = k i u (put_was tcp_sort udp_sort (λ t. refl) records place now i u e)

push_tcp : (records : List Record) (now : TcpRecord) → AllWanted records → AllWanted (tcp2_pushed records now)
push_tcp records now k i u e = k i u (push_was tcp_sort udp_sort (λ t. refl) records now i u e)

put_udps : (records : List Record) (place : ℕ) (now : UdpRecord) → UdpWanted now → AllWanted records → AllWanted (udp2_put records place now)
put_udps records place now f k i u e = elim (put_found udp_sort records place now i u e) [ inl p ↦ subst UdpWanted p.1 f | inr p ↦ k i u p ]

same_wanted : {new : LookupOp → Type 0} (old now : List Record) → SameSockets new old now → AllWanted old → AllWanted now
same_wanted old now s k i u e = k i u (sym (s.udp i) ∙ e)

begun_wanted : (h : Here) (made : Result Create ErrorCode) → AllWanted h.machine.store.records → AllWanted (udp_begun h made).machine.store.records
begun_wanted h (Ok create) k = λ i u e. elim (push_found udp_sort h.machine.store.records (UdpRecord.Creating create) i u e) [ inl p ↦ k i u p | inr p ↦ subst UdpWanted p.0 tt ]
begun_wanted h (Err c) k = k

-- a plain change
abbrev KeptWanted : Option Kept → Type 0
KeptWanted (Some k) = is_wanted k.0 k.1.remote_address ≡ true
KeptWanted None = ⊤

came_wanted : (inc : Option Incoming) → IncomingWanted inc → KeptWanted (came_in inc)
came_wanted None k = tt
came_wanted (Some inc) k = of inc.receiving k
  where
    of : (r : Receiving) → ReceivingWanted inc.remote r → KeptWanted (came_from inc.remote (came_of r))
    of (Receiving.Came d) k = k
    of _ k = tt

wanted_came : (inc : Option Incoming) → KeptWanted (came_in inc) → IncomingWanted inc
wanted_came None k = tt
wanted_came (Some inc) k = of inc.receiving k
  where
    of : (r : Receiving) → KeptWanted (came_from inc.remote (came_of r)) → ReceivingWanted inc.remote r
    of (Receiving.Came d) k = k
    of _ k = tt

plain_wanted : (o now : OpenUdp) → UdpPlain o now → IncomingWanted o.incoming → IncomingWanted now.incoming
plain_wanted o now p k = wanted_came now.incoming (kept_op KeptWanted tt (came_in o.incoming) (came_in now.incoming) p.came (came_wanted o.incoming k))

-- a poll of a create, and of a connect, which leaves the stream or makes a new one
created_wanted : (create : Create) (ended : End × List Item) → UdpWanted (udp_create_left create ended)
created_wanted create (Waits, items) = tt
created_wanted create (Done given, items) = tt
created_wanted create (Refused c given, items) = tt

connected_wanted : (o : OpenUdp) (op : Operation) (ended : End × List Item) → IncomingWanted o.incoming → IncomingWanted (udp_connect_left op o ended).incoming
connected_wanted o op (Waits, items) k = k
connected_wanted o op (Done given, items) k = tt
connected_wanted o op (Refused c given, items) k = k

reconnected_wanted : (o : OpenUdp) (op : Operation) (ended : End × List Item) → IncomingWanted o.incoming → IncomingWanted (udp_reconnect_left op o ended).incoming
reconnected_wanted o op (Waits, items) k = k
reconnected_wanted o op (Done given, items) k = k
reconnected_wanted o op (Refused c given, items) k = k

module _ (contexts : List WasiSocketsCtx) (line : ℕ) (origin : Step) where
  abbrev Wants : Here → Type 0
  Wants h = AllWanted h.machine.store.records

  moves_wanted : (h now : Here) → Move line origin h now → Wants h → Wants now
  moves_wanted _ _ (walk.Changes h place r now g p) i = put_tcp _ place now i
  moves_wanted _ _ (walk.ClosesReader h place r s g e) i = put_tcp _ place _ i
  moves_wanted _ _ (walk.Writes h place r s w g e m) i = put_tcp _ place _ i
  moves_wanted _ _ (walk.IsGone h place r q g e) i = put_tcp _ place _ i
  moves_wanted _ _ (walk.Reconnects h place r c now g e s t u) i = put_tcp _ place _ i
  moves_wanted _ _ (walk.Opens h place r c d g e k) i = put_tcp _ place _ i
  moves_wanted _ _ (walk.BeginsConnect h place r x a bound at g d to known idle own) i = put_tcp _ place _ i
  moves_wanted _ _ (walk.BeginsBind h place r x a at g d to own) i = put_tcp _ place _ i
  moves_wanted _ _ (walk.BeginsWrite h place n r s half permit bytes at g e w within own) i = put_tcp _ place _ i
  moves_wanted _ _ (walk.BeginsListen h place r x bound at g d known un none to idle own) i = put_tcp _ place _ i
  moves_wanted _ _ (walk.BeginsAccept h place part r l at g e a own) i = put_tcp _ place _ i
  moves_wanted _ _ (walk.Unlistens h place r op q g e c o) i = put_tcp _ place _ i
  moves_wanted _ _ (walk.Forgets h place r l c g e a) i = put_tcp _ place _ i
  moves_wanted _ _ (walk.Joins h c handle place r l new peer is of u g e a) i = push_tcp _ (joined l new peer) (put_tcp _ place _ i)
  moves_wanted _ _ (walk.JoinsPlain h c listener remaining place r l new peer is of u g e a) i = push_tcp _ (joined_plain l new peer) (put_tcp _ place _ i)
  moves_wanted _ _ (walk.JoinsFault h place r l c u g e a) i = push_tcp _ (faulted l c) (put_tcp _ place _ i)
  moves_wanted _ _ (walk.UdpChanges h place o now g p keeps) i = put_udps _ place (UdpRecord.Open now) (plain_wanted o now p (i place (UdpRecord.Open o) g)) i
  moves_wanted _ _ (walk.BeginsUdpBind h place o a at g to own) i = put_udps _ place (UdpRecord.Open _) (i place (UdpRecord.Open o) g) i
  moves_wanted _ _ (walk.BeginsUdpConnect h place o a bound at g to known none own) i = put_udps _ place (UdpRecord.Open _) (i place (UdpRecord.Open o) g) i
  moves_wanted _ _ (walk.BeginsSend h place n o out d bound at g e is known own) i = put_udps _ place (UdpRecord.Open _) (i place (UdpRecord.Open o) g) i
  moves_wanted _ _ (walk.BeginsReceive h place n o inc bound at g e is own) i = put_udps _ place (UdpRecord.Open _) tt i
  moves_wanted _ _ (walk.CancelsBind h place r op q g e) i = put_tcp _ place _ i
  moves_wanted _ _ (walk.CancelsUdpBind h place o op q g e) i = put_udps _ place (UdpRecord.Open _) (i place (UdpRecord.Open o) g) i
  moves_wanted _ _ (walk.CancelsUdpConnect h place o q g) i = put_udps _ place (UdpRecord.Open _) (i place (UdpRecord.Open o) g) i
  moves_wanted _ _ (walk.TakesEnd h handle place r now of g takes) i = put_tcp _ place now i
  moves_wanted _ _ (walk.AddsSlot h s) i = same_wanted {new = λ op. ⊥} h.machine.store.records _ (slot_push_same h.machine.store.records s) i
  moves_wanted _ _ (walk.Finds h records s) i = same_wanted h.machine.store.records records s i
  moves_wanted _ _ (walk.DropsUdp h place o idle made g) i = put_udps _ place (UdpRecord.Open _) (i place (UdpRecord.Open o) g) i
  moves_wanted _ _ (walk.GivesBack h place idle left) i = λ k u e. i k u (was_there udp2_of refl h.machine.store.records place k u e)
  moves_wanted _ _ _ i = i

  -- a poll of what is in progress
  polls_wanted : (es : List Entry) (h : Here) (op : Operation) (after : End × List Item → Here) → Held h op after → Base contexts line origin h → Wants h → Allows Anything (λ fs ended. Wants (after ended)) es (poll_asks op)
  polls_wanted es h op after (walk.BindsOn place r _ q g e) b i = whatever (λ end. Wants (after end)) (λ end. put_tcp _ place _ i) es (poll_asks op)
  polls_wanted es h op after (walk.Connects place r _ g e) b i = whatever (λ end. Wants (after end)) (λ end. put_tcp _ place _ i) es (poll_asks op)
  polls_wanted es h op after (walk.Listens place r _ q g e c) b i = whatever (λ end. Wants (after end)) (λ end. put_tcp _ place _ i) es (poll_asks op)
  polls_wanted es h op after (walk.Awaits place r l _ g e a) b i = whatever (λ end. Wants (after end)) (λ end. put_tcp _ place _ i) es (poll_asks op)
  polls_wanted es h op after (walk.UdpCreates place create q g) b i = whatever (λ end. Wants (after end)) (λ end. put_udps _ place _ (created_wanted create end) i) es (poll_asks op)
  polls_wanted es h op after (walk.UdpBindsOn place o _ q g e) b i = whatever (λ end. Wants (after end)) (λ end. put_udps _ place (UdpRecord.Open _) (i place (UdpRecord.Open o) g) i) es (poll_asks op)
  polls_wanted es h op after (walk.UdpConnectsOn place o _ q g e) b i = whatever (λ end. Wants (after end)) (λ end. put_udps _ place (UdpRecord.Open (udp_connect_left op o end)) (connected_wanted o op end (i place (UdpRecord.Open o) g)) i) es (poll_asks op)
  polls_wanted es h op after (walk.UdpReconnectsOn place o _ q g e) b i = whatever (λ end. Wants (after end)) (λ end. put_udps _ place (UdpRecord.Open (udp_reconnect_left op o end)) (reconnected_wanted o op end (i place (UdpRecord.Open o) g)) i) es (poll_asks op)
  polls_wanted es h op after (walk.SendsOn place o out _ left g e f s) b i = whatever (λ end. Wants (after end)) (λ end. put_udps _ place (UdpRecord.Open _) (i place (UdpRecord.Open o) g) i) es (poll_asks op)
  polls_wanted es h _ _ (walk.ReceivesOn place o inc op g e f) b i =
      let its : ReceiveOn o.inner.side op = subst (FitReceiving o.inner.side) (ap receiving_in e ∙ ap receive_op f) (b.0.udps place (UdpRecord.Open o) g).3 in
      let now : End × List Item → UdpRecord = λ ended. UdpRecord.Open (record o { incoming = Some (with_receiving inc (receive_left op ended)) }) in
      allows_weaker Anything (λ fs ended. ReceivingWanted inc.remote (receive_left op ended)) (λ fs ended. Wants (put_udp h place (now ended))) (λ fs ended k. put_udps h.machine.store.records place (now ended) k i) es (poll_asks (wanting inc.remote op)) (poll_wanted op inc.remote es its.receive)

  becomes_wanted : (h now : Here) → Becomes contexts line origin h now → Wants h → Wants now
  becomes_wanted h _ (Learnt place r side told at g e) i = put_tcp _ place _ i
  becomes_wanted h _ (IsClosed place r side q g e) i = put_tcp _ place _ i
  becomes_wanted h _ (GivenUp place r q goes g) i = put_tcp _ place _ i
  becomes_wanted h _ (UdpLearnt place o socket g e) i = put_udps _ place (UdpRecord.Open _) (i place (UdpRecord.Open o) g) i
  becomes_wanted h _ (UdpIsClosed place o q g) i = put_udps _ place (UdpRecord.Closed o.inner.side) tt i
  becomes_wanted h _ (UdpGivenUp place create q g) i =
      put_udps _ place (UdpRecord.Closed create.operation.who.side) tt i
  becomes_wanted h _ (UdpBegun face ctx family r c u m) i =
      begun_wanted h (udp_after_create (own_of line) ctx.name family r) i
  becomes_wanted h _ (Resolved host records l same) i = same_wanted h.machine.store.records records same i
  becomes_wanted h _ (Created face ctx family c u m) i = push_tcp h.machine.store.records _ i
  becomes_wanted h _ (CreatedWith face ctx family c u m) i = push_tcp h.machine.store.records _ i
  becomes_wanted h _ (Writing _ (InCall place n r s half permit bytes at g e w within used)) i = put_tcp _ place _ i
  becomes_wanted h _ _ i = i

  -- the law: the calls may be any
  abbrev wanted_state : OfState contexts line origin (λ es h. Base contexts line origin h)
  wanted_state = record {
    Holds = Wants;
    moves = λ es h now m b i. moves_wanted h now m i;
    becomes = λ es h now k b i. becomes_wanted h now k i;
    polls = λ es h op after k b i. polls_wanted es h op after k b i;
    turns = λ es h place r s g e b i.
        whatever (λ done. AllWanted (tcp2_put h.machine.store.records place (with_writer r s done.1)))
        (λ done. put_tcp _ place _ i) es (turn_asks s.writer);
  }

  unfoldable wanteds : Rests contexts line origin (λ es h. Base contexts line origin h)
  wanteds = of_state wanted_state

  wanted_law : Law contexts line origin
  wanted_law = on_names contexts line origin wanteds

  begins_wanted : BeginsWrites wanted_law
  unfolding wanted_law wanteds
  begins_wanted = begins_on_names contexts line origin wanteds (begins_state wanted_state)

  -- what a line leaves
  pub line_wanted : (m : Machine) (es : List Entry) → BaseBetween line m × AllWanted m.store.records → Allows Anything (λ fs done. BaseBetween (line + 1) done.1 × AllWanted done.1.store.records) es (machine_asks contexts m line origin)
  unfolding wanted_law wanteds
  line_wanted m es i =
      allows_weaker Anything _ (λ fs done. BaseBetween (line + 1) done.1 × AllWanted done.1.store.records) (λ fs done k. (base_over contexts line origin done.1 k.0, k.1)) es (machine_asks contexts m line origin)
      (on_along contexts line origin wanteds (machine_walks line origin {law = wanted_law} begins_wanted m m.store.standing refl) es (base_starts contexts line origin m (may_while m origin m.store.standing) i.0) i.1)

pub first_wanted : BaseBetween 1 first_state × AllWanted first_state.store.records
first_wanted = (first_base, λ place u e. absurd (cc))
