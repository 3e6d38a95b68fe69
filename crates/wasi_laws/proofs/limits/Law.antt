-- The law that the writers of each context stay within its limit.
use Rattle.std.proofs.lemmas.Bool.{ltb-false}
use Rattle.wasi_tcp.specs.Bounds.{held}
use Rattle.wasi_tcp.specs.declared.halves.TcpSendStream.{TcpSendStream}
use Rattle.wasi_tcp.specs.declared.writer.WriteState.TheVariants as writing
use Rattle.wasi_tcp.specs.declared.listener.Accepting.TheVariants as accepting
use Rattle.tcp_records.specs.Ends.{ends_of}
use Rattle.tcp_records.specs.Used.{held_in}
use Rattle.udp_records.specs.declared.udp.UdpRecord.{UdpRecord}
use Rattle.udp_records.specs.Udp.{udp_create_left}
use Rattle.wasi_udp.specs.Create.{Create}
use Rattle.host_store.specs.Limits.{left}
use Rattle.wasi_walks.proofs.fits.Law.{whatever}
use Rattle.wasi_walks.proofs.fits.Polls.{Anything}
use Rattle.wasi_walks.proofs.PipeLists.{slot_push_same}
use Rattle.wasi_walks.proofs.claims.Law.{begins_on_two, on_two, on_two_along}
use Rattle.wasi_walks.proofs.walks.OfState.{Becomes as Leaves, Learnt, IsClosed, GivenUp, UdpLearnt, UdpIsClosed, UdpGivenUp, UdpBegun, Resolved, Created, CreatedWith, Writing, OfState, begins_state, of_state}
use Rattle.wasi_walks.proofs.walks.Runs.{run_ends}
use Rattle.wasi_walks.proofs.walks.Moves.{AddsSlot, CancelsBind, CancelsUdpBind, CancelsUdpConnect, DropsUdp, Finds, GivesBack, JoinsFault, JoinsPlain, MakesRoom, OfReceive, OfSend, TakesEnd, TakesHalf, UdpChanges, BeginsUdpBind, BeginsUdpConnect, BeginsSend, BeginsReceive, UdpCreates, UdpBindsOn, UdpConnectsOn, UdpReconnectsOn, SendsOn, ReceivesOn, faulted, joined_plain, put_udp, udp_begun, with_receive, with_send}
use Rattle.wasi_laws.proofs.asks.Trees.{GoesOn, turns_by}
use Rattle.wasi_laws.proofs.shapes.Shape.{AreOfWrite, WriterIs}
use Rattle.wasi_laws.proofs.shapes.Law.{Shaped, job_of, has_streams, shapes}
use Rattle.wasi_laws.proofs.limits.Held.{moves_less, turned_less}
use Rattle.wasi_laws.proofs.limits.Sums.{limit_within, more_within, new_within, other_within, permit_within, same_within, socket_within}
use Rattle.wasi_laws.proofs.Words.{Allows, Awaits, Base, BaseBetween, BeginsWrites, BeginsAccept, BeginsBind, BeginsConnect, BeginsListen, BeginsWrite, BindsOn, Changes, ClosesReader, Connects, Done, End, Entry, Err, ErrorCode, Forgets, Found, Held, Here, InCall, IsGone, Item, Job, Joins, Law, Left, List, Listens, Machine, Move, None, Ok, OpId, Opens, Operation, Option, Reconnects, Refused, Reply, Result, Some, Step, Streams, TcpRecord, Unlistens, Waits, WasiSocketsCtx, WriteState, Writes, [], accepting_now, allows_weaker, ap, arith, base_over, base_starts, false, first_base, first_state, inl, inr, job_after, joined, length, listen_after, machine_asks, machine_walks, may_while, nat_lt, new_job, own_of, poll_asks, put, refl, run, turn_asks, with_writer, ℕ, ◌+◌, ◌≡◌, ◌≤◌}
use Rattle.wasi_walks.proofs.walks.States.{Over}
use Rattle.wasi_world.specs.Asks.{Give}
use Rattle.wasi_laws.specs.Limits.{IsWithin}

abbrev Within : Here → Type 0
Within h = IsWithin h.machine.store

-- a record of the same context, which holds no more
put_within : (h : Here) (place : ℕ) (r now : TcpRecord) → Found h place r → now.maker ≡ r.maker → held_in now.streams ≤ held_in r.streams → Within h → Within (put h place now)
put_within h place r now g same less i = socket_within h.machine.store i place r now g same less

-- with the same streams
put_same : (h : Here) (place : ℕ) (r now : TcpRecord) → Found h place r → now.maker ≡ r.maker → now.streams ≡ r.streams → Within h → Within (put h place now)
put_same h place r now g same streams i = put_within h place r now g same (rw streams (omega arith)) i

-- with none, or with a writer that is permitted nothing
put_less : (h : Here) (place : ℕ) (r now : TcpRecord) → Found h place r → now.maker ≡ r.maker → held_in now.streams ≡ 0 → Within h → Within (put h place now)
put_less h place r now g same none i = put_within h place r now g same (rw none (omega arith)) i

-- with another writer
put_writer : (h : Here) (place : ℕ) (r : TcpRecord) (s : Streams) (w : WriteState) → Found h place r → r.streams ≡ Some s → held w ≤ held s.writer → Within h → Within (put h place (with_writer r s w))
put_writer h place r s w g e less i = put_within h place r _ g refl (rw e less) i

udp_within : (h : Here) (place : ℕ) (now : UdpRecord) → Within h → Within (put_udp h place now)
udp_within h place now i = other_within h.machine.store i place _ (λ context. refl)

begun_within : (h : Here) (made : Result Create ErrorCode) → Within h → Within (udp_begun h made)
begun_within h (Ok create) i = more_within h.machine.store i _ (λ context. refl)
begun_within h (Err c) i = i

-- a write begins, of no more bytes than are permitted
write_within : (h : Here) (place n : ℕ) (r : TcpRecord) (s : Streams) (half : TcpSendStream) (permit : ℕ) (bytes : List ℕ) → Found h place r → r.streams ≡ Some s → s.writer ≡ writing.Ready half permit → nat_lt permit (length bytes) ≡ false → Within h
    → Within (put h place (with_writer r s (writing.Writing (new_job (own_of n) half.side bytes))))
write_within h place n r s half permit bytes g e w fits i =
    put_writer h place r s _ g e (let was : held s.writer ≡ permit = ap held w in let most = ltb-false permit (length bytes) fits in omega (arith, was, most)) i

-- the half that is taken is permitted nothing, and the other one leaves the writer as it is
half_within : (h : Here) (place : ℕ) (r now : TcpRecord) → Found h place r → TakesHalf r now → Within h → Within (put h place now)
half_within h place r _ g (OfReceive c e free) i = put_within h place r (with_receive r c) g refl (reads r.streams) i
  where
    reads : (o : Option Streams) → held (ends_of o).writer ≤ held_in o
    reads None = omega arith
    reads (Some s) = omega arith
half_within h place r _ g (OfSend c e free) i = put_less h place r (with_send r c) g refl refl i

-- a listen that was polled
listened_streams : (op : Operation) (r : TcpRecord) (ended : End × List Item) → ((listen_after op r ended).maker ≡ r.maker) × ((listen_after op r ended).streams ≡ r.streams)
listened_streams op r (Waits, items) = (refl, refl)
listened_streams op r (Done given, items) = (refl, refl)
listened_streams op r (Refused c given, items) = (refl, refl)

module _ (contexts : List WasiSocketsCtx) (line : ℕ) (origin : Step) where
  moves : (h now : Here) → Move line origin h now → Within h → Within now
  moves _ _ (MakesRoom h c family ctx is) i = limit_within h.machine.store ctx i
  moves _ _ (Changes h place r now g p) i = put_same h place r now g p.counts p.streams i
  moves _ _ (ClosesReader h place r s g e) i = put_within h place r _ g refl (rw e (omega arith)) i
  moves _ _ (Writes h place r s w g e m) i = elim (moves_less s.writer w m) [
    | inl less ↦ put_writer h place r s w g e less i
    | inr fits ↦ permit_within h.machine.store place r (with_writer r s w) g refl (rw e fits) i
  ]
  moves _ _ (IsGone h place r q g e) i = put_less h place r _ g refl refl i
  moves _ _ (Reconnects h place r c now g e s t u) i = put_same h place r _ g refl refl i
  moves _ _ (Opens h place r c d g e n) i = put_less h place r _ g refl refl i
  moves _ _ (TakesEnd h handle place r now of g takes) i = half_within h place r now g takes i
  moves _ _ (AddsSlot h s) i = same_within h.machine.store i _ (slot_push_same {new = λ op. ⊥} h.machine.store.records s).tcp
  moves _ _ (BeginsConnect h place r side a bound at g d to known idle own) i = put_same h place r _ g refl refl i
  moves _ _ (BeginsBind h place r side a at g d to own) i = put_same h place r _ g refl refl i
  moves _ _ (BeginsWrite h place n r s half permit bytes at g e w fits own) i = write_within h place n r s half permit bytes g e w fits i
  moves _ _ (BeginsListen h place r side bound at g d known free none to idle own) i = put_same h place r _ g refl refl i
  moves _ _ (BeginsAccept h place n r l at g e a own) i = put_same h place r _ g refl refl i
  moves _ _ (Unlistens h place r op q g e c o) i = put_same h place r _ g refl refl i
  moves _ _ (Forgets h place r l c g e a) i = put_same h place r _ g refl refl i
  moves _ _ (Joins h c handle place r l new peer is of u g e a) i =
      let idle : TcpRecord = accepting_now r l accepting.Idle in
      new_within (put h place idle).machine.store (put_same h place r idle g refl refl i) (joined l new peer) refl
  moves _ _ (JoinsPlain h c listener remaining place r l new peer is of u g e a) i =
      let idle : TcpRecord = accepting_now r l accepting.Idle in
      new_within (put h place idle).machine.store (put_same h place r idle g refl refl i) (joined_plain l new peer) refl
  moves _ _ (JoinsFault h place r l c u g e a) i =
      let idle : TcpRecord = accepting_now r l accepting.Idle in
      new_within (put h place idle).machine.store (put_same h place r idle g refl refl i) (faulted l c) refl
  moves _ _ (UdpChanges h place o now g p keeps) i = udp_within h place _ i
  moves _ _ (BeginsUdpBind h place o a at g to own) i = udp_within h place _ i
  moves _ _ (BeginsUdpConnect h place o a bound at g to known none own) i = udp_within h place _ i
  moves _ _ (BeginsSend h place n o out d bound at g e is known own) i = udp_within h place _ i
  moves _ _ (BeginsReceive h place n o inc bound at g e is own) i = udp_within h place _ i
  moves _ _ (CancelsBind h place r op q g e) i = put_same h place r _ g refl refl i
  moves _ _ (CancelsUdpBind h place o op q g e) i = udp_within h place _ i
  moves _ _ (CancelsUdpConnect h place o q g) i = udp_within h place _ i
  moves _ _ (DropsUdp h place o idle made g) i = udp_within h place _ i
  moves _ _ (Finds h records s) i = same_within h.machine.store i records s.tcp
  moves _ _ (GivesBack h place idle left) i = other_within h.machine.store i place _ (λ context. refl)
  -- the others leave the records and the limits
  moves _ _ _ i = i

  polls : (es : List Entry) (h : Here) (op : Operation) (after : End × List Item → Here) → Held h op after → Within h → Allows Anything (λ fs ended. Within (after ended)) es (poll_asks op)
  polls es h op _ (BindsOn place r _ q g e) i = whatever _ (λ ended. put_same h place r _ g refl refl i) es (poll_asks op)
  polls es h op _ (Connects place r _ g e) i = whatever _ (λ ended. put_same h place r _ g refl refl i) es (poll_asks op)
  polls es h op _ (Listens place r _ q g e c) i = whatever _ (λ ended. (let same = listened_streams op r ended in put_same h place r (listen_after op r ended) g same.0 same.1 i)) es (poll_asks op)
  polls es h op _ (Awaits place r l _ g e a) i = whatever _ (λ ended. put_same h place r _ g refl refl i) es (poll_asks op)
  polls es h _ _ (UdpCreates place create q g) i = whatever _ (λ ended. udp_within h place (udp_create_left create ended) i) es (poll_asks create.operation)
  polls es h op _ (UdpBindsOn place o _ q g e) i = whatever _ (λ ended. udp_within h place _ i) es (poll_asks op)
  polls es h op _ (UdpConnectsOn place o _ q g e) i = whatever _ (λ ended. udp_within h place _ i) es (poll_asks op)
  polls es h op _ (UdpReconnectsOn place o _ q g e) i = whatever _ (λ ended. udp_within h place _ i) es (poll_asks op)
  polls es h op _ (SendsOn place o out _ left g e s settles) i = whatever _ (λ ended. udp_within h place _ i) es (poll_asks op)
  polls es h op _ (ReceivesOn place o inc _ g e r) i = whatever _ (λ ended. udp_within h place _ i) es (poll_asks op)

  -- what is left of a write in progress is a write
  work_left : (w : WriteState) (at : OpId) → WriterIs at w → (job : Job) (now : Job → WriteState) → GoesOn w job now → AreOfWrite job.write.left
  work_left w at k job now on = (job_of w job now on k).0.left

  turns : (es : List Entry) (h : Here) (place : ℕ) (r : TcpRecord) (s : Streams) → Found h place r → r.streams ≡ Some s → Shaped h → Within h → Allows Anything (λ fs done. Within (put h place (with_writer r s done.1))) es (turn_asks s.writer)
  turns es h place r s g e shaped i =
      let o = has_streams r s e (shaped place r g) in
      turns_by Anything (λ fs w. Within (put h place (with_writer r s w))) es s.writer (put_writer h place r s s.writer g e (omega arith) i)
      (λ job now on. allows_weaker Anything (λ fs ended. held (now (job_after job.write.who ended)) ≤ held s.writer) (λ fs ended. Within (put h place (with_writer r s (now (job_after job.write.who ended)))))
      (λ fs ended less. put_writer h place r s _ g e less i) es (poll_asks job.write) (turned_less es s.writer job now on (work_left s.writer o.connection.side o.writer job now on)))

  becomes : (h now : Here) → Leaves contexts line origin h now → Within h → Within now
  becomes h _ (Learnt place r side told at g e) i = put_same h place r _ g refl refl i
  becomes h _ (IsClosed place r side q g e) i = put_less h place r _ g refl refl i
  becomes h _ (GivenUp place r q goes g) i = put_same h place r _ g refl refl i
  becomes h _ (UdpLearnt place o socket g e) i = udp_within h place _ i
  becomes h _ (UdpIsClosed place o q g) i = udp_within h place _ i
  becomes h _ (UdpGivenUp place create q g) i = udp_within h place _ i
  becomes h _ (UdpBegun face ctx family r c u m) i = begun_within h _ i
  becomes h _ (Resolved host records l s) i = same_within h.machine.store i records s.tcp
  becomes h _ (Created face ctx family c u m) i = new_within h.machine.store i _ refl
  becomes h _ (CreatedWith face ctx family c u m) i = new_within h.machine.store i _ refl
  becomes h _ (Writing _ (InCall place n r s half permit bytes at g e w fits used)) i = write_within h place n r s half permit bytes g e w fits i
  becomes h _ _ i = i

  -- it rests on that records have their shape
  abbrev limits : OfState contexts line origin (λ es h. Base contexts line origin h × Shaped h)
  limits = record {
    Holds = Within;
    moves = λ es h now m b i. moves h now m i;
    becomes = λ es h now k b i. becomes h now k i;
    polls = λ es h op after held b i. polls es h op after held i;
    turns = λ es h place r s g e b i. turns es h place r s g e b.1 i;
  }

  limits_law : Law contexts line origin
  unfolding shapes
  limits_law = on_two contexts line origin (of_state (shapes contexts line origin)) (of_state limits)

  limits_begin : BeginsWrites limits_law
  unfolding limits_law shapes
  limits_begin = begins_on_two contexts line origin (of_state (shapes contexts line origin)) (of_state limits) (begins_state (shapes contexts line origin)) (begins_state limits)

-- Before the line of this number.
record Between (line : ℕ) (m : Machine) : Type 0 where
  pub base : BaseBetween line m
  pub shaped : Shaped (Over m)
  pub within : IsWithin m.store

module _ (contexts : List WasiSocketsCtx) where
  line_within : (line : ℕ) (s : Step) (m : Machine) (es : List Entry) → Between line m → Allows Anything (λ fs done. Between (line + 1) done.1) es (machine_asks contexts m line s)
  unfolding limits_law shapes
  line_within line s m es b =
      let own = may_while m s m.store.standing in
      allows_weaker Anything _ (λ fs done. Between (line + 1) done.1) (λ fs done k. record { base = base_over contexts line s done.1 k.0.0; shaped = k.0.1; within = k.1 }) es (machine_asks contexts m line s)
      (on_two_along contexts line s (of_state (shapes contexts line s)) (of_state (limits contexts line s)) (machine_walks line s (limits_begin contexts line s) m m.store.standing refl) es (base_starts contexts line s m own b.base) b.shaped b.within)

  pub runs_within : (steps : List Step) (log : List Entry) (replies : List Reply) (m : Machine) → Left (run contexts [] first_state 1 steps) log (Give (replies, m)) → IsWithin m.store
  runs_within steps log replies m w =
      (run_ends contexts Anything (λ line es m. Between line m) line_within (record { base = first_base; shaped = λ place r e. absurd (cc); within = λ context. omega arith }) steps log replies m w).1.within
