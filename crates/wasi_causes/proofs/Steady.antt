-- Of the machines that runs lead to: of a connect and of a listen in progress only asks are left, a connect in progress may be finished,
-- and a socket that does nothing yet doesn't listen.
use Rattle.wasi_records.specs.Records.{tcp2_at, tcp2_put, tcp2_pushed, udp2_put, tcp2_of}
use Rattle.udp_records.specs.declared.udp.UdpRecord.{UdpRecord}
use Rattle.udp_records.specs.Udp.{udp_bind_progress, udp_create_left, with_udp_progress}
use Rattle.wasi_udp.specs.Create.{Create, after_create as udp_after_create}
use Rattle.wasi_walks.proofs.walks.Moves.{put_udp, udp_begun, UdpChanges, BeginsUdpBind, UdpCreates, UdpBindsOn}
use Rattle.wasi_records.specs.declared.records.Record.{Record}
use Rattle.wasi_causes.proofs.Words.{Accepting, Allows, Bool, Done, End, Entry, Err}
use Rattle.wasi_causes.proofs.Words.{ErrorCode, Give}
use Rattle.wasi_causes.proofs.Words.{Item, Left, List, Listener, Listening, Machine}
use Rattle.wasi_causes.proofs.Words.{None, Ok, OpId, Operation}
use Rattle.wasi_causes.proofs.Words.{Refused, Reply, Result, Some}
use Rattle.wasi_causes.proofs.Words.{Step, TcpRecord, TcpState, Waits, WasiSocketsCtx}
use Rattle.wasi_causes.proofs.Words.{Who, [], accept_ended, ap, bind_progress}
use Rattle.wasi_causes.proofs.Words.{connect_ended, false, first_state}
use Rattle.wasi_causes.proofs.Words.{inl, inr, is_connect, machine_asks}
use Rattle.wasi_causes.proofs.Words.{own_of, poll_asks, refl, run}
use Rattle.wasi_causes.proofs.Words.{subst, sym, told_addr, true, turn_asks}
use Rattle.wasi_causes.proofs.Words.{with_inner, with_progress}
use Rattle.wasi_causes.proofs.Words.{with_state, with_writer, ℕ, ⊤, ◌∙◌, ◌≡◌}
use Rattle.wasi_causes.proofs.sockets.Starts.{IsPastNot}
use Rattle.wasi_causes.specs.Reached.{Finishes, MayFinish, ListensLate}
use Rattle.tcp_records.specs.declared.tcp_listening.Listening.TheVariants as listening
use Rattle.wasi_walks.proofs.fits.Law.{told_same, whatever}
use Rattle.wasi_walks.proofs.fits.Polls.{Anything}
use Rattle.wasi_walks.proofs.walks.Moves.{Held, BindsOn, Connects, Here, put, Move, Changes, ClosesReader, Writes, IsGone, Reconnects, Opens, BeginsBind, BeginsConnect, BeginsWrite, CancelsBind, CancelsUdpBind, CancelsUdpConnect, BeginsListen, BeginsAccept, Unlistens, Forgets, Joins, Listens, Awaits, listen_after, accepting_now, joined, IsConnecting}
use Rattle.wasi_walks.proofs.walks.Runs.{run_ends}
use Rattle.wasi_walks.proofs.walks.Steps.{machine_walks}
use Rattle.wasi_causes.proofs.operations.Polls.{Keeps, connect_leaves, listen_leaves}
use Rattle.wasi_tcp.specs.Connect.{connect_first, connect_left, connect_operation}
use Rattle.wasi_tcp.specs.Listen.{is_over}
use Rattle.wasi_tcp.specs.Socket.{side_in}
use Rattle.wasi_addr.specs.declared.code.ErrorCode.TheVariants.{Other}
use Rattle.wasi_walks.specs.Answered.{AllOf, IsAskOfConnect, IsPastDefault}
use Rattle.wasi_walks.specs.Waiting.{IsAskOfListen}
use Rattle.wasi_causes.proofs.Words.{IpSocketAddress, gives_more, wildcard}
use Rattle.wasi_tcp.specs.declared.listener.Accepting.TheVariants as accepting
use Rattle.wasi_tcp.specs.declared.socket.TcpState.TheVariants as state
use Rattle.udp_records.specs.Datagrams.{udp_connect_left, udp_reconnect_left, with_sending}
use Rattle.udp_records.specs.Receiving.{receive_left, with_receiving}
use Rattle.wasi_udp.specs.Receive.{wanting}
use Rattle.wasi_udp.specs.Send.{at_remote}
use Rattle.wasi_walks.proofs.walks.Moves.{BeginsReceive, BeginsSend, BeginsUdpConnect, ReceivesOn, SendsOn, UdpConnectsOn, UdpReconnectsOn}
use Rattle.wasi_walks.proofs.walks.Moves.{Finds, SameSockets, JoinsFault, JoinsPlain, beginning_listen, faulted, joined_plain}
use Rattle.tcp_records.specs.Sockets.{new_record}
use Rattle.wasi_tcp.specs.Listener.{accepted_socket, accepted_state}
use Rattle.wasi_tcp.specs.Shape.{Socket}
use Rattle.lookup_records.specs.declared.name_lookup.LookupOp.{LookupOp}
use Rattle.wasi_walks.proofs.GoneLists.{was_there}
use Rattle.wasi_walks.proofs.walks.Moves.{DropsUdp, GivesBack}
use Rattle.wasi_walks.proofs.walks.OfState.{Becomes, Created, CreatedWith, GivenUp, IsClosed, Learnt, OfState, Resolved, UdpBegun}
use Rattle.wasi_walks.proofs.walks.OfState.{UdpGivenUp, UdpIsClosed, UdpLearnt, Writing, begins_state, of_state}
use Rattle.wasi_walks.proofs.walks.Law.{InCall}
use Rattle.wasi_causes.proofs.Words.{Told, after_local}
use Rattle.wasi_causes.proofs.NoConnects.{Idle, IdleIn, first_idle, idle_over, idles, idles_begin, its_idle}
use Rattle.wasi_tcp.specs.declared.socket.Connection.{Connection}
use Rattle.wasi_walks.proofs.owners.Law.{Owns, owners}
use Rattle.wasi_walks.proofs.PipeLists.{slot_push_same}
use Rattle.wasi_walks.proofs.walks.Law.{BeginsWrites, Law}
use Rattle.wasi_walks.proofs.walks.Layers.{begins_stand, stand}
use Rattle.wasi_walks.proofs.walks.Moves.{AddsSlot, OfReceive, OfSend, TakesEnd}
use Rattle.wasi_walks.proofs.walks.States.{Over}
use Rattle.wasi_walks.proofs.Places.{push_new, push_was, put_found, put_was, tcp_sort, udp_sort}

-- == what holds of a machine
-- only asks are left of a connect and of a listen
abbrev pub AsksToConnect : TcpState → Type 0
AsksToConnect (state.Connecting op) = AllOf IsAskOfConnect op.left
AsksToConnect _ = ⊤

-- and the listen has taken the network socket, so that its socket is closed until it is done, and its code is Other
abbrev pub AsksToListen : TcpState → Listening → Type 0
AsksToListen s (listening.Begins op) = AllOf IsAskOfListen op.left × (is_over op ≡ false) × (s ≡ state.Closed Other)
AsksToListen s _ = ⊤

abbrev pub Asking : TcpRecord → Type 0
Asking r = AsksToConnect r.inner.state × AsksToListen r.inner.state r.listening

abbrev pub Sound : TcpRecord → Type 0
Sound r = Finishes r × ListensLate r × Asking r

abbrev pub Steady : List Record → Type 0
Steady records = (place : ℕ) (r : TcpRecord) → tcp2_at records place ≡ Some r → Sound r

-- == one record changes, or joins
put_steady : (h : Here) (place : ℕ) (now : TcpRecord) → Sound now → Steady h.machine.store.records
    → Steady (tcp2_put h.machine.store.records place now)
put_steady h place now f i = λ k r e. elim (put_found tcp_sort h.machine.store.records place now k r e) [ inl p ↦ subst Sound p.1 f | inr p ↦ i k r p ]

put_udp_steady : (h : Here) (place : ℕ) (now : UdpRecord) → Steady h.machine.store.records
    → Steady (udp2_put h.machine.store.records place now)
put_udp_steady h place now i =
    λ k r e. i k r (put_was udp_sort tcp_sort (λ t. refl) h.machine.store.records place now k r e)

push_steady : (records : List Record) (new : TcpRecord) → Sound new → Steady records → Steady (tcp2_pushed records new)
push_steady records new f i = λ k r e. elim (push_new tcp_sort records new k r e) [ inl p ↦ i k r p | inr p ↦ subst Sound p f ]

-- other lookups, whichever
found_steady : {new : LookupOp → Type 0} (old records : List Record) → SameSockets new old records → Steady old → Steady records
found_steady old records same i = λ k r e. i k r (sym (same.tcp k) ∙ e)

begun_steady : (h : Here) (made : Result Create ErrorCode) → Steady h.machine.store.records → Steady (udp_begun h made).machine.store.records
begun_steady h (Ok create) i =
    λ k r e. i k r (push_was udp_sort tcp_sort (λ t. refl) h.machine.store.records (UdpRecord.Creating create) k r e)
begun_steady h (Err c) i = i

-- == moves
connecting_may : (s : TcpState) → IsConnecting s → MayFinish s
connecting_may (state.Connecting op) c = tt
connecting_may _ c = absurd c

connected_may : (who : Who) (end : End × List Item) → MayFinish (connect_ended who end).1
connected_may who (Done given, left) = (refl, refl)
connected_may who (_, left) = tt

never_default : (who : Who) (end : End × List Item) (side : OpId) → (connect_ended who end).1 ≡ state.Default side → ⊥
never_default who (Waits, left) side e = absurd (cc)
never_default who (_, left) side e = absurd (cc)

-- what a bind leaves in progress is no connect
no_connect : (op : Operation) (end : End × List Item) → is_connect (bind_progress op end) ≡ true → ⊥
no_connect op (Waits, left) c = absurd (cc)
no_connect op (_, left) c = absurd (cc)

never_unlistened : (r : TcpRecord) (l : Listening) (side : OpId) → r.listening ≡ l → IsPastNot l → Sound r → r.inner.state ≡ state.Default side → ⊥
never_unlistened r l side e p s d = subst IsPastNot (sym e ∙ s.1 side d) p

listens_on : (r : TcpRecord) (l : Listener) (a : Accepting) → r.listening ≡ listening.Accepts l → Sound r → Sound (accepting_now r l a)
listens_on r l a e s = (s.0, λ side d. absurd (never_unlistened r (listening.Accepts l) side e tt s d), (s.2.0, tt))

listened_sound : (op : Operation) (r : TcpRecord) (end : End × List Item) → r.listening ≡ listening.Begins op → Keeps IsAskOfListen end → Sound r → Sound (listen_after op r end)
listened_sound op r (Waits, left) e k s = let was = subst (AsksToListen r.inner.state) e s.2.1 in (s.0, λ side d. absurd (never_unlistened r (listening.Begins op) side e tt s d), (s.2.0, (k.0, k.1, was.2)))
listened_sound op r (Done given, left) e k s = (λ c. absurd (cc), λ side d. absurd (cc), (tt, tt))
listened_sound op r (Refused c given, left) e k s = (s.0, λ side d. refl, (s.2.0, tt))

-- where there is a network socket, no listen is in progress
no_listen : (old now : TcpState) (l : Listening) (side : OpId) → side_in old ≡ Some side → AsksToListen old l → AsksToListen now l
no_listen old now (listening.Begins op) side e k = let none : side_in old ≡ None = ap side_in k.2 in absurd (cc)
no_listen old now _ side e k = tt

asks_after : (who : Who) (end : End × List Item) → Keeps IsAskOfConnect end → AsksToConnect (connect_ended who end).1
asks_after who (Waits, left) k = k.0
asks_after who _ k = tt

asks_first : (a wildcard : IpSocketAddress) (bound : Bool) → AllOf IsAskOfConnect (connect_left wildcard a (connect_first bound))
asks_first a wildcard true = (tt, (tt, tt))
asks_first a wildcard false = (tt, (tt, (tt, tt)))

asks_to_listen : (own side : OpId) (r : TcpRecord) (bound : Bool) → AsksToListen (state.Closed Other) (beginning_listen own side r bound).listening
asks_to_listen own side r true = ((tt, (tt, tt)), refl, refl)
asks_to_listen own side r false = ((tt, (tt, (tt, (tt, tt)))), refl, refl)

-- what an accept gives begins as one that isn't in progress
joined_sound : (socket : Socket) → IsPastDefault socket.state → AsksToConnect socket.state → Sound (new_record socket)
joined_sound socket past asks = (λ c. absurd (cc), λ side d. absurd (subst IsPastDefault d past), (asks, tt))

-- a machine between lines
abbrev IsSteady : Machine → Type 0
IsSteady m = IdleIn m × Steady m.store.records

-- of a connection on which no connect is in progress a half is taken
half_taken : (r : TcpRecord) (c now : Connection) → r.inner.state ≡ state.Connected c → is_connect r.in_progress ≡ false → Sound r
    → Finishes (with_inner r (with_state r.inner (state.Connected now))) × ListensLate (with_inner r (with_state r.inner (state.Connected now))) × Asking (with_inner r (with_state r.inner (state.Connected now)))
half_taken r c now e idle s = (λ k. absurd (cc), λ side d. absurd (cc), (tt, no_listen r.inner.state (state.Connected now) r.listening c.side (ap side_in e) s.2.1))

module _ (contexts : List WasiSocketsCtx) (line : ℕ) (origin : Step) where
  moves_steady : (h now : Here) → Move line origin h now → Idle h → Steady h.machine.store.records
      → Steady now.machine.store.records
  moves_steady _ _ (Changes h place r now g p) b i = put_steady h place now (λ c. subst MayFinish (sym p.does) (elim (p.connects c) [ inl k ↦ (i place r g).0 k | inr k ↦ connecting_may r.inner.state k.0 ]), λ side d. p.listening ∙ (i place r g).1 side (sym p.does ∙ d), (subst AsksToConnect (sym p.does) (i place r g).2.0, subst (AsksToListen now.inner.state) (sym p.listening) (subst (λ (s : TcpState). AsksToListen s r.listening) (sym p.does) (i place r g).2.1))) i
  moves_steady _ _ (ClosesReader h place r s g e) b i = put_steady h place _ (i place r g) i
  moves_steady _ _ (Writes h place r s w g e m) b i = put_steady h place _ (i place r g) i
  moves_steady _ _ (IsGone h place r q g e) b i = put_steady h place _ (λ c. absurd (cc), λ side d. refl, ((i place r g).2.0, tt)) i
  moves_steady _ _ (Reconnects h place r c now g e s t u) b i = put_steady h place _ (λ k. (let f : MayFinish (state.Connected c) = subst MayFinish e ((i place r g).0 k) in ((u k).0 ∙ f.0, (u k).1 ∙ f.1)), λ side d. absurd (cc), (tt, no_listen r.inner.state (state.Connected now) r.listening c.side (ap side_in e) (i place r g).2.1)) i
  moves_steady _ _ (Opens h place r c d g e n) b i =
      put_steady h place _ (
        λ k. absurd (cc),
        λ side d. absurd (cc),
        (
          tt,
          no_listen r.inner.state (state.Connected (record c { send_taken = true })) r.listening c.side
              (ap side_in e) (i place r g).2.1,
        ),
      ) i
  moves_steady _ _ (TakesEnd h handle place r _ of g (OfReceive c e free)) b i = put_steady h place _ (half_taken r c _ e (its_idle h handle place r b of g) (i place r g)) i
  moves_steady _ _ (TakesEnd h handle place r _ of g (OfSend c e free)) b i = put_steady h place _ (half_taken r c _ e (its_idle h handle place r b of g) (i place r g)) i
  moves_steady _ _ (AddsSlot h s) b i = found_steady {new = λ op. ⊥} h.machine.store.records _ (slot_push_same h.machine.store.records s) i
  moves_steady _ _ (BeginsConnect h place r side a bound at g d to known idle own) b i =
      put_steady h place _ (
        λ k. tt,
        λ s e. absurd (cc),
        (
          asks_first a _ bound,
          no_listen r.inner.state
              (state.Connecting (connect_operation (record { op = own_of line; side = side; maker = r.inner.maker })
              (wildcard r.inner.family) a (connect_first bound))) r.listening side (ap side_in d) (i place r g).2.1,
        ),
      ) i
  moves_steady _ _ (BeginsBind h place r side a at g d to own) b i = put_steady h place _ (λ c. absurd (cc), (i place r g).1, (i place r g).2) i
  moves_steady _ _ (BeginsWrite h place n r s half permit bytes at g e w within own) b i = put_steady h place _ (i place r g) i
  moves_steady _ _ (BeginsListen h place r side bound at g d known free none to idle own) b i = put_steady h place _ (λ k. tt, λ s e. absurd (cc), (tt, asks_to_listen (own_of line) side r bound)) i
  moves_steady _ _ (BeginsAccept h place n r l at g e a own) b i = put_steady h place _ (listens_on r l _ e (i place r g)) i
  moves_steady _ _ (Unlistens h place r op q g e c o) b i = put_steady h place _ ((i place r g).0, λ side d. refl, ((i place r g).2.0, tt)) i
  moves_steady _ _ (Forgets h place r l c g e a) b i = put_steady h place _ (listens_on r l accepting.Idle e (i place r g)) i
  moves_steady _ _ (Joins h c handle place r l new peer is of u g e a) b i =
      let k = put_steady h place (accepting_now r l accepting.Idle) (listens_on r l accepting.Idle e (i place r g)) i in push_steady (tcp2_put h.machine.store.records place (accepting_now r l accepting.Idle)) (joined l new peer) (λ c. absurd (cc), λ side d. absurd (cc), (tt, tt)) k
  moves_steady _ _ (JoinsPlain h c listener remaining place r l new peer is of u g e a) b i =
      let k = put_steady h place (accepting_now r l accepting.Idle) (listens_on r l accepting.Idle e (i place r g)) i in push_steady (tcp2_put h.machine.store.records place (accepting_now r l accepting.Idle)) (joined_plain l new peer) (joined_sound (accepted_socket l.family l.maker (accepted_state new peer)) tt tt) k
  moves_steady _ _ (JoinsFault h place r l c u g e a) b i =
      let k = put_steady h place (accepting_now r l accepting.Idle) (listens_on r l accepting.Idle e (i place r g)) i in push_steady (tcp2_put h.machine.store.records place (accepting_now r l accepting.Idle)) (faulted l c) (joined_sound (accepted_socket l.family l.maker (state.Closed c)) tt tt) k
  moves_steady _ _ (UdpChanges h place o now g p keeps) b i = put_udp_steady h place (UdpRecord.Open now) i
  moves_steady _ _ (BeginsUdpBind h place o a at g to own) b i = put_udp_steady h place _ i
  moves_steady _ _ (BeginsUdpConnect h place o a bound at g to known none own) b i = put_udp_steady h place _ i
  moves_steady _ _ (BeginsSend h place n o out d bound at g e item known own) b i = put_udp_steady h place _ i
  moves_steady _ _ (BeginsReceive h place n o inc bound at g e is own) b i = put_udp_steady h place _ i
  moves_steady _ _ (CancelsBind h place r op q g e) b i = put_steady h place _ (λ c. absurd (cc), (i place r g).1, (i place r g).2) i
  moves_steady _ _ (CancelsUdpBind h place o op q g e) b i = put_udp_steady h place _ i
  moves_steady _ _ (CancelsUdpConnect h place o q g) b i = put_udp_steady h place _ i
  moves_steady _ _ (Finds h records same) b i = found_steady h.machine.store.records records same i
  moves_steady _ _ (GivesBack h place idle left) b i =
      λ k r e. i k r (was_there tcp2_of refl h.machine.store.records place k r e)
  moves_steady _ _ (DropsUdp h place o idle made g) b i = put_udp_steady h place _ i
  moves_steady _ _ _ b i = i

  -- == what is asked
  learnt_sound : (r : TcpRecord) (told : Told) → Sound r
      → Sound (with_inner r (after_local r.inner (told_addr told)).1)
  learnt_sound r told s =
      let same = sym (told_same r.inner (told_addr told)) in (
        λ c. subst MayFinish same (s.0 c),
        λ side d. s.1 side (same ∙ d),
        (subst AsksToConnect same s.2.0, subst (λ (x : TcpState). AsksToListen x r.listening) same s.2.1),
      )

  becomes_steady : (h now : Here) → Becomes contexts line origin h now → Steady h.machine.store.records
      → Steady now.machine.store.records
  becomes_steady h _ (Learnt place r side told at g e) i = put_steady h place _ (learnt_sound r told (i place r g)) i
  becomes_steady h _ (IsClosed place r side q g e) i = put_steady h place _ (λ c. absurd (cc), λ s d. refl, (tt, tt)) i
  becomes_steady h _ (GivenUp place r q goes g) i =
      let s = i place r g in put_steady h place _ (s.0, λ side d. refl, (s.2.0, tt)) i
  becomes_steady h _ (UdpLearnt place o socket g e) i = put_udp_steady h place _ i
  becomes_steady h _ (UdpIsClosed place o q g) i = put_udp_steady h place _ i
  becomes_steady h _ (UdpGivenUp place create q g) i = put_udp_steady h place _ i
  becomes_steady h _ (UdpBegun face ctx family r c u m) i =
      begun_steady h (udp_after_create (own_of line) ctx.name family r) i
  becomes_steady h _ (Resolved host records l same) i = found_steady h.machine.store.records records same i
  becomes_steady h _ (Created face ctx family c u m) i =
      push_steady h.machine.store.records _ (λ c. absurd (cc), λ side d. refl, (tt, tt)) i
  becomes_steady h _ (CreatedWith face ctx family c u m) i =
      push_steady h.machine.store.records _ (λ c. absurd (cc), λ side d. refl, (tt, tt)) i
  becomes_steady h _ (Writing _ (InCall place n r s half permit bytes at g e w within used)) i = put_steady h place _ (i place r g) i
  becomes_steady h _ _ i = i

  polls_steady : (es : List Entry) (h : Here) (op : Operation) (after : End × List Item → Here) → Held h op after → Steady h.machine.store.records → Allows Anything (λ fs ended. Steady (after ended).machine.store.records) es (poll_asks op)
  polls_steady es h _ _ (BindsOn place r op q g e) i = whatever (λ end. Steady (put h place (with_progress r (bind_progress op end))).machine.store.records) (λ end. put_steady h place _ (λ c. absurd (no_connect op end c), (i place r g).1, (i place r g).2) i) es (poll_asks op)
  polls_steady es h _ _ (Connects place r op g e) i =
      gives_more (λ fs end. Keeps IsAskOfConnect end) (λ fs end. Steady (put h place (with_inner r (with_state r.inner (connect_ended op.who end).1))).machine.store.records)
      (λ fs end k. put_steady h place _ (
        λ c. connected_may op.who end,
        λ side d. absurd (never_default op.who end side d),
        (
          asks_after op.who end k,
          no_listen r.inner.state (connect_ended op.who end).1 r.listening op.who.side
              (ap side_in e) (i place r g).2.1,
        ),
      ) i) es (poll_asks op)
      (connect_leaves op (subst AsksToConnect e (i place r g).2.0) es)
  polls_steady es h _ _ (Listens place r op q g e c) i =
      gives_more (λ fs end. Keeps IsAskOfListen end) (λ fs end. Steady (put h place (listen_after op r end)).machine.store.records)
      (λ fs end k. put_steady h place _ (listened_sound op r end e k (i place r g)) i) es (poll_asks op) (listen_leaves op (subst (AsksToListen r.inner.state) e (i place r g).2.1).0 es)
  polls_steady es h _ _ (Awaits place r l op g e a) i = whatever (λ end. Steady (put h place (accepting_now r l (accept_ended op.who end))).machine.store.records) (λ end. put_steady h place _ (listens_on r l _ e (i place r g)) i) es (poll_asks op)
  polls_steady es h _ _ (UdpCreates place create q g) i = whatever (λ end. Steady (put_udp h place (udp_create_left create end)).machine.store.records) (λ end. put_udp_steady h place _ i) es (poll_asks create.operation)
  polls_steady es h _ _ (UdpBindsOn place o op q g e) i = whatever (λ end. Steady (put_udp h place (UdpRecord.Open (with_udp_progress o (udp_bind_progress op end)))).machine.store.records) (λ end. put_udp_steady h place _ i) es (poll_asks op)
  polls_steady es h _ _ (UdpConnectsOn place o op q g e) i = whatever (λ end. Steady (put_udp h place (UdpRecord.Open (udp_connect_left op o end))).machine.store.records) (λ end. put_udp_steady h place _ i) es (poll_asks op)
  polls_steady es h _ _ (UdpReconnectsOn place o op q g e) i = whatever (λ end. Steady (put_udp h place (UdpRecord.Open (udp_reconnect_left op o end))).machine.store.records) (λ end. put_udp_steady h place _ i) es (poll_asks op)
  polls_steady es h _ _ (SendsOn place o out op left g e s settles) i =
      whatever (λ end. Steady (put_udp h place
      (UdpRecord.Open (record o { outgoing = Some (with_sending out (left end)) }))).machine.store.records)
      (λ end. put_udp_steady h place _ i) es (poll_asks (at_remote o.inner.remote op))
  polls_steady es h _ _ (ReceivesOn place o inc op g e s) i =
      whatever (λ end. Steady (put_udp h place (UdpRecord.Open (record o { incoming = Some (with_receiving inc (receive_left op end)) }))).machine.store.records) (λ end. put_udp_steady h place _ i) es (poll_asks (wanting inc.remote op))

  abbrev steady_state : OfState contexts line origin (λ es h. Owns h × Idle h)
  steady_state = record {
    Holds = λ h. Steady h.machine.store.records;
    moves = λ es h now m b i. moves_steady h now m b.1 i;
    becomes = λ es h now k b i. becomes_steady h now k i;
    polls = λ es h op after held b i. polls_steady es h op after held i;
    turns = λ es h place r s g e b i.
        whatever (λ done. Steady (tcp2_put h.machine.store.records place (with_writer r s done.1)))
        (λ done. put_steady h place _ (i place r g) i) es (turn_asks s.writer);
  }

  -- over what it rests on
  unfoldable steadies : Law contexts line origin
  unfolding idles owners
  steadies = stand (idles contexts line origin) (of_state steady_state)

  steadies_begin : BeginsWrites steadies
  unfolding steadies idles owners
  steadies_begin = begins_stand (idles contexts line origin) (of_state steady_state) (idles_begin contexts line origin) (begins_state steady_state)

  line_steady : (m : Machine) (es : List Entry) → IsSteady m → Allows Anything (λ fs done. IsSteady done.1) es (machine_asks contexts m line origin)
  unfolding steadies idles owners
  line_steady m es i =
      let walks = machine_walks line origin {law = steadies} steadies_begin m m.store.standing refl in
      gives_more (λ fs done. (Owns (Over done.1) × Idle (Over done.1)) × Steady done.1.store.records) (λ fs done. IsSteady done.1) (λ fs done k. (idle_over done.1 k.0, k.1)) es (machine_asks contexts m line origin)
      (walks.along es (((i.0.0.0, tt, i.0.0.1), (i.0.1, tt)), i.1))

pub runs_are_steady : (contexts : List WasiSocketsCtx) (steps : List Step) (es : List Entry) (replies : List Reply) (m : Machine)
    → Left (run contexts [] first_state 1 steps) es (Give (replies, m)) → Steady m.store.records
runs_are_steady contexts steps es replies m w =
    let first : IsSteady first_state = (first_idle, λ place r e. absurd (cc)) in
    (run_ends contexts Anything (λ line fs now. IsSteady now) (λ line s now fs i. line_steady contexts line s now fs i) first steps es replies m w).1.1
