-- What a line asks keeps that of a TCP socket that isn't bound no other local address was told than the wildcard.
use Rattle.std.specs.Prelude.{take}
use Rattle.wasi_tcp.specs.Halves.{write_asks}
use Rattle.wasi_walks.proofs.Words.{Allows, Asks, Begins, Bool, Call, Done, End, Entry, Err, ErrorCode, HandleTable, IsAddr, Item, Kind, List, None, Not, Ok}
use Rattle.wasi_walks.proofs.Words.{OpId, Operation, Option, Refused, Result, Socket, SocketAddressFamily, Some, Step, Stop, Tcp2, TcpRecord, TcpState, Told, Waits}
use Rattle.wasi_walks.proofs.Words.{WasiSocketsCtx, [], after_local, allows_if, allows_keep, allows_then, allows_weaker, ap, bind, connect_ended, create_to}
use Rattle.wasi_walks.proofs.Words.{entry, false, give_up_asks, if◌then◌else◌, inl, inr, is_full, is_wildcard, length, made_to, make_asks, new_asks, new_record, new_socket, own_of}
use Rattle.wasi_walks.proofs.Words.{poll_asks, refl, side_in, side_of, step_at, subst, sym, told_addr, told_done, true, turn_asks, with_inner, with_listening, with_state}
use Rattle.wasi_walks.proofs.Words.{with_writer, HoldsAccept, HoldsConnect, IsAcceptOn, IpSocketAddress, ErrorValue}
use Rattle.wasi_walks.proofs.Words.{ℕ, ⊤, ◌++◌, ◌∙◌, ◌∷◌, ◌≡◌, ◌⊎◌}
use Rattle.socket_common.specs.Rounds.{is_going}
use Rattle.wasi_tcp.specs.Connect.{IsConnect}
use Rattle.wasi_tcp.specs.Listen.{IsListen}
use Rattle.wasi_udp.specs.Bind as udp_bind
use Rattle.wasi_udp.specs.Create.{create_cancel_asks, new_create, after_create as udp_after_create}
use Rattle.wasi_udp.specs.Receive.{receive_start, wanting}
use Rattle.wasi_udp.specs.Send.{at_remote, send_start}
use Rattle.host_store.specs.declared.beside.Beside.{Beside}
use Rattle.host_store.specs.declared.beside.BesideCall.{BesideCall}
use Rattle.host_store.specs.declared.beside.BesideCall.TheVariants.{Send, Receive}
use Rattle.udp_records.specs.declared.udp.OpenUdp.{OpenUdp}
use Rattle.wasi_walks.proofs.BesideLists.{found_has}
use Rattle.wasi_walks.proofs.fits.Datagrams.{FitBeside}
use Rattle.wasi_walks.proofs.fits.UdpFits.{begun_receive, begun_send}
use Rattle.wasi_walks.proofs.walks.Moves.{PollsDatagram, PollsReceive, PollsSend, StartsDatagram, StartsReceive, StartsSend, datagram_begun, datagram_polled, with_beside}
use Rattle.host_store.specs.Kinds.{udp_kind}
use Rattle.host_store.specs.declared.kind.Kind.TheVariants.{Listen3, Result3, Tcp3}
use Rattle.wasi_records.specs.Records.{tcp2_at}
use Rattle.udp_records.specs.Udp.{udp_side}
use Rattle.udp_records.specs.declared.udp.UdpRecord.{UdpRecord}
use Rattle.wasi_walks.proofs.Lists.{has_split}
use Rattle.wasi_walks.proofs.Places.{push_new, push_was, put_finds, put_found, tcp_sort, udp_sort}
use Rattle.wasi_walks.proofs.claims.Law.{Base, Named, accept_plain, no_some}
use Rattle.wasi_walks.proofs.claims.Polls.{AllAskBut, poll_plainly, receive_plain, send_plain, udp_connect_plain}
use Rattle.wasi_walks.proofs.fits.DatagramPolls.{wanted_left}
use Rattle.wasi_walks.proofs.fits.Polls.{Anything}
use Rattle.wasi_walks.proofs.fits.Records.{FitConnecting, FitListening, FitProgress, FitReceiving, FitSending, FitUdpProgress, ReceiveOn, SendOn, UdpBindOn, UdpConnectOn}
use Rattle.wasi_walks.proofs.received.State.{same_or_not}
use Rattle.wasi_walks.proofs.remotes.State.{Keeps}
use Rattle.wasi_walks.proofs.walks.Asked as asking
use Rattle.wasi_walks.proofs.walks.Asked.{Asked}
use Rattle.wasi_walks.proofs.walks.Here.{IsOlder, older_used, own_not_given}
use Rattle.wasi_walks.proofs.walks.Moves as walk
use Rattle.wasi_walks.proofs.walks.Moves.{Found, FoundUdp, Held, Here, Interface, IsKnown, IsUdpQuestionOf, Own, Used, Unused, accepting_now, closed_record, listen_after, part_of, put, put_udp, receive_op, receiving_in, send_op, sending_in, tcp_kind, udp_begun}
use Rattle.wasi_walks.proofs.licence.Asked.{on_side, question_local}
use Rattle.wasi_walks.proofs.licence.Binds.{NoLocal, no_local}
use Rattle.wasi_walks.proofs.licence.Frames.{same_record}
use Rattle.wasi_walks.proofs.licence.GoesOn.{Its, bind_quiet, connect_quiet, given_up, its_quiet, listen_quiet, turn_on}
use Rattle.wasi_walks.proofs.licence.Line.{Licensed, local_side}
use Rattle.wasi_walks.proofs.licence.Marks.{CreatedIsFine, new_fine}
use Rattle.wasi_walks.proofs.licence.State.{WritesOn}
use Rattle.wasi_walks.proofs.licence.UdpGoesOn.{gives_up}
use Rattle.wasi_walks.proofs.licence.Unbound.{OnlyWild, wild_more}
use Rattle.wasi_walks.proofs.licence.Wilds.{KeepsWild, Unlocal, WildIn, Wilds, asked_wild, kept_wild, put_udp_wild, put_wild, quiet_wild, quietly_wild, records_wild, spent_wild}

-- == what is learnt
-- the address of a socket that isn't bound is the wildcard, or the socket is bound
learnt_in : (es : List Entry) (op side : OpId) (r : TcpRecord) (told : Told) → IsAddr told → r.inner.state ≡ TcpState.Default side → WildIn es r → WildIn (es ++ entry op (Call.Local side) told ∷ []) (with_inner r (after_local r.inner (told_addr told)).1)
learnt_in es op side r (Told.Addr a) fits e w = by_test (is_wildcard r.inner.family a) refl
  where
    by_test : (b : Bool) → is_wildcard r.inner.family a ≡ b → WildIn (es ++ entry op (Call.Local side) (Told.Addr a) ∷ []) (with_inner r (let answer : Bool × Socket = if b then (false, r.inner) else (true, record r.inner { bound = true }) in answer).1)
    by_test true p = λ x s u o b h. elim (has_split es (entry op (Call.Local side) (Told.Addr a)) (entry o (Call.Local x) (Told.Addr b)) h) [
      | inl old ↦ w x s u o b old
      | inr q ↦ (let t : Told.Addr a ≡ Told.Addr b = ap (λ (y : Entry). y.answer) q in let same : a ≡ b = cc in subst (λ (y : IpSocketAddress). is_wildcard r.inner.family y ≡ true) same p)
    ]
    by_test false p = λ x s u. absurd (cc)
learnt_in es op side r (Told.Code c) fits e w = λ x s u o b h. elim (has_split es (entry op (Call.Local side) (Told.Code c)) (entry o (Call.Local x) (Told.Addr b)) h) [
  | inl old ↦ w x s u o b old
  | inr q ↦ (let t : Told.Code c ≡ Told.Addr b = ap (λ (y : Entry). y.answer) q in absurd (cc))
]
learnt_in es op side r _ fits e w = absurd fits

-- of a socket that is known to be bound
known_local : (r : TcpRecord) (c : Call) (x : OpId) → c ≡ Call.Local x → IsKnown r c → r.inner.bound ≡ true
known_local r c x e k = subst (IsKnown r) e k

udp_question_local : (line : ℕ) (origin : Step) (n : ℕ) (side x : OpId) (c : Call) → IsUdpQuestionOf line origin n side c → c ≡ Call.Local x → side ≡ x
udp_question_local line origin n side x (Call.Local s) q e = let p : s ≡ x = cc in sym q ∙ p
udp_question_local line origin n side x _ q e = absurd (cc)

-- == trees that ask for no local address
-- a mark
made_quiet : (es : List Entry) (t : HandleTable) (op : OpId) (kind : Kind) (parent : Option ℕ) (sock : Option OpId) → Allows Unlocal (λ fs made. ⊤) es (make_asks t op kind parent sock)
unfolding bind
made_quiet es t op kind parent sock = allows_if Unlocal (λ fs made. ⊤) es (is_full t) _ _ (λ full. tt) (λ free. (tt, λ told f. tt))

-- a poll of these items
silent : (es : List Entry) (op : Operation) → AllAskBut ⊥ op.left → Allows Unlocal (λ fs ended. ⊤) es (poll_asks op)
silent es op k = allows_weaker Unlocal _ (λ fs ended. ⊤) (λ fs ended q. tt) es (poll_asks op) (poll_plainly NoLocal no_local op.who op.left es k)

udp_bind_plain : (items : List Item) → udp_bind.IsLeftOfBind items → AllAskBut ⊥ items
udp_bind_plain _ (udp_bind.Unchecked a) = (tt, (tt, tt))
udp_bind_plain _ (udp_bind.Checked a) = (tt, tt)
udp_bind_plain _ udp_bind.Ended = tt

-- == records that are left
same : (r : TcpRecord) → KeepsWild r r
same r side s b = (s, b, refl)

connected_wild : (r : TcpRecord) (op : Operation) (ended : End × List Item) → KeepsWild r (with_inner r (with_state r.inner (connect_ended op.who ended).1))
connected_wild r op (Waits, items) side s b = absurd (cc)
connected_wild r op (Done given, items) side s b = absurd (cc)
connected_wild r op (Refused c given, items) side s b = absurd (cc)

listened_wild : (r : TcpRecord) (op : Operation) (ended : End × List Item) → KeepsWild r (listen_after op r ended)
listened_wild r op (Waits, items) side s b = (s, b, refl)
listened_wild r op (Done given, items) side s b = absurd (cc)
listened_wild r op (Refused c given, items) side s b = (s, b, refl)

module _ (contexts : List WasiSocketsCtx) (steps : List Step) (line : ℕ) (origin : Step) (is_line : step_at steps line ≡ Some origin) where
  -- == one call
  -- on a network socket that is this record's, or will be no record's
  on_record : (h : Here) (place k : ℕ) (r q : TcpRecord) (side x : OpId) → Found h place r → r.side ≡ Some side → Named line h → Found h k q → q.inner.state ≡ TcpState.Default x → side ≡ x → place ≡ k
  on_record h place k r q side x g its n d s e = n.one x place k r q g d (inl (its ∙ ap (λ (y : OpId). Some y) e)) (inl (n.named x k q d (ap side_in s)))

  question_wild : (es : List Entry) (h : Here) (place n : ℕ) (r : TcpRecord) (side : OpId) (c : Call) (told : Told) → Found h place r → r.side ≡ Some side → ((x : OpId) → c ≡ Call.Local x → side ≡ x) → IsKnown r c → Named line h → Wilds line es h → Wilds line (es ++ entry (own_of n) c told ∷ []) h
  question_wild es h place n r side c told g its of known names w = asked_wild es h (own_of n) c told
      (λ k q x d s u e.
      let at : place ≡ k = on_record h place k r q side x g its names d s (of x e) in
      let it : r ≡ q = same_record r q (sym g ∙ (ap (tcp2_at h.machine.store.records) at ∙ d)) in
      let p : true ≡ false = sym (known_local r c x e known) ∙ (ap (λ (y : TcpRecord). y.inner.bound) it ∙ u) in absurd (cc))
      (λ x e. names.older x place r g (inl (its ∙ ap (λ (y : OpId). Some y) (of x e)))) w

  udp_question_wild : (es : List Entry) (h : Here) (op : OpId) (place : ℕ) (u : UdpRecord) (c : Call) (told : Told) → FoundUdp h place u → ((x : OpId) → c ≡ Call.Local x → udp_side u ≡ x) → Named line h → Wilds line es h → Wilds line (es ++ entry op c told ∷ []) h
  udp_question_wild es h op place u c told g of names w = asked_wild es h op c told
      (λ k q x d s b e. names.udps.apart x k place q u d g (inl (names.named x k q d (ap side_in s))) (of x e))
      (λ x e. subst (IsOlder line h.own) (of x e) (names.udps.older place u g)) w

  learns_wild : (es : List Entry) (h : Here) (place : ℕ) (r : TcpRecord) (side : OpId) (told : Told) → Found h place r → r.inner.state ≡ TcpState.Default side → IsAddr told → Named line h → Wilds line es h
      → Wilds line (es ++ entry (own_of line) (Call.Local side) told ∷ []) (put h place (with_inner r (after_local r.inner (told_addr told)).1))
  learns_wild es h place r side told g e fits n w = record {
    wild = λ k q d. elim (put_found tcp_sort h.machine.store.records place now k q d) [ inl p ↦ subst (WildIn fs) p.1 its | inr p ↦ λ x s u. other k q d p x s u (same_or_not side x) ];
    older = λ x o t f. elim (has_split es (entry (own_of line) (Call.Local side) told) (entry o (Call.Local x) t) f) [
      | inl old ↦ w.older x o t old
      | inr new ↦ (let c : Call.Local side ≡ Call.Local x = ap (λ (y : Entry). y.call) new in n.older x place r g (inl (n.named side place r g (ap side_in e) ∙ ap (λ (y : OpId). Some y) (local_side side x c))))
    ];
  }
    where
      fs : List Entry
      fs = es ++ entry (own_of line) (Call.Local side) told ∷ []

      now : TcpRecord
      now = with_inner r (after_local r.inner (told_addr told)).1

      its : WildIn fs now
      its = learnt_in es (own_of line) side r told fits e (w.wild place r g)

      there : Found (put h place now) place now
      there = put_finds tcp_sort h.machine.store.records place r now g

      other : (k : ℕ) (q : TcpRecord) → Found (put h place now) k q → Found h k q → (x : OpId) → q.inner.state ≡ TcpState.Default x → q.inner.bound ≡ false → (side ≡ x) ⊎ (side ≡ x → ⊥) → OnlyWild fs x q.inner.family
      other k q d p x s u (inl is_it) =
          let at : place ≡ k = on_record h place k r q side x g (n.named side place r g (ap side_in e)) n p s is_it in
          let is : now ≡ q = same_record now q (sym there ∙ (ap (λ (i : ℕ). tcp2_at (put h place now).machine.store.records i) at ∙ d)) in
          subst (WildIn fs) is its x s u
      other k q d p x s u (inr other_one) = wild_more es (own_of line) (Call.Local side) told x q.inner.family (λ c. other_one (local_side side x c)) (w.wild k q p x s u)

  -- == marks and creates
  marks_wild : (es : List Entry) (h : Here) (op : OpId) (kind : Kind) (parent : Option ℕ) (sock : Option OpId) → Wilds line es h → Allows Anything (λ fs made. Wilds line fs h) es (make_asks h.machine.table op kind parent sock)
  marks_wild es h op kind parent sock w = allows_weaker Anything (λ fs made. Wilds line fs h × ⊤) (λ fs made. Wilds line fs h) (λ fs made k. k.0) es _ (kept_wild h (λ fs made. ⊤) es _ w (made_quiet es h.machine.table op kind parent sock))

  begun_wild : (es : List Entry) (h : Here) (maker : ℕ) (family : SocketAddressFamily) (r : Result (Unit {0}) ErrorCode) → Wilds line es h → Wilds line es (udp_begun h (udp_after_create (own_of line) maker family r))
  begun_wild es h maker family (Ok done) w = record { wild = λ k q d. w.wild k q (push_was udp_sort tcp_sort (λ t. refl) h.machine.store.records (UdpRecord.Creating (new_create (own_of line) maker family)) k q d); older = λ x op t e. older_used line h.own x (w.older x op t e) }
  begun_wild es h maker family (Err c) w = spent_wild w

  -- the socket that is created joins the records
  created_wild : {T : Type 0} (tells : Result ℕ Stop → T) (fails : ErrorCode → T) (face : Interface) (es : List Entry) (h : Here) (ctx : WasiSocketsCtx) (family : SocketAddressFamily) (made : Result Socket ErrorCode) → h.own ≡ Unused → CreatedIsFine contexts steps line origin is_line ctx.name family es made → Wilds line es h
      → Allows Anything (λ fs done. Wilds line fs (record h { machine = done.1; own = Used })) es (made_to tells fails (tcp_kind face) h.machine (own_of line) made)
  created_wild tells fails face es h ctx family (Err c) u k w = record { wild = w.wild; older = λ x op t e. older_used line h.own x (w.older x op t e) }
  created_wild tells fails face es h ctx family (Ok socket) u k w =
      allows_then Anything (λ fs made. Wilds line fs h) (λ fs done. Wilds line fs (record h { machine = done.1; own = Used })) es (make_asks h.machine.table (own_of line) (tcp_kind face (length h.machine.store.records)) None (side_of socket)) _ (marks_wild es h (own_of line) (tcp_kind face (length h.machine.store.records)) None (side_of socket) w)
      (λ fs made t. record {
        wild = λ i q d. elim (push_new tcp_sort h.machine.store.records (new_record socket) i q d) [ inl p ↦ t.wild i q p | inr p ↦ subst (WildIn fs) p (fresh_in fs (new_record socket) (λ x s. new x socket s k.1) t) ];
        older = λ x op told e. older_used line h.own x (t.older x op told e);
      })
    where
      new : (x : OpId) (socket : Socket) → socket.state ≡ TcpState.Default x → socket ≡ new_socket (own_of line) ctx.name family → own_of line ≡ x
      new x socket s e = let p : TcpState.Default (own_of line) ≡ TcpState.Default x = sym (ap (λ (y : Socket). y.state) e) ∙ s in cc

      fresh_in : (fs : List Entry) (r : TcpRecord) → ((x : OpId) → r.inner.state ≡ TcpState.Default x → own_of line ≡ x) → Wilds line fs h → WildIn fs r
      fresh_in fs r of t x s b op a e = absurd (own_not_given line h.own x u (ap (λ (y : OpId). y.step) (sym (of x s))) (t.older x op (Told.Addr a) e))

  creates_wild : {T : Type 0} (tells : Result ℕ Stop → T) (fails : ErrorCode → T) (face : Interface) (es : List Entry) (h : Here) (ctx : WasiSocketsCtx) (family : SocketAddressFamily) → walk.Creates contexts ctx family face origin → h.own ≡ Unused → Wilds line es h
      → Allows Anything (λ fs done. Wilds line fs (record h { machine = done.1; own = Used })) es (create_to tells fails (tcp_kind face) h.machine (own_of line) ctx family)
  creates_wild tells fails face es h ctx family c u w =
      allows_then Anything (λ fs made. Wilds line fs h × CreatedIsFine contexts steps line origin is_line ctx.name family fs made) (λ fs done. Wilds line fs (record h { machine = done.1; own = Used })) es (new_asks (own_of line) ctx family) (made_to tells fails (tcp_kind face) h.machine (own_of line))
      (quietly_wild contexts steps h (CreatedIsFine contexts steps line origin is_line ctx.name family) es (new_asks (own_of line) ctx family) w (new_fine contexts steps line origin is_line face es ctx family c)) (λ fs made k. created_wild tells fails face fs h ctx family made u k.1 k.0)

  write_wild : (es : List Entry) (h : Here) (side : OpId) (bytes : List ℕ) → Wilds line es h → Allows Anything (λ fs told. Wilds line fs (record h { own = Used })) es (write_asks (own_of line) side bytes)
  unfolding bind
  write_wild es h side bytes w = (tt, λ told fits front. spent_wild (quiet_wild es h (own_of line) _ told tt w))

  -- == polls
  poll_wild : (es : List Entry) (h : Here) (op : Operation) → AllAskBut ⊥ op.left → Wilds line es h → Allows Anything (λ fs ended. Wilds line fs h) es (poll_asks op)
  poll_wild es h op k w = allows_weaker Anything (λ fs ended. Wilds line fs h × ⊤) (λ fs ended. Wilds line fs h) (λ fs ended x. x.0) es (poll_asks op) (kept_wild h (λ fs ended. ⊤) es (poll_asks op) w (silent es op k))

  tcp_poll : (es : List Entry) (h : Here) (place : ℕ) (r : TcpRecord) (op : Operation) (now : End × List Item → TcpRecord) → Found h place r → ((ended : End × List Item) → KeepsWild r (now ended)) → AllAskBut ⊥ op.left → Wilds line es h → Allows Anything (λ fs ended. Wilds line fs (put h place (now ended))) es (poll_asks op)
  tcp_poll es h place r op now g f k w = allows_weaker Anything (λ fs ended. Wilds line fs h) (λ fs ended. Wilds line fs (put h place (now ended))) (λ fs ended x. put_wild h place r (now ended) g (f ended) x) es (poll_asks op) (poll_wild es h op k w)

  udp_poll : (es : List Entry) (h : Here) (place : ℕ) (op : Operation) (now : End × List Item → UdpRecord) → AllAskBut ⊥ op.left → Wilds line es h → Allows Anything (λ fs ended. Wilds line fs (put_udp h place (now ended))) es (poll_asks op)
  udp_poll es h place op now k w = allows_weaker Anything (λ fs ended. Wilds line fs h) (λ fs ended. Wilds line fs (put_udp h place (now ended))) (λ fs ended x. put_udp_wild h place (now ended) x) es (poll_asks op) (poll_wild es h op k w)

  -- a listen asks for its own network socket's, which no socket has meanwhile
  listen_poll : (es : List Entry) (h : Here) (place : ℕ) (r : TcpRecord) (op : Operation) → Found h place r → r.listening ≡ Begins op → IsListen op → Named line h → Wilds line es h → Allows Anything (λ fs ended. Wilds line fs (put h place (listen_after op r ended))) es (poll_asks op)
  listen_poll es h place r op g e its n w =
      allows_weaker Anything (λ fs ended. Wilds line fs h × ⊤) (λ fs ended. Wilds line fs (put h place (listen_after op r ended))) (λ fs ended x. put_wild h place r (listen_after op r ended) g (listened_wild r op ended) x.0) es (poll_asks op)
      (allows_keep (λ fs o c. Its contexts steps line origin is_line op.who.side c) Anything (λ fs. Wilds line fs h) (λ fs ended. ⊤)
      (λ fs o c t f k m. asked_wild fs h o c t (λ i q x d s u p. held i q x d s (m x p)) (λ x p. n.older x place r g (inl ((n.held op place r g e).0 ∙ ap (λ (y : OpId). Some y) (m x p)))) k) (λ fs o c m. tt) es (poll_asks op) w
      (allows_weaker (λ fs o c. Its contexts steps line origin is_line op.who.side c) _ (λ fs ended. ⊤) (λ fs ended q. tt) es (poll_asks op) (poll_plainly (Its contexts steps line origin is_line op.who.side) (its_quiet contexts steps line origin is_line op.who.side) op.who op.left es (listen_quiet contexts steps line origin is_line op.who op.left its.left))))
    where
      held : (i : ℕ) (q : TcpRecord) (x : OpId) → Found h i q → q.inner.state ≡ TcpState.Default x → op.who.side ≡ x → ⊥
      held i q x d s p =
          let its = n.held op place r g e in
          let at : place ≡ i = on_record h place i r q op.who.side x g its.0 n d s p in
          let it : r ≡ q = same_record r q (sym g ∙ (ap (tcp2_at h.machine.store.records) at ∙ d)) in
          no_some x (sym its.1 ∙ (ap (λ (y : TcpRecord). side_of y.inner) it ∙ ap side_in s))

  polls_wild : (es : List Entry) (h : Here) (op : Operation) (after : End × List Item → Here) → Held h op after → Base contexts line origin h → Wilds line es h → Allows Anything (λ fs ended. Wilds line fs (after ended)) es (poll_asks op)
  polls_wild es h _ _ (walk.BindsOn place r op q g e) b w = let its = subst (FitProgress r.inner.state) e (b.0.records place r g).2 in tcp_poll es h place r op _ g (λ ended. same r) (bind_quiet contexts steps line origin is_line op.left its.1.left) w
  polls_wild es h _ _ (walk.Connects place r op g e) b w = let its : IsConnect op = subst HoldsConnect e (b.0.records place r g).0 in tcp_poll es h place r op _ g (connected_wild r op) (connect_quiet contexts steps line origin is_line op.left its.left) w
  polls_wild es h _ _ (walk.Listens place r op q g e c) b w = let its : IsListen op = subst FitListening e (b.0.records place r g).1 in listen_poll es h place r op g e its b.1 w
  polls_wild es h _ _ (walk.Awaits place r l op g e a) b w = let its : IsAcceptOn l.side l.maker op = subst (HoldsAccept l.side l.maker) a (subst FitListening e (b.0.records place r g).1) in tcp_poll es h place r op _ g (λ ended. same r) (accept_plain ⊥ op.left its.accept.left) w
  polls_wild es h _ _ (walk.UdpCreates place create q g) b w = udp_poll es h place create.operation _ (subst (AllAskBut ⊥) (sym (b.0.udps place (UdpRecord.Creating create) g).1) (tt, tt)) w
  polls_wild es h _ _ (walk.UdpBindsOn place o op q g e) b w = let its : UdpBindOn o.inner.side op = subst (FitUdpProgress o.inner.side) e (b.0.udps place (UdpRecord.Open o) g).0 in udp_poll es h place op _ (udp_bind_plain op.left its.bind.left) w
  polls_wild es h _ _ (walk.UdpConnectsOn place o op q g e) b w = let its : UdpConnectOn o.inner.side op = subst (FitConnecting o.inner.side) e (b.0.udps place (UdpRecord.Open o) g).1 in udp_poll es h place op _ (udp_connect_plain ⊥ op.left its.connect.left) w
  polls_wild es h _ _ (walk.UdpReconnectsOn place o op q g e) b w = let its : UdpConnectOn o.inner.side op = subst (FitConnecting o.inner.side) e (b.0.udps place (UdpRecord.Open o) g).1 in udp_poll es h place op _ (udp_connect_plain ⊥ op.left its.connect.left) w
  polls_wild es h _ _ (walk.SendsOn place o out op left g e f s) b w = let its : SendOn o.inner.side op = subst (FitSending o.inner.side) (ap sending_in e ∙ ap send_op f) (b.0.udps place (UdpRecord.Open o) g).2 in udp_poll es h place (at_remote o.inner.remote op) _ (send_plain ⊥ op.left its.send.left) w
  polls_wild es h _ _ (walk.ReceivesOn place o inc op g e f) b w = let its : ReceiveOn o.inner.side op = subst (FitReceiving o.inner.side) (ap receiving_in e ∙ ap receive_op f) (b.0.udps place (UdpRecord.Open o) g).3 in udp_poll es h place (wanting inc.remote op) _ (receive_plain ⊥ (wanting inc.remote op).left (wanted_left inc.remote op.left its.receive.left)) w

  -- a datagram of 0.3
  datagram_wild : (es : List Entry) (h : Here) (op : Operation) (calls : End × List Item → List Beside) → AllAskBut ⊥ op.left → Wilds line es h → Allows Anything (λ fs ended. Wilds line fs (with_beside h (calls ended))) es (poll_asks op)
  datagram_wild es h op calls k w = allows_weaker Anything (λ fs ended. Wilds line fs h) (λ fs ended. Wilds line fs (with_beside h (calls ended))) (λ fs ended x. record { wild = x.wild; older = x.older }) es (poll_asks op) (poll_wild es h op k w)

  begins_wild : (es : List Entry) (h : Here) (place : ℕ) (o : OpenUdp) (call : Operation → BesideCall) (op polled : Operation) → StartsDatagram line origin h.machine.table place o call op polled → Wilds line es h
      → Allows Anything (λ fs ended. Wilds line fs (record (with_beside h (datagram_begun h.machine.store.beside line call op ended)) { own = Used })) es (poll_asks polled)
  begins_wild es h place o call _ _ (StartsSend c s d bound is of known) w =
      let op : Operation = send_start (own_of line) o.inner d.bytes d.remote_address bound in
      allows_weaker Anything (λ fs ended. Wilds line fs h) _ (λ fs ended x. (let k = spent_wild x in record { wild = k.wild; older = k.older })) es (poll_asks (at_remote o.inner.remote op))
      (poll_wild es h (at_remote o.inner.remote op) (send_plain ⊥ op.left (begun_send (own_of line) o.inner d.bytes d.remote_address bound).send.left) w)
  begins_wild es h place o call _ _ (StartsReceive c s bound is of known) w =
      let op : Operation = receive_start (own_of line) o.inner bound in
      allows_weaker Anything (λ fs ended. Wilds line fs h) _ (λ fs ended x. (let k = spent_wild x in record { wild = k.wild; older = k.older })) es (poll_asks (wanting None op))
      (poll_wild es h (wanting None op) (receive_plain ⊥ (wanting None op).left (wanted_left None op.left (begun_receive (own_of line) o.inner bound).receive.left)) w)

  polled_wild : (es : List Entry) (h : Here) (n place : ℕ) (o : OpenUdp) (was : BesideCall) (call : Operation → BesideCall) (op polled : Operation) (k : ℕ) → PollsDatagram place o was call op polled → FitBeside h.machine.store.records k was → Wilds line es h
      → Allows Anything (λ fs ended. Wilds line fs (with_beside h (datagram_polled h.machine.store.beside n call op ended))) es (poll_asks polled)
  polled_wild es h n place o _ _ _ _ k (PollsSend op) f w = datagram_wild es h (at_remote o.inner.remote op) (datagram_polled h.machine.store.beside n (Send place) op) (send_plain ⊥ op.left f.1.left) w
  polled_wild es h n place o _ _ _ _ k (PollsReceive op) f w = datagram_wild es h (wanting None op) (datagram_polled h.machine.store.beside n (Receive place) op) (receive_plain ⊥ (wanting None op).left (wanted_left None op.left f.1.left)) w

  -- == what a line asks
  pub wilds_asks : (es : List Entry) (h : Here) (A : Type 0) (tree : Asks A) (end : A → Here)
      → Asked contexts line origin es h A tree end → Base contexts line origin h × Keeps es h.machine.store.records → Licensed contexts steps line origin es h → Wilds line es h
      → Allows Anything (λ fs x. Wilds line fs (end x)) es tree
  wilds_asks es h _ _ _ (asking.Questions place n r side c at g o q) b i w =
      let its : r.side ≡ Some side = b.0.1.named side place r g (on_side contexts steps line origin is_line es r side o (i.fine.records place r g)) in
      (tt, λ told f. question_wild es h place n r side c told g its (λ x e. question_local contexts steps line origin is_line n side x c q.0 e) q.1 b.0.1 w)
  wilds_asks es h _ _ _ (asking.SetsBacklog place r side backlog at g s is) b i w = (tt, λ told f. quiet_wild es h (own_of line) _ told tt w)
  wilds_asks es h _ _ _ (asking.Learns place r side at g e) b i w = (tt, λ told f. learns_wild es h place r side told g e f b.0.1 w)
  wilds_asks es h _ _ _ (asking.Closes place r side q g e) b i w = (tt, λ told f. put_wild h place r (closed_record r) g (λ x s u. absurd (cc)) (quiet_wild es h (own_of line) _ told tt w))
  wilds_asks es h _ _ _ (asking.MarksOne kind parent sock m) b i w = allows_weaker Anything (λ fs made. Wilds line fs h) _ (λ fs made k. record { wild = k.wild; older = k.older }) es _ (marks_wild es h (own_of line) kind parent sock w)
  wilds_asks es h _ _ _ (asking.AsksCreate tells fails face ctx family c a o past) b i w = creates_wild tells fails face es h ctx family c o w
  wilds_asks es h _ _ _ (asking.MarksAccepted c s place r is e o g) b i w = allows_weaker Anything (λ fs made. Wilds line fs h) _ (λ fs made k. record { wild = k.wild; older = k.older }) es _ (marks_wild es h (own_of line) (Tcp2 place) (Some s) _ w)
  wilds_asks es h _ _ _ (asking.MarksPlain c s remaining place r is e o g) b i w = allows_weaker Anything (λ fs made. Wilds line fs h) _ (λ fs made k. record { wild = k.wild; older = k.older }) es _ (marks_wild es h (own_of line) (Tcp3 place) (Some s) _ w)
  wilds_asks es h _ _ _ (asking.MarksListener n handle reached place r q m g has e) b i w = allows_weaker Anything (λ fs made. Wilds line fs h) _ (λ fs made k. record { wild = k.wild; older = k.older }) es _ (marks_wild es h (own_of n) (Listen3 place) (Some handle) _ w)
  wilds_asks es h _ _ _ (asking.MarksResult socket place slot r m made e g) b i w = allows_weaker Anything (λ fs made. Wilds line fs h) _ (λ fs made k. record { wild = k.wild; older = k.older }) es _ (marks_wild es h (own_of line) (Result3 slot) (Some socket) _ w)
  wilds_asks es h _ _ _ (asking.WritesOnce c handle place given end r s half permit is e f at g q x own) b i w = write_wild es h half.side (take 4294967295 given) w
  wilds_asks es h _ _ _ (asking.Polls op after k) b i w = polls_wild es h op after k b.0 w
  wilds_asks es h _ _ _ (asking.BeginsDatagram place o call op polled at g starts made own) b i w = begins_wild es h place o call op polled starts w
  wilds_asks es h _ _ _ (asking.PollsBeside n c place o call op polled is at g polls) b i w = (let its = found_has h.machine.store.beside n c at in polled_wild es h n place o c.call call op polled c.line polls (b.0.3.besides c its.0) w)
  wilds_asks es h _ _ _ (asking.Turns place r s g e) b i w =
      let f = (i.fine.records place r g).streams s e in
      allows_weaker Anything (λ fs done. Wilds line fs h × WritesOn steps fs f.side done.1) (λ fs done. Wilds line fs (put h place (with_writer r s done.1))) (λ fs done k. put_wild h place r (with_writer r s done.1) g (same r) k.0) es (turn_asks s.writer)
      (quietly_wild contexts steps h (λ fs done. WritesOn steps fs f.side done.1) es (turn_asks s.writer) w (turn_on contexts steps line origin is_line es f.side s.writer f.writes))
  wilds_asks es h _ _ _ (asking.GivesUp place r q goes g) b i w =
      allows_weaker Anything (λ fs done. Wilds line fs h × ⊤) (λ fs done. Wilds line fs (put h place (with_listening r Not))) (λ fs done k. put_wild h place r (with_listening r Not) g (same r) k.0) es (give_up_asks r.listening)
      (quietly_wild contexts steps h (λ fs done. ⊤) es (give_up_asks r.listening) w (given_up contexts steps line origin is_line es r.side r.listening (i.fine.records place r g).listening))
  wilds_asks es h _ _ _ (asking.UdpQuestions place n o c at g q) b i w = (tt, λ told f. udp_question_wild es h (own_of n) place (UdpRecord.Open o) c told g (λ x e. udp_question_local line origin n o.inner.side x c q e) b.0.1 w)
  wilds_asks es h _ _ _ (asking.UdpDisconnects place o at g is) b i w = (tt, λ told f. put_udp_wild h place _ (quiet_wild es h (own_of line) _ told tt w))
  wilds_asks es h _ _ _ (asking.UdpLearns place part o at g) b i w = (tt, λ told f. put_udp_wild h place _ (udp_question_wild es h (part_of line part) place (UdpRecord.Open o) (Call.Local o.inner.side) told g (λ x e. local_side o.inner.side x e) b.0.1 w))
  wilds_asks es h _ _ _ (asking.UdpPeers place o at g) b i w = (tt, λ told f. put_udp_wild h place _ (quiet_wild es h (own_of line) _ told tt w))
  wilds_asks es h _ _ _ (asking.UdpCloses place n o q g) b i w = (tt, λ told f. put_udp_wild h place _ (quiet_wild es h (own_of n) _ told tt w))
  wilds_asks es h _ _ _ (asking.UdpBegins face ctx family c may a o past) b i w = (tt, λ told f. begun_wild _ h ctx.name family (told_done told) (quiet_wild es h (own_of line) _ told tt w))
  wilds_asks es h _ _ _ (asking.MarksUdp face place u g) b i w = allows_weaker Anything (λ fs made. Wilds line fs h) _ (λ fs made k. record { wild = k.wild; older = k.older }) es _ (marks_wild es h (udp_side u) (udp_kind face place) None (Some (udp_side u)) w)
  wilds_asks es h _ _ _ (asking.MarksStream place n handle reached kind m new e) b i w = allows_weaker Anything (λ fs made. Wilds line fs h) _ (λ fs made k. record { wild = k.wild; older = k.older }) es _ (marks_wild es h (own_of n) kind (Some handle) _ w)
  wilds_asks es h _ _ _ (asking.MarksError n handle place handles m k e f) b i w = allows_weaker Anything (λ fs made. Wilds line fs h) _ (λ fs made k. record { wild = k.wild; older = k.older }) es _ (marks_wild es h (own_of n) ErrorValue (Some handle) _ w)
  wilds_asks es h _ _ _ (asking.UdpGivesUp place create q g) b i w =
      allows_weaker Anything (λ fs done. Wilds line fs h × ⊤) (λ fs done. Wilds line fs (put_udp h place (UdpRecord.Closed create.operation.who.side))) (λ fs done k. put_udp_wild h place _ k.0) es (create_cancel_asks create)
      (quietly_wild contexts steps h (λ fs done. ⊤) es (create_cancel_asks create) w (gives_up contexts steps line origin is_line es create (is_going create.operation)))
  wilds_asks es h _ _ _ (asking.Resolves host records l same) b i w = (tt, λ told f. records_wild h (records told) (same told) (quiet_wild es h (own_of line) _ told tt w))
  wilds_asks es h _ _ _ (asking.Looks place op g) b i w = (tt, λ told f. quiet_wild es h op.id _ told tt w)
  wilds_asks es h _ _ _ (asking.ResolvesBeside host l) b i w = (tt, λ told f. let k = quiet_wild es h (own_of line) _ told tt w in record { wild = k.wild; older = k.older })
  wilds_asks es h _ _ _ (asking.LooksBeside n call host g e) b i w = (tt, λ told f. quiet_wild es h (own_of n) _ told tt w)
