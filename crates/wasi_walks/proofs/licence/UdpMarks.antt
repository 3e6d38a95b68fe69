-- What a line asks of a UDP socket by its own operation is licensed, and so are a create and the mark of its handle.
use Rattle.wasi_walks.proofs.Words.{Allows, BeganBy, Bool, Call, Entry, IsAddr, IsDoneOrCode, IsMarkOf, Has, List, MarksNoSocket, Ok, None, OpId, Option}
use Rattle.wasi_walks.proofs.Words.{SocketAddressFamily, Some, GuestCall, Step, Told, WasiSocketsCtx, [], allows_if, allows_weaker, ap, bind, context_at, context_in, entry, false}
use Rattle.wasi_walks.proofs.Words.{if◌then◌else◌, inl, inr, is_full, is_wildcard, make_asks, own_of, refl, slice_get, step_at, subst, sym, told_addr}
use Rattle.wasi_walks.proofs.Words.{told_done, true, ℕ, ◌++◌, ◌∙◌, ◌∷◌, ◌≡◌}
use Rattle.wasi_walks.specs.Licence.{IsTcpName, IsDisconnect, IsGetOf, IsMarkedWith, IsSetTo, IsStreamOf, IsUdpCreate, MayUseUdp, UdpCreated}
use Rattle.wasi_walks.proofs.walks.Moves.{Faulted, Here, Made, MarksNext, one_stream, put_udp, FoundUdp, CreatesUdp, Interface, IsCreated, MakesUdpFor, P2, P3, udp_begun, udp_record_of, part_of, ToSend, IsUdpQuestionOf, Past, Joined, Marked}
use Rattle.wasi_walks.proofs.Lists.{has_front, has_last, has_split}
use Rattle.wasi_walks.specs.Licence.{MakesTcp, MakesUdp}
use Rattle.wasi_walks.proofs.licence.State.{NamesItsOwn, MakesStreams, Names, NamesUdp, UdpMade, UdpIsFine, OpenIsFine}
use Rattle.wasi_walks.proofs.licence.Frames.{NoMark, handed_unless, stay, names_on}
use Rattle.wasi_walks.proofs.licence.States.{state_made, state_joined_udp}
use Rattle.wasi_walks.proofs.licence.Fresh.{NoMadeBy}
use Rattle.wasi_walks.proofs.licence.Line.{IsAccept, remade, Licensed, MakingStands, names_udp, elsewhere, put_udp_fine, spent}
use Rattle.wasi_walks.proofs.licence.Asked.{Spares, spares, asked_fine, listens_on, joined_on, own_line}
use Rattle.wasi_walks.proofs.licence.Marks.{socket_touch, unmarked_made}
use Rattle.wasi_walks.proofs.licence.UdpMoves.{names_part, open_at_place}
use Rattle.wasi_world.specs.declared.call.HandleKind.TheVariants as name
use Rattle.udp_records.specs.Udp.{udp_side, with_udp_inner}
use Rattle.host_store.specs.declared.kind.Kind.TheVariants.{Udp2, Incoming, Outgoing}
use Rattle.host_store.specs.declared.kind.Kind.{Kind}
use Rattle.host_store.specs.Kinds.{kind_at, name_of, udp_kind, udp_of}
use Rattle.wasi_records.specs.Records.{udp2_at}
use Rattle.host_udp.specs.UdpCreates.{udp_side_at}
use Rattle.wasi_records.specs.declared.records.Record.{Record}
use Rattle.wasi_world.specs.declared.call.HandleKind.{HandleKind}
use Rattle.std.specs.Prelude.{◌⊎◌}
use Rattle.udp_records.specs.declared.udp.OpenUdp.{OpenUdp}
use Rattle.udp_records.specs.declared.udp.UdpRecord.{UdpRecord}
use Rattle.wasi_udp.specs.Create.{after_create, new_create}
use Rattle.wasi_udp.specs.Shape.{Socket}
use Rattle.wasi_udp.specs.Socket.{after_local, after_peer}
use Rattle.wasi_walks.proofs.Places.{push_was, tcp_sort, udp_sort}
use Rattle.wasi_walks.proofs.licence.Unbound.{MayAskSo}
use Rattle.wasi_steps.specs.declared.guest_call.TcpCall.{TcpCall}
use Rattle.wasi_steps.specs.declared.guest_call.UdpCall.{UdpCall}
use Rattle.wasi_steps.specs.declared.guest_call.P3TcpCall.{P3TcpCall}
use Rattle.wasi_steps.specs.declared.guest_call.P3UdpCall.{P3UdpCall}

module _ (contexts : List WasiSocketsCtx) (steps : List Step) (line : ℕ) (origin : Step) (is_line : step_at steps line ≡ Some origin) where
  -- == a UDP socket's network socket is none of a TCP socket's
  one_kind : (s : Step) → MakesTcp s → MakesUdp s → ⊥
  one_kind (Step.Call ctx (GuestCall.Tcp (TcpCall.Create family))) a b = b
  one_kind (Step.Call ctx (GuestCall.P3Tcp (P3TcpCall.Create family))) a b = b
  one_kind _ a b = a

  pub kinds_apart : (side : OpId) → BeganBy steps side MakesTcp → BeganBy steps side MakesUdp → ⊥
  kinds_apart side a b = let p = a.at in let q = b.at in let e : b.origin ≡ a.origin = cc in one_kind a.origin a.holds (subst MakesUdp e b.holds)

  -- no listen in progress is on it
  udp_spares : (es : List Entry) (h : Here) (side : OpId) (c : Call) → BeganBy steps side MakesUdp → ((x : OpId) → c ≡ Call.Local x → side ≡ x) → Licensed contexts steps line origin es h → Spares contexts steps line origin is_line h c
  udp_spares es h side c by its i k q op g e p = kinds_apart op.who.side (i.listens k q op g e).tcp (subst (λ (o : OpId). BeganBy steps o MakesUdp) (its op.who.side p) by)

  -- a question may be asked, and what is asked is no mark
  udp_may : (n : ℕ) (es : List Entry) (side : OpId) (c : Call) → IsUdpQuestionOf line origin n side c → Names steps es (own_of n) side → MayAskSo contexts steps es (own_of n) c × NoMark c
  udp_may n es side (Call.Local s) q k = (inl (subst (Names steps es (own_of n)) (sym q) k), tt)
  udp_may n es side (Call.GetOption s o) q k = ((inl (subst (Names steps es (own_of n)) (sym q.0) k), own_line contexts steps line origin is_line n (IsGetOf o) q.1 q.2), tt)
  udp_may n es side (Call.SetOption s o v) q k = ((inl (subst (Names steps es (own_of n)) (sym q.0) k), own_line contexts steps line origin is_line n (IsSetTo o v) q.1 q.2), tt)
  udp_may n es side _ q k = absurd q

  udp_local : (n : ℕ) (side x : OpId) (c : Call) → IsUdpQuestionOf line origin n side c → c ≡ Call.Local x → side ≡ x
  udp_local n side x (Call.Local s) q e = let p : s ≡ x = cc in sym q ∙ p
  udp_local n side x _ q e = absurd (cc)

  -- what is asked of an open socket, by an operation that names it
  asked_open : (es : List Entry) (h : Here) (place : ℕ) (o : OpenUdp) (op : OpId) (c : Call) → FoundUdp h place (UdpRecord.Open o) → NoMark c → ((x : OpId) → c ≡ Call.Local x → o.inner.side ≡ x) → Licensed contexts steps line origin es h → (told : Told) → Licensed contexts steps line origin (es ++ entry op c told ∷ []) h
  asked_open es h place o op c g m its i told = asked_fine contexts steps line origin is_line es h op c told m (udp_spares es h o.inner.side c (open_at_place contexts steps line origin is_line es h place o g i).made.by its i) i

  pub udp_asked : (es : List Entry) (h : Here) (place n : ℕ) (o : OpenUdp) (c : Call) → h.at ≡ Some (place, n) → FoundUdp h place (UdpRecord.Open o) → IsUdpQuestionOf line origin n o.inner.side c → Licensed contexts steps line origin es h
      → MayAskSo contexts steps es (own_of n) c × ((told : Told) → Licensed contexts steps line origin (es ++ entry (own_of n) c told ∷ []) h)
  udp_asked es h place n o c at g q i =
      let k = udp_may n es o.inner.side c q (i.udp_names place n (UdpRecord.Open o) at g) in
      (k.0, asked_open es h place o (own_of n) c g k.1 (λ x e. udp_local n o.inner.side x c q e) i)

  -- it is disconnected, and is bound from then on
  pub udp_disconnected : (es : List Entry) (h : Here) (place : ℕ) (o : OpenUdp) → h.at ≡ Some (place, line) → FoundUdp h place (UdpRecord.Open o) → IsDisconnect origin → Licensed contexts steps line origin es h
      → MayAskSo contexts steps es (own_of line) (Call.UdpDisconnect o.inner.side) × ((told : Told) → Licensed contexts steps line origin (es ++ entry (own_of line) (Call.UdpDisconnect o.inner.side) told ∷ []) (put_udp h place (UdpRecord.Open (with_udp_inner o (record o.inner { bound = true })))))
  udp_disconnected es h place o at g is i = (
    (inl (i.udp_names place line (UdpRecord.Open o) at g), record { origin = origin; at = is_line; holds = is }),
    λ told.
        let e = entry (own_of line) (Call.UdpDisconnect o.inner.side) told in
        let fs : List Entry = es ++ e ∷ [] in
        let j = asked_open es h place o (own_of line) (Call.UdpDisconnect o.inner.side) g tt (λ x p. absurd (cc)) i told in
        let f = open_at_place contexts steps line origin is_line fs h place o g j in
        put_udp_fine fs h place (UdpRecord.Open o) (UdpRecord.Open (with_udp_inner o (record o.inner { bound = true }))) g refl
        (record { made = f.made; bound = λ b. inr (record { op = own_of line; told = told; entry_is = has_last es e }); progress = f.progress; connecting = f.connecting; sending = f.sending; receiving = f.receiving }) j,
  )

  -- the remote address
  pub udp_peered : (es : List Entry) (h : Here) (place : ℕ) (o : OpenUdp) → h.at ≡ Some (place, line) → FoundUdp h place (UdpRecord.Open o) → Licensed contexts steps line origin es h
      → MayAskSo contexts steps es (own_of line) (Call.Peer o.inner.side) × ((told : Told) → Licensed contexts steps line origin (es ++ entry (own_of line) (Call.Peer o.inner.side) told ∷ []) (put_udp h place (UdpRecord.Open (with_udp_inner o (after_peer o.inner (told_addr told))))))
  udp_peered es h place o at g i = (
    inl (i.udp_names place line (UdpRecord.Open o) at g),
    λ told.
        let fs : List Entry = es ++ entry (own_of line) (Call.Peer o.inner.side) told ∷ [] in
        let j = asked_open es h place o (own_of line) (Call.Peer o.inner.side) g tt (λ x e. absurd (cc)) i told in
        let f = open_at_place contexts steps line origin is_line fs h place o g j in
        put_udp_fine fs h place (UdpRecord.Open o) (UdpRecord.Open (with_udp_inner o (after_peer o.inner (told_addr told)))) g refl (record { made = f.made; bound = f.bound; progress = f.progress; connecting = f.connecting; sending = f.sending; receiving = f.receiving }) j,
  )

  -- == whether it is bound
  learned_open : (fs : List Entry) (part : ℕ) (o : OpenUdp) (told : Told) → IsAddr told → (Has fs (entry (part_of line part) (Call.Local o.inner.side) told)) → OpenIsFine steps fs o → OpenIsFine steps fs (with_udp_inner o (after_local o.inner (told_addr told)).1)
  learned_open fs part o (Told.Addr a) fits has f = by_test (is_wildcard o.inner.family a) refl
    where
      by_test : (b : Bool) → is_wildcard o.inner.family a ≡ b → (let told : Bool × Socket = if b then (false, o.inner) else (true, record o.inner { bound = true }) in OpenIsFine steps fs (with_udp_inner o told.1))
      by_test true p = f
      by_test false p = record {
        made = f.made;
        bound = λ b. inl (record { ctx = o.inner.maker; family = o.inner.family; maker = UdpCreated o.inner.side Told.Done f.made.created; op = part_of line part; addr = a; told = has; other = p });
        progress = f.progress;
        connecting = f.connecting;
        sending = f.sending;
        receiving = f.receiving;
      }
  learned_open fs part o (Told.Code c) fits has f = f
  learned_open fs part o _ fits has f = absurd fits

  learned_side : (o : OpenUdp) (told : Told) → (after_local o.inner (told_addr told)).1.side ≡ o.inner.side
  learned_side o (Told.Addr a) = by_test (is_wildcard o.inner.family a)
    where
      by_test : (b : Bool) → (let told : Bool × Socket = if b then (false, o.inner) else (true, record o.inner { bound = true }) in told.1.side ≡ o.inner.side)
      by_test true = refl
      by_test false = refl
  learned_side o _ = refl

  pub udp_learned : (es : List Entry) (h : Here) (place part : ℕ) (o : OpenUdp) → h.at ≡ Some (place, line) → FoundUdp h place (UdpRecord.Open o) → Licensed contexts steps line origin es h
      → MayAskSo contexts steps es (part_of line part) (Call.Local o.inner.side) × ((told : Told) → IsAddr told → Licensed contexts steps line origin (es ++ entry (part_of line part) (Call.Local o.inner.side) told ∷ []) (put_udp h place (UdpRecord.Open (with_udp_inner o (after_local o.inner (told_addr told)).1))))
  udp_learned es h place part o at g i = (
    inl (names_part contexts steps line origin is_line es part o.inner.side (i.udp_names place line (UdpRecord.Open o) at g)),
    λ told fits.
        let fs : List Entry = es ++ entry (part_of line part) (Call.Local o.inner.side) told ∷ [] in
        let j = asked_open es h place o (part_of line part) (Call.Local o.inner.side) g tt (λ x e. cc) i told in
        put_udp_fine fs h place (UdpRecord.Open o) (UdpRecord.Open (with_udp_inner o (after_local o.inner (told_addr told)).1)) g (learned_side o told) (learned_open fs part o told fits (has_last es _) (open_at_place contexts steps line origin is_line fs h place o g j)) j,
  )

  -- == the end
  pub udp_closed : (es : List Entry) (h : Here) (place n : ℕ) (o : OpenUdp) (told : Told) → FoundUdp h place (UdpRecord.Open o) → Licensed contexts steps line origin es h → Licensed contexts steps line origin (es ++ entry (own_of n) (Call.Close o.inner.side) told ∷ []) (put_udp h place (UdpRecord.Closed o.inner.side))
  udp_closed es h place n o told g i =
      let fs : List Entry = es ++ entry (own_of n) (Call.Close o.inner.side) told ∷ [] in
      let j = asked_fine contexts steps line origin is_line es h (own_of n) (Call.Close o.inner.side) told tt (spares contexts steps line origin is_line h (Call.Close o.inner.side) tt) i in
      put_udp_fine fs h place (UdpRecord.Open o) (UdpRecord.Closed o.inner.side) g refl (record { maker = o.inner.maker; family = o.inner.family; made = (open_at_place contexts steps line origin is_line fs h place o g j).made }) j

  -- == a create
  may_use : (n : ℕ) (o : Option WasiSocketsCtx) → slice_get contexts n ≡ o → (context_in o).udp ≡ true → MayUseUdp contexts n (context_in o).name
  may_use n None e t = absurd (cc)
  may_use n (Some ctx) e t = record { ctx = ctx; at = e; named = refl; udp = t }

  may_by : (n : ℕ) (ctx : WasiSocketsCtx) → context_at contexts n ≡ ctx → ctx.udp ≡ true → MayUseUdp contexts n ctx.name
  may_by n ctx e t =
      let T : WasiSocketsCtx → Type 0 = λ x. x.udp ≡ true → MayUseUdp contexts n x.name in
      subst T e (may_use n (slice_get contexts n) refl) t

  may_create : (face : Interface) (ctx : WasiSocketsCtx) (family : SocketAddressFamily) (s : Step) → CreatesUdp contexts ctx family face s → ctx.udp ≡ true → IsUdpCreate contexts ctx.name family s
  may_create face ctx family (Step.Call n (GuestCall.Udp (UdpCall.Create f))) c t = (may_by n ctx c.0 t, c.1)
  may_create face ctx family (Step.Call n (GuestCall.P3Udp (P3UdpCall.Create f))) c t = (may_by n ctx c.0 t, c.1)
  may_create face ctx family _ c t = absurd c

  makes_udp : (face : Interface) (ctx : WasiSocketsCtx) (family : SocketAddressFamily) (s : Step) → CreatesUdp contexts ctx family face s → MakesUdp s
  makes_udp face ctx family (Step.Call n (GuestCall.Udp (UdpCall.Create f))) c = tt
  makes_udp face ctx family (Step.Call n (GuestCall.P3Udp (P3UdpCall.Create f))) c = tt
  makes_udp face ctx family _ c = c

  creates_only : (face : Interface) (ctx : WasiSocketsCtx) (family : SocketAddressFamily) → CreatesUdp contexts ctx family face origin → IsAccept origin → ⊥
  creates_only face ctx family k is = no_accept origin k is
    where
      no_accept : (s : Step) → CreatesUdp contexts ctx family face s → IsAccept s → ⊥
      no_accept (Step.Call n (GuestCall.Tcp (TcpCall.Accept listener))) k is = k
      no_accept (Step.Call n (GuestCall.P3Tcp (P3TcpCall.Accept listener remaining))) k is = k
      no_accept _ k is = is

  -- a network socket that was made has its record
  created_so : (face : Interface) (fs : List Entry) (h : Here) (ctx : WasiSocketsCtx) (family : SocketAddressFamily) → CreatesUdp contexts ctx family face origin → h.at ≡ None → h.made ≡ Past → Has fs (entry (own_of line) (Call.UdpCreate ctx.name family) Told.Done) → Licensed contexts steps line origin fs h
      → Licensed contexts steps line origin fs (udp_begun h (Ok (new_create (own_of line) ctx.name family)))
  created_so face fs h ctx family c nowhere past has j =
      let now = UdpRecord.Creating (new_create (own_of line) ctx.name family) in
      record {
        fine = state_joined_udp contexts steps fs h.machine now (record { made = record { by = record { origin = origin; at = is_line; holds = makes_udp face ctx family origin c }; created = has }; own = refl; last = refl; left = refl }) j.fine;
        names = λ p n r a e. absurd (no_place p n (sym nowhere ∙ a));
        udp_names = λ p n u a e. absurd (no_place p n (sym nowhere ∙ a));
        listens = λ p q op d m. j.listens p q op (push_was udp_sort tcp_sort (λ t. refl) h.machine.store.records now p q d) m;
        new = λ x t. absurd t;
        unmade = λ e is. absurd (creates_only face ctx family c is);
        joined = λ face p e. absurd (not_joined face p (sym past ∙ e));
        faulted = λ p e. absurd (not_faulted p (sym past ∙ e));
        marked = λ a p e q d. absurd (not_marked a p (sym past ∙ e));
        making = subst (MakingStands steps) (sym past) tt;
      }
    where
      no_place : (p n : ℕ) → (let x : Option (ℕ × ℕ) = Some (p, n) in None ≡ x) → ⊥
      no_place p n e = absurd (cc)

      not_marked : (a p : ℕ) → Past ≡ Marked a p → ⊥
      not_marked a p e = absurd (cc)

      not_joined : (face : Interface) (p : ℕ) → Past ≡ Joined face p → ⊥
      not_joined face p e = absurd (cc)

      not_faulted : (p : ℕ) → Past ≡ Faulted p → ⊥
      not_faulted p e = absurd (cc)

  pub udp_creates : (face : Interface) (es : List Entry) (h : Here) (ctx : WasiSocketsCtx) (family : SocketAddressFamily) → CreatesUdp contexts ctx family face origin → ctx.udp ≡ true → h.at ≡ None → h.made ≡ Past → Licensed contexts steps line origin es h
      → MayAskSo contexts steps es (own_of line) (Call.UdpCreate ctx.name family)
      × ((told : Told) → IsDoneOrCode told → Licensed contexts steps line origin (es ++ entry (own_of line) (Call.UdpCreate ctx.name family) told ∷ []) (udp_begun h (after_create (own_of line) ctx.name family (told_done told))))
  udp_creates face es h ctx family c may nowhere past i = (record { origin = origin; at = is_line; holds = may_create face ctx family origin c may }, by_told)
    where
      asked : (told : Told) → Licensed contexts steps line origin (es ++ entry (own_of line) (Call.UdpCreate ctx.name family) told ∷ []) h
      asked told = asked_fine contexts steps line origin is_line es h (own_of line) (Call.UdpCreate ctx.name family) told tt (spares contexts steps line origin is_line h (Call.UdpCreate ctx.name family) tt) i

      by_told : (told : Told) → IsDoneOrCode told → Licensed contexts steps line origin (es ++ entry (own_of line) (Call.UdpCreate ctx.name family) told ∷ []) (udp_begun h (after_create (own_of line) ctx.name family (told_done told)))
      by_told Told.Done fits = created_so face _ h ctx family c nowhere past (has_last es _) (asked Told.Done)
      by_told (Told.Code x) fits = spent _ h (asked (Told.Code x))
      by_told _ fits = absurd fits

  -- == the mark of its handle, which has the name of the create
  udp_mark : (es : List Entry) (side : OpId) (maker : ℕ) (family : SocketAddressFamily) (face : Interface) (place : ℕ) (s : Step) → MakesUdpFor face s → Has es (entry side (Call.UdpCreate maker family) Told.Done) → IsMarkOf es side (name_of (udp_kind face place)) None (Some side) s
  udp_mark es side maker family face place (Step.Call ctx (GuestCall.Udp (UdpCall.Create f))) m has = (ap (λ (x : Interface). name_of (udp_kind x place)) m, refl, refl, (maker, family, has))
  udp_mark es side maker family face place (Step.Call ctx (GuestCall.P3Udp (P3UdpCall.Create f))) m has = (ap (λ (x : Interface). name_of (udp_kind x place)) m, refl, refl, (maker, family, has))
  udp_mark es side maker family face place _ m has = absurd m

  began_mark : (es : List Entry) (side : OpId) (maker : ℕ) (family : SocketAddressFamily) (face : Interface) (place : ℕ) → UdpMade steps es side maker family → BeganBy steps side (MakesUdpFor face) → BeganBy steps side (IsMarkOf es side (name_of (udp_kind face place)) None (Some side))
  began_mark es side maker family face place m b = record { origin = b.origin; at = b.at; holds = udp_mark es side maker family face place b.origin b.holds m.created }

  -- an accept is no create
  not_accept : (side : OpId) → BeganBy steps side MakesUdp → IsAccept origin → side ≡ own_of line → ⊥
  not_accept side b is e =
      let p : step_at steps line ≡ Some b.origin = subst (λ (o : OpId). step_at steps o.step ≡ Some b.origin) e b.at in
      let q : origin ≡ b.origin = cc in
      no_accept b.origin b.holds (subst IsAccept q is)
    where
      no_accept : (s : Step) → MakesUdp s → IsAccept s → ⊥
      no_accept (Step.Call n (GuestCall.Tcp (TcpCall.Accept listener))) m is = m
      no_accept (Step.Call n (GuestCall.P3Tcp (P3TcpCall.Accept listener remaining))) m is = m
      no_accept _ m is = is

  unmade_more : (es : List Entry) (op own : OpId) (c : Call) (t : Told) → (op ≡ own → ⊥) → NoMadeBy es own → NoMadeBy (es ++ entry op c t ∷ []) own
  unmade_more es op own c t n m handle kind above side told i = elim (has_split es (entry op c t) (entry own (Call.Made handle kind above side) told) i) [
    | inl j ↦ m handle kind above side told j
    | inr e ↦ n (ap (λ (x : Entry). x.op) e)
  ]

  -- The UDP socket's create is known, whatever the socket is by now.
  record IsMade (es : List Entry) (side : OpId) : Type 0 where
    pub maker : ℕ
    pub family : SocketAddressFamily
    pub made : UdpMade steps es side maker family

  is_made : (es : List Entry) (u : UdpRecord) → UdpIsFine steps es u → IsMade es (udp_side u)
  is_made es (UdpRecord.Creating create) f = record { maker = create.operation.who.context; family = create.family; made = f.made }
  is_made es (UdpRecord.Open o) f = record { maker = o.inner.maker; family = o.inner.family; made = f.made }
  is_made es (UdpRecord.Closed side) f = record { maker = f.maker; family = f.family; made = f.made }

  -- a mark by an operation that isn't the own one of an accept, of no TCP socket's handle
  pub mark_fine : (es : List Entry) (h : Here) (op : OpId) (kind : Kind) (parent : Option ℕ) (sock : Option OpId) → BeganBy steps op (IsMarkOf es op (name_of kind) parent sock) → (IsAccept origin → op ≡ own_of line → ⊥) → (IsTcpName (name_of kind) → ⊥)
      → ((t : Told) → NamesItsOwn (es ++ entry op (Call.Made h.machine.table.next (name_of kind) parent sock) t ∷ []) h.machine.store.records h.machine.table.next kind) → Licensed contexts steps line origin es h
      → Allows (MayAskSo contexts steps) (λ fs made. Licensed contexts steps line origin fs (record h { machine = record h.machine { table = made.1 } })) es (make_asks h.machine.table op kind parent sock)
  unfolding bind
  mark_fine es h op kind parent sock may other none new i =
      let c = Call.Made h.machine.table.next (name_of kind) parent sock in
      let unmarked : (t : Told) (x : OpId) → MarksNoSocket es x → MarksNoSocket (es ++ entry op c t ∷ []) x = λ t x k. unmarked_made contexts steps line origin is_line es op h.machine.table.next (name_of kind) parent sock t x k (λ a b. none a) in
      allows_if (MayAskSo contexts steps) (λ fs made. Licensed contexts steps line origin fs (record h { machine = record h.machine { table = made.1 } })) es (is_full h.machine.table) _ _ (λ full. elsewhere es h (record h { machine = record h.machine { table = h.machine.table } }) refl refl refl i i.fine i.names i.udp_names)
      (λ room. (
        (i.fine.count, may),
        λ told fits. record {
          fine = state_made contexts steps es h.machine op parent sock told kind (λ p q x d y t. none (socket_touch contexts steps line origin is_line op x h.machine.table.next (name_of kind) parent sock t)) (new told) i.fine;
          names = λ p k r a d s x. names_on (stay steps) es _ (own_of k) s (i.names p k r a d s x);
          udp_names = λ p k v a d. names_on (stay steps) es _ (own_of k) (udp_side v) (i.udp_names p k v a d);
          listens = listens_on contexts steps line origin is_line es h op c told (λ p q o d x y. absurd (cc)) i;
          new = λ x o. (handed_unless es op c told x (i.new x o).0 (λ l p a b. absurd (cc)), unmarked told x (i.new x o).1);
          unmade = λ d is. unmade_more es op (own_of line) c told (other is) (i.unmade d is);
          joined = λ face p d. (let j = i.joined face p d in let k = joined_on contexts steps line origin is_line es h (entry op c told) face p j (unmarked told j.new j.fresh) in record { new = k.new; on = k.on; peer = k.peer; listener = k.listener; by = k.by; side = k.side; of_listener = k.of_listener; handed = k.handed; fresh = k.fresh });
          faulted = i.faulted;
          marked = λ handle p d r a. (let k = i.marked handle p d r a in record { above = k.above; told = k.told; mark = has_front es _ _ k.mark });
          making = i.making;
        },
      ))

  -- a new handle of a UDP socket
  udp_no_tcp : (face : Interface) (place : ℕ) → IsTcpName (name_of (udp_kind face place)) → ⊥
  udp_no_tcp P2 place (inl p) = absurd (cc)
  udp_no_tcp P2 place (inr p) = absurd (cc)
  udp_no_tcp P3 place (inl p) = absurd (cc)
  udp_no_tcp P3 place (inr p) = absurd (cc)

  udp_handle : (face : Interface) (fs : List Entry) (records : List Record) (handle place : ℕ) → NamesUdp fs records handle place → NamesItsOwn fs records handle (udp_kind face place)
  udp_handle P2 fs records handle place n = (tt, n, tt, tt)
  udp_handle P3 fs records handle place n = (tt, n, tt, tt)

  pub udp_marked : (es : List Entry) (h : Here) (face : Interface) (place : ℕ) (u : UdpRecord) → IsCreated h face place u → Licensed contexts steps line origin es h
      → Allows (MayAskSo contexts steps) (λ fs made. Licensed contexts steps line origin fs (record h { machine = record h.machine { table = made.1 }; made = Past })) es (make_asks h.machine.table (udp_side u) (udp_kind face place) None (Some (udp_side u)))
  udp_marked es h face place u is i =
      let m = is_made es u (i.fine.udp place u is.found) in
      let b : BeganBy steps (udp_side u) (MakesUdpFor face) = subst (MakingStands steps) is.awaited i.making in
      allows_weaker (MayAskSo contexts steps) (λ fs made. Licensed contexts steps line origin fs (record h { machine = record h.machine { table = made.1 } })) _
      (λ fs made k. remade fs (record h { machine = record h.machine { table = made.1 } }) Past tt tt k) es _
      (mark_fine es h (udp_side u) (udp_kind face place) None (Some (udp_side u)) (began_mark es (udp_side u) m.maker m.family face place m.made b) (not_accept (udp_side u) m.made.by) (udp_no_tcp face place)
      (λ t. udp_handle face _ h.machine.store.records h.machine.table.next place (record { found = u; at = is.found; marked = record { op = udp_side u; kind = name_of (udp_kind face place); parent = None; told = t; mark = has_last es _ } })) i)

  -- == the handles of datagram streams
  abbrev pub OneStream : Kind → ℕ → Type 0
  OneStream kind place = (kind ≡ Incoming place) ⊎ (kind ≡ Outgoing place)

  stream_name : (kind : Kind) (place : ℕ) → OneStream kind place → (name_of kind ≡ name.Incoming) ⊎ (name_of kind ≡ name.Outgoing)
  stream_name kind place (inl e) = inl (ap name_of e)
  stream_name kind place (inr e) = inr (ap name_of e)

  no_tcp : (kind : Kind) (place : ℕ) → OneStream kind place → IsTcpName (name_of kind) → ⊥
  no_tcp kind place (inl e) (inl p) = absurd (let q : name.Incoming ≡ name.Tcp2 = sym (ap name_of e) ∙ p in cc)
  no_tcp kind place (inl e) (inr p) = absurd (let q : name.Incoming ≡ name.Tcp3 = sym (ap name_of e) ∙ p in cc)
  no_tcp kind place (inr e) (inl p) = absurd (let q : name.Outgoing ≡ name.Tcp2 = sym (ap name_of e) ∙ p in cc)
  no_tcp kind place (inr e) (inr p) = absurd (let q : name.Outgoing ≡ name.Tcp3 = sym (ap name_of e) ∙ p in cc)

  stream_handle : (fs : List Entry) (records : List Record) (handle place : ℕ) (kind : Kind) → OneStream kind place → NamesUdp fs records handle place → NamesItsOwn fs records handle kind
  stream_handle fs records handle place kind (inl e) n = subst (NamesItsOwn fs records handle) (sym e) (tt, n, tt, tt)
  stream_handle fs records handle place kind (inr e) n = subst (NamesItsOwn fs records handle) (sym e) (tt, n, tt, tt)

  stream_mark : (es : List Entry) (op : OpId) (handle : ℕ) (kind : HandleKind) (sock : Option OpId) → (kind ≡ name.Incoming) ⊎ (kind ≡ name.Outgoing) → IsMarkedWith es handle sock → (s : Step) → IsStreamOf handle s → IsMarkOf es op kind (Some handle) sock s
  stream_mark es op handle kind sock which w (Step.Call c (GuestCall.Udp (UdpCall.Stream socket remote))) e = (which, (ap (λ (n : ℕ). Some n) (sym e), subst (λ (n : ℕ). IsMarkedWith es n sock) (sym e) w))
  stream_mark es op handle kind sock which w _ e = absurd e

  no_stream : (n handle : ℕ) → MakesStreams steps n handle → IsAccept origin → own_of n ≡ own_of line → ⊥
  no_stream n handle b is e =
      let p : step_at steps line ≡ Some b.origin = subst (λ (o : OpId). step_at steps o.step ≡ Some b.origin) e b.at in
      let q : origin ≡ b.origin = cc in
      no_accept b.origin b.holds (subst IsAccept q is)
    where
      no_accept : (s : Step) → IsStreamOf handle s → IsAccept s → ⊥
      no_accept (Step.Call c (GuestCall.Tcp (TcpCall.Accept listener))) m is = m
      no_accept (Step.Call c (GuestCall.P3Tcp (P3TcpCall.Accept listener remaining))) m is = m
      no_accept _ m is = is

  makes_streams : (made : Made) (n handle reached : ℕ) (kind : Kind) (place : ℕ) → MarksNext made n handle reached kind place → MakingStands steps made → MakesStreams steps n handle
  makes_streams made n handle reached kind place (inl m) i = subst (MakingStands steps) m.1 i
  makes_streams made n handle reached kind place (inr m) i = subst (MakingStands steps) m.1 i

  pub stream_marked : (es : List Entry) (h : Here) (place n handle reached : ℕ) (kind : Kind) → MarksNext h.made n handle reached kind place → udp_of (kind_at h.machine.table handle) ≡ Some place → Licensed contexts steps line origin es h
      → Allows (MayAskSo contexts steps) (λ fs made. Licensed contexts steps line origin fs (record h { machine = record h.machine { table = made.1 }; made = ToSend n handle reached })) es (make_asks h.machine.table (own_of n) kind (Some handle) (udp_side_at (udp2_at h.machine.store.records place)))
  stream_marked es h place n handle reached kind m e i =
      let sock = udp_side_at (udp2_at h.machine.store.records place) in
      let which : OneStream kind place = one_stream h.made n handle reached kind place m in
      let b : MakesStreams steps n handle = makes_streams h.made n handle reached kind place m i.making in
      let k = names_udp es h.machine.store.records handle place (kind_at h.machine.table handle) (of_udp (kind_at h.machine.table handle) place e) (i.fine.handles handle) in
      let w : IsMarkedWith es handle sock = subst (IsMarkedWith es handle) (sym (ap udp_side_at k.at)) k.marked in
      allows_weaker (MayAskSo contexts steps) (λ fs made. Licensed contexts steps line origin fs (record h { machine = record h.machine { table = made.1 } })) (λ fs made. Licensed contexts steps line origin fs (record h { machine = record h.machine { table = made.1 }; made = ToSend n handle reached }))
      (λ fs made k. remade fs (record h { machine = record h.machine { table = made.1 } }) (ToSend n handle reached) tt b k) es _
      (mark_fine es h (own_of n) kind (Some handle) sock (record { origin = b.origin; at = b.at; holds = stream_mark es (own_of n) handle (name_of kind) sock (stream_name kind place which) w b.origin b.holds }) (no_stream n handle b) (no_tcp kind place which)
      (λ t. stream_handle _ h.machine.store.records h.machine.table.next place kind which (record { found = k.found; at = k.at; marked = record { op = own_of n; kind = name_of kind; parent = Some handle; told = t; mark = marked_of t k.found k.at } })) i)
    where
      of_udp : (k : Option Kind) (p : ℕ) → udp_of k ≡ Some p → udp_record_of k ≡ Some p
      of_udp (Some (Udp2 q)) p d = d
      of_udp _ p d = absurd (cc)

      marked_of : (t : Told) (u : UdpRecord) → udp2_at h.machine.store.records place ≡ Some u
          → (let sock = udp_side_at (udp2_at h.machine.store.records place) in let e = entry (own_of n) (Call.Made h.machine.table.next (name_of kind) (Some handle) sock) t in Has (es ++ e ∷ []) (entry (own_of n) (Call.Made h.machine.table.next (name_of kind) (Some handle) (Some (udp_side u))) t))
      marked_of t u d =
          let sock = udp_side_at (udp2_at h.machine.store.records place) in
          let e = entry (own_of n) (Call.Made h.machine.table.next (name_of kind) (Some handle) sock) t in
          subst (λ (o : Option OpId). Has (es ++ e ∷ []) (entry (own_of n) (Call.Made h.machine.table.next (name_of kind) (Some handle) o) t)) (ap udp_side_at d) (has_last es e)
