-- What a line asks by its own operation is licensed, and what it is answered fits.
use Rattle.wasi_walks.proofs.Words.{Allows, Asks, Begins, Call, Done, End, Entry, IsAddr, List, MarksNoSocket, OpId, Operation, Refused, Some, Step}
use Rattle.wasi_walks.proofs.Words.{TcpRecord, TcpState, Told, Waits, WasiSocketsCtx, WriteState, [], after_local, ap, closing_side, entry, inl}
use Rattle.wasi_walks.proofs.Words.{marked_by, own_of, refl, side_in, side_of, step_at, subst, sym, told_addr, with_inner, writer_side}
use Rattle.wasi_walks.proofs.Words.{allows_keep, writing_side, ℕ, ◌++◌, ◌∙◌, ◌∷◌, ◌≡◌}
use Rattle.wasi_walks.specs.Licence.{BeganBy, IsGetOf, IsSetTo}
use Rattle.wasi_walks.proofs.licence.Fresh.{made_more}
use Rattle.wasi_walks.proofs.licence.ListenAsks.{listen_unless}
use Rattle.wasi_walks.proofs.claims.Law.{Named, no_some}
use Rattle.wasi_walks.proofs.walks.Moves.{Here, put, Found, IsQuestionOf, IsOn, OfSocket, OfReader, OfWriter}
use Rattle.wasi_walks.proofs.walks.Here.{Interface, IsToCome}
use Rattle.wasi_walks.proofs.Lists.{has_last, has_front}
use Rattle.wasi_walks.proofs.licence.State.{ReadsOn, Names, WritesOn, RecordIsFine}
use Rattle.wasi_walks.proofs.licence.Frames.{Touches, Spared, same_listening, unmarked_unless, handed_more, stay, NoMark, same_record, names_on, record_kept, maker_more, side_more, no_touch}
use Rattle.wasi_walks.proofs.licence.States.{state_spared}
use Rattle.wasi_walks.proofs.licence.Binds.{learned_told, NoLocal, MayQuietly}
use Rattle.wasi_walks.proofs.licence.Line.{some_same, local_side, ListenGoesOn, JoinedIsFine, Licensed, put_fine}
use Rattle.wasi_walks.proofs.licence.Moves.{held_side, same_listen}
use Rattle.wasi_records.specs.Records.{tcp2_at}
use Rattle.udp_records.specs.Udp.{udp_side}
use Rattle.wasi_walks.proofs.licence.Unbound.{MayAskSo}

module _ (contexts : List WasiSocketsCtx) (steps : List Step) (line : ℕ) (origin : Step) (is_line : step_at steps line ≡ Some origin) where
  -- == asks
  -- no listen in progress is on a network socket whose local address is asked for
  abbrev pub Spares : Here → Call → Type 0
  Spares h c = (k : ℕ) (q : TcpRecord) (op : Operation) → Found h k q → q.listening ≡ Begins op → c ≡ Call.Local op.who.side → ⊥

  pub spares : (h : Here) (c : Call) → NoLocal c → Spares h c
  spares h c n k q op g e p = subst NoLocal p n

  pub listens_on : (es : List Entry) (h : Here) (op : OpId) (c : Call) (told : Told) → Spares h c → Licensed contexts steps line origin es h → (k : ℕ) (q : TcpRecord) (o : Operation) → Found h k q → q.listening ≡ Begins o → ListenGoesOn steps (es ++ entry op c told ∷ []) q o
  listens_on es h op c told n i k q o g e = let l = i.listens k q o g e in record { fine = listen_unless steps es op c told o (n k q o g e) l.fine; asks = l.asks; made = maker_more es _ q.inner.maker q.inner.family o.who.side l.made; tcp = l.tcp }

  pub joined_on : (es : List Entry) (h : Here) (e : Entry) (face : Interface) (p : ℕ) (j : JoinedIsFine origin es h face p) → MarksNoSocket (es ++ e ∷ []) j.new → JoinedIsFine origin (es ++ e ∷ []) h face p
  joined_on es h e face p j f = record { new = j.new; on = j.on; peer = j.peer; listener = j.listener; by = j.by; side = j.side; of_listener = side_more es _ j.listener j.on j.of_listener; handed = record { told = j.handed.told; hand = has_front es _ _ j.handed.hand }; fresh = f }

  -- a call that is no mark
  pub asked_by : (es : List Entry) (h : Here) (op : OpId) (c : Call) (told : Told) → marked_by c ≡ 0 → Spared h.machine.store.records op c → ((x : OpId) → IsToCome line h.own x → Touches op c x → ⊥) → Spares h c → Licensed contexts steps line origin es h → Licensed contexts steps line origin (es ++ entry op c told ∷ []) h
  asked_by es h op c told z sp u n i = record {
    fine = state_spared contexts steps es h.machine op c told z sp i.fine;
    names = λ k j r a g side m. names_on (stay steps) es _ (own_of j) side (i.names k j r a g side m);
    udp_names = λ k j u a g. names_on (stay steps) es _ (own_of j) (udp_side u) (i.udp_names k j u a g);
    listens = listens_on es h op c told n i;
    new = λ x t. (handed_more es op c told x (i.new x t).0 (u x t), unmarked_unless es op c told x (i.new x t).1 z);
    unmade = λ e is. made_more es op (own_of line) c told z (i.unmade e is);
    joined = λ face p e. (let j = i.joined face p e in joined_on es h (entry op c told) face p j (unmarked_unless es op c told j.new j.fresh z));
    faulted = i.faulted;
    marked = λ handle p e r g. (let k = i.marked handle p e r g in record { above = k.above; told = k.told; mark = has_front es _ _ k.mark });
    making = i.making;
  }

  no_mark : (c : Call) → NoMark c → marked_by c ≡ 0
  no_mark (Call.Made handle kind parent sock) h = absurd h
  no_mark _ h = refl

  pub asked_fine : (es : List Entry) (h : Here) (op : OpId) (c : Call) (told : Told) → NoMark c → Spares h c → Licensed contexts steps line origin es h → Licensed contexts steps line origin (es ++ entry op c told ∷ []) h
  asked_fine es h op c told q n i = asked_by es h op c told (no_mark c q) (λ place r x e m. no_touch op c x q) (λ x t. no_touch op c x q) n i

  writer_is : (es : List Entry) (side at : OpId) (w : WriteState) → WritesOn steps es side w → writer_side w ≡ Some at → at ≡ side
  writer_is es side at (WriteState.Ready half permit) on e = some_same at half.side e ∙ on
  writer_is es side at (WriteState.Writing job) on e = by_end job.end e
    where
      by_end : (x : End) → writing_side job x ≡ Some at → at ≡ side
      by_end Waits p = some_same at job.write.who.side p ∙ on.on
      by_end (Done given) p = some_same at job.write.who.side p ∙ on.on
      by_end (Refused c given) p = absurd (cc)
  writer_is es side at (WriteState.Closing job) on e = by_end job.end e
    where
      by_end : (x : End) → closing_side job x ≡ Some at → at ≡ side
      by_end Waits p = some_same at job.write.who.side p ∙ on.on
      by_end (Done given) p = absurd (cc)
      by_end (Refused c given) p = absurd (cc)
  writer_is es side at (WriteState.Closed e) on p = absurd (cc)

  pub on_side : (es : List Entry) (r : TcpRecord) (side : OpId) → IsOn r side → RecordIsFine steps es r → side_of r.inner ≡ Some side
  on_side es r side (OfSocket e) f = e
  on_side es r side (OfReader s half e w p) f = let t = f.streams s e in held_side contexts steps line origin is_line es r s t ∙ ap (λ (x : OpId). Some x) (sym (sym p ∙ subst (ReadsOn t.side) w t.reads))
  on_side es r side (OfWriter s e w) f = let t = f.streams s e in held_side contexts steps line origin is_line es r s t ∙ ap (λ (x : OpId). Some x) (sym (writer_is es t.side side s.writer t.writes w))

  -- a line names the network socket that it asks of
  pub names_on_side : (es : List Entry) (h : Here) (place n : ℕ) (r : TcpRecord) (side : OpId) → h.at ≡ Some (place, n) → Found h place r → IsOn r side → Licensed contexts steps line origin es h → Names steps es (own_of n) side
  names_on_side es h place n r side at g o i = let f = i.fine.records place r g in i.names place n r at g side (f.named side (on_side es r side o f))

  -- a network socket that a record has is not that of a listen in progress
  pub not_held : (h : Here) (place : ℕ) (r : TcpRecord) (side : OpId) → Found h place r → side_of r.inner ≡ Some side → Named line h → (k : ℕ) (q : TcpRecord) (op : Operation) → Found h k q → q.listening ≡ Begins op → side ≡ op.who.side → ⊥
  not_held h place r side g p n k q op gq e eq =
      let d = n.held op k q gq e in
      let at : place ≡ k = n.one side place k r q g gq (inl (n.named side place r g p)) (inl (d.0 ∙ ap (λ (x : OpId). Some x) (sym eq))) in
      let same : r ≡ q = same_record r q (sym g ∙ (ap (tcp2_at h.machine.store.records) at ∙ gq)) in
      no_some side (sym d.1 ∙ (ap (λ (x : TcpRecord). side_of x.inner) (sym same) ∙ p))

  pub question_local : (n : ℕ) (side x : OpId) (c : Call) → IsQuestionOf line origin n side c → c ≡ Call.Local x → side ≡ x
  question_local n side x (Call.Local s) q e = let p : s ≡ x = cc in sym q ∙ p
  question_local n side x _ q e = absurd (cc)

  -- the line itself began the operation
  pub own_line : (n : ℕ) (Is : Step → Type 0) → n ≡ line → Is origin → BeganBy steps (own_of n) Is
  own_line n Is own is = record { origin = origin; at = subst (λ (k : ℕ). step_at steps k ≡ Some origin) (sym own) is_line; holds = is }

  pub question_may : (n : ℕ) (es : List Entry) (side : OpId) (c : Call) → IsQuestionOf line origin n side c → Names steps es (own_of n) side → MayAskSo contexts steps es (own_of n) c × NoMark c
  question_may n es side (Call.Local s) q k = (inl (subst (Names steps es (own_of n)) (sym q) k), tt)
  question_may n es side (Call.Peer s) q k = (inl (subst (Names steps es (own_of n)) (sym q) k), tt)
  question_may n es side (Call.GetOption s o) q k = ((inl (subst (Names steps es (own_of n)) (sym q.0) k), own_line n (IsGetOf o) q.1 q.2), tt)
  question_may n es side (Call.SetOption s o v) q k = ((inl (subst (Names steps es (own_of n)) (sym q.0) k), own_line n (IsSetTo o v) q.1 q.2), tt)
  question_may n es side (Call.Read s z) q k = (inl (subst (Names steps es (own_of n)) (sym q) k), tt)
  question_may n es side (Call.ReadReady s) q k = (inl (subst (Names steps es (own_of n)) (sym q) k), tt)
  question_may n es side (Call.WriteReady s) q k = (inl (subst (Names steps es (own_of n)) (sym q) k), tt)
  question_may n es side (Call.Shutdown s how) q k = (inl (subst (Names steps es (own_of n)) (sym q) k), tt)
  question_may n es side _ q k = absurd q

  pub learned_fine : (es : List Entry) (h : Here) (place : ℕ) (r : TcpRecord) (side : OpId) (told : Told) → Found h place r → r.inner.state ≡ TcpState.Default side → IsAddr told → Named line h → Licensed contexts steps line origin es h
      → (let fs = es ++ entry (own_of line) (Call.Local side) told ∷ [] in Licensed contexts steps line origin fs (put h place (with_inner r (after_local r.inner (told_addr told)).1)))
  learned_fine es h place r side told g e f b i =
      let fs : List Entry = es ++ entry (own_of line) (Call.Local side) told ∷ [] in
      let j = asked_fine es h (own_of line) (Call.Local side) told tt (λ k q op d l p. not_held h place r side g (ap side_in e) b k q op d l (local_side side op.who.side p)) i in
      let x = j.fine.records place r g in
      let l = learned_told contexts steps fs (own_of line) side r.inner told e f (has_last es _) x.socket in
      let now : TcpRecord = with_inner r (after_local r.inner (told_addr told)).1 in
      put_fine fs h place r now g refl (same_listening r.listening) (same_listen contexts steps line origin is_line r now refl l.keeps.maker l.keeps.family) (record_kept steps fs r now (record { keeps = l.keeps; side = refl; streams = refl; listening = refl; binds = inl refl }) l.fine x) j

  -- what asks quietly
  pub kept : {A : Type 0} (h : Here) (Q : List Entry → A → Type 0) (es : List Entry) (asks : Asks A) → Licensed contexts steps line origin es h → Allows (MayQuietly contexts steps) Q es asks → Allows (MayAskSo contexts steps) (λ fs a. Licensed contexts steps line origin fs h × Q fs a) es asks
  kept h Q es asks i a = allows_keep (MayQuietly contexts steps) (MayAskSo contexts steps) (λ fs. Licensed contexts steps line origin fs h) Q (λ fs op c t fits k m. asked_fine fs h op c t m.0.1 (spares h c m.1) k) (λ fs op c m. m.0.0) es asks i a
