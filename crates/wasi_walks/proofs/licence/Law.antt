-- The law that each ask is licensed, on the base law.
use Rattle.wasi_walks.proofs.licence.EndAsks.{result_marked, written_once}
use Rattle.std.specs.Prelude.{take}
use Rattle.wasi_walks.proofs.walks.Asked.{MarksResult, WritesOnce}
use Rattle.wasi_walks.proofs.licence.Wilds.{Wilds, moves_wild, put_wild, spent_wild}
use Rattle.wasi_walks.proofs.licence.WildAsks.{wilds_asks}
use Rattle.wasi_walks.proofs.licence.ListenMarks.{listener_marked, plain_marked}
use Rattle.wasi_walks.proofs.walks.Layers.{both}
use Rattle.wasi_walks.proofs.walks.Asked.{MarksListener, MarksPlain, Asked, Questions, SetsBacklog, Learns, Closes, MarksOne, AsksCreate, MarksAccepted, Polls, Turns, GivesUp, UdpQuestions, UdpDisconnects, UdpLearns, UdpPeers, UdpCloses, UdpBegins, MarksUdp, MarksStream, MarksError, UdpGivesUp, Resolves, Looks}
use Rattle.wasi_walks.proofs.walks.Asked.{BeginsDatagram, PollsBeside, ResolvesBeside, LooksBeside}
use Rattle.wasi_walks.proofs.Words.{made_to, Allows, Asks, Call, Entry, List, Not}
use Rattle.wasi_walks.proofs.Words.{Some, Step, WasiSocketsCtx, [], allows_then}
use Rattle.wasi_walks.proofs.Words.{allows_weaker, ap, entry, give_up_asks, inl}
use Rattle.wasi_walks.proofs.Words.{new_asks, own_of, refl, side_in, step_at}
use Rattle.wasi_walks.proofs.Words.{with_listening, ℕ, ⊤, ◌++◌, ◌∷◌, ◌≡◌}
use Rattle.wasi_walks.proofs.fits.Polls.{Anything}
use Rattle.wasi_world.proofs.Allowed.{reached}
use Rattle.wasi_walks.proofs.licence.Unbound.{MayAskSo}
use Rattle.wasi_walks.proofs.licence.Line.{Licensed, put_fine}
use Rattle.wasi_walks.proofs.claims.Law.{Base, begins_on_two, on_two, on_two_along}
use Rattle.wasi_walks.proofs.remotes.State.{Keeps, remotes_in}
use Rattle.wasi_walks.proofs.remotes.Law.{begins_kept, remotes}
use Rattle.wasi_walks.proofs.walks.Moves.{tcp_kind, closed_record, Here, OfSocket, Used, put}
use Rattle.wasi_walks.proofs.licence.Frames.{listening_gone}
use Rattle.wasi_walks.proofs.walks.Law.{BeginsWrites, Law, Rests, Walks, begins_by}
use Rattle.wasi_walks.proofs.licence.Moves.{begins_write, closed_fine, gone_maker, moves_fine}
use Rattle.wasi_walks.proofs.licence.Asked.{spares, asked_fine, on_side, names_on_side, not_held, question_local, question_may, learned_fine, kept}
use Rattle.wasi_walks.proofs.licence.Marks.{marked_fine, accepted_fine, CreatedIsFine, new_fine, joins}
use Rattle.wasi_walks.proofs.licence.UdpMarks.{stream_marked, udp_asked, udp_learned, udp_disconnected, udp_peered, udp_closed, udp_creates, udp_marked}
use Rattle.wasi_walks.proofs.licence.ErrorMarks.{error_marked}
use Rattle.wasi_walks.proofs.licence.UdpGoesOn.{udp_given_up}
use Rattle.wasi_walks.proofs.licence.LookupAsks.{looked_up, looked_on, looked_up_beside, looked_on_beside}
use Rattle.wasi_walks.proofs.licence.DatagramCalls.{datagram_begins, datagram_polls}
use Rattle.wasi_walks.proofs.licence.GoesOn.{taken_out, turned_fine, given_up, polls_fine}

module _ (contexts : List WasiSocketsCtx) (steps : List Step) (line : ℕ) (origin : Step) (is_line : step_at steps line ≡ Some origin) where
  pub licences_asks : (es : List Entry) (h : Here) (A : Type 0) (tree : Asks A) (end : A → Here)
      → Asked contexts line origin es h A tree end → Base contexts line origin h × Keeps es h.machine.store.records
      → Licensed contexts steps line origin es h
      → Allows (MayAskSo contexts steps) (λ fs x. (Licensed contexts steps line origin) fs (end x)) es tree
  licences_asks es h _ _ _ (Questions place n r side c at g o q) b i =
      let k = question_may contexts steps line origin is_line n es side c q.0 (names_on_side contexts steps line origin is_line es h place n r side at g o i) in
      let s = on_side contexts steps line origin is_line es r side o (i.fine.records place r g) in
      (k.0, λ told fits. asked_fine contexts steps line origin is_line es h (own_of n) c told k.1 (λ p z op d l e. not_held contexts steps line origin is_line h place r side g s b.0.1 p z op d l (question_local contexts steps line origin is_line n side op.who.side c q.0 e)) i)
  licences_asks es h _ _ _ (SetsBacklog place r side backlog at g s is) b i =
      let f = i.fine.records place r g in
      ((inl (i.names place line r at g side (f.named side (ap side_in s))), record { origin = origin; at = is_line; holds = is }, f.socket.listens side s), λ told fits. asked_fine contexts steps line origin is_line es h (own_of line) (Call.SetBacklog side backlog) told tt (spares contexts steps line origin is_line h (Call.SetBacklog side backlog) tt) i)
  licences_asks es h _ _ _ (Learns place r side at g e) b i = (inl (names_on_side contexts steps line origin is_line es h place line r side at g (OfSocket (ap side_in e)) i), λ told fits. learned_fine contexts steps line origin is_line es h place r side told g e fits b.0.1 i)
  licences_asks es h _ _ _ (Closes place r side q g e) b i = (
    tt,
    λ told fits.
        let fs = es ++ entry (own_of line) (Call.Close side) told ∷ [] in
        put_fine fs h place r (closed_record r) g refl (listening_gone r.listening) (gone_maker contexts steps line origin is_line r (closed_record r).inner) (closed_fine contexts steps line origin is_line fs r) (asked_fine contexts steps line origin is_line es h (own_of line) (Call.Close side) told tt (spares contexts steps line origin is_line h (Call.Close side) tt) i),
  )
  licences_asks es h _ _ _ (MarksOne kind parent sock m) b i = marked_fine contexts steps line origin is_line es h kind parent sock m i
  licences_asks es h _ _ _ (AsksCreate tells fails face ctx family c a o past) b i =
      allows_then (MayAskSo contexts steps) (λ fs made. Licensed contexts steps line origin fs h × CreatedIsFine contexts steps line origin is_line ctx.name family fs made) (λ fs done. Licensed contexts steps line origin fs (record h { machine = done.1; own = Used })) es (new_asks (own_of line) ctx family) (made_to tells fails (tcp_kind face) h.machine (own_of line))
      (kept contexts steps line origin is_line h (CreatedIsFine contexts steps line origin is_line ctx.name family) es (new_asks (own_of line) ctx family) i (new_fine contexts steps line origin is_line face es ctx family c)) (λ fs made k. joins contexts steps line origin is_line tells fails face fs h ctx family made c a o past k.1 b.0.1 k.0)
  licences_asks es h _ _ _ (MarksAccepted c s place r is e o g) b i = accepted_fine contexts steps line origin is_line es h c s place r is e o g b.0.1 i
  licences_asks es h _ _ _ (MarksPlain c s remaining place r is e o g) b i = plain_marked contexts steps line origin is_line es h c s remaining place r is e o g b.0.1 i
  licences_asks es h _ _ _ (MarksListener n handle reached place r q m g has e) b i = listener_marked contexts steps line origin is_line es h n handle reached place m e i
  licences_asks es h _ _ _ (MarksResult socket place slot r m made e g) b i = result_marked contexts steps line origin is_line es h socket place slot m e i
  licences_asks es h _ _ _ (WritesOnce c handle place given end r s half permit is e f at g q w own) b i = written_once contexts steps line origin is_line es h place (take 4294967295 given) r s half permit at g q w i
  licences_asks es h _ _ _ (Polls x0 x1 x2) b i = (polls_fine contexts steps line origin is_line) es h x0 x1 x2 b i
  licences_asks es h _ _ _ (BeginsDatagram place o call op polled at g starts made own) b i = datagram_begins contexts steps line origin is_line es h place o call op polled at g starts (remotes_in es h b.1 place o g) i
  licences_asks es h _ _ _ (PollsBeside n c place o call op polled is at g polls) b i = datagram_polls contexts steps line origin is_line es h n c place o call op polled at g polls b.0.3 (remotes_in es h b.1 place o g) i
  licences_asks es h _ _ _ (Turns place r s g e) b i = turned_fine contexts steps line origin is_line es h place r s g e i
  licences_asks es h _ _ _ (GivesUp place r q goes g) b i =
      allows_weaker (MayAskSo contexts steps) (λ fs done. Licensed contexts steps line origin fs h × ⊤) (λ fs done. Licensed contexts steps line origin fs (put h place (with_listening r Not))) (λ fs done k. taken_out contexts steps line origin is_line fs h place r g k.0) es (give_up_asks r.listening)
      (kept contexts steps line origin is_line h (λ fs done. ⊤) es (give_up_asks r.listening) i (given_up contexts steps line origin is_line es r.side r.listening (i.fine.records place r g).listening))
  licences_asks es h _ _ _ (UdpQuestions place n o c at g q) b i = (let a = udp_asked contexts steps line origin is_line es h place n o c at g q i in (a.0, λ told fits. a.1 told))
  licences_asks es h _ _ _ (UdpDisconnects place o at g is) b i = (let k = udp_disconnected contexts steps line origin is_line es h place o at g is i in (k.0, λ told fits. k.1 told))
  licences_asks es h _ _ _ (UdpLearns place part o at g) b i = udp_learned contexts steps line origin is_line es h place part o at g i
  licences_asks es h _ _ _ (UdpPeers place o at g) b i = (let a = udp_peered contexts steps line origin is_line es h place o at g i in (a.0, λ told fits. a.1 told))
  licences_asks es h _ _ _ (UdpCloses place n o q g) b i = (tt, λ told fits. udp_closed contexts steps line origin is_line es h place n o told g i)
  licences_asks es h _ _ _ (UdpBegins face ctx family c may a o past) b i = udp_creates contexts steps line origin is_line face es h ctx family c may a past i
  licences_asks es h _ _ _ (MarksUdp face place u g) b i = udp_marked contexts steps line origin is_line es h face place u g i
  licences_asks es h _ _ _ (MarksStream place n handle reached kind m new e) b i = stream_marked contexts steps line origin is_line es h place n handle reached kind m e i
  licences_asks es h _ _ _ (MarksError n handle place handles m k e f) b i = error_marked contexts steps line origin is_line es h n handle place handles m k e f i
  licences_asks es h _ _ _ (UdpGivesUp place create q g) b i = udp_given_up contexts steps line origin is_line es h place create g i
  licences_asks es h _ _ _ (Resolves host records l same) b i = (let a = looked_up contexts steps line origin is_line es h host l i in (a.0, λ told fits. a.1 told (records told) (same told)))
  licences_asks es h _ _ _ (Looks place op g) b i = (let a = looked_on contexts steps line origin is_line es h place op g i in (a.0, λ told fits. a.1 told))
  licences_asks es h _ _ _ (ResolvesBeside host l) b i = (let a = looked_up_beside contexts steps line origin is_line es h host l i in (a.0, λ told fits. a.1 told))
  licences_asks es h _ _ _ (LooksBeside n call host g e) b i = (let a = looked_on_beside contexts steps line origin is_line es h n call host g e i in (a.0, λ told fits. a.1 told))

  unfoldable pub licences : Rests contexts line origin (λ es h. Base contexts line origin h × Keeps es h.machine.store.records)
  licences = record {
    P = MayAskSo contexts steps;
    Inv = λ es h. Wilds line es h × Licensed contexts steps line origin es h;
    moves = λ es h now m b i. (moves_wild origin es h now m i.0, moves_fine contexts steps line origin is_line es h now m b.0 i.0 i.1);
    asks = λ es h A tree end q b i. both (MayAskSo contexts steps) Anything _ _ es tree (licences_asks es h A tree end q b i.1) (wilds_asks contexts steps line origin is_line es h A tree end q b i.1 i.0);
  }

  pub begins_licences : BeginsWrites licences
  unfolding licences
  begins_licences = begins_by licences (λ es h place n r s half permit bytes at g e w within used b i. (spent_wild (put_wild h place r _ g (λ side d u. (d, u, refl)) i.0), begins_write contexts steps line origin is_line es h place n r s half permit bytes at g e w i.1))

  pub licence : Law contexts line origin
  unfolding remotes
  licence = on_two contexts line origin (remotes contexts line origin) licences

  -- and so is each write that begins in a call of streams
  pub begins_licence : BeginsWrites licence
  unfolding licence licences remotes
  begins_licence = begins_on_two contexts line origin (remotes contexts line origin) licences (begins_kept contexts line origin) begins_licences

  -- what it says of a tree
  pub licence_along : {A : Type 0} {h : Here} {end : A → Here} {asks : Asks A} → Walks licence h end asks → (es : List Entry) → Base contexts line origin h → Keeps es h.machine.store.records → Wilds line es h × Licensed contexts steps line origin es h
      → Allows (MayAskSo contexts steps) (λ fs a. (Base contexts line origin (end a) × Keeps fs (end a).machine.store.records) × (Wilds line fs (end a) × Licensed contexts steps line origin fs (end a))) es asks
  unfolding licence licences remotes
  licence_along w es b k i = on_two_along contexts line origin (remotes contexts line origin) licences w es b k i
