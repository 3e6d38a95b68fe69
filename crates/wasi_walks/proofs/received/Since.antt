-- The law that what the incoming streams of a network socket hold was received after the marks of their handles.
use Rattle.wasi_walks.proofs.walks.Asked.{MarksResult, WritesOnce}
use Rattle.host_store.specs.declared.kind.Kind.TheVariants.{Result3}
use Rattle.wasi_walks.proofs.walks.Asked.{Asked, Questions, SetsBacklog, Learns, Closes, MarksOne, AsksCreate, MarksAccepted, MarksListener, MarksPlain, Polls, Turns, GivesUp, UdpQuestions, UdpDisconnects, UdpLearns, UdpPeers, UdpCloses, UdpBegins, MarksUdp, MarksStream, MarksError, UdpGivesUp, Resolves, Looks}
use Rattle.wasi_walks.proofs.walks.Asked.{BeginsDatagram, PollsBeside, ResolvesBeside, LooksBeside}
use Rattle.wasi_walks.proofs.walks.Moves.{datagram_begun, datagram_polled, with_beside}
use Rattle.wasi_walks.proofs.Words.{made_to, Allows, Asks, Call, Entry, Err, ErrorCode, ErrorValue, Full, HandleTable, Kind, List, None, Not, Ok, OpId, Option, Result, Socket, Some, Step, Stop, Tcp2, Told, Trap, WasiSocketsCtx, []}
use Rattle.wasi_walks.proofs.Words.{allows_if, allows_keep, allows_then, allows_weaker, ap, arith, bind, entry, give_up_asks, inl, inr, is_full, kind_at, length, length-append, make_asks, name_of, new_asks, new_record, own_of, poll_asks}
use Rattle.wasi_walks.proofs.Words.{refl, side_of, subst, sym, told_done, turn_asks, with_handle, with_listening, with_writer, ℕ, ◌++◌, ◌∷◌, ◌≡◌, ◌⊎◌}
use Rattle.wasi_udp.specs.Create.{create_cancel_asks, after_create as udp_after_create}
use Rattle.host_store.specs.Kinds.{udp_kind, udp_of}
use Rattle.wasi_records.specs.Records.{tcp2_pushed, udp2_at}
use Rattle.udp_records.specs.Udp.{udp_side}
use Rattle.host_udp.specs.UdpCreates.{udp_side_at}
use Rattle.host_store.specs.declared.kind.Kind.TheVariants.{Incoming}
use Rattle.wasi_records.specs.declared.records.Record.{Record}
use Rattle.udp_records.specs.declared.udp.OpenUdp.{OpenUdp}
use Rattle.udp_records.specs.declared.udp.UdpRecord.{UdpRecord}
use Rattle.wasi_walks.proofs.claims.Law.{begins_on_two, Base, on_two, on_two_along}
use Rattle.wasi_walks.proofs.fits.Polls.{Anything}
use Rattle.wasi_walks.proofs.remotes.Law.{begins_kept, remotes}
use Rattle.wasi_walks.proofs.remotes.State.{Keeps}
use Rattle.wasi_walks.proofs.received.Handles.{AreUnder, MakesUnder, Under, begun_same, makes_more, moves_under, polled_same, under_so}
use Rattle.wasi_walks.proofs.received.Late.{IncomingLate}
use Rattle.wasi_walks.proofs.received.Law.{along, lates}
use Rattle.wasi_walks.proofs.received.Marks.{AreEarly, NotIncoming, Since, are_early_more, early_new, early_other, is_other, moves_early}
use Rattle.wasi_walks.proofs.received.Polls.{NoName}
use Rattle.wasi_walks.proofs.received.Silent.{new_silent}
use Rattle.wasi_walks.proofs.received.State.{IsHeld, Late, OneEach, one_late, put_later, push_tcp, put_tcp, same_or_not}
use Rattle.wasi_walks.proofs.walks.Law.{BeginsWrites, Law, Rests, Walks, begins_by}
use Rattle.host_store.specs.declared.kind.Kind.TheVariants.{Listen3, Tcp3}
use Rattle.wasi_walks.proofs.walks.Moves.{Interface, P2, P3, tcp_kind, HasNewStream, Here, Made, MarksNext, Past, ToSend, Used, made_so, put, put_udp, udp_begun}
use Rattle.wasi_walks.proofs.Places.{put_again, udp_sort}

module _ (side : OpId) (from : ℕ) where
  abbrev pub SinceIn : List Entry → Here → Type 0
  SinceIn es h = Since side from es h.machine.store.records h.machine.table

  abbrev pub Inv : List Entry → Here → Type 0
  Inv es h = SinceIn es h × Under h

  -- under more entries, where the table stays
  longer : (es fs : List Entry) (records now : List Record) (t : HandleTable) (s : Since side from es records t) → Late side s.start (es ++ fs) now → Since side from (es ++ fs) now t
  longer es fs records now t s l = record { start = s.start; on = s.on; late = l; early = are_early_more side s.start s.start es fs t (omega arith) s.early }

  -- along a tree
  kept : {A : Type 0} (h : Here) (end : A → Here) (es : List Entry) (asks : Asks A) (i : Inv es h)
      → ((a : A) → Under (end a)) → ((fs : List Entry) (a : A) → AreEarly side i.0.start fs h.machine.table → AreEarly side i.0.start fs (end a).machine.table)
      → Allows Anything (λ fs a. Late side i.0.start fs (end a).machine.store.records) es asks → Allows Anything (λ fs a. Inv fs (end a)) es asks
  kept h end es asks i under early l =
      allows_weaker Anything (λ fs a. AreEarly side i.0.start fs h.machine.table × Late side i.0.start fs (end a).machine.store.records) (λ fs a. Inv fs (end a))
      (λ fs a k. (record { start = i.0.start; on = i.0.on; late = k.1; early = early fs a k.0 }, under a)) es asks
      (allows_keep Anything Anything (λ fs. AreEarly side i.0.start fs h.machine.table) (λ fs a. Late side i.0.start fs (end a).machine.store.records) (λ fs op c t fits m n. are_early_more side i.0.start i.0.start fs _ h.machine.table (omega arith) m) (λ fs op c n. tt) es asks i.0.early l)

  -- == a mark
  -- with what the line has made afterwards
  marks_so : (es : List Entry) (h : Here) (op : OpId) (kind : Kind) (parent : Option ℕ) (sock : Option OpId) (so : Result ℕ Stop → Made) → NotIncoming side kind → MakesUnder h.machine.table (so (Err (Trap Full))) → MakesUnder (with_handle h.machine.table kind parent) (so (Ok h.machine.table.next)) → Inv es h
      → Allows Anything (λ fs made. Inv fs (record h { machine = record h.machine { table = made.1 }; made = so made.0 })) es (make_asks h.machine.table op kind parent sock)
  unfolding bind
  marks_so es h op kind parent sock so not full room i =
      allows_if Anything (λ fs made. Inv fs (record h { machine = record h.machine { table = made.1 }; made = so made.0 })) es (is_full h.machine.table) _ _
      (λ no. (record { start = i.0.start; on = i.0.on; late = i.0.late; early = i.0.early }, record { older = i.1.older; makes = full; stands = i.1.stands }))
      (λ free. (
        tt,
        λ told f. (
          record {
            start = i.0.start;
            on = i.0.on;
            late = one_late side i.0.start es op (Call.Made h.machine.table.next (name_of kind) parent sock) told h.machine.store.records (λ x. tt) i.0.late;
            early = early_other side i.0.start _ h.machine.table kind parent not (are_early_more side i.0.start i.0.start es _ h.machine.table (omega arith) i.0.early);
          },
          under_so h.machine.table kind parent (so (Ok h.machine.table.next)) h.machine.store.standing i.1.older room i.1.stands,
        ),
      ))

  marks_other : (es : List Entry) (h : Here) (op : OpId) (kind : Kind) (parent : Option ℕ) (sock : Option OpId) → NotIncoming side kind → Inv es h → Allows Anything (λ fs made. Inv fs (record h { machine = record h.machine { table = made.1 } })) es (make_asks h.machine.table op kind parent sock)
  marks_other es h op kind parent sock not i = marks_so es h op kind parent sock (λ made. h.made) not i.1.makes (makes_more h.machine.table kind parent h.made i.1.makes) i

  -- that of a new stream
  module _ (es : List Entry) (h : Here) (place n handle : ℕ) (one : OneEach h.machine.store.records) (o : OpenUdp) (at : udp2_at h.machine.store.records place ≡ Some (UdpRecord.Open o)) (i : Inv es h) where
    abbrev marked : Option OpId → Told → Entry
    marked sock told = entry (own_of n) (Call.Made h.machine.table.next (name_of (Incoming place)) (Some handle) sock) told

    abbrev table : HandleTable
    table = with_handle h.machine.table (Incoming place) (Some handle)

    -- nothing is held, so any later place will do
    emptied : (fs : List Entry) → o.inner.side ≡ side → IncomingLate (length fs) fs side o.incoming → Late side (length fs) fs h.machine.store.records
    emptied fs is holds = subst (Late side (length fs) fs) (put_again udp_sort h.machine.store.records place (UdpRecord.Open o) at) (put_later side (length fs) fs h.machine.store.records place o o one at is (omega arith) (λ q. holds))

    since : (told : Told) → ((fs : List Entry) → IncomingLate (length fs) fs side o.incoming) → (o.inner.side ≡ side) ⊎ (o.inner.side ≡ side → ⊥) → (let e : Entry = marked (Some o.inner.side) told in Since side from (es ++ e ∷ []) h.machine.store.records table)
    since told none (inl is) =
        let e : Entry = marked (Some o.inner.side) told in
        let p = length-append es (e ∷ []) in
        let l = i.0.late.long in
        let on = i.0.on in
        record {
          start = length (es ++ e ∷ []);
          on = omega (arith, p, l, on);
          late = emptied (es ++ e ∷ []) is (none (es ++ e ∷ []));
          early = early_new side i.0.start (length (es ++ e ∷ [])) es h.machine.table (own_of n) (Incoming place) (Some handle) o.inner.side told (omega (arith, p, l)) (λ q. omega (arith, p)) i.0.early;
        }
    since told none (inr not) =
        let e : Entry = marked (Some o.inner.side) told in
        record {
          start = i.0.start;
          on = i.0.on;
          late = one_late side i.0.start es (own_of n) e.call told h.machine.store.records (λ x. tt) i.0.late;
          early = early_new side i.0.start i.0.start es h.machine.table (own_of n) (Incoming place) (Some handle) o.inner.side told (omega arith) (λ q. absurd (not q)) i.0.early;
        }

    marks_new : (reached : ℕ) → ((fs : List Entry) → IncomingLate (length fs) fs side o.incoming) → Allows Anything (λ fs made. Inv fs (record h { machine = record h.machine { table = made.1 }; made = ToSend n handle reached })) es (make_asks h.machine.table (own_of n) (Incoming place) (Some handle) (Some o.inner.side))
    unfolding bind
    marks_new reached none =
        allows_if Anything (λ fs made. Inv fs (record h { machine = record h.machine { table = made.1 }; made = ToSend n handle reached })) es (is_full h.machine.table) _ _
        (λ no. (record { start = i.0.start; on = i.0.on; late = i.0.late; early = i.0.early }, record { older = i.1.older; makes = tt; stands = i.1.stands }))
        (λ free. (tt, λ told f. (since told none (same_or_not o.inner.side side), under_so h.machine.table (Incoming place) (Some handle) (ToSend n handle reached) h.machine.store.standing i.1.older tt i.1.stands)))

  streams_so : (es : List Entry) (h : Here) (place n handle reached : ℕ) (kind : Kind) → MarksNext h.made n handle reached kind place → HasNewStream h.machine.store reached → udp_of (kind_at h.machine.table handle) ≡ Some place → OneEach h.machine.store.records → Inv es h
      → Allows Anything (λ fs made. Inv fs (record h { machine = record h.machine { table = made.1 }; made = ToSend n handle reached })) es (make_asks h.machine.table (own_of n) kind (Some handle) (udp_side_at (udp2_at h.machine.store.records place)))
  streams_so es h place n handle reached kind (inr m) new of one i = marks_so es h (own_of n) kind (Some handle) _ (λ made. ToSend n handle reached) (subst (NotIncoming side) (sym m.0) tt) tt tt i
  streams_so es h place n handle reached kind (inl (e, made)) new of one i =
      let same : place ≡ reached = (subst (MakesUnder h.machine.table) made i.1.makes).of place of in
      let at : udp2_at h.machine.store.records place ≡ Some (UdpRecord.Open new.socket) = subst (λ (x : ℕ). udp2_at h.machine.store.records x ≡ Some (UdpRecord.Open new.socket)) (sym same) new.at in
      let A : Kind → Option OpId → Type 0 = λ k sock. Allows Anything (λ fs made. Inv fs (record h { machine = record h.machine { table = made.1 }; made = ToSend n handle reached })) es (make_asks h.machine.table (own_of n) k (Some handle) sock) in
      subst (λ (k : Kind). A k (udp_side_at (udp2_at h.machine.store.records place))) (sym e)
      (subst (A (Incoming place)) (sym (ap udp_side_at at)) (marks_new es h place n handle one new.socket at i reached (λ fs. subst (IncomingLate (length fs) fs side) (sym new.new) tt)))

  -- the handle of a TCP socket is no incoming stream's
  other_kind : (face : Interface) (place : ℕ) → NotIncoming side (tcp_kind face place)
  other_kind P2 place = tt
  other_kind P3 place = tt

  -- nor is that of a UDP socket
  udp_other : (face : Interface) (place : ℕ) → NotIncoming side (udp_kind face place)
  udp_other P2 place = tt
  udp_other P3 place = tt

  -- == a create
  joins : {T : Type 0} (tells : Result ℕ Stop → T) (fails : ErrorCode → T) (face : Interface) (es : List Entry) (h : Here) (own : OpId) (made : Result Socket ErrorCode) → h.made ≡ Past → Inv es h → Allows Anything (λ fs done. Inv fs (record h { machine = done.1; own = Used })) es (made_to tells fails (tcp_kind face) h.machine own made)
  joins tells fails face es h own (Err c) past i = i
  joins tells fails face es h own (Ok socket) past i =
      let next : Here = record h { machine = record h.machine { store = record h.machine.store { records = tcp2_pushed h.machine.store.records (new_record socket) } } } in
      allows_then Anything (λ fs made. Inv fs (record next { machine = record next.machine { table = made.1 } })) (λ fs done. Inv fs (record h { machine = done.1; own = Used })) es (make_asks h.machine.table own (tcp_kind face (length h.machine.store.records)) None (side_of socket)) _
      (marks_other es next own (tcp_kind face (length h.machine.store.records)) None (side_of socket) (other_kind face (length h.machine.store.records)) (record { start = i.0.start; on = i.0.on; late = push_tcp side i.0.start es _ (new_record socket) i.0.late; early = i.0.early }, i.1)) (λ fs made k. k)

  module _ (contexts : List WasiSocketsCtx) (line : ℕ) (origin : Step) where
    -- the law: the calls may be any
    sinces_asks : (es : List Entry) (h : Here) (A : Type 0) (tree : Asks A) (end : A → Here)
        → Asked contexts line origin es h A tree end → Base contexts line origin h × Keeps es h.machine.store.records
        → Inv es h → Allows (Anything) (λ fs x. (λ (es : List Entry) (h : Here). Inv es h) fs (end x)) es tree
    unfolding lates
    sinces_asks es h _ _ _ (Questions place n r x c at g o q) b i = (tt, λ told f. (longer es _ _ _ _ i.0 (((lates side i.0.start contexts line origin).asks es h _ _ _ (Questions place n r x c at g o q) b i.0.late).1 told f), i.1))
    sinces_asks es h _ _ _ (SetsBacklog place r x backlog at g s is) b i = (tt, λ told f. (longer es _ _ _ _ i.0 (((lates side i.0.start contexts line origin).asks es h _ _ _ (SetsBacklog place r x backlog at g s is) b i.0.late).1 told f), i.1))
    sinces_asks es h _ _ _ (Learns place r x at g e) b i = (tt, λ told f. (longer es _ _ _ _ i.0 (((lates side i.0.start contexts line origin).asks es h _ _ _ (Learns place r x at g e) b i.0.late).1 told f), i.1))
    sinces_asks es h _ _ _ (Closes place r x q g e) b i = (tt, λ told f. (longer es _ _ _ _ i.0 (((lates side i.0.start contexts line origin).asks es h _ _ _ (Closes place r x q g e) b i.0.late).1 told f), i.1))
    sinces_asks es h _ _ _ (MarksOne kind parent sock m) b i = marks_other es h (own_of line) kind parent sock (is_other side origin h kind parent sock m) i
    sinces_asks es h _ _ _ (AsksCreate tells fails face ctx family c a o m) b i =
        allows_then Anything (λ fs made. Inv fs h) (λ fs done. Inv fs (record h { machine = done.1; own = Used })) es (new_asks (own_of line) ctx family) (made_to tells fails (tcp_kind face) h.machine (own_of line))
        (kept h (λ made. h) es (new_asks (own_of line) ctx family) i (λ made. i.1) (λ fs made k. k) (along side i.0.start h.machine.store.records es (new_asks (own_of line) ctx family) i.0.late (new_silent side (IsHeld side h.machine.store.records) NoName es (own_of line) ctx family)))
        (λ fs made k. joins tells fails face fs h (own_of line) made m k)
    sinces_asks es h _ _ _ (MarksAccepted c s place r is e o g) b i = marks_so es h (own_of line) (Tcp2 place) (Some s) _ (made_so place) tt tt tt i
    sinces_asks es h _ _ _ (MarksPlain c s remaining place r is e o g) b i = marks_so es h (own_of line) (Tcp3 place) (Some s) _ (λ made. Past) tt tt tt i
    sinces_asks es h _ _ _ (MarksListener n handle reached place r q m g has e) b i = marks_so es h (own_of n) (Listen3 place) (Some handle) _ (λ made. Past) tt tt tt i
    sinces_asks es h _ _ _ (MarksResult socket place slot r m made e g) b i = marks_so es h (own_of line) (Result3 slot) (Some socket) _ (λ made. Past) tt tt tt i
    sinces_asks es h _ _ _ (WritesOnce c handle place given end r s half permit is e f at g q w own) b i = kept h (λ told. record h { own = Used }) es _ i (λ done. i.1) (λ fs done k. k) ((lates side i.0.start contexts line origin).asks es h _ _ _ (WritesOnce c handle place given end r s half permit is e f at g q w own) b i.0.late)
    sinces_asks es h _ _ _ (Polls op after k) b i = kept h after es (poll_asks op) i (λ end. polled_same (λ t made standing. AreUnder t made standing) h op after k end i.1) (λ fs end. polled_same (λ t made standing. AreEarly side i.0.start fs t) h op after k end) ((lates side i.0.start contexts line origin).asks es h _ _ _ (Polls op after k) b i.0.late)
    sinces_asks es h _ _ _ (BeginsDatagram place o call op polled at g starts made own) b i =
        kept h (λ ended. record (with_beside h (datagram_begun h.machine.store.beside line call op ended)) { own = Used }) es (poll_asks polled) i (λ done. i.1) (λ fs done k. k) ((lates side i.0.start contexts line origin).asks es h _ _ _ (BeginsDatagram place o call op polled at g starts made own) b i.0.late)
    sinces_asks es h _ _ _ (PollsBeside n c place o call op polled is at g polls) b i =
        kept h (λ ended. with_beside h (datagram_polled h.machine.store.beside n call op ended)) es (poll_asks polled) i (λ done. i.1) (λ fs done k. k) ((lates side i.0.start contexts line origin).asks es h _ _ _ (PollsBeside n c place o call op polled is at g polls) b i.0.late)
    sinces_asks es h _ _ _ (Turns place r s g e) b i = kept h (λ done. put h place (with_writer r s done.1)) es (turn_asks s.writer) i (λ done. i.1) (λ fs done k. k) ((lates side i.0.start contexts line origin).asks es h _ _ _ (Turns place r s g e) b i.0.late)
    sinces_asks es h _ _ _ (GivesUp place r q goes g) b i = kept h (λ done. put h place (with_listening r Not)) es (give_up_asks r.listening) i (λ done. i.1) (λ fs done k. k) ((lates side i.0.start contexts line origin).asks es h _ _ _ (GivesUp place r q goes g) b i.0.late)
    sinces_asks es h _ _ _ (UdpQuestions place n o c at g q) b i = (tt, λ told f. (longer es _ _ _ _ i.0 (((lates side i.0.start contexts line origin).asks es h _ _ _ (UdpQuestions place n o c at g q) b i.0.late).1 told f), i.1))
    sinces_asks es h _ _ _ (UdpLearns place part o at g) b i = (tt, λ told f. (longer es _ _ _ _ i.0 (((lates side i.0.start contexts line origin).asks es h _ _ _ (UdpLearns place part o at g) b i.0.late).1 told f), i.1))
    sinces_asks es h _ _ _ (UdpDisconnects place o at g is) b i = (tt, λ told f. (longer es _ _ _ _ i.0 (((lates side i.0.start contexts line origin).asks es h _ _ _ (UdpDisconnects place o at g is) b i.0.late).1 told f), i.1))
    sinces_asks es h _ _ _ (UdpPeers place o at g) b i = (tt, λ told f. (longer es _ _ _ _ i.0 (((lates side i.0.start contexts line origin).asks es h _ _ _ (UdpPeers place o at g) b i.0.late).1 told f), i.1))
    sinces_asks es h _ _ _ (UdpCloses place n o q g) b i = (tt, λ told f. (longer es _ _ _ _ i.0 (((lates side i.0.start contexts line origin).asks es h _ _ _ (UdpCloses place n o q g) b i.0.late).1 told f), i.1))
    sinces_asks es h _ _ _ (UdpBegins face ctx family c may a o m) b i = (
      tt,
      λ told f.
          let begun = udp_after_create (own_of line) ctx.name family (told_done told) in
          let s = longer es _ _ _ _ i.0 (((lates side i.0.start contexts line origin).asks es h _ _ _ (UdpBegins face ctx family c may a o m) b i.0.late).1 told f) in
          (begun_same (λ t made standing. Since side from (es ++ entry (own_of line) (Call.UdpCreate ctx.name family) told ∷ []) (udp_begun h begun).machine.store.records t) h begun s, begun_same (λ t made standing. AreUnder t made standing) h begun i.1),
    )
    sinces_asks es h _ _ _ (MarksUdp face place u g) b i = marks_so es h (udp_side u) (udp_kind face place) None (Some (udp_side u)) (λ made. Past) (udp_other face place) tt tt i
    sinces_asks es h _ _ _ (MarksStream place n handle reached kind m new e) b i = streams_so es h place n handle reached kind m new e (λ x y p q a c z. b.0.1.udps.one q.inner.side x y (UdpRecord.Open p) (UdpRecord.Open q) a c z refl) i
    sinces_asks es h _ _ _ (MarksError n handle place handles m k e f) b i = marks_other es h (own_of n) ErrorValue (Some handle) _ tt i
    sinces_asks es h _ _ _ (UdpGivesUp place create q g) b i = kept h (λ done. put_udp h place (UdpRecord.Closed create.operation.who.side)) es (create_cancel_asks create) i (λ done. i.1) (λ fs done k. k) ((lates side i.0.start contexts line origin).asks es h _ _ _ (UdpGivesUp place create q g) b i.0.late)
    sinces_asks es h _ _ _ (Resolves host records l same) b i = (tt, λ told f. (longer es _ _ _ _ i.0 (((lates side i.0.start contexts line origin).asks es h _ _ _ (Resolves host records l same) b i.0.late).1 told f), i.1))
    sinces_asks es h _ _ _ (Looks place op g) b i = (tt, λ told f. (longer es _ _ _ _ i.0 (((lates side i.0.start contexts line origin).asks es h _ _ _ (Looks place op g) b i.0.late).1 told f), i.1))
    sinces_asks es h _ _ _ (ResolvesBeside host l) b i = (tt, λ told f. (longer es _ _ _ _ i.0 (((lates side i.0.start contexts line origin).asks es h _ _ _ (ResolvesBeside host l) b i.0.late).1 told f), i.1))
    sinces_asks es h _ _ _ (LooksBeside n call host g e) b i = (tt, λ told f. (longer es _ _ _ _ i.0 (((lates side i.0.start contexts line origin).asks es h _ _ _ (LooksBeside n call host g e) b i.0.late).1 told f), i.1))

    unfoldable sinces : Rests contexts line origin (λ es h. Base contexts line origin h × Keeps es h.machine.store.records)
    unfolding lates
    sinces = record {
      P = Anything;
      Inv = λ es h. Inv es h;
      moves = λ es h now m b i. (record { start = i.0.start; on = i.0.on; late = (lates side i.0.start contexts line origin).moves es h now m b i.0.late; early = moves_early side i.0.start es h now m i.0.early }, moves_under h now m i.1);
      asks = sinces_asks;
    }

    pub since_law : Law contexts line origin
    unfolding remotes
    since_law = on_two contexts line origin (remotes contexts line origin) sinces

    -- a write that begins in a call of streams
    pub begins_since : BeginsWrites since_law
    unfolding since_law sinces remotes
    begins_since = begins_on_two contexts line origin (remotes contexts line origin) sinces (begins_kept contexts line origin) (begins_by sinces (λ es h place n r s half permit bytes at g e w within used b i. (record { start = i.0.start; on = i.0.on; late = put_tcp side i.0.start es _ place _ i.0.late; early = i.0.early }, i.1)))

    -- what it says of a tree
    pub since_along : {A : Type 0} {h : Here} {end : A → Here} {asks : Asks A} → Walks since_law h end asks → (es : List Entry) → Base contexts line origin h → Keeps es h.machine.store.records → Inv es h
        → Allows Anything (λ fs a. (Base contexts line origin (end a) × Keeps fs (end a).machine.store.records) × Inv fs (end a)) es asks
    unfolding since_law sinces remotes
    since_along w es b k i = on_two_along contexts line origin (remotes contexts line origin) sinces w es b k i
