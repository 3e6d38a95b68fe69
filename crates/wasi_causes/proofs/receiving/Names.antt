-- The law that names of receives in progress are apart, from one another and from those of connects and writes.
use Rattle.wasi_walks.proofs.walks.Law.{BeginsWrites, InCall, Rests}
use Rattle.wasi_causes.proofs.Words.{Allows, Done, End, Entry, Err, ErrorCode, Item, Job, List, None, Ok, Operation, Option, Refused, Result, Some, Step, TcpRecord, Waits, WasiSocketsCtx, WriteState, allows_then, ap, arith, inl, inr, job_asks, job_in, own_of, poll_asks, refl, subst, sym, turn_asks, with_writer, ℕ, ⊤, ◌+◌, ◌∙◌, ◌≡◌}
use Rattle.wasi_udp.specs.Create.{Create, after_create as udp_after_create}
use Rattle.udp_records.specs.Datagrams.{udp_connect_left, udp_reconnect_left}
use Rattle.udp_records.specs.Receiving.{receive_left, with_receiving}
use Rattle.udp_records.specs.Udp.{udp_create_left}
use Rattle.udp_records.specs.declared.datagrams.Receiving.{Receiving}
use Rattle.udp_records.specs.declared.udp.OpenUdp.{OpenUdp}
use Rattle.udp_records.specs.declared.udp.UdpRecord.{UdpRecord}
use Rattle.wasi_walks.proofs.Words.{allows_weaker}
use Rattle.wasi_walks.proofs.fits.Law.{whatever}
use Rattle.wasi_walks.proofs.fits.Polls.{Anything}
use Rattle.wasi_walks.proofs.walks.Here.{grows_to, next_given, next_grows, next_to_come, not_given, older_unused, older_used}
use Rattle.wasi_walks.proofs.walks.Moves as walk
use Rattle.wasi_walks.proofs.walks.Moves.{FoundUdp, Held, Here, Move, Names, Own, ToConnect, Unused, Used, joined, part_of, put, put_udp, udp_begun}
use Rattle.wasi_causes.proofs.receiving.Named.{GivesLater, IsFirst, NamesApart, begins_apart, connect_name, job_name, kept_name, moves_first, name_of_op, owns_apart, polled_name, push_tcp, push_udps, put_tcp, put_udps, receive_name, same_apart, fewer_apart, streams_name}
use Rattle.wasi_walks.proofs.walks.OfState.{DatagramBegan, Becomes, Created, CreatedWith, GivenUp, IsClosed, Learnt, OfState, Resolved, UdpBegun}
use Rattle.wasi_walks.proofs.walks.OfState.{UdpGivenUp, UdpIsClosed, UdpLearnt, Writing, begins_state, of_state}
use Rattle.wasi_records.specs.Records.{tcp2_pushed}
use Rattle.wasi_causes.proofs.Words.{Streams}
use Rattle.wasi_walks.proofs.PipeLists.{slot_push_same}
use Rattle.tcp_records.specs.Ends.{ends_of}

module _ (contexts : List WasiSocketsCtx) (line : ℕ) (origin : Step) where
  abbrev pub Apart : Here → Type 0
  Apart h = NamesApart line h.own h.machine.store.records

  -- a half is taken
  ends_first : (o : Option Streams) → IsFirst (streams_name o) → IsFirst (job_name (ends_of o).writer)
  ends_first None f = tt
  ends_first (Some s) f = f

  -- the streams are as they were
  pub tcp_stays : (h : Here) (place : ℕ) (r now : TcpRecord) → walk.Found h place r → now.streams ≡ r.streams → Apart h → Apart (put h place now)
  tcp_stays h place r now g e i = put_tcp line h.own h.machine.store.records place now (subst (λ (s : Option _). IsFirst (streams_name s)) (sym e) (i.writes place r g)) i

  -- the line has begun something
  pub used : (h : Here) → Apart h → Apart (record h { own = Used })
  used h i = owns_apart line h.own Used h.machine.store.records (older_used line h.own) tt i

  -- its connect goes on
  connects : (h : Here) (place : ℕ) → Apart h → Apart (record h { own = ToConnect place })
  connects h place i = owns_apart line h.own (ToConnect place) h.machine.store.records (older_used line h.own) tt i

  tcp_used : (h : Here) (place : ℕ) (r now : TcpRecord) → walk.Found h place r → now.streams ≡ r.streams → Apart h → Apart (record (put h place now) { own = Used })
  tcp_used h place r now g e i = used (put h place now) (tcp_stays h place r now g e i)

  pub tcp_none : (h : Here) (place : ℕ) (now : TcpRecord) → now.streams ≡ None → Apart h → Apart (put h place now)
  tcp_none h place now e i = put_tcp line h.own h.machine.store.records place now (subst (λ (s : Option _). IsFirst (streams_name s)) (sym e) tt) i

  -- a UDP socket whose receive and connect are as they were
  pub udp_stays : (h : Here) (place : ℕ) (o now : OpenUdp) → FoundUdp h place (UdpRecord.Open o) → now.incoming ≡ o.incoming → now.connecting ≡ o.connecting → Apart h → Apart (put_udp h place (UdpRecord.Open now))
  udp_stays h place o now g e f i =
      put_udps line h.own h.machine.store.records place (UdpRecord.Open o) (UdpRecord.Open now) g (inl (ap (λ (x : Option _). name_of_op (walk.receiving_in x)) e)) i (subst (λ (x : Option Operation). IsFirst (name_of_op x)) (sym f) (i.connects place (UdpRecord.Open o) g))

  pub udp_other : (h : Here) (place : ℕ) (u now : UdpRecord) → FoundUdp h place u → receive_name now ≡ None → IsFirst (connect_name now) → Apart h → Apart (put_udp h place now)
  udp_other h place u now g e f i = put_udps line h.own h.machine.store.records place u now g (inr e) i f

  next_gives : (own : Own) (n : ℕ) → own ≡ Names n → GivesLater own → GivesLater (Names (n + 1))
  next_gives own n e g = let k : GivesLater (Names n) = subst GivesLater e g in omega (arith, k)

  pub moves_apart : (h now : Here) → Move line origin h now → Apart h → Apart now
  moves_apart _ _ (walk.Spends h e) i = used h i
  moves_apart _ _ (walk.SpendsNames h n e) i = used h i
  moves_apart _ _ (walk.Counts h e) i = owns_apart line h.own (Names 1) h.machine.store.records (grows_to line h.own Unused (Names 1) e (older_unused line (Names 1))) (omega arith) i
  moves_apart _ _ (walk.Changes h place r now g p) i = tcp_stays h place r now g p.streams i
  moves_apart _ _ (walk.ClosesReader h place r s g e) i = put_tcp line h.own h.machine.store.records place _ (subst (λ (s : Option _). IsFirst (streams_name s)) e (i.writes place r g)) i
  moves_apart _ _ (walk.Writes h place r s w g e m) i = put_tcp line h.own h.machine.store.records place _ (moves_first s.writer w m (subst (λ (s : Option _). IsFirst (streams_name s)) e (i.writes place r g))) i
  moves_apart _ _ (walk.IsGone h place r q g e) i = tcp_none h place _ refl i
  moves_apart _ _ (walk.Reconnects h place r c now g e s t u) i = tcp_stays h place r _ g refl i
  moves_apart _ _ (walk.Opens h place r c d g e k) i = put_tcp line h.own h.machine.store.records place _ tt i
  moves_apart _ _ (walk.TakesEnd h handle place r _ of g (walk.OfReceive c e free)) i = put_tcp line h.own h.machine.store.records place _ (ends_first r.streams (i.writes place r g)) i
  moves_apart _ _ (walk.TakesEnd h handle place r _ of g (walk.OfSend c e free)) i = put_tcp line h.own h.machine.store.records place _ tt i
  moves_apart _ _ (walk.AddsSlot h s) i = same_apart line h.own h.machine.store.records _ (slot_push_same {new = λ op. ⊥} h.machine.store.records s) i
  moves_apart _ _ (walk.BeginsConnect h place r x a bound at g d to known idle own) i = tcp_used h place r _ g refl i
  moves_apart _ _ (walk.BeginsBind h place r x a at g d to own) i = tcp_used h place r _ g refl i
  moves_apart _ _ (walk.BeginsWrite h place n r s half permit bytes at g e w within own) i = used (put h place _) (put_tcp line h.own h.machine.store.records place _ refl i)
  moves_apart _ _ (walk.BeginsListen h place r x bound at g d known free none to idle own) i = tcp_used h place r _ g refl i
  moves_apart _ _ (walk.BeginsAccept h place n r l at g e a own) i = owns_apart line h.own (Names (n + 1)) _ (next_grows line n h.own own) (next_gives h.own n own i.gives) (tcp_stays h place r _ g refl i)
  moves_apart _ _ (walk.Unlistens h place r op q g e c o) i = tcp_stays h place r _ g refl i
  moves_apart _ _ (walk.Forgets h place r l c g e a) i = tcp_stays h place r _ g refl i
  moves_apart _ _ (walk.Joins h c handle place r l new peer is of u g e a) i = push_tcp line h.own _ (joined l new peer) tt (tcp_stays h place r _ g refl i)
  moves_apart _ _ (walk.JoinsPlain h c listener remaining place r l new peer is of u g e a) i = push_tcp line h.own _ (walk.joined_plain l new peer) tt (tcp_stays h place r _ g refl i)
  moves_apart _ _ (walk.JoinsFault h place r l c u g e a) i = push_tcp line h.own _ (walk.faulted l c) tt (tcp_stays h place r _ g refl i)
  moves_apart _ _ (walk.UdpChanges h place o now g p keeps) i =
      put_udps line h.own h.machine.store.records place (UdpRecord.Open o) (UdpRecord.Open now) g (kept_name (walk.receiving_in o.incoming) (walk.receiving_in now.incoming) p.receives) i (subst (λ (x : Option Operation). IsFirst (name_of_op x)) (sym p.connects) (i.connects place (UdpRecord.Open o) g))
  moves_apart _ _ (walk.BeginsUdpBind h place o a at g to own) i = used (put_udp h place _) (udp_stays h place o _ g refl refl i)
  moves_apart _ _ (walk.BeginsUdpConnect h place o a bound at g to known none own) i = connects (put_udp h place _) place (put_udps line h.own h.machine.store.records place (UdpRecord.Open o) (UdpRecord.Open _) g (inl refl) i refl)
  moves_apart _ _ (walk.RecallsConnect h ids place e own) i = connects h place i
  moves_apart _ _ (walk.RecallsStreams h ids place handle e own) i = connects h place i
  moves_apart _ _ (walk.EndsConnect h place own over) i = used h i
  moves_apart _ _ (walk.BeginsSend h place n o out d bound at g e is known own) i = owns_apart line h.own (Names (n + 1)) _ (next_grows line n h.own own) (next_gives h.own n own i.gives) (udp_stays h place o _ g refl refl i)
  moves_apart _ _ (walk.BeginsReceive h place n o inc bound at g e is own) i =
      let first : GivesLater (Names n) = subst GivesLater own i.gives in
      begins_apart line h.own h.machine.store.records place (UdpRecord.Open _) (part_of line n) (Names (n + 1)) refl (i.connects place (UdpRecord.Open o) g) first (λ old. not_given line h.own (part_of line n) old (next_to_come line n h.own own)) (next_given line n) (next_grows line n h.own own) (next_gives h.own n own i.gives) i
  moves_apart _ _ (walk.CancelsBind h place r op q g e) i = tcp_stays h place r _ g refl i
  moves_apart _ _ (walk.CancelsUdpBind h place o op q g e) i = udp_stays h place o _ g refl refl i
  moves_apart _ _ (walk.CancelsUdpConnect h place o q g) i = put_udps line h.own h.machine.store.records place (UdpRecord.Open o) (UdpRecord.Open _) g (inl refl) i tt
  moves_apart _ _ (walk.GivesBack h place idle left) i = fewer_apart line h.own h.machine.store.records place i
  moves_apart _ _ (walk.Finds h records s) i = same_apart line h.own h.machine.store.records records s i
  moves_apart _ _ (walk.DropsUdp h place o idle made g) i = udp_stays h place o _ g refl refl i
  moves_apart _ _ _ i = record { later = i.later; apart = i.apart; connects = i.connects; writes = i.writes; gives = i.gives }

  -- a create leaves a socket that does nothing
  created_none : (create : Create) (ended : End × List Item) → (receive_name (udp_create_left create ended) ≡ None) × IsFirst (connect_name (udp_create_left create ended))
  created_none create (Waits, items) = (refl, tt)
  created_none create (Done given, items) = (refl, tt)
  created_none create (Refused c given, items) = (refl, tt)

  -- a connect that is polled keeps its name, and a stream that is made receives nothing yet
  connected : (h : Here) (place : ℕ) (o : OpenUdp) (op : Operation) (ended : End × List Item) → FoundUdp h place (UdpRecord.Open o) → o.connecting ≡ Some op → Apart h → Apart (put_udp h place (UdpRecord.Open (udp_connect_left op o ended)))
  connected h place o op (Waits, items) g e i = put_udps line h.own h.machine.store.records place (UdpRecord.Open o) (UdpRecord.Open _) g (inl refl) i (subst (λ (x : Option Operation). IsFirst (name_of_op x)) e (i.connects place (UdpRecord.Open o) g))
  connected h place o op (Done given, items) g e i = udp_other h place (UdpRecord.Open o) (UdpRecord.Open _) g refl tt i
  connected h place o op (Refused c given, items) g e i = put_udps line h.own h.machine.store.records place (UdpRecord.Open o) (UdpRecord.Open _) g (inl refl) i tt

  reconnected : (h : Here) (place : ℕ) (o : OpenUdp) (op : Operation) (ended : End × List Item) → FoundUdp h place (UdpRecord.Open o) → o.connecting ≡ Some op → Apart h → Apart (put_udp h place (UdpRecord.Open (udp_reconnect_left op o ended)))
  reconnected h place o op (Waits, items) g e i = put_udps line h.own h.machine.store.records place (UdpRecord.Open o) (UdpRecord.Open _) g (inl refl) i (subst (λ (x : Option Operation). IsFirst (name_of_op x)) e (i.connects place (UdpRecord.Open o) g))
  reconnected h place o op (Done given, items) g e i = put_udps line h.own h.machine.store.records place (UdpRecord.Open o) (UdpRecord.Open _) g (inl refl) i tt
  reconnected h place o op (Refused c given, items) g e i = put_udps line h.own h.machine.store.records place (UdpRecord.Open o) (UdpRecord.Open _) g (inl refl) i tt

  received_name : (h : Here) (place : ℕ) (o : OpenUdp) (inc : _) (op : Operation) (ended : End × List Item) → FoundUdp h place (UdpRecord.Open o) → o.incoming ≡ Some inc → inc.receiving ≡ Receiving.InProgress op → Apart h → Apart (put_udp h place (UdpRecord.Open (record o { incoming = Some (with_receiving inc (receive_left op ended)) })))
  received_name h place o inc op ended g e f i =
      put_udps line h.own h.machine.store.records place (UdpRecord.Open o) (UdpRecord.Open _) g
      (elim (polled_name op ended) [ inl p ↦ inl (p ∙ sym (ap (λ (x : Option _). name_of_op (walk.receiving_in x)) e ∙ ap (λ (r : _). name_of_op (walk.receive_op r)) f)) | inr p ↦ inr p ]) i (i.connects place (UdpRecord.Open o) g)

  pub polls_apart : (h : Here) (op : Operation) (after : End × List Item → Here) → Held h op after → (ended : End × List Item) → Apart h → Apart (after ended)
  polls_apart h _ _ (walk.BindsOn place r op q g e) ended i = tcp_stays h place r _ g refl i
  polls_apart h _ _ (walk.Connects place r op g e) ended i = tcp_stays h place r _ g refl i
  polls_apart h _ _ (walk.Listens place r op q g e c) ended i = listens ended
    where
      listens : (ended : End × List Item) → Apart (put h place (walk.listen_after op r ended))
      listens (Waits, items) = tcp_stays h place r _ g refl i
      listens (Done given, items) = tcp_stays h place r _ g refl i
      listens (Refused code given, items) = tcp_stays h place r _ g refl i
  polls_apart h _ _ (walk.Awaits place r l op g e a) ended i = tcp_stays h place r _ g refl i
  polls_apart h _ _ (walk.UdpCreates place create q g) ended i = udp_other h place (UdpRecord.Creating create) _ g (created_none create ended).0 (created_none create ended).1 i
  polls_apart h _ _ (walk.UdpBindsOn place o op q g e) ended i = udp_stays h place o _ g refl refl i
  polls_apart h _ _ (walk.UdpConnectsOn place o op q g e) ended i = connected h place o op ended g e i
  polls_apart h _ _ (walk.UdpReconnectsOn place o op q g e) ended i = reconnected h place o op ended g e i
  polls_apart h _ _ (walk.SendsOn place o out op left g e f s) ended i = udp_stays h place o _ g refl refl i
  polls_apart h _ _ (walk.ReceivesOn place o inc op g e f) ended i = received_name h place o inc op ended g e f i

  pub begun_apart : (h : Here) (made : Result Create ErrorCode) → Apart h → Apart (udp_begun h made)
  begun_apart h (Ok create) i = used (record h { machine = (udp_begun h (Ok create)).machine }) (push_udps line h.own h.machine.store.records (UdpRecord.Creating create) refl tt i)
  begun_apart h (Err c) i = used h i

  created : (h : Here) (new : TcpRecord) → new.streams ≡ None → Apart h
      → NamesApart line Used (tcp2_pushed h.machine.store.records new)
  created h new none i =
      let first : IsFirst (streams_name new.streams) =
      subst (λ (s : Option _). IsFirst (streams_name s)) (sym none) tt in
      owns_apart line h.own Used _ (older_used line h.own) tt (push_tcp line h.own h.machine.store.records new first i)

  pub becomes_apart : (h now : Here) → Becomes contexts line origin h now → Apart h → Apart now
  becomes_apart h _ (Learnt place r side told at g e) i = tcp_stays h place r _ g refl i
  becomes_apart h _ (IsClosed place r side q g e) i = tcp_none h place _ refl i
  becomes_apart h _ (GivenUp place r q goes g) i = tcp_stays h place r _ g refl i
  becomes_apart h _ (UdpLearnt place o socket g e) i = udp_stays h place o _ g refl refl i
  becomes_apart h _ (UdpIsClosed place o q g) i =
      udp_other h place (UdpRecord.Open o) (UdpRecord.Closed o.inner.side) g refl tt i
  becomes_apart h _ (UdpGivenUp place create q g) i = udp_other h place (UdpRecord.Creating create) _ g refl tt i
  becomes_apart h _ (UdpBegun face ctx family r c u m) i = begun_apart h (udp_after_create (own_of line) ctx.name family r) i
  becomes_apart h _ (Resolved host records l same) i = same_apart line h.own h.machine.store.records records same i
  becomes_apart h _ (Created face ctx family c u m) i = created h _ refl i
  becomes_apart h _ (CreatedWith face ctx family c u m) i = created h _ refl i
  becomes_apart h _ (Writing _ (InCall place n r s half permit bytes at g e w within own)) i =
      used (put h place _) (put_tcp line h.own h.machine.store.records place _ refl i)
  becomes_apart h _ (DatagramBegan place o call op polled ended at g starts m own left) i = used h i
  becomes_apart h _ _ i = record { later = i.later; apart = i.apart; connects = i.connects; writes = i.writes; gives = i.gives }

  -- a turn of a writer
  job_first : (es : List Entry) (job : Job) (end : End) → IsFirst (Some job.write.who.id) → Allows Anything (λ fs j. IsFirst (Some j.write.who.id)) es (job_in job end)
  job_first es job Waits f = allows_then Anything (λ fs ended. ⊤) (λ fs j. IsFirst (Some j.write.who.id)) es (poll_asks job.write) _ (whatever (λ ended. ⊤) (λ ended. tt) es (poll_asks job.write)) (λ fs ended k. f)
  job_first es job _ f = f

  turn_first : (es : List Entry) (w : WriteState) → IsFirst (job_name w) → Allows Anything (λ fs done. IsFirst (job_name done.1)) es (turn_asks w)
  turn_first es (WriteState.Writing job) f = allows_then Anything (λ fs j. IsFirst (Some j.write.who.id)) (λ fs done. IsFirst (job_name done.1)) es (job_asks job) _ (job_first es job job.end f) (λ fs j k. k)
  turn_first es (WriteState.Closing job) f = allows_then Anything (λ fs j. IsFirst (Some j.write.who.id)) (λ fs done. IsFirst (job_name done.1)) es (job_asks job) _ (job_first es job job.end f) (λ fs j k. k)
  turn_first es _ f = f

  pub turns_apart : (es : List Entry) (h : Here) (place : ℕ) (r : TcpRecord) (s : Streams) → walk.Found h place r
      → r.streams ≡ Some s → Apart h
      → Allows Anything (λ fs done. Apart (put h place (with_writer r s done.1))) es (turn_asks s.writer)
  turns_apart es h place r s g e i =
      allows_weaker Anything (λ fs done. IsFirst (job_name done.1))
      (λ fs done. Apart (put h place (with_writer r s done.1)))
      (λ fs done k. put_tcp line h.own h.machine.store.records place _ k i) es (turn_asks s.writer)
      (turn_first es s.writer (subst (λ (s : Option _). IsFirst (streams_name s)) e (i.writes place r g)))

  module _ (B : List Entry → Here → Type 0) where
    abbrev names_state : OfState contexts line origin B
    names_state = record {
      Holds = Apart;
      moves = λ es h now m b i. moves_apart h now m i;
      becomes = λ es h now k b i. becomes_apart h now k i;
      polls = λ es h op after k b i. whatever (λ ended. Apart (after ended)) (λ ended. polls_apart h op after k ended i) es (poll_asks op);
      turns = λ es h place r s g e b i. turns_apart es h place r s g e i;
    }

    -- the law: the calls may be any
    unfoldable pub names_apart : Rests contexts line origin B
    names_apart = of_state names_state

    pub begins_names : BeginsWrites names_apart
    unfolding names_apart
    begins_names = begins_state names_state
