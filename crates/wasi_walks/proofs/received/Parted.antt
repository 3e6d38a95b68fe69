-- The names of operations: a receive on a stream has the name of a part of its line, and not the line's own; so it stays as the state
-- moves.
use Rattle.wasi_walks.proofs.PipeLists.{slot_push_same}
use Rattle.wasi_walks.proofs.Words.{Done, End, Err, ErrorCode, Item, List, None, Ok, Operation, Option, Refused, Result, Some, Step, TcpRecord, Waits, WasiSocketsCtx, ap, arith, inl, inr, own_of, refl, subst, sym, ℕ, ⊤, ◌∙◌, ◌≡◌, ◌≤◌}
use Rattle.wasi_udp.specs.Create.{Create, after_create as udp_after_create}
use Rattle.wasi_world.specs.Operation.{Given}
use Rattle.udp_records.specs.Datagrams.{udp_connect_left, udp_reconnect_left}
use Rattle.udp_records.specs.Receiving.{receive_left, with_receiving}
use Rattle.wasi_records.specs.Records.{tcp2_put, tcp2_pushed, udp2_at, udp2_of, udp2_put}
use Rattle.udp_records.specs.Udp.{udp_create_left}
use Rattle.lookup_records.specs.declared.name_lookup.LookupOp.{LookupOp}
use Rattle.wasi_records.specs.declared.records.Record.{Record}
use Rattle.udp_records.specs.declared.udp.OpenUdp.{OpenUdp}
use Rattle.udp_records.specs.declared.udp.UdpRecord.{UdpRecord}
use Rattle.wasi_walks.proofs.GoneLists.{was_there}
use Rattle.wasi_walks.proofs.Places.{push_found, push_was, put_found, put_was, tcp_sort, udp_sort}
use Rattle.wasi_walks.proofs.fits.UdpFits.{kept_op}
use Rattle.wasi_walks.proofs.walks.Law.{InCall}
use Rattle.wasi_walks.proofs.walks.Moves as walk
use Rattle.wasi_walks.proofs.walks.Moves.{Held, Here, Move, Own, SameSockets, UdpPlain, faulted, joined, joined_plain, receive_op, receiving_in, udp_begun}
use Rattle.wasi_walks.proofs.walks.OfState.{Becomes, Created, CreatedWith, DatagramBegan, GivenUp, IsClosed, Learnt, Resolved, UdpBegun, UdpGivenUp, UdpIsClosed, UdpLearnt, Writing}

-- it has the name of a part
abbrev pub OfPart : Option Operation → Type 0
OfPart (Some op) = 1 ≤ op.who.id.part
OfPart None = ⊤

abbrev pub UdpParted : UdpRecord → Type 0
UdpParted (UdpRecord.Open o) = OfPart (receiving_in o.incoming)
UdpParted u = ⊤

-- of all records
abbrev pub AllParted : List Record → Type 0
AllParted records = (place : ℕ) (u : UdpRecord) → udp2_at records place ≡ Some u → UdpParted u

-- the next name of a line that counts is that of a part
abbrev pub IsCounted : Own → Type 0
IsCounted (Own.Names n) = 1 ≤ n
IsCounted _ = ⊤

abbrev pub Parted : Here → Type 0
Parted h = AllParted h.machine.store.records × IsCounted h.own

-- == a record changes, or joins them
put_tcp : (records : List Record) (place : ℕ) (now : TcpRecord) → AllParted records → AllParted (tcp2_put records place now)
put_tcp records place now k i u e = k i u (put_was tcp_sort udp_sort (λ t. refl) records place now i u e)

push_tcp : (records : List Record) (now : TcpRecord) → AllParted records → AllParted (tcp2_pushed records now)
push_tcp records now k i u e = k i u (push_was tcp_sort udp_sort (λ t. refl) records now i u e)

put_udps : (records : List Record) (place : ℕ) (now : UdpRecord) → UdpParted now → AllParted records → AllParted (udp2_put records place now)
put_udps records place now f k i u e = elim (put_found udp_sort records place now i u e) [ inl p ↦ subst UdpParted p.1 f | inr p ↦ k i u p ]

pub put_parted : (h : Here) (place : ℕ) (now : TcpRecord) → AllParted h.machine.store.records → AllParted (tcp2_put h.machine.store.records place now)
put_parted h place now k = put_tcp h.machine.store.records place now k

pub push_parted : (h : Here) (now : TcpRecord) → AllParted h.machine.store.records → AllParted (tcp2_pushed h.machine.store.records now)
push_parted h now k = push_tcp h.machine.store.records now k

same_parted : {new : LookupOp → Type 0} (old now : List Record) → SameSockets new old now → AllParted old → AllParted now
same_parted old now s k i u e = k i u (sym (s.udp i) ∙ e)

begun_parted : (h : Here) (made : Result Create ErrorCode) → AllParted h.machine.store.records → AllParted (udp_begun h made).machine.store.records
begun_parted h (Ok create) k = λ i u e. elim (push_found udp_sort h.machine.store.records (UdpRecord.Creating create) i u e) [ inl p ↦ k i u p | inr p ↦ subst UdpParted p.0 tt ]
begun_parted h (Err c) k = k

plain_parted : (o now : OpenUdp) → UdpPlain o now → OfPart (receiving_in o.incoming) → OfPart (receiving_in now.incoming)
plain_parted o now p k = kept_op OfPart tt (receiving_in o.incoming) (receiving_in now.incoming) p.receives k

-- what polls leave
created_parted : (create : Create) (ended : End × List Item) → UdpParted (udp_create_left create ended)
created_parted create (Waits, items) = tt
created_parted create (Done given, items) = tt
created_parted create (Refused c given, items) = tt

connected_parted : (o : OpenUdp) (op : Operation) (ended : End × List Item) → OfPart (receiving_in o.incoming) → OfPart (receiving_in (udp_connect_left op o ended).incoming)
connected_parted o op (Waits, items) k = k
connected_parted o op (Done given, items) k = tt
connected_parted o op (Refused c given, items) k = k

reconnected_parted : (o : OpenUdp) (op : Operation) (ended : End × List Item) → OfPart (receiving_in o.incoming) → OfPart (receiving_in (udp_reconnect_left op o ended).incoming)
reconnected_parted o op (Waits, items) k = k
reconnected_parted o op (Done given, items) k = k
reconnected_parted o op (Refused c given, items) k = k

received_parted : (op : Operation) (ended : End × List Item) → 1 ≤ op.who.id.part → OfPart (receive_op (receive_left op ended))
received_parted op (Waits, items) k = k
received_parted op (Done (Given.Datagram bytes a), items) k = tt
received_parted op (Done _, items) k = tt
received_parted op (Refused c given, items) k = tt

-- == the law of it
module _ (contexts : List WasiSocketsCtx) (line : ℕ) (origin : Step) where
  moves_streams : (h now : Here) → Move line origin h now → Parted h → AllParted now.machine.store.records
  moves_streams _ _ (walk.Changes h place r now g p) p0 = put_tcp _ place now p0.0
  moves_streams _ _ (walk.ClosesReader h place r s g e) p0 = put_tcp _ place _ p0.0
  moves_streams _ _ (walk.Writes h place r s w g e m) p0 = put_tcp _ place _ p0.0
  moves_streams _ _ (walk.IsGone h place r q g e) p0 = put_tcp _ place _ p0.0
  moves_streams _ _ (walk.Reconnects h place r c now g e s t u) p0 = put_tcp _ place _ p0.0
  moves_streams _ _ (walk.Opens h place r c d g e k) p0 = put_tcp _ place _ p0.0
  moves_streams _ _ (walk.BeginsConnect h place r x a bound at g d to known idle own) p0 = put_tcp _ place _ p0.0
  moves_streams _ _ (walk.BeginsBind h place r x a at g d to own) p0 = put_tcp _ place _ p0.0
  moves_streams _ _ (walk.BeginsWrite h place n r s half permit bytes at g e w within own) p0 = put_tcp _ place _ p0.0
  moves_streams _ _ (walk.BeginsListen h place r x bound at g d known un none to idle own) p0 = put_tcp _ place _ p0.0
  moves_streams _ _ (walk.BeginsAccept h place part r l at g e a own) p0 = put_tcp _ place _ p0.0
  moves_streams _ _ (walk.Unlistens h place r op q g e c o) p0 = put_tcp _ place _ p0.0
  moves_streams _ _ (walk.Forgets h place r l c g e a) p0 = put_tcp _ place _ p0.0
  moves_streams _ _ (walk.Joins h c handle place r l new peer is of u g e a) p0 = push_tcp _ (joined l new peer) (put_tcp _ place _ p0.0)
  moves_streams _ _ (walk.JoinsPlain h c listener remaining place r l new peer is of u g e a) p0 = push_tcp _ (joined_plain l new peer) (put_tcp _ place _ p0.0)
  moves_streams _ _ (walk.JoinsFault h place r l c u g e a) p0 = push_tcp _ (faulted l c) (put_tcp _ place _ p0.0)
  moves_streams _ _ (walk.UdpChanges h place o now g p keeps) p0 = put_udps _ place (UdpRecord.Open now) (plain_parted o now p (p0.0 place (UdpRecord.Open o) g)) p0.0
  moves_streams _ _ (walk.BeginsUdpBind h place o a at g to own) p0 = put_udps _ place (UdpRecord.Open _) (p0.0 place (UdpRecord.Open o) g) p0.0
  moves_streams _ _ (walk.BeginsUdpConnect h place o a bound at g to known none own) p0 = put_udps _ place (UdpRecord.Open _) (p0.0 place (UdpRecord.Open o) g) p0.0
  moves_streams _ _ (walk.BeginsSend h place n o out d bound at g e is known own) p0 = put_udps _ place (UdpRecord.Open _) (p0.0 place (UdpRecord.Open o) g) p0.0
  moves_streams _ _ (walk.BeginsReceive h place n o inc bound at g e is own) p0 = put_udps _ place (UdpRecord.Open _) (subst IsCounted own p0.1) p0.0
  moves_streams _ _ (walk.CancelsBind h place r op q g e) p0 = put_tcp _ place _ p0.0
  moves_streams _ _ (walk.CancelsUdpBind h place o op q g e) p0 = put_udps _ place (UdpRecord.Open _) (p0.0 place (UdpRecord.Open o) g) p0.0
  moves_streams _ _ (walk.CancelsUdpConnect h place o q g) p0 = put_udps _ place (UdpRecord.Open _) (p0.0 place (UdpRecord.Open o) g) p0.0
  moves_streams _ _ (walk.TakesEnd h handle place r now of g takes) p0 = put_tcp _ place now p0.0
  moves_streams _ _ (walk.AddsSlot h s) p0 = same_parted {new = λ op. ⊥} h.machine.store.records _ (slot_push_same h.machine.store.records s) p0.0
  moves_streams _ _ (walk.Finds h records s) p0 = same_parted h.machine.store.records records s p0.0
  moves_streams _ _ (walk.DropsUdp h place o idle made g) p0 = put_udps _ place (UdpRecord.Open _) (p0.0 place (UdpRecord.Open o) g) p0.0
  moves_streams _ _ (walk.GivesBack h place idle left) p0 = λ k u e. p0.0 k u (was_there udp2_of refl h.machine.store.records place k u e)
  moves_streams _ _ _ p0 = p0.0

  moves_own : (h now : Here) → Move line origin h now → IsCounted h.own → IsCounted now.own
  moves_own _ _ (walk.Spends h e) i = tt
  moves_own _ _ (walk.SpendsNames h n e) i = tt
  moves_own _ _ (walk.EndsConnect h place e over) i = tt
  moves_own _ _ (walk.RecallsStreams h ids place handle e own) i = tt
  moves_own _ _ (walk.RecallsConnect h ids place e own) i = tt
  moves_own _ _ (walk.Counts h e) i = omega arith
  moves_own _ _ (walk.BeginsConnect h place r x a bound at g d to known idle own) i = tt
  moves_own _ _ (walk.BeginsBind h place r x a at g d to own) i = tt
  moves_own _ _ (walk.BeginsWrite h place n r s half permit bytes at g e w within own) i = tt
  moves_own _ _ (walk.BeginsListen h place r x bound at g d known un none to idle own) i = tt
  moves_own _ _ (walk.BeginsAccept h place n r l at g e a own) i = omega arith
  moves_own _ _ (walk.BeginsUdpBind h place o a at g to own) i = tt
  moves_own _ _ (walk.BeginsUdpConnect h place o a bound at g to known none own) i = tt
  moves_own _ _ (walk.BeginsSend h place n o out d bound at g e is known own) i = omega arith
  moves_own _ _ (walk.BeginsReceive h place n o inc bound at g e is own) i = omega arith
  moves_own _ _ _ i = i

  pub moves_parted : (h now : Here) → Move line origin h now → Parted h → Parted now
  moves_parted h now m i = (moves_streams h now m i, moves_own h now m i.1)

  pub polls_parted : (h : Here) (op : Operation) (after : End × List Item → Here) → Held h op after → (end : End × List Item) → Parted h → Parted (after end)
  polls_parted h _ _ (walk.BindsOn place r op q g e) end i = (put_tcp _ place _ i.0, i.1)
  polls_parted h _ _ (walk.Connects place r op g e) end i = (put_tcp _ place _ i.0, i.1)
  polls_parted h _ _ (walk.Listens place r op q g e c) end i = (put_tcp _ place _ i.0, i.1)
  polls_parted h _ _ (walk.Awaits place r l op g e a) end i = (put_tcp _ place _ i.0, i.1)
  polls_parted h _ _ (walk.UdpCreates place create q g) end i = (put_udps _ place _ (created_parted create end) i.0, i.1)
  polls_parted h _ _ (walk.UdpBindsOn place o op q g e) end i = (put_udps _ place (UdpRecord.Open _) (i.0 place (UdpRecord.Open o) g) i.0, i.1)
  polls_parted h _ _ (walk.UdpConnectsOn place o op q g e) end i = (put_udps _ place (UdpRecord.Open (udp_connect_left op o end)) (connected_parted o op end (i.0 place (UdpRecord.Open o) g)) i.0, i.1)
  polls_parted h _ _ (walk.UdpReconnectsOn place o op q g e) end i = (put_udps _ place (UdpRecord.Open (udp_reconnect_left op o end)) (reconnected_parted o op end (i.0 place (UdpRecord.Open o) g)) i.0, i.1)
  polls_parted h _ _ (walk.SendsOn place o out op left g e f s) end i = (put_udps _ place (UdpRecord.Open _) (i.0 place (UdpRecord.Open o) g) i.0, i.1)
  polls_parted h _ _ (walk.ReceivesOn place o inc op g e f) end i =
      let its : OfPart (Some op) = subst OfPart (ap receiving_in e ∙ ap receive_op f) (i.0 place (UdpRecord.Open o) g) in
      (put_udps _ place (UdpRecord.Open (record o { incoming = Some (with_receiving inc (receive_left op end)) })) (received_parted op end its) i.0, i.1)

  becomes_streams : (h now : Here) → Becomes contexts line origin h now → AllParted h.machine.store.records → AllParted now.machine.store.records
  becomes_streams h _ (Learnt place r side told at g e) i = put_tcp _ place _ i
  becomes_streams h _ (IsClosed place r side q g e) i = put_tcp _ place _ i
  becomes_streams h _ (GivenUp place r q goes g) i = put_tcp _ place _ i
  becomes_streams h _ (UdpLearnt place o socket g e) i = put_udps _ place (UdpRecord.Open _) (i place (UdpRecord.Open o) g) i
  becomes_streams h _ (UdpIsClosed place o q g) i = put_udps _ place (UdpRecord.Closed o.inner.side) tt i
  becomes_streams h _ (UdpGivenUp place create q g) i =
      put_udps _ place (UdpRecord.Closed create.operation.who.side) tt i
  becomes_streams h _ (UdpBegun face ctx family r c u m) i =
      begun_parted h (udp_after_create (own_of line) ctx.name family r) i
  becomes_streams h _ (Resolved host records l same) i = same_parted h.machine.store.records records same i
  becomes_streams h _ (Created face ctx family c u m) i = push_tcp h.machine.store.records _ i
  becomes_streams h _ (CreatedWith face ctx family c u m) i = push_tcp h.machine.store.records _ i
  becomes_streams h _ (Writing _ (InCall place n r s half permit bytes at g e w within used)) i = put_tcp _ place _ i
  becomes_streams h _ _ i = i

  becomes_own : (h now : Here) → Becomes contexts line origin h now → IsCounted h.own → IsCounted now.own
  becomes_own h _ (Created face ctx family c u m) i = tt
  becomes_own h _ (CreatedWith face ctx family c u m) i = tt
  becomes_own h _ (UdpBegun face ctx family (Ok d) c u m) i = tt
  becomes_own h _ (UdpBegun face ctx family (Err e) c u m) i = tt
  becomes_own h _ (DatagramBegan place o call op polled ended at g starts made own left) i = tt
  becomes_own h _ (Writing _ (InCall place n r s half permit bytes at g e w within used)) i = tt
  becomes_own h _ _ i = i

  pub becomes_parted : (h now : Here) → Becomes contexts line origin h now → Parted h → Parted now
  becomes_parted h now k i = (becomes_streams h now k i.0, becomes_own h now k i.1)
