-- How walks of UDP sockets are put together: what is asked of one, the polls of its create and of its bind, and its end.
use Rattle.std.specs.Prelude.{◌≡◌, ℕ, true, List, [], ◌∷◌, ◌++◌, Some, None}
use Rattle.wasi_walks.proofs.Words.{Asks, Ask, Call, End, Entry, Item, Operation, SocketAddressFamily, Step, Told, WasiSocketsCtx}
use Rattle.wasi_walks.proofs.Words.{ap, bind, entry, ◌∙◌, make_asks, own_of, poll_asks, subst, told_addr}
use Rattle.udp_records.specs.Datagrams.{udp_connect_left, udp_reconnect_left, with_sending}
use Rattle.host_store.specs.Kinds.{kind_at, udp_of}
use Rattle.udp_records.specs.Receiving.{receive_left, with_receiving}
use Rattle.wasi_records.specs.Records.{udp2_at}
use Rattle.host_udp.specs.UdpCreates.{udp_side_at}
use Rattle.udp_records.specs.declared.datagrams.Incoming.{Incoming}
use Rattle.udp_records.specs.declared.datagrams.Outgoing.{Outgoing}
use Rattle.udp_records.specs.declared.datagrams.Receiving.{Receiving}
use Rattle.udp_records.specs.declared.datagrams.Sending.{Sending}
use Rattle.host_store.specs.declared.kind.Kind.{Kind}
use Rattle.host_store.specs.Kinds.{udp_kind}
use Rattle.wasi_walks.specs.Licence.{IsDisconnect}
use Rattle.wasi_udp.specs.Receive.{wanting}
use Rattle.wasi_udp.specs.Send.{at_remote}
use Rattle.wasi_records.specs.declared.records.Record.{Record}
use Rattle.udp_records.specs.declared.udp.OpenUdp.{OpenUdp}
use Rattle.udp_records.specs.declared.udp.UdpRecord.{UdpRecord}
use Rattle.udp_records.specs.declared.udp.UdpInProgress.{UdpInProgress}
use Rattle.udp_records.specs.Udp.{udp_side, udp_create_left, udp_bind_progress, with_udp_inner, with_udp_progress}
use Rattle.wasi_udp.specs.Create.{Create, new_asks}
use Rattle.wasi_udp.specs.Socket.{after_local, after_peer}
use Rattle.wasi_walks.proofs.walks.Moves.{Interface, HasNewStream, Here, MarksNext, put_udp, FoundUdp, IsCreated, NoStart, StreamsUnder, ReleasesUdp, IsUdpQuestionOf, CreatesUdp, udp_begun, ToSend, part_of, SettlesSend, Unused, Past, Spends, Held, UdpCreates, UdpBindsOn, UdpConnectsOn, UdpReconnectsOn, SendsOn, ReceivesOn}
use Rattle.wasi_walks.proofs.walks.Asked.{MarksStream, MarksUdp, Polls, UdpBegins, UdpCloses, UdpDisconnects, UdpLearns, UdpPeers, UdpQuestions}
use Rattle.wasi_walks.proofs.walks.Law.{Law, Walks, ends, by_if, gives}
use Rattle.wasi_walks.proofs.Places.{put_again, put_finds, put_twice, udp_sort}

-- A place that has the record of a UDP socket.
pub record HasUdp (h : Here) (place : ℕ) : Type 0 where
  pub was : UdpRecord
  pub at : FoundUdp h place was

pub udp_put_put : (h : Here) (place : ℕ) (u now : UdpRecord) → put_udp (put_udp h place u) place now ≡ put_udp h place now
udp_put_put h place u now =
    let f : List Record → Here = λ xs. record h { machine = record h.machine { store = record h.machine.store { records = xs } } } in
    ap f (put_twice udp_sort h.machine.store.records place u now)

pub udp_put_same : (h : Here) (place : ℕ) (u : UdpRecord) → FoundUdp h place u → put_udp h place u ≡ h
udp_put_same h place u e =
    let f : List Record → Here = λ xs. record h { machine = record h.machine { store = record h.machine.store { records = xs } } } in
    ap f (put_again udp_sort h.machine.store.records place u e)

pub udp_found : {h : Here} {place : ℕ} → HasUdp h place → (u : UdpRecord) → FoundUdp (put_udp h place u) place u
udp_found {h} {place} here u = put_finds udp_sort h.machine.store.records place here.was u here.at

-- no connect goes on where the record has none
pub over_at : {h : Here} {place : ℕ} → HasUdp h place → (o : OpenUdp) → o.connecting ≡ None → (x : OpenUdp) (op : Operation) → FoundUdp (put_udp h place (UdpRecord.Open o)) place (UdpRecord.Open x) → x.connecting ≡ Some op → ⊥
over_at here o none x op g e = absurd (let its : o ≡ x = (let p = udp_found here (UdpRecord.Open o) in cc) in let q : o.connecting ≡ Some op = ap (λ (y : OpenUdp). y.connecting) its ∙ e in cc)

module _ {contexts : List WasiSocketsCtx} {line : ℕ} {origin : Step} {law : Law contexts line origin} where
  -- its network socket is made
  pub begin_create : {h : Here} (face : Interface) (ctx : WasiSocketsCtx) (family : SocketAddressFamily) → CreatesUdp contexts ctx family face origin → h.at ≡ None → h.own ≡ Unused → h.made ≡ Past → Walks law h (udp_begun h) (new_asks (own_of line) ctx family)
  unfolding bind
  begin_create {h} face ctx family c t o m = by_if ctx.udp (λ may. record { along = λ es i. let a = law.asks es h _ _ _ (UdpBegins face ctx family c may t o m) tt i in (a.0, λ told f. a.1 told f) }) (λ other. gives _ (Spends _ o))

  -- it gets its handle
  pub mark_udp_walks : {h : Here} (face : Interface) (place : ℕ) (u : UdpRecord) → IsCreated h face place u → Walks law h (λ made. record h { machine = record h.machine { table = made.1 }; made = Past }) (make_asks h.machine.table (udp_side u) (udp_kind face place) None (Some (udp_side u)))
  mark_udp_walks {h} face place u g = record { along = λ es i. law.asks es h _ _ _ (MarksUdp face place u g) tt i }

  module _ {h : Here} {place : ℕ} (here : HasUdp h place) where
    -- a question
    pub ask_udp : {A : Type 0} {n : ℕ} {end : A → Here} (o : OpenUdp) {c : Call} {next : Told → Asks A} → h.at ≡ Some (place, n) → IsUdpQuestionOf line origin n o.inner.side c → ((told : Told) → Walks law (put_udp h place (UdpRecord.Open o)) end (next told))
        → Walks law (put_udp h place (UdpRecord.Open o)) end (Ask (own_of n) c next)
    ask_udp {n} o {c} at q k = record {
      along = λ es i.
          let a = law.asks es (put_udp h place (UdpRecord.Open o)) _ _ _ (UdpQuestions place n o c at (udp_found here (UdpRecord.Open o)) q) tt i in
          (a.0, λ told fits. (k told).along (es ++ entry (own_of n) c told ∷ []) (a.1 told fits));
    }

    -- whether it is bound is asked, by an operation of the line
    pub learn_udp : {A : Type 0} {part : ℕ} {end : A → Here} (o : OpenUdp) {next : Told → Asks A} → h.at ≡ Some (place, line) → ((told : Told) → Walks law (put_udp h place (UdpRecord.Open (with_udp_inner o (after_local o.inner (told_addr told)).1))) end (next told))
        → Walks law (put_udp h place (UdpRecord.Open o)) end (Ask (part_of line part) (Call.Local o.inner.side) next)
    learn_udp {part = part} o at k = record {
      along = λ es i.
          let a = law.asks es (put_udp h place (UdpRecord.Open o)) _ _ _ (UdpLearns place part o at (udp_found here (UdpRecord.Open o))) tt i in (
            a.0,
            λ told fits.
                let fs : List Entry = es ++ entry (part_of line part) (Call.Local o.inner.side) told ∷ [] in
                (k told).along fs (subst (law.Inv fs) (udp_put_put h place (UdpRecord.Open o) (UdpRecord.Open (with_udp_inner o (after_local o.inner (told_addr told)).1))) (a.1 told fits)),
          );
    }

    -- it is disconnected, and bound from then on
    pub disconnect_udp : {A : Type 0} {end : A → Here} (o : OpenUdp) {next : Told → Asks A} → h.at ≡ Some (place, line) → IsDisconnect origin → ((told : Told) → Walks law (put_udp h place (UdpRecord.Open (with_udp_inner o (record o.inner { bound = true })))) end (next told))
        → Walks law (put_udp h place (UdpRecord.Open o)) end (Ask (own_of line) (Call.UdpDisconnect o.inner.side) next)
    disconnect_udp o at to k = record {
      along = λ es i.
          let a = law.asks es (put_udp h place (UdpRecord.Open o)) _ _ _ (UdpDisconnects place o at (udp_found here (UdpRecord.Open o)) to) tt i in (
            a.0,
            λ told fits.
                let fs : List Entry = es ++ entry (own_of line) (Call.UdpDisconnect o.inner.side) told ∷ [] in
                (k told).along fs (subst (law.Inv fs) (udp_put_put h place (UdpRecord.Open o) (UdpRecord.Open (with_udp_inner o (record o.inner { bound = true })))) (a.1 told fits)),
          );
    }

    -- the remote address is asked, and kept
    pub peer_udp : {A : Type 0} {end : A → Here} (o : OpenUdp) {next : Told → Asks A} → h.at ≡ Some (place, line) → ((told : Told) → Walks law (put_udp h place (UdpRecord.Open (with_udp_inner o (after_peer o.inner (told_addr told))))) end (next told))
        → Walks law (put_udp h place (UdpRecord.Open o)) end (Ask (own_of line) (Call.Peer o.inner.side) next)
    peer_udp o at k = record {
      along = λ es i.
          let a = law.asks es (put_udp h place (UdpRecord.Open o)) _ _ _ (UdpPeers place o at (udp_found here (UdpRecord.Open o))) tt i in (
            a.0,
            λ told fits.
                let fs : List Entry = es ++ entry (own_of line) (Call.Peer o.inner.side) told ∷ [] in
                (k told).along fs (subst (law.Inv fs) (udp_put_put h place (UdpRecord.Open o) (UdpRecord.Open (with_udp_inner o (after_peer o.inner (told_addr told))))) (a.1 told fits)),
          );
    }

    -- its network socket is closed
    pub close_udp : {A : Type 0} {n : ℕ} {end : A → Here} (o : OpenUdp) {next : Told → Asks A} → ReleasesUdp (put_udp h place (UdpRecord.Open o)) place → ((told : Told) → Walks law (put_udp h place (UdpRecord.Closed o.inner.side)) end (next told)) → Walks law (put_udp h place (UdpRecord.Open o)) end (Ask (own_of n) (Call.Close o.inner.side) next)
    close_udp {n = n} o q k = record {
      along = λ es i.
          let a = law.asks es (put_udp h place (UdpRecord.Open o)) _ _ _ (UdpCloses place n o q (udp_found here (UdpRecord.Open o))) tt i in (
            a.0,
            λ told fits.
                let fs : List Entry = es ++ entry (own_of n) (Call.Close o.inner.side) told ∷ [] in
                (k told).along fs (subst (law.Inv fs) (udp_put_put h place (UdpRecord.Open o) (UdpRecord.Closed o.inner.side)) (a.1 told fits)),
          );
    }

    -- a poll, and what becomes of the record
    udp_polled : (u : UdpRecord) {op : Operation} (now : End × List Item → UdpRecord) → Held (put_udp h place u) op (λ ended. put_udp (put_udp h place u) place (now ended)) → Walks law (put_udp h place u) (λ ended. put_udp h place (now ended)) (poll_asks op)
    udp_polled u {op} now held = ends (λ ended. udp_put_put h place u (now ended)) (record { along = λ es i. law.asks es (put_udp h place u) _ _ _ (Polls op _ held) tt i })

    pub poll_create_walks : (create : Create) → NoStart h → Walks law (put_udp h place (UdpRecord.Creating create)) (λ ended. put_udp h place (udp_create_left create ended)) (poll_asks create.operation)
    poll_create_walks create q = udp_polled (UdpRecord.Creating create) (udp_create_left create) (UdpCreates place create q (udp_found here (UdpRecord.Creating create)))

    pub poll_udp_bind_walks : (o : OpenUdp) (op : Operation) → NoStart h → o.in_progress ≡ UdpInProgress.Binding op → Walks law (put_udp h place (UdpRecord.Open o)) (λ ended. put_udp h place (UdpRecord.Open (with_udp_progress o (udp_bind_progress op ended)))) (poll_asks op)
    poll_udp_bind_walks o op q e = udp_polled (UdpRecord.Open o) (λ ended. UdpRecord.Open (with_udp_progress o (udp_bind_progress op ended))) (UdpBindsOn place o op q (udp_found here (UdpRecord.Open o)) e)

    pub poll_udp_connect_walks : (o : OpenUdp) (op : Operation) → NoStart h → StreamsUnder h place → o.connecting ≡ Some op → Walks law (put_udp h place (UdpRecord.Open o)) (λ ended. put_udp h place (UdpRecord.Open (udp_connect_left op o ended))) (poll_asks op)
    poll_udp_connect_walks o op q under e = udp_polled (UdpRecord.Open o) (λ ended. UdpRecord.Open (udp_connect_left op o ended)) (UdpConnectsOn place o op (q, under) (udp_found here (UdpRecord.Open o)) e)

    -- one of 0.3
    pub poll_reconnect_walks : (o : OpenUdp) (op : Operation) → NoStart h → o.connecting ≡ Some op → Walks law (put_udp h place (UdpRecord.Open o)) (λ ended. put_udp h place (UdpRecord.Open (udp_reconnect_left op o ended))) (poll_asks op)
    poll_reconnect_walks o op q e = udp_polled (UdpRecord.Open o) (λ ended. UdpRecord.Open (udp_reconnect_left op o ended)) (UdpReconnectsOn place o op q (udp_found here (UdpRecord.Open o)) e)

    pub poll_send_walks : (o : OpenUdp) (out : Outgoing) (op : Operation) (left : End × List Item → Sending) → o.outgoing ≡ Some out → out.sending ≡ Sending.InProgress op → SettlesSend op left
        → Walks law (put_udp h place (UdpRecord.Open o)) (λ ended. put_udp h place (UdpRecord.Open (record o { outgoing = Some (with_sending out (left ended)) }))) (poll_asks (at_remote o.inner.remote op))
    poll_send_walks o out op left e f s = udp_polled (UdpRecord.Open o) (λ ended. UdpRecord.Open (record o { outgoing = Some (with_sending out (left ended)) })) (SendsOn place o out op left (udp_found here (UdpRecord.Open o)) e f s)

    pub poll_receive_walks : (o : OpenUdp) (inc : Incoming) (op : Operation) → o.incoming ≡ Some inc → inc.receiving ≡ Receiving.InProgress op
        → Walks law (put_udp h place (UdpRecord.Open o)) (λ ended. put_udp h place (UdpRecord.Open (record o { incoming = Some (with_receiving inc (receive_left op ended)) }))) (poll_asks (wanting inc.remote op))
    poll_receive_walks o inc op e f = udp_polled (UdpRecord.Open o) (λ ended. UdpRecord.Open (record o { incoming = Some (with_receiving inc (receive_left op ended)) })) (ReceivesOn place o inc op (udp_found here (UdpRecord.Open o)) e f)

  -- a datagram stream of the socket of this handle is made
  pub mark_stream : {h : Here} (place n handle reached : ℕ) (kind : Kind) → MarksNext h.made n handle reached kind place → HasNewStream h.machine.store reached → udp_of (kind_at h.machine.table handle) ≡ Some place
      → Walks law h (λ made. record h { machine = record h.machine { table = made.1 }; made = ToSend n handle reached }) (make_asks h.machine.table (own_of n) kind (Some handle) (udp_side_at (udp2_at h.machine.store.records place)))
  mark_stream {h} place n handle reached kind m new e = record { along = λ es i. law.asks es h _ _ _ (MarksStream place n handle reached kind m new e) tt i }
