-- What a UDP socket is in the middle of is licensed: its create, and a bind.
use Rattle.wasi_walks.proofs.Words.{Allows, Asks, Call, OpId, allows_keep, ap, sym, ◌∙◌, Done, End, Entry, Item, List, Operation, Refused, Some, Step, Waits, WasiSocketsCtx}
use Rattle.wasi_walks.proofs.Words.{allows_weaker, left_of, poll_asks, refl, step_at, subst, ℕ, ◌≡◌}
use Rattle.wasi_walks.proofs.walks.Moves.{Here, put_udp, FoundUdp, SettlesSend, send_op, receive_op, sending_in, receiving_in}
use Rattle.wasi_walks.proofs.licence.State.{CreateIsFine, IfOp, OpenIsFine, ReceiveIsFine, RemoteIs, SendIsFine, UdpBindIsFine, UdpConnectIsFine, UdpMade, UdpProgressIsFine, UdpIsFine}
use Rattle.wasi_walks.proofs.licence.Binds.{MayQuietly}
use Rattle.wasi_walks.proofs.licence.DatagramAsks.{ConnectLeaves, NoPeer, PeerOn, fine_poll_udp_connect, fine_poll_send, fine_poll_receive}
use Rattle.wasi_walks.proofs.fits.Law.{Fit}
use Rattle.wasi_walks.proofs.fits.Records.{FitSending, SendOn}
use Rattle.wasi_walks.specs.Licence.{IsBoundSide, WasDisconnected}
use Rattle.udp_records.specs.Datagrams.{udp_connect_left, udp_reconnect_left, with_sending}
use Rattle.udp_records.specs.Receiving.{receive_left, with_receiving}
use Rattle.udp_records.specs.declared.datagrams.Incoming.{Incoming as IncomingStream}
use Rattle.udp_records.specs.declared.datagrams.Outgoing.{Outgoing as OutgoingStream}
use Rattle.udp_records.specs.declared.datagrams.Sending.{Sending}
use Rattle.udp_records.specs.declared.datagrams.Receiving.{Receiving}
use Rattle.wasi_udp.specs.Connect.{with_given}
use Rattle.wasi_udp.specs.Send.{at_remote}
use Rattle.wasi_udp.specs.Receive.{wanting}
use Rattle.wasi_udp.specs.Shape.{Socket}
use Rattle.wasi_world.specs.Operation.{Given}
use Rattle.std.specs.Prelude.{◌⊎◌, ⊤, Bool, true, false, if◌then◌else◌}
use Rattle.wasi_walks.proofs.Words.{Give, ask_close, bind}
use Rattle.wasi_walks.proofs.licence.Line.{Licensed, put_udp_fine}
use Rattle.wasi_walks.proofs.licence.Asked.{asked_fine, kept, spares}
use Rattle.wasi_walks.proofs.licence.UdpAsks.{AsksAgain, fine_poll_create, fine_poll_udp_bind}
use Rattle.wasi_walks.proofs.licence.UdpMoves.{open_at_place}
use Rattle.udp_records.specs.Udp.{udp_bind_progress, udp_create_left, udp_side, with_udp_progress}
use Rattle.udp_records.specs.declared.udp.OpenUdp.{OpenUdp}
use Rattle.udp_records.specs.declared.udp.UdpRecord.{UdpRecord}
use Rattle.udp_records.specs.declared.udp.UdpInProgress.{UdpInProgress}
use Rattle.socket_common.specs.Rounds.{is_going}
use Rattle.wasi_udp.specs.Create.{Create, create_cancel_asks}
use Rattle.wasi_walks.proofs.licence.Unbound.{MayAskSo}

module _ (contexts : List WasiSocketsCtx) (steps : List Step) (line : ℕ) (origin : Step) (is_line : step_at steps line ≡ Some origin) where
  -- == a create
  left_side : (create : Create) (ended : End × List Item) → udp_side (udp_create_left create ended) ≡ create.operation.who.side
  left_side create (Waits, items) = refl
  left_side create (Done given, items) = refl
  left_side create (Refused c given, items) = refl

  created_after : (fs : List Entry) (create : Create) (ended : End × List Item) → CreateIsFine steps fs create → AsksAgain ended → UdpIsFine steps fs (udp_create_left create ended)
  created_after fs create (Waits, items) f k = record { made = f.made; own = f.own; last = f.last; left = k }
  created_after fs create (Done given, items) f k = record { made = f.made; bound = λ e. absurd (cc); progress = tt; connecting = tt; sending = tt; receiving = tt }
  created_after fs create (Refused c given, items) f k = record { maker = create.operation.who.context; family = create.family; made = f.made }

  pub udp_created_on : (es : List Entry) (h : Here) (place : ℕ) (create : Create) → FoundUdp h place (UdpRecord.Creating create) → Licensed contexts steps line origin es h
      → Allows (MayAskSo contexts steps) (λ fs ended. Licensed contexts steps line origin fs (put_udp h place (udp_create_left create ended))) es (poll_asks create.operation)
  udp_created_on es h place create g i =
      let f : CreateIsFine steps es create = i.fine.udp place (UdpRecord.Creating create) g in
      allows_weaker (MayAskSo contexts steps) (λ fs ended. Licensed contexts steps line origin fs h × AsksAgain ended) (λ fs ended. Licensed contexts steps line origin fs (put_udp h place (udp_create_left create ended)))
      (λ fs ended k. put_udp_fine fs h place (UdpRecord.Creating create) (udp_create_left create ended) g (left_side create ended) (created_after fs create ended (k.0.fine.udp place (UdpRecord.Creating create) g) k.1) k.0) es (poll_asks create.operation)
      (kept contexts steps line origin is_line h (λ fs ended. AsksAgain ended) es (poll_asks create.operation) i (fine_poll_create contexts steps create.operation es f.own f.last f.left))

  -- one that is given up
  pub gives_up : (es : List Entry) (create : Create) (going : Bool) → Allows (MayQuietly contexts steps) (λ fs done. ⊤) es (if going then ask_close create.operation.who.id create.operation.who.side else Give tt)
  unfolding bind
  gives_up es create true = (((tt, tt), tt), λ t fits. tt)
  gives_up es create false = tt

  pub udp_given_up : (es : List Entry) (h : Here) (place : ℕ) (create : Create) → FoundUdp h place (UdpRecord.Creating create) → Licensed contexts steps line origin es h
      → Allows (MayAskSo contexts steps) (λ fs done. Licensed contexts steps line origin fs (put_udp h place (UdpRecord.Closed create.operation.who.side))) es (create_cancel_asks create)
  udp_given_up es h place create g i =
      allows_weaker (MayAskSo contexts steps) (λ fs done. Licensed contexts steps line origin fs h × ⊤) (λ fs done. Licensed contexts steps line origin fs (put_udp h place (UdpRecord.Closed create.operation.who.side)))
      (λ fs done k. let f : CreateIsFine steps fs create = k.0.fine.udp place (UdpRecord.Creating create) g in
      put_udp_fine fs h place (UdpRecord.Creating create) (UdpRecord.Closed create.operation.who.side) g refl (record { maker = create.operation.who.context; family = create.family; made = f.made }) k.0) es (create_cancel_asks create)
      (kept contexts steps line origin is_line h (λ fs done. ⊤) es (create_cancel_asks create) i (gives_up es create (is_going create.operation)))

  -- == a bind
  bound_after : (fs : List Entry) (op : Operation) (ended : End × List Item) → UdpBindIsFine steps fs (left_of op ended.1) → UdpProgressIsFine steps fs (udp_bind_progress op ended)
  bound_after fs op (Waits, items) k = k
  bound_after fs op (Done given, items) k = tt
  bound_after fs op (Refused c given, items) k = tt

  pub udp_bound_on : (es : List Entry) (h : Here) (place : ℕ) (o : OpenUdp) (op : Operation) → FoundUdp h place (UdpRecord.Open o) → o.in_progress ≡ UdpInProgress.Binding op → Licensed contexts steps line origin es h
      → Allows (MayAskSo contexts steps) (λ fs ended. Licensed contexts steps line origin fs (put_udp h place (UdpRecord.Open (with_udp_progress o (udp_bind_progress op ended))))) es (poll_asks op)
  udp_bound_on es h place o op g e i =
      let f : UdpBindIsFine steps es op = subst (UdpProgressIsFine steps es) e (open_at_place contexts steps line origin is_line es h place o g i).progress in
      allows_weaker (MayAskSo contexts steps) (λ fs ended. Licensed contexts steps line origin fs h × UdpBindIsFine steps fs (left_of op ended.1)) (λ fs ended. Licensed contexts steps line origin fs (put_udp h place (UdpRecord.Open (with_udp_progress o (udp_bind_progress op ended)))))
      (λ fs ended k. let x = open_at_place contexts steps line origin is_line fs h place o g k.0 in
      put_udp_fine fs h place (UdpRecord.Open o) (UdpRecord.Open (with_udp_progress o (udp_bind_progress op ended))) g refl (record { made = x.made; bound = x.bound; progress = bound_after fs op ended k.1; connecting = x.connecting; sending = x.sending; receiving = x.receiving }) k.0) es (poll_asks op)
      (kept contexts steps line origin is_line h (λ fs ended. UdpBindIsFine steps fs (left_of op ended.1)) es (poll_asks op) i (fine_poll_udp_bind contexts steps op es f))

  -- what asks quietly, and somehow else
  pub quietly : {A : Type 0} (N : Call → Type 0) (h : Here) (Q : List Entry → A → Type 0) (es : List Entry) (asks : Asks A) → Licensed contexts steps line origin es h → Allows (λ fs o c. MayQuietly contexts steps fs o c × N c) Q es asks → Allows (MayAskSo contexts steps) (λ fs a. Licensed contexts steps line origin fs h × Q fs a) es asks
  quietly N h Q es asks i a =
      allows_keep (λ fs o c. MayQuietly contexts steps fs o c × N c) (MayAskSo contexts steps) (λ fs. Licensed contexts steps line origin fs h) Q
      (λ fs op c t fits k m. asked_fine contexts steps line origin is_line fs h op c t m.0.0.1 (spares contexts steps line origin is_line h c m.0.1) k) (λ fs op c m. m.0.0.0) es asks i a

  -- == a connect
  -- with what a connect gives, the socket's network socket is the same
  SocketIs : List Entry → Socket → Type 0
  SocketIs fs s = UdpMade steps fs s.side s.maker s.family × (s.bound ≡ true → IsBoundSide fs s.side ⊎ WasDisconnected fs s.side)

  given_is : (fs : List Entry) (s : Socket) (given : Given) → SocketIs fs s → SocketIs fs (with_given s given)
  unfolding SocketIs
  given_is fs s (Given.Remote r) k = k
  given_is fs s _ k = k

  given_side : (s : Socket) (given : Given) → (with_given s given).side ≡ s.side
  given_side s (Given.Remote r) = refl
  given_side s _ = refl

  connected_side : (op : Operation) (o : OpenUdp) (ended : End × List Item) → (udp_connect_left op o ended).inner.side ≡ o.inner.side
  connected_side op o (Waits, items) = refl
  connected_side op o (Done given, items) = given_side o.inner given
  connected_side op o (Refused c given, items) = given_side o.inner given

  connected_after : (es fs : List Entry) (op : Operation) (o : OpenUdp) (ended : End × List Item) → OpenIsFine steps fs o → ConnectLeaves steps es fs op ended → OpenIsFine steps fs (udp_connect_left op o ended)
  unfolding SocketIs
  connected_after es fs op o (Waits, items) x k = record { made = x.made; bound = x.bound; progress = x.progress; connecting = k.0; sending = x.sending; receiving = x.receiving }
  connected_after es fs op o (Done given, items) x k = let y = given_is fs o.inner given (x.made, x.bound) in record { made = y.0; bound = y.1; progress = x.progress; connecting = tt; sending = tt; receiving = tt }
  connected_after es fs op o (Refused c given, items) x k = let y = given_is fs o.inner given (x.made, x.bound) in record { made = y.0; bound = y.1; progress = x.progress; connecting = tt; sending = x.sending; receiving = x.receiving }

  pub udp_connected_on : (es : List Entry) (h : Here) (place : ℕ) (o : OpenUdp) (op : Operation) → FoundUdp h place (UdpRecord.Open o) → o.connecting ≡ Some op → Licensed contexts steps line origin es h
      → Allows (MayAskSo contexts steps) (λ fs ended. Licensed contexts steps line origin fs (put_udp h place (UdpRecord.Open (udp_connect_left op o ended)))) es (poll_asks op)
  udp_connected_on es h place o op g e i =
      let f : UdpConnectIsFine steps es op = subst (IfOp (UdpConnectIsFine steps es)) e (open_at_place contexts steps line origin is_line es h place o g i).connecting in
      allows_weaker (MayAskSo contexts steps) (λ fs ended. Licensed contexts steps line origin fs h × ConnectLeaves steps es fs op ended) (λ fs ended. Licensed contexts steps line origin fs (put_udp h place (UdpRecord.Open (udp_connect_left op o ended))))
      (λ fs ended k. put_udp_fine fs h place (UdpRecord.Open o) (UdpRecord.Open (udp_connect_left op o ended)) g (connected_side op o ended) (connected_after es fs op o ended (open_at_place contexts steps line origin is_line fs h place o g k.0) k.1) k.0) es (poll_asks op)
      (quietly (PeerOn op.who.side) h (λ fs ended. ConnectLeaves steps es fs op ended) es (poll_asks op) i (fine_poll_udp_connect contexts steps op es f))

  -- one of 0.3
  reconnected_side : (op : Operation) (o : OpenUdp) (ended : End × List Item) → (udp_reconnect_left op o ended).inner.side ≡ o.inner.side
  reconnected_side op o (Waits, items) = refl
  reconnected_side op o (Done given, items) = given_side o.inner given
  reconnected_side op o (Refused c given, items) = given_side o.inner given

  reconnected_after : (es fs : List Entry) (op : Operation) (o : OpenUdp) (ended : End × List Item) → OpenIsFine steps fs o → ConnectLeaves steps es fs op ended → OpenIsFine steps fs (udp_reconnect_left op o ended)
  unfolding SocketIs
  reconnected_after es fs op o (Waits, items) x k = record { made = x.made; bound = x.bound; progress = x.progress; connecting = k.0; sending = x.sending; receiving = x.receiving }
  reconnected_after es fs op o (Done given, items) x k = let y = given_is fs o.inner given (x.made, x.bound) in record { made = y.0; bound = y.1; progress = x.progress; connecting = tt; sending = x.sending; receiving = x.receiving }
  reconnected_after es fs op o (Refused c given, items) x k = let y = given_is fs o.inner given (x.made, x.bound) in record { made = y.0; bound = y.1; progress = x.progress; connecting = tt; sending = x.sending; receiving = x.receiving }

  pub udp_reconnected_on : (es : List Entry) (h : Here) (place : ℕ) (o : OpenUdp) (op : Operation) → FoundUdp h place (UdpRecord.Open o) → o.connecting ≡ Some op → Licensed contexts steps line origin es h
      → Allows (MayAskSo contexts steps) (λ fs ended. Licensed contexts steps line origin fs (put_udp h place (UdpRecord.Open (udp_reconnect_left op o ended)))) es (poll_asks op)
  udp_reconnected_on es h place o op g e i =
      let f : UdpConnectIsFine steps es op = subst (IfOp (UdpConnectIsFine steps es)) e (open_at_place contexts steps line origin is_line es h place o g i).connecting in
      allows_weaker (MayAskSo contexts steps) (λ fs ended. Licensed contexts steps line origin fs h × ConnectLeaves steps es fs op ended) (λ fs ended. Licensed contexts steps line origin fs (put_udp h place (UdpRecord.Open (udp_reconnect_left op o ended))))
      (λ fs ended k. put_udp_fine fs h place (UdpRecord.Open o) (UdpRecord.Open (udp_reconnect_left op o ended)) g (reconnected_side op o ended) (reconnected_after es fs op o ended (open_at_place contexts steps line origin is_line fs h place o g k.0) k.1) k.0) es (poll_asks op)
      (quietly (PeerOn op.who.side) h (λ fs ended. ConnectLeaves steps es fs op ended) es (poll_asks op) i (fine_poll_udp_connect contexts steps op es f))

  -- == a datagram
  sent_after : (fs : List Entry) (op : Operation) (left : End × List Item → Sending) (ended : End × List Item) → SettlesSend op left → SendIsFine steps fs (left_of op ended.1) → IfOp (SendIsFine steps fs) (send_op (left ended))
  sent_after fs op left (Waits, items) s k = rw (s.waits items) k
  sent_after fs op left (Done given, items) s k = rw (s.done given items) tt
  sent_after fs op left (Refused c given, items) s k = rw (s.refused c given items) tt

  -- it is on the socket's network socket
  send_side : (h : Here) (place : ℕ) (o : OpenUdp) (op : Operation) → FoundUdp h place (UdpRecord.Open o) → sending_in o.outgoing ≡ Some op → Fit h → op.who.side ≡ o.inner.side
  send_side h place o op g e b = let k : SendOn o.inner.side op = subst (FitSending o.inner.side) e (b.udps place (UdpRecord.Open o) g).2 in k.of_side

  pub udp_sent_on : (es : List Entry) (h : Here) (place : ℕ) (o : OpenUdp) (out : OutgoingStream) (op : Operation) (left : End × List Item → Sending) → FoundUdp h place (UdpRecord.Open o) → o.outgoing ≡ Some out → out.sending ≡ Sending.InProgress op → SettlesSend op left → RemoteIs es o.inner.side o.inner.remote → Fit h → Licensed contexts steps line origin es h
      → Allows (MayAskSo contexts steps) (λ fs ended. Licensed contexts steps line origin fs (put_udp h place (UdpRecord.Open (record o { outgoing = Some (with_sending out (left ended)) })))) es (poll_asks (at_remote o.inner.remote op))
  udp_sent_on es h place o out op left g e s settles r b i =
      let now : End × List Item → OpenUdp = λ ended. record o { outgoing = Some (with_sending out (left ended)) } in
      let is : sending_in o.outgoing ≡ Some op = ap sending_in e ∙ ap send_op s in
      let f : SendIsFine steps es op = subst (IfOp (SendIsFine steps es)) is (open_at_place contexts steps line origin is_line es h place o g i).sending in
      let its : op.who.side ≡ o.inner.side = send_side h place o op g is b in
      allows_weaker (MayAskSo contexts steps) (λ fs ended. Licensed contexts steps line origin fs h × SendIsFine steps fs (left_of op ended.1)) (λ fs ended. Licensed contexts steps line origin fs (put_udp h place (UdpRecord.Open (now ended))))
      (λ fs ended k. let x = open_at_place contexts steps line origin is_line fs h place o g k.0 in
      put_udp_fine fs h place (UdpRecord.Open o) (UdpRecord.Open (now ended)) g refl (record { made = x.made; bound = x.bound; progress = x.progress; connecting = x.connecting; sending = sent_after fs op left ended settles k.1; receiving = x.receiving }) k.0) es (poll_asks (at_remote o.inner.remote op))
      (quietly NoPeer h (λ fs ended. SendIsFine steps fs (left_of op ended.1)) es (poll_asks (at_remote o.inner.remote op)) i (fine_poll_send contexts steps op o.inner.remote es f (subst (λ (x : OpId). RemoteIs es x o.inner.remote) (sym its) r)))

  -- == a receive
  received_after : (fs : List Entry) (op : Operation) (ended : End × List Item) → ReceiveIsFine steps fs (left_of op ended.1) → IfOp (ReceiveIsFine steps fs) (receive_op (receive_left op ended))
  received_after fs op (Waits, items) k = k
  received_after fs op (Done (Given.Datagram bytes a), items) k = tt
  received_after fs op (Done _, items) k = tt
  received_after fs op (Refused c given, items) k = tt

  pub udp_received_on : (es : List Entry) (h : Here) (place : ℕ) (o : OpenUdp) (inc : IncomingStream) (op : Operation) → FoundUdp h place (UdpRecord.Open o) → o.incoming ≡ Some inc → inc.receiving ≡ Receiving.InProgress op → Licensed contexts steps line origin es h
      → Allows (MayAskSo contexts steps) (λ fs ended. Licensed contexts steps line origin fs (put_udp h place (UdpRecord.Open (record o { incoming = Some (with_receiving inc (receive_left op ended)) })))) es (poll_asks (wanting inc.remote op))
  udp_received_on es h place o inc op g e s i =
      let now : End × List Item → OpenUdp = λ ended. record o { incoming = Some (with_receiving inc (receive_left op ended)) } in
      let f : ReceiveIsFine steps es op = subst (IfOp (ReceiveIsFine steps es)) (ap receiving_in e ∙ ap receive_op s) (open_at_place contexts steps line origin is_line es h place o g i).receiving in
      allows_weaker (MayAskSo contexts steps) (λ fs ended. Licensed contexts steps line origin fs h × ReceiveIsFine steps fs (left_of op ended.1)) (λ fs ended. Licensed contexts steps line origin fs (put_udp h place (UdpRecord.Open (now ended))))
      (λ fs ended k. let x = open_at_place contexts steps line origin is_line fs h place o g k.0 in
      put_udp_fine fs h place (UdpRecord.Open o) (UdpRecord.Open (now ended)) g refl (record { made = x.made; bound = x.bound; progress = x.progress; connecting = x.connecting; sending = x.sending; receiving = received_after fs op ended k.1 }) k.0) es (poll_asks (wanting inc.remote op))
      (quietly NoPeer h (λ fs ended. ReceiveIsFine steps fs (left_of op ended.1)) es (poll_asks (wanting inc.remote op)) i (fine_poll_receive contexts steps op inc.remote es f))
