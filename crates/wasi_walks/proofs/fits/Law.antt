-- The law that what a socket is bound by is a bind, what it connects by a connect, what a listener accepts by an accept, and
-- that a bind is in progress where one stands.
use Rattle.wasi_walks.proofs.walks.Moves.{AddsSlot, OfReceive, OfSend, TakesEnd}
use Rattle.wasi_records.specs.Records.{slot_pushed}
use Rattle.wasi_walks.proofs.PipeLists.{slot_push_same}
use Rattle.wasi_walks.proofs.Words.{Accepting, Accepts, Listener, listen_first, Allows, Ask, AskWrite, Asks, Bool, End, Entry, Err, ErrorCode, Give, HoldsAccept}
use Rattle.wasi_walks.proofs.Words.{HoldsConnect, InProgress, IpSocketAddress, IsAcceptOn, IsConnect, IsLeftOfBind, IsLeftOfConnect, IsLeftOfListen}
use Rattle.wasi_walks.proofs.Words.{Item, List, None, Ok, OpId, Operation, Result, Socket, SocketAddressFamily, Some}
use Rattle.wasi_walks.proofs.Words.{Standing, StandingCall, Step, Streams, TcpRecord, TcpState, WasiSocketsCtx, WriteState, accept_ended}
use Rattle.wasi_walks.proofs.Words.{after_local, allows_weaker, ap, bind_progress, call_place, connect_ended}
use Rattle.wasi_walks.proofs.Words.{false, if◌then◌else◌, inl, inr}
use Rattle.wasi_walks.proofs.Words.{is_nothing, is_wildcard, new_job, new_record, own_of, poll_asks, refl}
use Rattle.wasi_walks.proofs.Words.{standing_as, subst, sym, told_addr, true, wildcard, with_inner}
use Rattle.wasi_walks.proofs.Words.{with_progress, with_state, with_writer, ℕ, ◌+◌, ◌∙◌, ◌≡◌, ◌⊎◌}
use Rattle.wasi_world.specs.declared.ids.Ids.{Ids}
use Rattle.wasi_tcp.specs.Listen.{IsListen, listen_left as left_of_listen}
use Rattle.wasi_walks.proofs.walks.Moves.{Names, Own, NoStart, NoStartIn, NoStartStands, IsSettled, KeepsBinding, HasBinding, HasListen, GoesOn, begun_bind, closed_record, Held, BindsOn, Connects, Used, Here, put, Move, Changes, ClosesReader, Writes, IsGone, Reconnects, Opens, BeginsConnect, BeginsBind, BeginsWrite, Stands, StandsBlocking, CancelsBind, CancelsUdpBind, CancelsUdpConnect, BeginsListen, BeginsAccept, Unlistens, Forgets, Joins, JoinsFault, JoinsPlain, Made, StandsListen, faulted, joined_plain, joins_as, Unstands, Listens, Awaits, listen_after, accepting_now, beginning_listen, new_accept, joined, Found}
use Rattle.wasi_walks.proofs.fits.Records.{FitListening, FitProgress, FitRecord, FitCall, FitUdp, FitUdpProgress, FitConnecting, UdpBindOn, UdpConnectOn, SendOn, ReceiveOn}
use Rattle.wasi_walks.proofs.fits.Datagrams.{Datagrams}
use Rattle.wasi_walks.proofs.fits.ClosedCalls.{closed_call, fewer_call}
use Rattle.wasi_walks.proofs.owners.Records.{Owns}
use Rattle.wasi_walks.proofs.fits.Polls.{Anything, bind_left, udp_bind_left, connect_left, listen_left, accept_left, AcceptLeaves}
use Rattle.wasi_walks.proofs.walks.Law.{BeginsWrites, InCall, Rests}
use Rattle.wasi_walks.proofs.walks.OfState.{Becomes, Learnt, IsClosed, GivenUp, UdpLearnt, UdpIsClosed, UdpGivenUp, UdpBegun, Resolved, Created, CreatedWith, Writing, OfState, begins_state, creating, of_state}
use Rattle.wasi_walks.proofs.Words.{new_socket}
use Rattle.wasi_tcp.specs.Accept as accept
use Rattle.wasi_tcp.specs.Listen as listen
use Rattle.wasi_walks.specs.Waiting as binding
use Rattle.wasi_records.specs.Records.{tcp2_at, tcp2_of, tcp2_put, tcp2_pushed, udp2_at, udp2_of, udp2_put, udp2_pushed}
use Rattle.host_udp.specs.SocketDatagrams.{is_udp_held}
use Rattle.wasi_walks.proofs.GoneLists.{was_there}
use Rattle.lookup_records.specs.declared.name_lookup.LookupOp.{LookupOp}
use Rattle.udp_records.specs.declared.udp.OpenUdp.{OpenUdp}
use Rattle.udp_records.specs.declared.udp.UdpRecord.{UdpRecord}
use Rattle.udp_records.specs.declared.udp.UdpInProgress.{UdpInProgress}
use Rattle.udp_records.specs.Datagrams.{udp_connect_left, udp_reconnect_left, with_sending}
use Rattle.udp_records.specs.Receiving.{receive_left, with_receiving}
use Rattle.udp_records.specs.Udp.{udp_bind_progress, udp_create_left, with_udp_inner, with_udp_progress, without_udp_socket}
use Rattle.wasi_udp.specs.Bind as udp
use Rattle.wasi_udp.specs.Receive.{IsLeftOfReceive, receive_start, wanting}
use Rattle.wasi_udp.specs.Send.{IsLeftOfSend, at_remote, send_start}
use Rattle.wasi_udp.specs.Create.{new_create, after_create as udp_after_create}
use Rattle.wasi_udp.specs.Shape.{Socket as UdpSocket}
use Rattle.wasi_walks.proofs.fits.UdpPolls.{LeavesCreate, create_left, create_fits}
use Rattle.wasi_walks.proofs.fits.DatagramPolls.{LeavesConnect, datagram_left, received_left, udp_connect_leaves, wanted_left}
use Rattle.wasi_walks.proofs.fits.TcpFits.{first_of, ended_fits, listened_fits, bound_fits, accepted_fits, joined_fits}
use Rattle.wasi_walks.proofs.fits.UdpFits.{KeepsOpen, same_udp, same_open, no_open, stays_open, plain_open, plain_fits, inner_fits, bound_udp, connected_udp, reconnected_udp, begun_connect, begun_send, sends_on, sent_udp, begun_receive, receives_on, received_udp}
use Rattle.wasi_walks.proofs.walks.Moves.{ToConnect, with_records, SameSockets, Finds, put_udp, FoundUdp, udp_begun, begun_udp_bind, begun_udp_connect, sending_now, receiving_now, part_of, UdpChanges, BeginsUdpBind, StandsUdpBind, StandsUdpCreate, BeginsUdpConnect, StandsConnect, StandsUdpConnect, StandsDropOutgoing, BeginsSend, BeginsReceive, UdpCreates, UdpBindsOn, UdpConnectsOn, UdpReconnectsOn, SendsOn, ReceivesOn, GivesBack, without_record, GoesBack, WhenIdle, WhenClosed, WithHandle, Unheld, DropsUdp}
use Rattle.wasi_records.specs.declared.records.Record.{Record}
use Rattle.wasi_walks.proofs.Places.{push_found, push_new, push_still, push_was, put_found, put_stays, put_still, put_was, tcp_sort, udp_sort}

-- Each record fits, and so does the pending call.
pub record Fit (h : Here) : Type 0 where
  pub records : (place : ℕ) (r : TcpRecord) → Found h place r → FitRecord r
  pub udps : (place : ℕ) (u : UdpRecord) → FoundUdp h place u → FitUdp u
  pub stands : (c : Standing) → h.machine.store.standing ≡ Some c → FitCall h.machine.store.records c.call

-- neither is pending, or the record continues with its bind and with its listen
abbrev pub KeepsBind : Here → TcpRecord → TcpRecord → Type 0
KeepsBind h r now = NoStart h ⊎ ((HasBinding r.in_progress → HasBinding now.in_progress) × (HasListen r.listening → HasListen now.listening))

-- one record changes
module _ (h : Here) (place : ℕ) (r now : TcpRecord) (g : Found h place r) (k : KeepsBind h r now) where
  call_put : (c : Standing) → h.machine.store.standing ≡ Some c → (call : StandingCall) → c.call ≡ call → FitCall h.machine.store.records call → FitCall (tcp2_put h.machine.store.records place now) call
  call_put c e (StandingCall.Bind n face) q b = elim (put_stays tcp_sort h.machine.store.records place now n b.was b.at) [
    | inl p ↦ record { was = b.was; at = p; goes = b.goes }
    | inr p ↦ record { was = now; at = p.1; goes = goes (ap (tcp2_at h.machine.store.records) (sym p.0) ∙ b.at) }
  ]
    where
      none : NoStart h → ⊥
      none quiet = subst NoStartIn q (subst NoStartStands e quiet)

      goes : tcp2_at h.machine.store.records place ≡ Some b.was → HasBinding now.in_progress
      goes at = let same : b.was ≡ r = cc in elim k [ inl quiet ↦ absurd (none quiet) | inr f ↦ f.0 (subst (λ (x : TcpRecord). HasBinding x.in_progress) same b.goes) ]
  call_put c e (StandingCall.Listen n marks) q b = elim (put_stays tcp_sort h.machine.store.records place now n b.was b.at) [
    | inl p ↦ record { was = b.was; at = p; goes = b.goes }
    | inr p ↦ record { was = now; at = p.1; goes = goes (ap (tcp2_at h.machine.store.records) (sym p.0) ∙ b.at) }
  ]
    where
      none : NoStart h → ⊥
      none quiet = subst NoStartIn q (subst NoStartStands e quiet)

      goes : tcp2_at h.machine.store.records place ≡ Some b.was → HasListen now.listening
      goes at = let same : b.was ≡ r = cc in elim k [ inl quiet ↦ absurd (none quiet) | inr f ↦ f.1 (subst (λ (x : TcpRecord). HasListen x.listening) same b.goes) ]
  call_put c e (StandingCall.DropOutput n) q b = tt
  call_put c e (StandingCall.UdpCreate n face) q b = record { was = b.was; at = put_still tcp_sort udp_sort (λ t. refl) h.machine.store.records place r now n (UdpRecord.Creating b.was) g b.at }
  call_put c e (StandingCall.UdpBind n face) q b = record { was = b.was; at = put_still tcp_sort udp_sort (λ t. refl) h.machine.store.records place r now n (UdpRecord.Open b.was) g b.at; op = b.op; goes = b.goes }
  call_put c e (StandingCall.UdpConnect3 n) q b = record { was = b.was; at = put_still tcp_sort udp_sort (λ t. refl) h.machine.store.records place r now n (UdpRecord.Open b.was) g b.at; op = b.op; goes = b.goes }
  call_put c e (StandingCall.UdpConnect n handle) q b = record { was = b.was; at = put_still tcp_sort udp_sort (λ t. refl) h.machine.store.records place r now n (UdpRecord.Open b.was) g b.at; op = b.op; goes = b.goes }
  call_put c e (StandingCall.DropOutgoing n) q b = tt
  call_put c e (StandingCall.Blocking call) q b = tt

  pub put_fit : FitRecord now → Fit h → Fit (put h place now)
  put_fit f i = record {
    records = λ k r e. elim (put_found tcp_sort h.machine.store.records place now k r e) [ inl p ↦ subst FitRecord p.1 f | inr p ↦ i.records k r p ];
    udps = λ k u e. i.udps k u (put_was tcp_sort udp_sort (λ t. refl) h.machine.store.records place now k u e);
    stands = λ c e. call_put c e c.call refl (i.stands c e);
  }

-- the sockets that were there are there
call_kept : (records now : List Record) → ((k : ℕ) (r : TcpRecord) → tcp2_at records k ≡ Some r → tcp2_at now k ≡ Some r) → ((k : ℕ) (u : UdpRecord) → udp2_at records k ≡ Some u → udp2_at now k ≡ Some u) → (call : StandingCall) → FitCall records call → FitCall now call
call_kept records now t u (StandingCall.Bind n face) b = record { was = b.was; at = t n b.was b.at; goes = b.goes }
call_kept records now t u (StandingCall.Listen n marks) b = record { was = b.was; at = t n b.was b.at; goes = b.goes }
call_kept records now t u (StandingCall.DropOutput n) b = tt
call_kept records now t u (StandingCall.UdpCreate n face) b = record { was = b.was; at = u n (UdpRecord.Creating b.was) b.at }
call_kept records now t u (StandingCall.UdpBind n face) b = record { was = b.was; at = u n (UdpRecord.Open b.was) b.at; op = b.op; goes = b.goes }
call_kept records now t u (StandingCall.UdpConnect3 n) b = record { was = b.was; at = u n (UdpRecord.Open b.was) b.at; op = b.op; goes = b.goes }
call_kept records now t u (StandingCall.UdpConnect n handle) b = record { was = b.was; at = u n (UdpRecord.Open b.was) b.at; op = b.op; goes = b.goes }
call_kept records now t u (StandingCall.DropOutgoing n) b = tt
call_kept records now t u (StandingCall.Blocking call) b = tt

-- one joins them
call_push : (records : List Record) (now : TcpRecord) (call : StandingCall) → FitCall records call → FitCall (tcp2_pushed records now) call
call_push records now = call_kept records (tcp2_pushed records now) (push_still tcp_sort tcp_sort records now) (push_still tcp_sort udp_sort records now)

-- the records are others with the same sockets
pub records_fit : {new : LookupOp → Type 0} (h : Here) (records : List Record) → SameSockets new h.machine.store.records records → Fit h → Fit (with_records h records)
records_fit h records s i = record {
  records = λ k r e. i.records k r (sym (s.tcp k) ∙ e);
  udps = λ k u e. i.udps k u (sym (s.udp k) ∙ e);
  stands = λ c e. call_kept h.machine.store.records records (λ k r e. s.tcp k ∙ e) (λ k u e. s.udp k ∙ e) c.call (i.stands c e);
}

-- one is given back, of which nothing is pending
fewer_fit : (h : Here) (place : ℕ) → GoesBack h place → Fit h → Fit (without_record h place)
fewer_fit h place idle i = record {
  records = λ k r e. i.records k r (was_there tcp2_of refl h.machine.store.records place k r e);
  udps = λ k u e. i.udps k u (was_there udp2_of refl h.machine.store.records place k u e);
  stands = by_reason idle;
}
  where
    by_reason : GoesBack h place → (c : Standing) → h.machine.store.standing ≡ Some c → FitCall (without_record h place).machine.store.records c.call
    by_reason (WhenIdle none) c e = absurd (let q : None ≡ Some c = sym none ∙ e in cc)
    by_reason (WhenClosed side g) c e = fewer_call h.machine.store.records place side g c.call (i.stands c e)

call_stands : (records : List Record) (call : StandingCall) (r : TcpRecord) → tcp2_at records (call_place call) ≡ Some r → GoesOn call r → FitCall records call
call_stands records (StandingCall.Bind n face) r g k = record { was = r; at = g; goes = k }
call_stands records (StandingCall.Listen n marks) r g k = absurd k
call_stands records (StandingCall.DropOutput n) r g k = tt
call_stands records (StandingCall.UdpCreate n face) r g k = absurd k
call_stands records (StandingCall.UdpBind n face) r g k = absurd k
call_stands records (StandingCall.UdpConnect n handle) r g k = absurd k
call_stands records (StandingCall.UdpConnect3 n) r g k = absurd k
call_stands records (StandingCall.DropOutgoing n) r g k = absurd k
call_stands records (StandingCall.Blocking call) r g k = absurd k

-- == a UDP socket changes
module _ (h : Here) (place : ℕ) (u now : UdpRecord) (g : FoundUdp h place u) (k : NoStart h ⊎ KeepsOpen u now) where
  none : (c : Standing) → h.machine.store.standing ≡ Some c → (call : StandingCall) → c.call ≡ call → NoStart h → NoStartIn call
  none c e call q quiet = subst NoStartIn q (subst NoStartStands e quiet)

  -- the one that is there is the one that changes
  same_was : (n : ℕ) (was : OpenUdp) → udp2_at h.machine.store.records n ≡ Some (UdpRecord.Open was) → n ≡ place → (o : KeepsOpen u now) → was ≡ o.was
  same_was n was at p o = let there : Some (UdpRecord.Open was) ≡ Some u = sym at ∙ (ap (udp2_at h.machine.store.records) p ∙ g) in same_open was o.was (same_udp (UdpRecord.Open was) u there ∙ o.from)

  udp_call_put : (c : Standing) → h.machine.store.standing ≡ Some c → (call : StandingCall) → c.call ≡ call → FitCall h.machine.store.records call → FitCall (udp2_put h.machine.store.records place now) call
  udp_call_put c e (StandingCall.Bind n face) q b = record { was = b.was; at = put_still udp_sort tcp_sort (λ t. refl) h.machine.store.records place u now n b.was g b.at; goes = b.goes }
  udp_call_put c e (StandingCall.Listen n marks) q b = record { was = b.was; at = put_still udp_sort tcp_sort (λ t. refl) h.machine.store.records place u now n b.was g b.at; goes = b.goes }
  udp_call_put c e (StandingCall.DropOutput n) q b = tt
  udp_call_put c e (StandingCall.UdpCreate n face) q b = elim (put_stays udp_sort h.machine.store.records place now n (UdpRecord.Creating b.was) b.at) [
    | inl p ↦ record { was = b.was; at = p }
    | inr p ↦ elim k [
      | inl quiet ↦ absurd (none c e (StandingCall.UdpCreate n face) q quiet)
      | inr o ↦ (let at : Some (UdpRecord.Creating b.was) ≡ Some u = sym b.at ∙ (ap (udp2_at h.machine.store.records) p.0 ∙ g) in absurd (no_open b.was o.was (same_udp (UdpRecord.Creating b.was) u at ∙ o.from)))
    ]
  ]
  udp_call_put c e (StandingCall.UdpBind n face) q b = elim (put_stays udp_sort h.machine.store.records place now n (UdpRecord.Open b.was) b.at) [
    | inl p ↦ record { was = b.was; at = p; op = b.op; goes = b.goes }
    | inr p ↦ elim k [
      | inl quiet ↦ absurd (none c e (StandingCall.UdpBind n face) q quiet)
      | inr o ↦ (let next = o.binds b.op (subst (λ (x : OpenUdp). x.in_progress ≡ UdpInProgress.Binding b.op) (same_was n b.was b.at p.0 o) b.goes) in record { was = o.is; at = p.1 ∙ ap (λ (x : UdpRecord). Some x) o.to; op = next.0; goes = next.1 })
    ]
  ]
  udp_call_put c e (StandingCall.UdpConnect n handle) q b = elim (put_stays udp_sort h.machine.store.records place now n (UdpRecord.Open b.was) b.at) [
    | inl p ↦ record { was = b.was; at = p; op = b.op; goes = b.goes }
    | inr p ↦ elim k [
      | inl quiet ↦ absurd (none c e (StandingCall.UdpConnect n handle) q quiet)
      | inr o ↦ (let next = o.connects b.op (subst (λ (x : OpenUdp). x.connecting ≡ Some b.op) (same_was n b.was b.at p.0 o) b.goes) in record { was = o.is; at = p.1 ∙ ap (λ (x : UdpRecord). Some x) o.to; op = next.0; goes = next.1 })
    ]
  ]
  udp_call_put c e (StandingCall.UdpConnect3 n) q b = elim (put_stays udp_sort h.machine.store.records place now n (UdpRecord.Open b.was) b.at) [
    | inl p ↦ record { was = b.was; at = p; op = b.op; goes = b.goes }
    | inr p ↦ elim k [
      | inl quiet ↦ absurd (none c e (StandingCall.UdpConnect3 n) q quiet)
      | inr o ↦ (let next = o.connects b.op (subst (λ (x : OpenUdp). x.connecting ≡ Some b.op) (same_was n b.was b.at p.0 o) b.goes) in record { was = o.is; at = p.1 ∙ ap (λ (x : UdpRecord). Some x) o.to; op = next.0; goes = next.1 })
    ]
  ]
  udp_call_put c e (StandingCall.DropOutgoing n) q b = tt
  udp_call_put c e (StandingCall.Blocking call) q b = tt

  pub put_udp_fit : FitUdp now → Fit h → Fit (put_udp h place now)
  put_udp_fit f i = record {
    records = λ n r e. i.records n r (put_was udp_sort tcp_sort (λ t. refl) h.machine.store.records place now n r e);
    udps = λ n x e. elim (put_found udp_sort h.machine.store.records place now n x e) [ inl p ↦ subst FitUdp p.1 f | inr p ↦ i.udps n x p ];
    stands = λ c e. udp_call_put c e c.call refl (i.stands c e);
  }

-- a UDP socket is closed that nothing holds
unheld_fit : (h : Here) (place : ℕ) (o : OpenUdp) → FoundUdp h place (UdpRecord.Open o) → is_udp_held h.machine.store place ≡ false → Datagrams h → Fit h → Fit (put_udp h place (UdpRecord.Closed o.inner.side))
unheld_fit h place o g free d i = record {
  records = λ n r e. i.records n r (put_was udp_sort tcp_sort (λ t. refl) h.machine.store.records place (UdpRecord.Closed o.inner.side) n r e);
  udps = λ n x e. elim (put_found udp_sort h.machine.store.records place (UdpRecord.Closed o.inner.side) n x e) [ inl p ↦ subst FitUdp p.1 tt | inr p ↦ i.udps n x p ];
  stands = λ c e. closed_call h place o g free c.call (d.stands c e) (i.stands c e);
}

-- one joins the records
udp_call_push : (records : List Record) (now : UdpRecord) (call : StandingCall) → FitCall records call → FitCall (udp2_pushed records now) call
udp_call_push records now = call_kept records (udp2_pushed records now) (push_still udp_sort tcp_sort records now) (push_still udp_sort udp_sort records now)

pub begun_fits : (h : Here) (op : OpId) (maker : ℕ) (family : SocketAddressFamily) (r : Result (Unit {0}) ErrorCode) → Fit h → Fit (udp_begun h (udp_after_create op maker family r))
begun_fits h op maker family (Ok done) i =
    let now : UdpRecord = UdpRecord.Creating (new_create op maker family) in
    let records = h.machine.store.records in
    record {
      records = λ n r e. i.records n r (push_was udp_sort tcp_sort (λ t. refl) records now n r e);
      udps = λ n u e. elim (push_found udp_sort records now n u e) [ inl p ↦ i.udps n u p | inr p ↦ subst FitUdp p.0 (refl, refl) ];
      stands = λ c e. udp_call_push records now c.call (i.stands c e);
    }
begun_fits h op maker family (Err c) i = record { records = i.records; udps = i.udps; stands = i.stands }

-- a bind in progress is of a socket that does nothing yet, and so is none of any other
pub not_binding : {s t : TcpState} (doing : InProgress) → s ≡ t → ((side : OpId) → t ≡ TcpState.Default side → ⊥) → FitProgress s doing → (u : TcpState) → FitProgress u doing
not_binding (InProgress.Binding op) e n f u = absurd (n op.who.side (sym e ∙ f.0))
not_binding InProgress.Nothing e n f u = tt
not_binding (InProgress.Started o) e n f u = tt

pub same_progress : {s t : TcpState} (doing : InProgress) → t ≡ s → FitProgress s doing → FitProgress t doing
same_progress doing e f = subst (λ (x : TcpState). FitProgress x doing) (sym e) f

settled_progress : (doing : InProgress) (s : TcpState) → IsSettled doing → FitProgress s doing
settled_progress (InProgress.Binding op) s k = absurd k
settled_progress InProgress.Nothing s k = tt
settled_progress (InProgress.Started o) s k = tt

kept_progress : (old now : InProgress) (s : TcpState) → KeepsBinding old now → FitProgress s old → FitProgress s now
kept_progress old now s (inl e) f = subst (FitProgress s) (sym e) f
kept_progress old now s (inr k) f = settled_progress now s k.1

kept_binding : (old now : InProgress) → KeepsBinding old now → HasBinding old → HasBinding now
kept_binding old now (inl e) b = subst HasBinding (sym e) b
kept_binding (InProgress.Binding op) now (inr k) b = absurd k.0
kept_binding InProgress.Nothing now (inr k) b = absurd b
kept_binding (InProgress.Started o) now (inr k) b = absurd b

no_binding : (doing : InProgress) → IsSettled doing → HasBinding doing → ⊥
no_binding (InProgress.Binding op) k b = k
no_binding InProgress.Nothing k b = b
no_binding (InProgress.Started o) k b = b

idle_binding : (doing : InProgress) → is_nothing doing ≡ true → (s : TcpState) → FitProgress s doing
idle_binding InProgress.Nothing e s = tt
idle_binding (InProgress.Binding op) e s = absurd (cc)
idle_binding (InProgress.Started o) e s = tt

pub told_same : (socket : Socket) (told : Result IpSocketAddress ErrorCode) → (after_local socket told).1.state ≡ socket.state
told_same socket (Ok a) = by_test (is_wildcard socket.family a)
  where
    by_test : (b : Bool) → (let answer : Bool × Socket = if b then (false, socket) else (true, record socket { bound = true }) in answer.1.state ≡ socket.state)
    by_test true = refl
    by_test false = refl
told_same socket (Err c) = refl

-- it holds of whatever is given
pub whatever : {A : Type 0} (Q : A → Type 0) → ((a : A) → Q a) → (es : List Entry) (asks : Asks A) → Allows Anything (λ fs a. Q a) es asks
whatever Q k es (Give a) = k a
whatever Q k es (Ask op c next) = (tt, λ told fits. whatever Q k _ (next told))
whatever Q k es (AskWrite op sock bytes next) = (tt, λ told fits front. whatever Q k _ (next told))

-- a call is pending
stood_fit : (h : Here) (ids : Ids) (call : StandingCall) → FitCall h.machine.store.records call → Fit h → Fit (record h { machine = record h.machine { store = record h.machine.store { standing = Some (standing_as ids call) } } })
stood_fit h ids call f i = record { records = i.records; udps = i.udps; stands = λ c p. let q : standing_as ids call ≡ c = cc in subst (λ (x : Standing). FitCall h.machine.store.records x.call) q f }

-- what the line has begun is another
owned_fit : (h : Here) (own : Own) → Fit h → Fit (record h { own = own })
owned_fit h own i = record { records = i.records; udps = i.udps; stands = i.stands }

-- a UDP socket changes, and the line has begun something
begun_udp_fit : (h : Here) (place : ℕ) (o now : OpenUdp) (own : Own) → FoundUdp h place (UdpRecord.Open o) → KeepsOpen (UdpRecord.Open o) (UdpRecord.Open now) → FitUdp (UdpRecord.Open now) → Fit h → Fit (record (put_udp h place (UdpRecord.Open now)) { own = own })
begun_udp_fit h place o now own g k f i = owned_fit (put_udp h place (UdpRecord.Open now)) own (put_udp_fit h place (UdpRecord.Open o) (UdpRecord.Open now) g (inr k) f i)

module _ (contexts : List WasiSocketsCtx) (line : ℕ) (origin : Step) where
  -- a write begins
  pub write_fit : (h : Here) (place : ℕ) (r : TcpRecord) (s : Streams) (w : WriteState) (own : Own) → Found h place r → Fit h → Fit (record (put h place (with_writer r s w)) { own = own })
  write_fit h place r s w own g i = owned_fit (put h place (with_writer r s w)) own (put_fit h place r (with_writer r s w) g (inr (λ b. b, λ l. l)) (i.records place r g) i)

  -- what an accept took joins the records
  taken_fit : (h : Here) (place : ℕ) (r : TcpRecord) (l : Listener) → Found h place r → r.listening ≡ Accepts l → (new : TcpRecord) (made : Made) → FitRecord new → Fit h → Fit (joins_as h (tcp2_put h.machine.store.records place (accepting_now r l Accepting.Idle)) new made)
  taken_fit h place r l g e new made its i =
      let f = i.records place r g in
      let idle : TcpRecord = accepting_now r l Accepting.Idle in
      let k = put_fit h place r idle g (inr (λ b. b, λ k. absurd (subst HasListen e k))) (f.0, tt, f.2) i in
      record {
        records = λ p q d. elim (push_new tcp_sort (tcp2_put h.machine.store.records place idle) new p q d) [ inl x ↦ k.records p q x | inr x ↦ subst FitRecord x its ];
        udps = λ p u d. k.udps p u (push_was tcp_sort udp_sort (λ t. refl) (tcp2_put h.machine.store.records place idle) new p u d);
        stands = λ c e. call_push (tcp2_put h.machine.store.records place idle) new c.call (k.stands c e);
      }

  -- a listen begins with the question where the socket is bound, or with the check of a bind
  first_listen : (wild : IpSocketAddress) (backlog : ℕ) (bound : Bool) → IsLeftOfListen (left_of_listen wild backlog (listen_first bound))
  first_listen wild backlog true = listen.BoundBefore backlog
  first_listen wild backlog false = listen.Unbound wild backlog

  pub moves_fit : (h now : Here) → Move line origin h now → Fit h → Fit now
  moves_fit _ _ (Changes h place r now g p) i =
      let f = i.records place r g in
      put_fit h place r now g (inr (kept_binding r.in_progress now.in_progress p.binds, subst HasListen (sym p.listening)))
      (subst HoldsConnect (sym p.does) f.0, subst FitListening (sym p.listening) f.1, same_progress now.in_progress p.does (kept_progress r.in_progress now.in_progress r.inner.state p.binds f.2)) i
  moves_fit _ _ (ClosesReader h place r s g e) i = put_fit h place r _ g (inr (λ b. b, λ l. l)) (i.records place r g) i
  moves_fit _ _ (Writes h place r s w g e m) i = put_fit h place r _ g (inr (λ b. b, λ l. l)) (i.records place r g) i
  moves_fit _ _ (IsGone h place r q g e) i = put_fit h place r _ g (inl q.0) ((i.records place r g).0, tt, tt) i
  moves_fit _ _ (Reconnects h place r c now g e s t u) i = let f = i.records place r g in put_fit h place r _ g (inr (λ b. b, λ l. l)) (tt, f.1, not_binding r.in_progress e (λ side d. absurd (cc)) f.2 _) i
  moves_fit _ _ (Opens h place r c k g e n) i = put_fit h place r _ g (inr (λ b. absurd (no_binding r.in_progress k b), λ l. l)) (tt, (i.records place r g).1, tt) i
  moves_fit _ _ (BeginsConnect h place r side a bound at g d to known idle own) i =
      let k = put_fit h place r _ g (inr (λ b. b, λ l. l)) (first_of (own_of line) side r.inner.maker (wildcard r.inner.family) a bound, (i.records place r g).1, idle_binding r.in_progress idle _) i in record { records = k.records; udps = k.udps; stands = k.stands }
  moves_fit _ _ (BeginsBind h place r side a at g d to own) i =
      let f = i.records place r g in
      let k = put_fit h place r (with_progress r (InProgress.Binding (begun_bind (own_of line) side r a))) g (inr (λ b. tt, λ l. l)) (f.0, f.1, (d, record { last = refl; left = binding.Unchecked a })) i in record { records = k.records; udps = k.udps; stands = k.stands }
  moves_fit _ _ (BeginsWrite h place n r s half permit bytes at g e w within own) i = write_fit h place r s (WriteState.Writing (new_job (own_of n) half.side bytes)) Used g i
  moves_fit _ _ (BeginsListen h place r side bound at g d known un none to idle own) i =
      let k = put_fit h place r (beginning_listen (own_of line) side r bound) g (inr (λ b. b, λ l. absurd (subst HasListen none l))) (tt, record { last = refl; left = first_listen (wildcard r.inner.family) r.inner.backlog bound }, idle_binding r.in_progress idle _) i in record { records = k.records; udps = k.udps; stands = k.stands }
  moves_fit _ _ (BeginsAccept h place part r l at g e a own) i =
      let f = i.records place r g in
      let k = put_fit h place r (accepting_now r l (new_accept (part_of line part) l)) g (inr (λ b. b, λ k. absurd (subst HasListen e k))) (f.0, record { accept = record { last = refl; left = accept.Unarrived }; of_side = refl; of_maker = refl; going = refl }, f.2) i in record { records = k.records; udps = k.udps; stands = k.stands }
  moves_fit _ _ (Unlistens h place r op q g e c o) i = let f = i.records place r g in put_fit h place r _ g (inl q) (f.0, tt, f.2) i
  moves_fit _ _ (Forgets h place r l c g e a) i = let f = i.records place r g in put_fit h place r _ g (inr (λ b. b, λ k. absurd (subst HasListen e k))) (f.0, tt, f.2) i
  moves_fit _ _ (Joins h c handle place r l new peer is of u g e a) i = taken_fit h place r l g e (joined l new peer) _ (joined_fits l new peer) i
  moves_fit _ _ (JoinsPlain h c listener remaining place r l new peer is of u g e a) i = taken_fit h place r l g e (joined_plain l new peer) _ (tt, tt, tt) i
  moves_fit _ _ (JoinsFault h place r l c u g e a) i = taken_fit h place r l g e (faulted l c) _ (tt, tt, tt) i
  moves_fit _ _ (StandsListen h ids place marks r quiet at made g goes) i = stood_fit h ids (StandingCall.Listen place marks) (record { was = r; at = g; goes = goes }) i
  moves_fit _ _ (Stands h ids call r quiet at g b) i = stood_fit h ids call (call_stands h.machine.store.records call r g b) i
  moves_fit _ _ (Unstands h over) i = record { records = i.records; udps = i.udps; stands = λ c p. absurd (cc) }
  moves_fit _ _ (UdpChanges h place o now g p keeps) i = put_udp_fit h place (UdpRecord.Open o) (UdpRecord.Open now) g (inr (plain_open o now p)) (plain_fits o now p (i.udps place (UdpRecord.Open o) g)) i
  moves_fit _ _ (BeginsUdpBind h place o a at g to own) i =
      let f = i.udps place (UdpRecord.Open o) g in
      let now : OpenUdp = with_udp_progress o (UdpInProgress.Binding (begun_udp_bind (own_of line) o a)) in
      begun_udp_fit h place o now Used g (record { was = o; is = now; from = refl; to = refl; binds = λ op e. (begun_udp_bind (own_of line) o a, refl); connects = λ op e. (op, e) }) (record { bind = record { last = refl; left = udp.Unchecked a }; of_side = refl }, f.1, f.2, f.3) i
  moves_fit _ _ (StandsUdpBind h ids place face o op quiet at g e) i = stood_fit h ids (StandingCall.UdpBind place face) (record { was = o; at = g; op = op; goes = e }) i
  moves_fit _ _ (StandsUdpCreate h ids place face create quiet m g by) i = stood_fit h ids (StandingCall.UdpCreate place face) (record { was = create; at = g }) i
  moves_fit _ _ (BeginsUdpConnect h place o a bound at g to known none own) i =
      let f = i.udps place (UdpRecord.Open o) g in
      let op = begun_udp_connect (own_of line) o a bound in
      let now : OpenUdp = record o { connecting = Some op } in
      begun_udp_fit h place o now (ToConnect place) g (record { was = o; is = now; from = refl; to = refl; binds = λ x e. (x, e); connects = λ x e. (op, refl) }) (f.0, record { connect = begun_connect (own_of line) o.inner a bound; of_side = refl }, f.2, f.3) i
  moves_fit _ _ (StandsUdpConnect h ids place handle o op quiet at under g e) i = stood_fit h ids (StandingCall.UdpConnect place handle) (record { was = o; at = g; op = op; goes = e }) i
  moves_fit _ _ (StandsConnect h ids place o op quiet at past g e) i = stood_fit h ids (StandingCall.UdpConnect3 place) (record { was = o; at = g; op = op; goes = e }) i
  moves_fit _ _ (StandsDropOutgoing h ids place o quiet at g s) i = stood_fit h ids (StandingCall.DropOutgoing place) tt i
  moves_fit _ _ (BeginsSend h place n o out d bound at g e is known own) i =
      let f = i.udps place (UdpRecord.Open o) g in
      let now = sending_now o out (send_start (part_of line n) o.inner d.bytes d.remote_address bound) in
      begun_udp_fit h place o now (Names (n + 1)) g (stays_open o now refl refl) (f.0, f.1, begun_send (part_of line n) o.inner d.bytes d.remote_address bound, f.3) i
  moves_fit _ _ (BeginsReceive h place n o inc bound at g e is own) i =
      let f = i.udps place (UdpRecord.Open o) g in
      let now = receiving_now o inc (receive_start (part_of line n) o.inner bound) in
      begun_udp_fit h place o now (Names (n + 1)) g (stays_open o now refl refl) (f.0, f.1, f.2, begun_receive (part_of line n) o.inner bound) i
  moves_fit _ _ (StandsBlocking h ids call handles m its) i = stood_fit h ids (StandingCall.Blocking call) tt i
  moves_fit _ _ (CancelsBind h place r op q g e) i = let f = i.records place r g in put_fit h place r _ g (inl q) (f.0, f.1, tt) i
  moves_fit _ _ (CancelsUdpBind h place o op q g e) i = let f = i.udps place (UdpRecord.Open o) g in put_udp_fit h place (UdpRecord.Open o) _ g (inl q) (tt, f.1, f.2, f.3) i
  moves_fit _ _ (CancelsUdpConnect h place o q g) i = let f = i.udps place (UdpRecord.Open o) g in put_udp_fit h place (UdpRecord.Open o) _ g (inl q) (f.0, tt, f.2, f.3) i
  moves_fit _ _ (TakesEnd h handle place r _ of g (OfReceive c e free)) i = let f = i.records place r g in put_fit h place r _ g (inr (λ b. b, λ l. l)) (tt, f.1, not_binding r.in_progress e (λ side d. absurd (cc)) f.2 _) i
  moves_fit _ _ (TakesEnd h handle place r _ of g (OfSend c e free)) i = let f = i.records place r g in put_fit h place r _ g (inr (λ b. b, λ l. l)) (tt, f.1, not_binding r.in_progress e (λ side d. absurd (cc)) f.2 _) i
  moves_fit _ _ (AddsSlot h s) i = let k = records_fit h (slot_pushed h.machine.store.records s) (slot_push_same {new = λ op. ⊥} h.machine.store.records s) i in record { records = k.records; udps = k.udps; stands = k.stands }
  moves_fit _ _ (Finds h records s) i = records_fit h records s i
  moves_fit _ _ (DropsUdp h place o idle m g) i = let k = put_udp_fit h place (UdpRecord.Open o) (UdpRecord.Open (without_udp_socket o)) g (inl (subst NoStartStands (sym idle) tt)) (i.udps place (UdpRecord.Open o) g) i in record { records = k.records; udps = k.udps; stands = k.stands }
  moves_fit _ _ (GivesBack h place idle left) i = fewer_fit h place idle i
  moves_fit _ _ _ i = record { records = i.records; udps = i.udps; stands = i.stands }

  -- a socket that is created connects by nothing
  created_fit : (h : Here) (op : OpId) (ctx : WasiSocketsCtx) (family : SocketAddressFamily) → Fit h
      → Fit (creating h op ctx family)
  created_fit h op ctx family i = let new = new_record (new_socket op ctx.name family) in record {
    records = λ p r e. elim (push_new tcp_sort h.machine.store.records new p r e) [ inl q ↦ i.records p r q | inr q ↦ subst FitRecord q (tt, tt, tt) ];
    udps = λ p u e. i.udps p u (push_was tcp_sort udp_sort (λ t. refl) h.machine.store.records new p u e);
    stands = λ c e. call_push h.machine.store.records new c.call (i.stands c e);
  }

  pub polls_fit : (es : List Entry) (h : Here) (op : Operation) (after : End × List Item → Here) → Held h op after → Fit h → Allows Anything (λ fs ended. Fit (after ended)) es (poll_asks op)
  polls_fit es h _ _ (BindsOn place r op q g e) i =
      let f = i.records place r g in
      let its = subst (FitProgress r.inner.state) e f.2 in
      allows_weaker Anything (λ fs end. IsLeftOfBind end.1) (λ fs end. Fit (put h place (with_progress r (bind_progress op end)))) (λ fs end k. put_fit h place r _ g (inl q) (bound_fits op r end e k f) i) es (poll_asks op) (bind_left op its.1 es)
  polls_fit es h _ _ (Connects place r op g e) i =
      let f = i.records place r g in
      let its : IsConnect op = subst HoldsConnect e f.0 in
      allows_weaker Anything (λ fs end. IsLeftOfConnect end.1) (λ fs end. Fit (put h place (with_inner r (with_state r.inner (connect_ended op.who end).1))))
      (λ fs end k. put_fit h place r _ g (inr (λ b. b, λ l. l)) (ended_fits op end its k, f.1, not_binding r.in_progress e (λ side d. absurd (cc)) f.2 _) i) es (poll_asks op) (connect_left op its es)
  polls_fit es h _ _ (Listens place r op q g e c) i =
      let f = i.records place r g in
      let its : IsListen op = subst FitListening e f.1 in
      allows_weaker Anything (λ fs end. IsLeftOfListen end.1) (λ fs end. Fit (put h place (listen_after op r end))) (λ fs end k. put_fit h place r _ g (inl q) (listened_fits op r end its k f) i) es (poll_asks op) (listen_left op its es)
  polls_fit es h _ _ (Awaits place r l op g e a) i =
      let f = i.records place r g in
      let its : IsAcceptOn l.side l.maker op = subst (HoldsAccept l.side l.maker) a (subst FitListening e f.1) in
      allows_weaker Anything (λ fs end. AcceptLeaves end) (λ fs end. Fit (put h place (accepting_now r l (accept_ended op.who end))))
      (λ fs end k. put_fit h place r _ g (inr (λ b. b, λ l. absurd (subst HasListen e l))) (f.0, accepted_fits l.side l.maker op end its k, f.2) i) es (poll_asks op) (accept_left op its.accept its.going es)
  polls_fit es h _ _ (UdpCreates place create q g) i =
      let f = i.udps place (UdpRecord.Creating create) g in
      allows_weaker Anything (λ fs end. LeavesCreate end) (λ fs end. Fit (put_udp h place (udp_create_left create end))) (λ fs end k. put_udp_fit h place (UdpRecord.Creating create) _ g (inl q) (create_fits create f.0 end k) i) es (poll_asks create.operation) (create_left create.operation f.0 f.1 es)
  polls_fit es h _ _ (UdpBindsOn place o op q g e) i =
      let f = i.udps place (UdpRecord.Open o) g in
      let its : UdpBindOn o.inner.side op = subst (FitUdpProgress o.inner.side) e f.0 in
      allows_weaker Anything (λ fs end. udp.IsLeftOfBind end.1) (λ fs end. Fit (put_udp h place (UdpRecord.Open (with_udp_progress o (udp_bind_progress op end))))) (λ fs end k. put_udp_fit h place (UdpRecord.Open o) _ g (inl q) (bound_udp o op end its k f) i) es (poll_asks op) (udp_bind_left op its.bind es)
  polls_fit es h _ _ (UdpConnectsOn place o op q g e) i =
      let f = i.udps place (UdpRecord.Open o) g in
      let its : UdpConnectOn o.inner.side op = subst (FitConnecting o.inner.side) e f.1 in
      allows_weaker Anything (λ fs end. LeavesConnect end) (λ fs end. Fit (put_udp h place (UdpRecord.Open (udp_connect_left op o end)))) (λ fs end k. put_udp_fit h place (UdpRecord.Open o) _ g (inl q.0) (connected_udp o op end its k f) i) es (poll_asks op) (udp_connect_leaves op its.connect.left es)
  polls_fit es h _ _ (UdpReconnectsOn place o op q g e) i =
      let f = i.udps place (UdpRecord.Open o) g in
      let its : UdpConnectOn o.inner.side op = subst (FitConnecting o.inner.side) e f.1 in
      allows_weaker Anything (λ fs end. LeavesConnect end) (λ fs end. Fit (put_udp h place (UdpRecord.Open (udp_reconnect_left op o end)))) (λ fs end k. put_udp_fit h place (UdpRecord.Open o) _ g (inl q) (reconnected_udp o op end its k f) i) es (poll_asks op) (udp_connect_leaves op its.connect.left es)
  polls_fit es h _ _ (SendsOn place o out op left g e s settles) i =
      let f = i.udps place (UdpRecord.Open o) g in
      let its : SendOn o.inner.side op = sends_on o out op e s f in
      let now : End × List Item → OpenUdp = λ end. record o { outgoing = Some (with_sending out (left end)) } in
      allows_weaker Anything (λ fs end. IsLeftOfSend end.1) (λ fs end. Fit (put_udp h place (UdpRecord.Open (now end)))) (λ fs end k. put_udp_fit h place (UdpRecord.Open o) _ g (inr (stays_open o (now end) refl refl)) (sent_udp o out op left end settles its k f) i) es (poll_asks (at_remote o.inner.remote op))
      (datagram_left (at_remote o.inner.remote op) its.send.left es)
  polls_fit es h _ _ (ReceivesOn place o inc op g e r) i =
      let f = i.udps place (UdpRecord.Open o) g in
      let its : ReceiveOn o.inner.side op = receives_on o inc op e r f in
      let now : End × List Item → OpenUdp = λ end. record o { incoming = Some (with_receiving inc (receive_left op end)) } in
      allows_weaker Anything (λ fs end. IsLeftOfReceive end.1) (λ fs end. Fit (put_udp h place (UdpRecord.Open (now end)))) (λ fs end k. put_udp_fit h place (UdpRecord.Open o) _ g (inr (stays_open o (now end) refl refl)) (received_udp o inc op end its k f) i) es (poll_asks (wanting inc.remote op))
      (received_left (wanting inc.remote op) (wanted_left inc.remote op.left its.receive.left) es)

  -- the socket changes, and neither its network socket nor what it is in the middle of does
  pub udp_inner_fit : (h : Here) (place : ℕ) (o : OpenUdp) (socket : UdpSocket) → FoundUdp h place (UdpRecord.Open o) → socket.side ≡ o.inner.side → Fit h → Fit (put_udp h place (UdpRecord.Open (with_udp_inner o socket)))
  udp_inner_fit h place o socket g e i = put_udp_fit h place (UdpRecord.Open o) _ g (inr (stays_open o (with_udp_inner o socket) refl refl)) (inner_fits o socket e (i.udps place (UdpRecord.Open o) g)) i

  pub becomes_fit : (h now : Here) → Becomes contexts line origin h now → Datagrams h → Fit h → Fit now
  becomes_fit h _ (Learnt place r side told at g e) d i =
      let f = i.records place r g in
      put_fit h place r _ g (inr (λ b. b, λ l. l)) (subst HoldsConnect (sym (told_same r.inner (told_addr told))) f.0, f.1, same_progress r.in_progress (told_same r.inner (told_addr told)) f.2) i
  becomes_fit h _ (IsClosed place r side q g e) d i = put_fit h place r (closed_record r) g (inl q.0) (tt, tt, tt) i
  becomes_fit h _ (GivenUp place r q goes g) d i =
      let f = i.records place r g in put_fit h place r _ g (inl q) (f.0, tt, f.2) i
  becomes_fit h _ (UdpLearnt place o socket g e) d i = udp_inner_fit h place o socket g e i
  becomes_fit h _ (UdpIsClosed place o (WithHandle idle m) g) d i = put_udp_fit h place (UdpRecord.Open o) (UdpRecord.Closed o.inner.side) g (inl (subst NoStartStands (sym idle) tt)) tt i
  becomes_fit h _ (UdpIsClosed place o (Unheld free) g) d i = unheld_fit h place o g free d i
  becomes_fit h _ (UdpGivenUp place create q g) d i =
      put_udp_fit h place (UdpRecord.Creating create) (UdpRecord.Closed create.operation.who.side) g (inl q) tt i
  becomes_fit h _ (UdpBegun face ctx family r c u m) d i = begun_fits h (own_of line) ctx.name family r i
  becomes_fit h _ (Resolved host records l s) d i = records_fit h records s i
  becomes_fit h _ (Created face ctx family c u m) d i = created_fit h (own_of line) ctx family i
  becomes_fit h _ (CreatedWith face ctx family c u m) d i =
      let j = created_fit h (own_of line) ctx family i in
      record { records = j.records; udps = j.udps; stands = j.stands }
  becomes_fit h _ (Writing _ (InCall place n r s half permit bytes at g e w within used)) d i =
      write_fit h place r s _ Used g i
  becomes_fit h _ _ d i = record { records = i.records; udps = i.udps; stands = i.stands }

  abbrev pub fit_state : OfState contexts line origin (λ es h. Owns h × Datagrams h)
  fit_state = record { Holds = Fit; moves = λ es h now m b i. moves_fit h now m i; becomes = λ es h now k b i. becomes_fit h now k b.1 i; polls = λ es h op after k b i. polls_fit es h op after k i; turns = λ es h place r s g e b i. whatever (λ done. Fit (put h place (with_writer r s done.1))) (λ done. put_fit h place r _ g (inr (λ b. b, λ l. l)) (i.records place r g) i) es _ }

  unfoldable pub fits : Rests contexts line origin (λ es h. Owns h × Datagrams h)
  fits = of_state fit_state

  pub begins_fit : BeginsWrites fits
  unfolding fits
  begins_fit = begins_state fit_state
