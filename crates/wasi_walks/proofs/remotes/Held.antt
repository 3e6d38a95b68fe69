-- What is in progress keeps what is known: a poll asks for no remote address, but for a connect of a UDP socket, which is told its own.
use Rattle.wasi_walks.proofs.Words.{Allows, Call, Done, End, Entry, HoldsAccept, HoldsConnect, IpSocketAddress, IsAcceptOn, IsLeftOfAccept}
use Rattle.wasi_walks.proofs.Words.{IsLeftOfBind, IsLeftOfConnect, IsLeftOfListen, IsMaker, Item, List, None, OpId, Operation, Option, Refused}
use Rattle.wasi_walks.proofs.Words.{Some, Step, TcpRecord, Told, Waits, WasiSocketsCtx, [], accept_ended, allows_keep, allows_weaker, ap}
use Rattle.wasi_walks.proofs.Words.{bind_progress, connect_ended, entry, inl, inr, poll_asks, refl, subst, sym, told_addr, with_inner}
use Rattle.wasi_walks.proofs.Words.{with_progress, with_state, ℕ, ◌++◌, ◌∙◌, ◌∷◌, ◌≡◌}
use Rattle.wasi_tcp.specs.Accept as accept
use Rattle.wasi_tcp.specs.Connect as connect
use Rattle.wasi_tcp.specs.Listen as listen
use Rattle.wasi_tcp.specs.Listen.{IsListen}
use Rattle.wasi_udp.specs.Bind as udp_bind
use Rattle.wasi_udp.specs.Receive as receive
use Rattle.wasi_udp.specs.Receive.{wanting}
use Rattle.wasi_udp.specs.Send as send
use Rattle.wasi_udp.specs.Send.{at_remote}
use Rattle.wasi_udp.specs.Connect.{with_given}
use Rattle.wasi_udp.specs.Create.{Create}
use Rattle.wasi_udp.specs.Socket.{after_peer}
use Rattle.wasi_walks.specs.Waiting as binding
use Rattle.udp_records.specs.Datagrams.{udp_connect_left, udp_reconnect_left, with_sending, with_streams}
use Rattle.udp_records.specs.Receiving.{receive_left, with_receiving}
use Rattle.wasi_records.specs.Records.{tcp2_put, udp2_at, udp2_put}
use Rattle.udp_records.specs.Udp.{udp_bind_progress, udp_create_left, udp_side, with_udp_inner, with_udp_progress}
use Rattle.udp_records.specs.declared.datagrams.Incoming.{Incoming}
use Rattle.udp_records.specs.declared.datagrams.Receiving.{Receiving}
use Rattle.wasi_records.specs.declared.records.Record.{Record}
use Rattle.udp_records.specs.declared.udp.OpenUdp.{OpenUdp}
use Rattle.udp_records.specs.declared.udp.UdpRecord.{UdpRecord}
use Rattle.wasi_world.specs.Operation.{Datagram, Given, Remote}
use Rattle.wasi_walks.proofs.Lists.{has_front}
use Rattle.wasi_walks.proofs.claims.Law.{Named, Base}
use Rattle.wasi_walks.proofs.fits.DatagramPolls.{wanted_left}
use Rattle.wasi_walks.proofs.fits.Polls.{Anything}
use Rattle.wasi_walks.proofs.fits.Records.{FitConnecting, FitListening, FitProgress, FitReceiving, FitSending, FitUdpProgress, ReceiveOn, SendOn, UdpBindOn, UdpConnectOn}
use Rattle.wasi_walks.proofs.licence.State.{RemoteIs}
use Rattle.wasi_walks.proofs.walks.Moves as walk
use Rattle.wasi_walks.proofs.walks.Moves.{FoundUdp, Held, Here, accepting_now, listen_after, receive_op, receiving_in, send_op, sending_in}
use Rattle.wasi_walks.proofs.remotes.Polls.{AreSilent, Unpeered, silent_poll}
use Rattle.wasi_walks.proofs.remotes.ConnectPolls.{After, AsksOwn, connect_poll, none_kept, told_kept}
use Rattle.wasi_walks.proofs.remotes.Along.{has_told}
use Rattle.wasi_walks.specs.Remotes.{HasRemote}
use Rattle.wasi_walks.proofs.remotes.State.{ConnectsBy, IsCreated, Keeps, OpenKeeps, ReceivesFor, SparesUdp, TcpKeeps, UdpKeeps, asked, kept, maker_of, put_tcp, put_udps, Spares}
use Rattle.wasi_walks.proofs.Places.{put_finds, put_found, put_twice, udp_sort}

-- == items that ask for no remote address
-- a bind
bind_silent : (items : List Item) → IsLeftOfBind items → AreSilent items
bind_silent _ (binding.Unchecked a) = (tt, (tt, tt))
bind_silent _ (binding.Checked a) = (tt, tt)
bind_silent _ binding.Ended = tt

-- a connect
connect_silent : (items : List Item) → IsLeftOfConnect items → AreSilent items
connect_silent _ (connect.Unbound w a) = (tt, (tt, (tt, tt)))
connect_silent _ (connect.Unchecked a) = (tt, (tt, tt))
connect_silent _ (connect.Checked a) = (tt, tt)
connect_silent _ (connect.ToClose c) = (tt, tt)
connect_silent _ connect.Ended = tt

-- a listen
listen_silent : (items : List Item) → IsLeftOfListen items → AreSilent items
listen_silent _ (listen.BoundBefore b) = (tt, (tt, tt))
listen_silent _ (listen.AddressTold a b) = (tt, (tt, tt))
listen_silent _ (listen.Unbound w b) = (tt, (tt, (tt, (tt, tt))))
listen_silent _ (listen.BindChecked w b) = (tt, (tt, (tt, tt)))
listen_silent _ (listen.Checked w b) = (tt, (tt, tt))
listen_silent _ (listen.Bound b) = (tt, tt)
listen_silent _ (listen.ToClose c) = (tt, tt)
listen_silent _ listen.Ended = tt

-- an accept
accept_silent : (items : List Item) → IsLeftOfAccept items → AreSilent items
accept_silent _ accept.Unarrived = (tt, tt)
accept_silent _ (accept.Arrived peer) = (tt, tt)
accept_silent _ (accept.Admitted peer) = (tt, tt)
accept_silent _ (accept.Unwanted peer) = (tt, tt)
accept_silent _ accept.Ended = tt

-- a bind of a UDP socket
udp_bind_silent : (items : List Item) → udp_bind.IsLeftOfBind items → AreSilent items
udp_bind_silent _ (udp_bind.Unchecked a) = (tt, (tt, tt))
udp_bind_silent _ (udp_bind.Checked a) = (tt, tt)
udp_bind_silent _ udp_bind.Ended = tt

-- a receive
pub receive_silent : (items : List Item) → receive.IsLeftOfReceive items → AreSilent items
receive_silent _ (receive.ToRefuse c) = (tt, tt)
receive_silent _ (receive.Unreceived only) = (tt, tt)
receive_silent _ (receive.Received only bytes peer) = (tt, tt)
receive_silent _ receive.Ended = tt

-- a datagram
pub send_silent : (items : List Item) → send.IsLeftOfSend items → AreSilent items
send_silent _ (send.ToRefuse c) = (tt, tt)
send_silent _ (send.Unbound family kept a bytes) = (tt, (tt, (tt, tt)))
send_silent _ (send.Unchecked kept a bytes) = (tt, (tt, tt))
send_silent _ (send.Checked kept a bytes) = (tt, tt)
send_silent _ send.Ended = tt

-- == polls
-- of an operation of a TCP socket
polled_tcp : (es : List Entry) (h : Here) (place : ℕ) (op : Operation) (now : End × List Item → TcpRecord) → ((ended : End × List Item) → TcpKeeps (now ended)) → AreSilent op.left → Keeps es h.machine.store.records
    → Allows Anything (λ fs ended. Keeps fs (tcp2_put h.machine.store.records place (now ended))) es (poll_asks op)
polled_tcp es h place op now f s i =
    allows_weaker Anything (λ fs ended. Keeps fs h.machine.store.records × AreSilent ended.1) (λ fs ended. Keeps fs (tcp2_put h.machine.store.records place (now ended)))
    (λ fs ended k. put_tcp fs h.machine.store.records place (now ended) (f ended) k.0) es (poll_asks op) (kept h.machine.store.records (λ fs ended. AreSilent ended.1) es (poll_asks op) i (silent_poll op es s))

-- of a UDP socket, where this is known of how it ends
polled_so : (Q : List Entry → End × List Item → Type 0) (es : List Entry) (h : Here) (place : ℕ) (u : UdpRecord) (op : Operation) (now : End × List Item → UdpRecord) → FoundUdp h place u → ((fs : List Entry) (ended : End × List Item) → UdpKeeps fs u → Q fs ended → UdpKeeps fs (now ended)) → Allows Unpeered Q es (poll_asks op) → Keeps es h.machine.store.records
    → Allows Anything (λ fs ended. Keeps fs (udp2_put h.machine.store.records place (now ended))) es (poll_asks op)
polled_so Q es h place u op now g f a i =
    allows_weaker Anything (λ fs ended. Keeps fs h.machine.store.records × Q fs ended) (λ fs ended. Keeps fs (udp2_put h.machine.store.records place (now ended)))
    (λ fs ended k. put_udps fs h.machine.store.records place (now ended) (f fs ended (k.0.udps place u g) k.1) k.0) es (poll_asks op) (kept h.machine.store.records Q es (poll_asks op) i a)

-- and whatever it ends with
pub polled_alone : (es : List Entry) (h : Here) (op : Operation) → AreSilent op.left → Keeps es h.machine.store.records → Allows Anything (λ fs ended. Keeps fs h.machine.store.records) es (poll_asks op)
polled_alone es h op s i = allows_weaker Anything (λ fs ended. Keeps fs h.machine.store.records × AreSilent ended.1) (λ fs ended. Keeps fs h.machine.store.records) (λ fs ended k. k.0) es (poll_asks op) (kept h.machine.store.records (λ fs ended. AreSilent ended.1) es (poll_asks op) i (silent_poll op es s))

polled_udp : (es : List Entry) (h : Here) (place : ℕ) (u : UdpRecord) (op : Operation) (now : End × List Item → UdpRecord) → FoundUdp h place u → ((fs : List Entry) (ended : End × List Item) → UdpKeeps fs u → UdpKeeps fs (now ended)) → AreSilent op.left → Keeps es h.machine.store.records
    → Allows Anything (λ fs ended. Keeps fs (udp2_put h.machine.store.records place (now ended))) es (poll_asks op)
polled_udp es h place u op now g f s i = polled_so (λ fs ended. AreSilent ended.1) es h place u op now g (λ fs ended k q. f fs ended k) (silent_poll op es s) i

-- the record that a listen leaves
listened_keeps : (r : TcpRecord) (op : Operation) (ended : End × List Item) → TcpKeeps r → TcpKeeps (listen_after op r ended)
listened_keeps r op (Waits, items) k = k
listened_keeps r op (Done given, items) k = k
listened_keeps r op (Refused c given, items) k = k

-- the record that a create leaves
created_keeps : (create : Create) (fs : List Entry) (ended : End × List Item) → UdpKeeps fs (UdpRecord.Creating create) → UdpKeeps fs (udp_create_left create ended)
created_keeps create fs (Waits, items) k = k
created_keeps create fs (Done given, items) k = record
    { created = k.0; remote = none_kept fs _ None refl; told = k.1; connects = tt; receiver = tt }
created_keeps create fs (Refused c given, items) k = tt

-- a change that leaves the socket, its connect and its incoming stream
same_open : (fs : List Entry) (o now : OpenUdp) → now.inner ≡ o.inner → now.connecting ≡ o.connecting → now.incoming ≡ o.incoming → UdpKeeps fs (UdpRecord.Open o) → UdpKeeps fs (UdpRecord.Open now)
same_open fs o now p q r k = record {
  created = rw p k.created;
  remote = rw p k.remote;
  told = rw p k.told;
  connects = rw (p, q) k.connects;
  receiver = rw (p, r) k.receiver;
}

-- a receive that was polled is still for the creator of its network socket
receives_for : (maker : ℕ) (op : Operation) (ended : End × List Item) → ReceivesFor maker (Some op) → ReceivesFor maker (receive_op (receive_left op ended))
receives_for maker op (Waits, items) k = k
receives_for maker op (Done (Datagram bytes a), items) k = tt
receives_for maker op (Done given, items) k = tt
receives_for maker op (Refused c given, items) k = tt

-- a receive is polled
polled_receive : (es : List Entry) (h : Here) (place : ℕ) (o : OpenUdp) (inc : Incoming) (op : Operation) → FoundUdp h place (UdpRecord.Open o) → o.incoming ≡ Some inc → inc.receiving ≡ Receiving.InProgress op → ReceiveOn o.inner.side op → Keeps es h.machine.store.records
    → Allows Anything (λ fs ended. Keeps fs (udp2_put h.machine.store.records place (UdpRecord.Open (record o { incoming = Some (with_receiving inc (receive_left op ended)) })))) es (poll_asks (wanting inc.remote op))
polled_receive es h place o inc op g e f its i =
    let k : OpenKeeps es o = i.udps place (UdpRecord.Open o) g in
    let for : ReceivesFor o.inner.maker (Some op) = subst (ReceivesFor o.inner.maker) (ap receiving_in e ∙ ap receive_op f) k.receiver in
    polled_udp es h place (UdpRecord.Open o) (wanting inc.remote op) (λ ended. UdpRecord.Open (record o { incoming = Some (with_receiving inc (receive_left op ended)) })) g
    (λ fs ended m. record {
      created = m.created;
      remote = m.remote;
      told = m.told;
      connects = m.connects;
      receiver = receives_for
          o.inner.maker op ended for;
    })
    (receive_silent (wanting inc.remote op).left (wanted_left inc.remote op.left its.receive.left)) i

-- == a connect of a UDP socket
-- while it is polled, the socket is left out
abbrev forgotten : OpenUdp → UdpRecord
forgotten o = UdpRecord.Closed o.inner.side

-- its own remote address is that of no other socket
spares_but : (line : ℕ) (h : Here) (place : ℕ) (o : OpenUdp) (c : Call) → FoundUdp h place (UdpRecord.Open o) → Named
    line h → ((x : OpId) → c ≡ Call.Peer x → o.inner.side ≡ x) → Spares
    (udp2_put h.machine.store.records place (forgotten o)) c
spares_but line h place o c g n own k u e = elim (put_found udp_sort h.machine.store.records place (forgotten o) k u e) [
  | inl a ↦ subst (λ (x : UdpRecord). SparesUdp x c) a.1 tt
  | inr a ↦ by_record u a e
]
  where
    there : udp2_at (udp2_put h.machine.store.records place (forgotten o)) place ≡ Some (forgotten o)
    there = put_finds udp_sort h.machine.store.records place (UdpRecord.Open o) (forgotten o) g

    other : (u : UdpRecord) → FoundUdp h k u → udp2_at (udp2_put h.machine.store.records place (forgotten o)) k ≡ Some u
        → c ≡ Call.Peer (udp_side u) → Some (forgotten o) ≡ Some u
    other u a e q =
        let at : place ≡ k = n.udps.one (udp_side u) place k (UdpRecord.Open o) u g a (own (udp_side u) q) refl in
        sym there ∙ (ap (λ (x : ℕ). udp2_at (udp2_put h.machine.store.records place (forgotten o)) x) at ∙ e)

    by_record : (u : UdpRecord) → FoundUdp h k u → udp2_at (udp2_put h.machine.store.records place (forgotten o)) k ≡
        Some u → SparesUdp u c
    by_record (UdpRecord.Creating create) a e = λ q. let same = other (UdpRecord.Creating create) a e q in cc
    by_record (UdpRecord.Open p) a e = λ q. let same = other (UdpRecord.Open p) a e q in cc
    by_record (UdpRecord.Closed side) a e = tt

-- what a connect gives leaves all but the remote address
module _ (fs : List Entry) (o : OpenUdp) (created : IsCreated fs o.inner.side o.inner.maker o.inner.family)
    (receiver : ReceivesFor o.inner.maker (receiving_in o.incoming)) where
  given_keeps : (given : Given) → RemoteIs fs o.inner.side (with_given o.inner given).remote × HasRemote fs o.inner.side
      o.inner.family (with_given o.inner given).remote → OpenKeeps fs
      (record o { inner = with_given o.inner given; connecting = None })
  given_keeps (Remote remote) r = record
      { created = created; remote = r.0; told = r.1; connects = tt; receiver = receiver }
  given_keeps _ r = record { created = created; remote = r.0; told = r.1; connects = tt; receiver = receiver }

-- the streams are new then
streams_keep : (fs : List Entry) (o : OpenUdp) → OpenKeeps fs o → OpenKeeps fs (with_streams o)
streams_keep fs o k = record
    { created = k.created; remote = k.remote; told = k.told; connects = k.connects; receiver = tt }

-- what is known after a poll of the connect
connected_keeps : (fs : List Entry) (o : OpenUdp) (op : Operation) (ended : End × List Item) → op.who.side ≡
    o.inner.side → IsCreated fs o.inner.side o.inner.maker o.inner.family → ReceivesFor o.inner.maker
    (receiving_in o.incoming) → After op.who o.inner.maker o.inner.family o.inner fs ended → UdpKeeps fs
    (UdpRecord.Open (udp_connect_left op o ended))
connected_keeps fs o op ended s created receiver a = by_end ended a
  where
    known : (remote : Option IpSocketAddress) → RemoteIs fs op.who.side remote × HasRemote fs op.who.side o.inner.family
        remote → RemoteIs fs o.inner.side remote × HasRemote fs o.inner.side o.inner.family remote
    known remote k = subst (λ (x : OpId). RemoteIs fs x remote × HasRemote fs x o.inner.family remote) s k

    by_end : (ended : End × List Item) → After op.who o.inner.maker o.inner.family o.inner fs ended → UdpKeeps fs
        (UdpRecord.Open (udp_connect_left op o ended))
    by_end (Waits, items) a = let k = known o.inner.remote a.0.1 in record
        { created = created; remote = k.0; told = k.1; connects = a.1; receiver = receiver }
    by_end (Done given, items) a = streams_keep fs _
        (given_keeps fs o created receiver given (known (with_given o.inner given).remote a.1))
    by_end (Refused c given, items) a = given_keeps fs o created receiver given
        (known (with_given o.inner given).remote a.1)

-- and of one of 0.3
reconnected_keeps : (fs : List Entry) (o : OpenUdp) (op : Operation) (ended : End × List Item) → op.who.side ≡
    o.inner.side → IsCreated fs o.inner.side o.inner.maker o.inner.family → ReceivesFor o.inner.maker
    (receiving_in o.incoming) → After op.who o.inner.maker o.inner.family o.inner fs ended → UdpKeeps fs
    (UdpRecord.Open (udp_reconnect_left op o ended))
reconnected_keeps fs o op ended s created receiver a = by_end ended a
  where
    known : (remote : Option IpSocketAddress) → RemoteIs fs op.who.side remote × HasRemote fs op.who.side o.inner.family
        remote → RemoteIs fs o.inner.side remote × HasRemote fs o.inner.side o.inner.family remote
    known remote k = subst (λ (x : OpId). RemoteIs fs x remote × HasRemote fs x o.inner.family remote) s k

    by_end : (ended : End × List Item) → After op.who o.inner.maker o.inner.family o.inner fs ended → UdpKeeps fs
        (UdpRecord.Open (udp_reconnect_left op o ended))
    by_end (Waits, items) a = let k = known o.inner.remote a.0.1 in record
        { created = created; remote = k.0; told = k.1; connects = a.1; receiver = receiver }
    by_end (Done given, items) a = given_keeps fs o created receiver given
        (known (with_given o.inner given).remote a.1)
    by_end (Refused c given, items) a = given_keeps fs o created receiver given
        (known (with_given o.inner given).remote a.1)

-- a socket is put back
put_back : (fs : List Entry) (records : List Record) (place : ℕ) (out now : UdpRecord) → UdpKeeps fs now → Keeps fs (udp2_put records place out) → Keeps fs (udp2_put records place now)
put_back fs records place out now k m = subst (Keeps fs) (put_twice udp_sort records place out now) (put_udps fs (udp2_put records place out) place now k m)

-- a connect is polled
polled_connect : (line : ℕ) (es : List Entry) (h : Here) (place : ℕ) (o : OpenUdp) (op : Operation) → FoundUdp h place (UdpRecord.Open o) → o.connecting ≡ Some op → UdpConnectOn o.inner.side op → Named line h → Keeps es h.machine.store.records
    → Allows Anything (λ fs ended. Keeps fs (udp2_put h.machine.store.records place (UdpRecord.Open (udp_connect_left op o ended)))) es (poll_asks op)
polled_connect line es h place o op g e its n i =
    let k : OpenKeeps es o = i.udps place (UdpRecord.Open o) g in
    let out : List Record = udp2_put h.machine.store.records place (forgotten o) in
    let on : op.who.side ≡ o.inner.side = its.of_side in
    allows_weaker Anything (λ fs ended. (Keeps fs out × IsCreated fs o.inner.side o.inner.maker o.inner.family) × After
    op.who o.inner.maker o.inner.family o.inner fs ended)
    (λ fs ended. Keeps fs (udp2_put h.machine.store.records place (UdpRecord.Open (udp_connect_left op o ended))))
    (λ fs ended m. put_back fs h.machine.store.records place (forgotten o)
    (UdpRecord.Open (udp_connect_left op o ended)) (connected_keeps fs o op ended on m.0.1 k.receiver m.1) m.0.0) es
    (poll_asks op)
    (allows_keep (AsksOwn op.who o.inner.maker o.inner.family o.inner) Anything (λ fs. Keeps fs out × IsCreated fs
    o.inner.side o.inner.maker o.inner.family) (λ fs ended. After op.who o.inner.maker o.inner.family o.inner fs
    ended)
    (λ fs own c t fits m a.
    (asked fs out own c t (spares_but line h place o c g n (λ x p. sym on ∙ a x p)) m.0, has_front fs _ _ m.1))
    (λ fs own c a. tt) es (poll_asks op)
    (put_udps es h.machine.store.records place (forgotten o) tt i, k.created)
    (connect_poll op.who o.inner.maker o.inner.family o.inner op.left es (subst (IsMaker es o.inner.maker
    o.inner.family) (sym on) (maker_of es o k)) (subst (λ (x : OpId). RemoteIs es x o.inner.remote × HasRemote es x
    o.inner.family o.inner.remote) (sym on) (k.remote, k.told)) (subst (ConnectsBy o.inner.family) e k.connects)))

-- one of 0.3 is
polled_reconnect : (line : ℕ) (es : List Entry) (h : Here) (place : ℕ) (o : OpenUdp) (op : Operation) → FoundUdp h place (UdpRecord.Open o) → o.connecting ≡ Some op → UdpConnectOn o.inner.side op → Named line h → Keeps es h.machine.store.records
    → Allows Anything (λ fs ended. Keeps fs (udp2_put h.machine.store.records place (UdpRecord.Open (udp_reconnect_left op o ended)))) es (poll_asks op)
polled_reconnect line es h place o op g e its n i =
    let k : OpenKeeps es o = i.udps place (UdpRecord.Open o) g in
    let out : List Record = udp2_put h.machine.store.records place (forgotten o) in
    let on : op.who.side ≡ o.inner.side = its.of_side in
    allows_weaker Anything (λ fs ended. (Keeps fs out × IsCreated fs o.inner.side o.inner.maker o.inner.family) × After
    op.who o.inner.maker o.inner.family o.inner fs ended)
    (λ fs ended. Keeps fs (udp2_put h.machine.store.records place (UdpRecord.Open (udp_reconnect_left op o ended))))
    (λ fs ended m. put_back fs h.machine.store.records place (forgotten o)
    (UdpRecord.Open (udp_reconnect_left op o ended)) (reconnected_keeps fs o op ended on m.0.1 k.receiver m.1) m.0.0) es
    (poll_asks op)
    (allows_keep (AsksOwn op.who o.inner.maker o.inner.family o.inner) Anything (λ fs. Keeps fs out × IsCreated fs
    o.inner.side o.inner.maker o.inner.family) (λ fs ended. After op.who o.inner.maker o.inner.family o.inner fs
    ended)
    (λ fs own c t fits m a.
    (asked fs out own c t (spares_but line h place o c g n (λ x p. sym on ∙ a x p)) m.0, has_front fs _ _ m.1))
    (λ fs own c a. tt) es (poll_asks op)
    (put_udps es h.machine.store.records place (forgotten o) tt i, k.created)
    (connect_poll op.who o.inner.maker o.inner.family o.inner op.left es (subst (IsMaker es o.inner.maker
    o.inner.family) (sym on) (maker_of es o k)) (subst (λ (x : OpId). RemoteIs es x o.inner.remote × HasRemote es x
    o.inner.family o.inner.remote) (sym on) (k.remote, k.told)) (subst (ConnectsBy o.inner.family) e k.connects)))

-- it asks what the remote address is, and keeps it
pub peer_keeps : (line : ℕ) (es : List Entry) (h : Here) (place : ℕ) (o : OpenUdp) (op : OpId) (told : Told) → FoundUdp h place (UdpRecord.Open o) → Named line h → Keeps es h.machine.store.records
    → Keeps (es ++ entry op (Call.Peer o.inner.side) told ∷ []) (udp2_put h.machine.store.records place (UdpRecord.Open (with_udp_inner o (after_peer o.inner (told_addr told)))))
peer_keeps line es h place o op told g n i =
    let k : OpenKeeps es o = i.udps place (UdpRecord.Open o) g in
    let fs : List Entry = es ++ entry op (Call.Peer o.inner.side) told ∷ [] in
    put_back fs h.machine.store.records place (forgotten o)
    (UdpRecord.Open (with_udp_inner o (after_peer o.inner (told_addr told))))
    (record {
      created = has_front es _ _ k.created;
      remote = told_kept es op o.inner.maker o.inner.family o.inner.side told
          (maker_of es o k);
      told = has_told es op told o.inner.side o.inner.family o.inner.remote k.told;
      connects =
          k.connects;
      receiver = k.receiver;
    })
    (asked es _ op (Call.Peer o.inner.side) told (spares_but line h place o (Call.Peer o.inner.side) g n (λ x p. cc))
    (put_udps es h.machine.store.records place (forgotten o) tt i))

-- == what is in progress
-- each poll keeps what is known of the records
pub polls_keep : (contexts : List WasiSocketsCtx) (line : ℕ) (origin : Step) (es : List Entry) (h : Here) (op : Operation) (after : End × List Item → Here) → Held h op after → Base contexts line origin h → Keeps es h.machine.store.records
    → Allows Anything (λ fs ended. Keeps fs (after ended).machine.store.records) es (poll_asks op)
polls_keep contexts line origin es h _ _ (walk.BindsOn place r op q g e) b i =
    let its = subst (FitProgress r.inner.state) e (b.0.records place r g).2 in
    polled_tcp es h place op (λ ended. with_progress r (bind_progress op ended)) (λ ended. i.tcps place r g) (bind_silent op.left its.1.left) i
polls_keep contexts line origin es h _ _ (walk.Connects place r op g e) b i =
    let its : connect.IsConnect op = subst HoldsConnect e (b.0.records place r g).0 in
    polled_tcp es h place op (λ ended. with_inner r (with_state r.inner (connect_ended op.who ended).1)) (λ ended. i.tcps place r g) (connect_silent op.left its.left) i
polls_keep contexts line origin es h _ _ (walk.Listens place r op q g e c) b i =
    let its : IsListen op = subst FitListening e (b.0.records place r g).1 in
    polled_tcp es h place op (listen_after op r) (λ ended. listened_keeps r op ended (i.tcps place r g)) (listen_silent op.left its.left) i
polls_keep contexts line origin es h _ _ (walk.Awaits place r l op g e a) b i =
    let its : IsAcceptOn l.side l.maker op = subst (HoldsAccept l.side l.maker) a (subst FitListening e (b.0.records place r g).1) in
    polled_tcp es h place op (λ ended. accepting_now r l (accept_ended op.who ended)) (λ ended. i.tcps place r g) (accept_silent op.left its.accept.left) i
polls_keep contexts line origin es h _ _ (walk.UdpCreates place create q g) b i =
    polled_udp es h place (UdpRecord.Creating create) create.operation (udp_create_left create) g (created_keeps create) (subst AreSilent (sym (b.0.udps place (UdpRecord.Creating create) g).1) (tt, tt)) i
polls_keep contexts line origin es h _ _ (walk.UdpBindsOn place o op q g e) b i =
    let its : UdpBindOn o.inner.side op = subst (FitUdpProgress o.inner.side) e (b.0.udps place (UdpRecord.Open o) g).0 in
    polled_udp es h place (UdpRecord.Open o) op (λ ended. UdpRecord.Open (with_udp_progress o (udp_bind_progress op ended))) g (λ fs ended k. same_open fs o _ refl refl refl k) (udp_bind_silent op.left its.bind.left) i
polls_keep contexts line origin es h _ _ (walk.UdpConnectsOn place o op q g e) b i =
    polled_connect line es h place o op g e (subst (FitConnecting o.inner.side) e (b.0.udps place (UdpRecord.Open o) g).1) b.1 i
polls_keep contexts line origin es h _ _ (walk.UdpReconnectsOn place o op q g e) b i =
    polled_reconnect line es h place o op g e (subst (FitConnecting o.inner.side) e (b.0.udps place (UdpRecord.Open o) g).1) b.1 i
polls_keep contexts line origin es h _ _ (walk.SendsOn place o out op left g e f s) b i =
    let its : SendOn o.inner.side op = subst (FitSending o.inner.side) (ap sending_in e ∙ ap send_op f) (b.0.udps place (UdpRecord.Open o) g).2 in
    polled_udp es h place (UdpRecord.Open o) (at_remote o.inner.remote op) (λ ended. UdpRecord.Open (record o { outgoing = Some (with_sending out (left ended)) })) g (λ fs ended k. same_open fs o _ refl refl refl k) (send_silent op.left its.send.left) i
polls_keep contexts line origin es h _ _ (walk.ReceivesOn place o inc op g e f) b i =
    let its : ReceiveOn o.inner.side op = subst (FitReceiving o.inner.side) (ap receiving_in e ∙ ap receive_op f) (b.0.udps place (UdpRecord.Open o) g).3 in
    polled_receive es h place o inc op g e f its i
