-- The moves of a line that are on UDP sockets keep that the state fits the log.
use Rattle.wasi_walks.proofs.Words.{Entry, Has, IpSocketAddress, IsMarkedWith, List, Option, Some, Standing, GuestCall, Step, TcpRecord, Told, WasiSocketsCtx, ap}
use Rattle.wasi_walks.proofs.Words.{call_place, handles_of, inl, inr, kind_at, own_of, refl, slice_get, step_at, subst, sym, ℕ, ◌∙◌, ◌≡◌, ◌⊎◌}
use Rattle.wasi_walks.specs.Licence.{IsBoundSide, IsSendOf, IsStreamOf, IsUdpBindTo, IsUdpConnectTo, Receives, UdpCreated, WasDisconnected}
use Rattle.wasi_walks.proofs.walks.Moves.{Own, ToConnect, ToStream, part_of, begun_udp_connect, sending_now, receiving_now, sending_in, receiving_in, Here, put_udp, FoundUdp, record_of, udp_record_of, UdpPlain, IsUdpSettled, begun_udp_bind, Used, IsOfHandle}
use Rattle.wasi_walks.proofs.licence.State.{Names, UdpUnchecked, UdpBindIsFine, UdpProgressIsFine, OpenIsFine, LineNames, OfTcp, OfUdp, IfOp, ConnectUnbound, ConnectWhole, UdpConnectIsFine, UdpConnectLeft, IsFor, SendLeft, SendRefused, SendUnbound, SendUnchecked, SendIsFine, ReceiveIsFine}
use Rattle.wasi_walks.proofs.licence.Frames.{same_record}
use Rattle.wasi_walks.proofs.fits.UdpFits.{kept_op}
use Rattle.wasi_walks.proofs.licence.UdpFrames.{same_udp}
use Rattle.wasi_walks.proofs.walks.Here.{next_shrinks}
use Rattle.wasi_walks.proofs.licence.Line.{names_record, names_udp, pair_first, pair_second, NamesMade, NamesTcpHere, NamesUdpHere, Licensed, put_udp_fine, owned, remade, spent, elsewhere}
use Rattle.wasi_addr.specs.declared.code.ErrorCode.TheVariants.{DatagramTooLarge, InvalidArgument, InvalidState}
use Rattle.wasi_udp.specs.declared.send.Destination.{Destination}
use Rattle.udp_records.specs.declared.datagrams.Incoming.{Incoming as IncomingStream}
use Rattle.udp_records.specs.declared.datagrams.Outgoing.{Outgoing as OutgoingStream}
use Rattle.std.specs.Prelude.{Bool, true, false, ◌&&◌, if◌then◌else◌, nat_lt, length, Result, Ok, Err, None, ⊤, ◌+◌}
use Rattle.wasi_addr.specs.declared.address.SocketAddressFamily.{SocketAddressFamily}
use Rattle.wasi_addr.specs.Address.{same_address}
use Rattle.wasi_addr.specs.declared.code.ErrorCode.{ErrorCode}
use Rattle.wasi_world.specs.declared.ids.Ids.{Ids}
use Rattle.wasi_world.specs.declared.ids.OpId.{OpId}
use Rattle.wasi_world.specs.declared.datagram.OutgoingDatagram.{OutgoingDatagram}
use Rattle.wasi_udp.specs.Send.{is_sendable, where_to, send_to, send_left, send_first, send_start}
use Rattle.wasi_udp.specs.Connect as udp_connect
use Rattle.wasi_udp.specs.Receive.{IsLeftOfReceive, receive_left, receive_first, receive_start}
use Rattle.wasi_udp.specs.Shape.{Socket}
use Rattle.host_store.specs.Standing.{standing_as}
use Rattle.host_store.specs.declared.store.StandingCall.{StandingCall}
use Rattle.wasi_records.specs.Records.{tcp2_at, tcp2_of, udp2_at, udp2_of}
use Rattle.udp_records.specs.Udp.{udp_side, with_udp_progress}
use Rattle.wasi_records.specs.declared.records.Record.{Record}
use Rattle.udp_records.specs.declared.udp.OpenUdp.{OpenUdp}
use Rattle.udp_records.specs.declared.udp.UdpRecord.{UdpRecord}
use Rattle.udp_records.specs.declared.udp.UdpInProgress.{UdpInProgress}
use Rattle.wasi_steps.specs.declared.guest_call.UdpCall.{UdpCall}

-- a record is of one kind
one_kind : (o : Option Record) (r : TcpRecord) (u : UdpRecord) → tcp2_of o ≡ Some r → udp2_of o ≡ Some u → ⊥
one_kind (Some (Record.Tcp x)) r u e f = absurd (cc)
one_kind (Some (Record.Udp x)) r u e f = absurd (cc)
one_kind _ r u e f = absurd (cc)

pub not_both : (records : List Record) (place : ℕ) (r : TcpRecord) (u : UdpRecord) → tcp2_at records place ≡ Some r → udp2_at records place ≡ Some u → ⊥
not_both records place r u e f = one_kind (slice_get records place) r u e f

-- a datagram that may go goes to where it is for
abbrev GoesFor : OutgoingDatagram → Result Destination ErrorCode → Type 0
GoesFor d (Err c) = ⊤
GoesFor d (Ok to) = IsFor d to.kept to.addr

by_sendable : (d : OutgoingDatagram) (b : Bool) (to : Destination) → IsFor d to.kept to.addr → GoesFor d (if b then Ok to else Err InvalidArgument)
by_sendable d true to k = k
by_sendable d false to k = tt

for_where : (d : OutgoingDatagram) (family : SocketAddressFamily) (remote given : Option IpSocketAddress) → d.remote_address ≡ given → GoesFor d (where_to family remote given)
for_where d family None None e = tt
for_where d family (Some r) None e = inr (e, refl)
for_where d family None (Some a) e = by_sendable d (is_sendable family a) (record { addr = a; kept = false }) (inl e)
for_where d family (Some r) (Some a) e = by_sendable d (is_sendable family a && same_address a r) (record { addr = a; kept = true }) (inl e)

pub goes_for : (d : OutgoingDatagram) (socket : Socket) → GoesFor d (send_to socket d.bytes d.remote_address)
goes_for d socket = by_size (nat_lt 65535 (length d.bytes))
  where
    by_size : (b : Bool) → GoesFor d (if b then Err DatagramTooLarge else where_to socket.family socket.remote d.remote_address)
    by_size true = tt
    by_size false = for_where d socket.family socket.remote d.remote_address refl

module _ (contexts : List WasiSocketsCtx) (steps : List Step) (line : ℕ) (origin : Step) (is_line : step_at steps line ≡ Some origin) where
  -- == the record that the line works on
  names_at : (es : List Entry) (h : Here) (handle place : ℕ) → Has (handles_of origin) handle → udp_record_of (kind_at h.machine.table handle) ≡ Some place → Licensed contexts steps line origin es h → (u : UdpRecord) → FoundUdp h place u → Names steps es (own_of line) (udp_side u)
  names_at es h handle place named e i u g =
      let n = names_udp es h.machine.store.records handle place (kind_at h.machine.table handle) e (i.fine.handles handle) in
      let same : n.found ≡ u = same_udp n.found u (sym n.at ∙ g) in
      let w = subst (λ (x : UdpRecord). IsMarkedWith es handle (Some (udp_side x))) same n.marked in
      record { origin = origin; at = is_line; holds = record { handle = handle; named = named; is = record { op = w.op; kind = w.kind; parent = w.parent; told = w.told; mark = w.mark } } }

  -- a handle of a TCP socket is of no UDP socket, and the other way round
  pub tcp_alone : (es : List Entry) (h : Here) (by handle place : ℕ) → record_of (kind_at h.machine.table handle) ≡ Some place → Licensed contexts steps line origin es h → NamesUdpHere steps es (record h { at = Some (place, by) })
  tcp_alone es h by handle place e i k n u a g =
      let x = names_record es h.machine.store.records handle place (kind_at h.machine.table handle) e (i.fine.handles handle) in
      absurd (not_both h.machine.store.records place x.found u x.at (ap (udp2_at h.machine.store.records) (pair_first place by k n a) ∙ g))

  pub reaches_udp : (es : List Entry) (h : Here) (handle place : ℕ) → Has (handles_of origin) handle → udp_record_of (kind_at h.machine.table handle) ≡ Some place → Licensed contexts steps line origin es h → Licensed contexts steps line origin es (record h { at = Some (place, line) })
  reaches_udp es h handle place named e i = elsewhere es h (record h { at = Some (place, line) }) refl refl refl i i.fine tcp udp
    where
      udp : NamesUdpHere steps es (record h { at = Some (place, line) })
      udp k n u a g = subst (λ (x : ℕ). Names steps es (own_of x) (udp_side u)) (pair_second place line k n a) (names_at es h handle place named e i u (ap (udp2_at h.machine.store.records) (pair_first place line k n a) ∙ g))

      tcp : NamesTcpHere steps es (record h { at = Some (place, line) })
      tcp k n r a g =
          let x = names_udp es h.machine.store.records handle place (kind_at h.machine.table handle) e (i.fine.handles handle) in
          absurd (not_both h.machine.store.records place r x.found (ap (tcp2_at h.machine.store.records) (pair_first place line k n a) ∙ g) x.at)

  -- the pending call is made again
  pub resumes : (es : List Entry) (h : Here) (s : Standing) → h.machine.store.standing ≡ Some s → IsOfHandle s.call → Licensed contexts steps line origin es h → Licensed contexts steps line origin es (record h { at = Some (call_place s.call, s.ids.line) })
  resumes es h s e o i = by_record ((i.fine.standing s e).0 o)
    where
      by_record : LineNames steps es h.machine.store.records s.ids.line (call_place s.call) → Licensed contexts steps line origin es (record h { at = Some (call_place s.call, s.ids.line) })
      by_record (OfTcp found at names) = elsewhere es h _ refl refl refl i i.fine
          (λ k n r a g. (let same : found ≡ r = same_record found r (sym at ∙ (ap (tcp2_at h.machine.store.records) (pair_first (call_place s.call) s.ids.line k n a) ∙ g)) in
          subst (λ (x : ℕ). NamesMade steps x es r) (pair_second (call_place s.call) s.ids.line k n a) (subst (NamesMade steps s.ids.line es) same names)))
          (λ k n u a g. absurd (not_both h.machine.store.records (call_place s.call) found u at (ap (udp2_at h.machine.store.records) (pair_first (call_place s.call) s.ids.line k n a) ∙ g)))
      by_record (OfUdp found at names) = elsewhere es h _ refl refl refl i i.fine
          (λ k n r a g. absurd (not_both h.machine.store.records (call_place s.call) r found (ap (tcp2_at h.machine.store.records) (pair_first (call_place s.call) s.ids.line k n a) ∙ g) at))
          (λ k n u a g. (let same : found ≡ u = same_udp found u (sym at ∙ (ap (udp2_at h.machine.store.records) (pair_first (call_place s.call) s.ids.line k n a) ∙ g)) in
          subst (λ (x : ℕ). Names steps es (own_of x) (udp_side u)) (pair_second (call_place s.call) s.ids.line k n a) (subst (λ (x : UdpRecord). Names steps es (own_of s.ids.line) (udp_side x)) same names)))

  -- == the UDP socket
  pub open_at_place : (es : List Entry) (h : Here) (place : ℕ) (o : OpenUdp) → FoundUdp h place (UdpRecord.Open o) → Licensed contexts steps line origin es h → OpenIsFine steps es o
  open_at_place es h place o g i = i.fine.udp place (UdpRecord.Open o) g

  progress_kept : (es : List Entry) (old now : UdpInProgress) → (now ≡ old) ⊎ (IsUdpSettled old × IsUdpSettled now) → UdpProgressIsFine steps es old → UdpProgressIsFine steps es now
  progress_kept es old now (inl e) f = subst (UdpProgressIsFine steps es) (sym e) f
  progress_kept es old (UdpInProgress.Binding op) (inr k) f = absurd k.1
  progress_kept es old UdpInProgress.Nothing (inr k) f = tt
  progress_kept es old UdpInProgress.Bound (inr k) f = tt

  plain_open : (es : List Entry) (o now : OpenUdp) → UdpPlain o now → OpenIsFine steps es o → OpenIsFine steps es now
  plain_open es o now p f = record {
    made = rw (p.side, p.maker, p.family) f.made;
    bound = λ b. rw p.side (f.bound (p.bound b));
    progress = progress_kept es o.in_progress now.in_progress p.binds f.progress;
    connecting = subst (IfOp (UdpConnectIsFine steps es)) (sym p.connects) f.connecting;
    sending = kept_op (IfOp (SendIsFine steps es)) tt (sending_in o.outgoing) (sending_in now.outgoing) p.sends f.sending;
    receiving = kept_op (IfOp (ReceiveIsFine steps es)) tt (receiving_in o.incoming) (receiving_in now.incoming) p.receives f.receiving;
  }

  pub udp_changes : (es : List Entry) (h : Here) (place : ℕ) (o now : OpenUdp) → FoundUdp h place (UdpRecord.Open o) → UdpPlain o now → Licensed contexts steps line origin es h → Licensed contexts steps line origin es (put_udp h place (UdpRecord.Open now))
  udp_changes es h place o now g p i = put_udp_fine es h place (UdpRecord.Open o) (UdpRecord.Open now) g p.side (plain_open es o now p (open_at_place es h place o g i)) i

  pub begins_udp_bind : (es : List Entry) (h : Here) (place : ℕ) (o : OpenUdp) (a : IpSocketAddress) → h.at ≡ Some (place, line) → FoundUdp h place (UdpRecord.Open o) → IsUdpBindTo a origin → Licensed contexts steps line origin es h
      → Licensed contexts steps line origin es (record (put_udp h place (UdpRecord.Open (with_udp_progress o (UdpInProgress.Binding (begun_udp_bind (own_of line) o a))))) { own = Used })
  begins_udp_bind es h place o a at g to i =
      let f = open_at_place es h place o g i in
      let begun : UdpBindIsFine steps es (begun_udp_bind (own_of line) o a) = record {
        addr = a;
        to = record { origin = origin; at = is_line; holds = to };
        udp = f.made.by;
        works = record { family = o.inner.family; made = UdpCreated o.inner.side Told.Done f.made.created; named = i.udp_names place line (UdpRecord.Open o) at g };
        last = refl;
        left = UdpUnchecked;
      } in
      let now = with_udp_progress o (UdpInProgress.Binding (begun_udp_bind (own_of line) o a)) in
      spent es _ (put_udp_fine es h place (UdpRecord.Open o) (UdpRecord.Open now) g refl (record { made = f.made; bound = f.bound; progress = begun; connecting = f.connecting; sending = f.sending; receiving = f.receiving }) i)

  -- == datagram streams
  pub remembers_streams : (es : List Entry) (h : Here) (c handle place : ℕ) (remote : Option IpSocketAddress) → origin ≡ Step.Call c (GuestCall.Udp (UdpCall.Stream handle remote)) → Licensed contexts steps line origin es h → Licensed contexts steps line origin es (record h { made = ToStream line handle place })
  remembers_streams es h c handle place remote is i = remade es h (ToStream line handle place) tt (record { origin = origin; at = is_line; holds = subst (IsStreamOf handle) (sym is) refl }) i

  pub recalls_streams : (es : List Entry) (h : Here) (ids : Ids) (place handle : ℕ) → h.machine.store.standing ≡ Some (standing_as ids (StandingCall.UdpConnect place handle)) → Licensed contexts steps line origin es h → Licensed contexts steps line origin es (record h { made = ToStream ids.line handle place; own = ToConnect place })
  recalls_streams es h ids place handle e i = owned es (record h { made = ToStream ids.line handle place }) (ToConnect place) (λ u. absurd (cc)) (λ x t. absurd t) (remade es h (ToStream ids.line handle place) tt (i.fine.standing (standing_as ids (StandingCall.UdpConnect place handle)) e).1 i)

  -- an operation of the line names a handle of the network socket
  pub names_part : (es : List Entry) (n : ℕ) (side : OpId) → Names steps es (own_of line) side → Names steps es (part_of line n) side
  names_part es n side k = record { origin = k.origin; at = k.at; holds = k.holds }

  -- the first stage of a connect
  connect_left : (es : List Entry) (op side : OpId) (maker : ℕ) (family : SocketAddressFamily) (a : IpSocketAddress) (bound : Bool) → (bound ≡ true → IsBoundSide es side ⊎ WasDisconnected es side) → UdpConnectLeft es op side maker family a (udp_connect.connect_left family a (udp_connect.connect_first bound))
  connect_left es op side maker family a true k = ConnectWhole (inl (k refl))
  connect_left es op side maker family a false k = ConnectUnbound

  pub begins_udp_connect : (es : List Entry) (h : Here) (place : ℕ) (o : OpenUdp) (a : IpSocketAddress) (bound : Bool) → h.at ≡ Some (place, line) → FoundUdp h place (UdpRecord.Open o) → IsUdpConnectTo a origin → (bound ≡ true → o.inner.bound ≡ true) → Licensed contexts steps line origin es h
      → Licensed contexts steps line origin es (record (put_udp h place (UdpRecord.Open (record o { connecting = Some (begun_udp_connect (own_of line) o a bound) }))) { own = ToConnect place })
  begins_udp_connect es h place o a bound at g to known i =
      let f = open_at_place es h place o g i in
      let begun : UdpConnectIsFine steps es (begun_udp_connect (own_of line) o a bound) = record {
        addr = a;
        to = record { origin = origin; at = is_line; holds = to };
        udp = f.made.by;
        family = o.inner.family;
        made = UdpCreated o.inner.side Told.Done f.made.created;
        named = i.udp_names place line (UdpRecord.Open o) at g;
        last = refl;
        left = connect_left es (own_of line) o.inner.side o.inner.maker o.inner.family a bound (λ b. f.bound (known b));
      } in
      let now = UdpRecord.Open (record o { connecting = Some (begun_udp_connect (own_of line) o a bound) }) in
      owned es _ (ToConnect place) (λ u. absurd (cc)) (λ x t. absurd t) (put_udp_fine es h place (UdpRecord.Open o) now g refl (record { made = f.made; bound = f.bound; progress = f.progress; connecting = begun; sending = f.sending; receiving = f.receiving }) i)

  -- where a datagram goes
  pub first_left : (es : List Entry) (op side : OpId) (maker : ℕ) (family : SocketAddressFamily) (d : OutgoingDatagram) (to : Result Destination ErrorCode) (b : Bool) → GoesFor d to → (b ≡ true → IsBoundSide es side ⊎ WasDisconnected es side)
      → SendLeft es op side maker family d (send_left family d.bytes (send_first to b))
  first_left es op side maker family d (Err c) b k out = SendRefused c
  first_left es op side maker family d (Ok to) true k out = SendUnchecked to.kept to.addr k (inl (out refl))
  first_left es op side maker family d (Ok to) false k out = SendUnbound to.kept to.addr k

  pub begins_send : (es : List Entry) (h : Here) (place n : ℕ) (o : OpenUdp) (out : OutgoingStream) (d : OutgoingDatagram) (bound : Bool) → h.at ≡ Some (place, line) → FoundUdp h place (UdpRecord.Open o) → IsSendOf n d origin → (bound ≡ true → o.inner.bound ≡ true) → h.own ≡ Own.Names n → Licensed contexts steps line origin es h
      → Licensed contexts steps line origin es (record (put_udp h place (UdpRecord.Open (sending_now o out (send_start (part_of line n) o.inner d.bytes d.remote_address bound)))) { own = Own.Names (n + 1) })
  begins_send es h place n o out d bound at g is known u i =
      let f = open_at_place es h place o g i in
      let op = send_start (part_of line n) o.inner d.bytes d.remote_address bound in
      let begun : SendIsFine steps es op = record {
        datagram = d;
        item = record { origin = origin; at = is_line; holds = is };
        udp = f.made.by;
        family = o.inner.family;
        made = UdpCreated o.inner.side Told.Done f.made.created;
        named = names_part es n o.inner.side (i.udp_names place line (UdpRecord.Open o) at g);
        last = refl;
        left = first_left es (part_of line n) o.inner.side o.inner.maker o.inner.family d (send_to o.inner d.bytes d.remote_address) bound (goes_for d o.inner) (λ b. f.bound (known b));
      } in
      owned es _ (Own.Names (n + 1)) (λ e. absurd (cc)) (next_shrinks line n h.own u) (put_udp_fine es h place (UdpRecord.Open o) (UdpRecord.Open (sending_now o out op)) g refl (record { made = f.made; bound = f.bound; progress = f.progress; connecting = f.connecting; sending = begun; receiving = f.receiving }) i)

  pub received_first : (b : Bool) → IsLeftOfReceive (receive_left None (receive_first b))
  received_first true = IsLeftOfReceive.Unreceived None
  received_first false = IsLeftOfReceive.ToRefuse InvalidState

  pub begins_receive : (es : List Entry) (h : Here) (place n : ℕ) (o : OpenUdp) (inc : IncomingStream) (bound : Bool) → h.at ≡ Some (place, line) → FoundUdp h place (UdpRecord.Open o) → Receives origin → h.own ≡ Own.Names n → Licensed contexts steps line origin es h
      → Licensed contexts steps line origin es (record (put_udp h place (UdpRecord.Open (receiving_now o inc (receive_start (part_of line n) o.inner bound)))) { own = Own.Names (n + 1) })
  begins_receive es h place n o inc bound at g is u i =
      let f = open_at_place es h place o g i in
      let op = receive_start (part_of line n) o.inner bound in
      let begun : ReceiveIsFine steps es op = record {
        began = record { origin = origin; at = is_line; holds = is };
        family = o.inner.family;
        made = UdpCreated o.inner.side Told.Done f.made.created;
        named = names_part es n o.inner.side (i.udp_names place line (UdpRecord.Open o) at g);
        last = refl;
        left = received_first bound;
      } in
      owned es _ (Own.Names (n + 1)) (λ e. absurd (cc)) (next_shrinks line n h.own u) (put_udp_fine es h place (UdpRecord.Open o) (UdpRecord.Open (receiving_now o inc op)) g refl (record { made = f.made; bound = f.bound; progress = f.progress; connecting = f.connecting; sending = f.sending; receiving = begun }) i)

  -- == a pending call is given up
  pub cancels_udp_bind : (es : List Entry) (h : Here) (place : ℕ) (o : OpenUdp) → FoundUdp h place (UdpRecord.Open o) → Licensed contexts steps line origin es h → Licensed contexts steps line origin es (put_udp h place (UdpRecord.Open (with_udp_progress o UdpInProgress.Nothing)))
  cancels_udp_bind es h place o g i =
      let f = open_at_place es h place o g i in
      put_udp_fine es h place (UdpRecord.Open o) (UdpRecord.Open (with_udp_progress o UdpInProgress.Nothing)) g refl (record { made = f.made; bound = f.bound; progress = tt; connecting = f.connecting; sending = f.sending; receiving = f.receiving }) i

  pub cancels_udp_connect : (es : List Entry) (h : Here) (place : ℕ) (o : OpenUdp) → FoundUdp h place (UdpRecord.Open o) → Licensed contexts steps line origin es h → Licensed contexts steps line origin es (put_udp h place (UdpRecord.Open (record o { connecting = None })))
  cancels_udp_connect es h place o g i =
      let f = open_at_place es h place o g i in
      put_udp_fine es h place (UdpRecord.Open o) (UdpRecord.Open (record o { connecting = None })) g refl (record { made = f.made; bound = f.bound; progress = f.progress; connecting = tt; sending = f.sending; receiving = f.receiving }) i
