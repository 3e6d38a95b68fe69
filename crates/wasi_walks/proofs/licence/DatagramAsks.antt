-- A UDP socket's connect, a datagram that it sends and a receive: each of their asks is allowed, and what is left may be polled on.
use Rattle.wasi_walks.proofs.Words.{AccessDenied, Allows, BeganBy, Bool, Call, Check, Done, End, Entry, Err, ErrorCode, FrontKeeps, Given, Has}
use Rattle.wasi_walks.proofs.Words.{IpSocketAddress, IsMaker, Item, LastAsk, List, None, Nothing, NothingLast, Ok, OpId, Operation, Option, Refused}
use Rattle.wasi_walks.proofs.Words.{Result, SocketAddressFamily, Some, Step, Told, Waits, WasiSocketsCtx, Who, [], allows_if, allows_polls, ap, bind, entry}
use Rattle.wasi_walks.proofs.Words.{false, front, if◌then◌else◌, inl, inr, is_wildcard, last_ask, left_of, poll_asks, polled_front, refl, subst, sym, told_addr}
use Rattle.wasi_walks.proofs.Words.{told_done, told_polled, told_verdict, true, verdict_front, wildcard, ℕ, ◌++◌, ◌∷◌, ◌≡◌, ◌&&◌}
use Rattle.std.specs.Prelude.{not}
use Rattle.wasi_addr.specs.Address.{same_address}
use Rattle.wasi_addr.specs.declared.address.SocketAddrUse.{SocketAddrUse}
use Rattle.wasi_addr.specs.declared.address.SocketAddrUse.TheVariants as use_of
use Rattle.wasi_world.specs.declared.datagram.OutgoingDatagram.{OutgoingDatagram}
use Rattle.wasi_world.specs.Operation.{Again, Datagram, Front, Goes, Receive, Remote, Send, UdpConnect, ask_peer_front, check_peer_front, is_now, is_wanted, peer_front}
use Rattle.wasi_world.specs.Operation.{receive_front, received_front, remote_told, send_front}
use Rattle.wasi_world.specs.Typed.{told_datagram}
use Rattle.wasi_udp.specs.Receive.{IsLeftOfReceive, ToRefuse, Unreceived, Received, Ended, wanted_in, wanting}
use Rattle.wasi_udp.specs.Send.{at_remote}
use Rattle.wasi_walks.specs.Licence.{GoesTo, HasYes, IsRemote, IsSendOf, IsUdpConnectTo, MakesUdp, MaySendOut, SendsItem}
use Rattle.wasi_walks.proofs.Lists.{has_front, has_last}
use Rattle.wasi_walks.proofs.licence.State.{UdpConnectLeft, ConnectUnbound, ConnectWhole, ConnectSends, ConnectChecked, IsFor, SendLeft, SendRefused, SendUnbound, SendUnchecked, SendChecked, SendOver, RemoteIs, KeepsRemote, Names, UdpConnectIsFine, SendIsFine, ReceiveIsFine}
use Rattle.wasi_walks.proofs.licence.Frames.{stay, maker_more, names_on}
use Rattle.wasi_walks.proofs.licence.DatagramFrames.{send_out_more, remote_kept, receive_more}
use Rattle.wasi_walks.proofs.licence.Binds.{MayQuietly}

-- == the remote address
-- a `peer` that is asked for is of this network socket
abbrev pub PeerOn : OpId → Call → Type 0
PeerOn side c = (x : OpId) → c ≡ Call.Peer x → x ≡ side

-- any call but `peer`
abbrev pub NoPeer : Call → Type 0
NoPeer c = (x : OpId) → c ≡ Call.Peer x → ⊥

-- any other call keeps what was told last
pub keeps_on : (start es : List Entry) (op : OpId) (c : Call) (t : Told) (side : OpId) → NoPeer c → KeepsRemote start es side → KeepsRemote start (es ++ entry op c t ∷ []) side
keeps_on start es op c t side n k addr h = remote_kept es (entry op c t) side addr (λ told o e. n side (ap (λ (x : Entry). x.call) e)) (k addr h)

-- and the remote address that is kept is still the network socket's
pub remote_on : (es : List Entry) (op : OpId) (c : Call) (t : Told) (side : OpId) (remote : Option IpSocketAddress) → NoPeer c → RemoteIs es side remote → RemoteIs (es ++ entry op c t ∷ []) side remote
remote_on es op c t side remote n r addr e = remote_kept es (entry op c t) side addr (λ told o q. n side (ap (λ (x : Entry). x.call) q)) (r addr e)

-- what a `peer` was told is the network socket's remote address from now on
pub remote_heard : (es : List Entry) (op side : OpId) (ctx : ℕ) (family : SocketAddressFamily) (t : Told) → IsMaker es ctx family side → RemoteIs (es ++ entry op (Call.Peer side) t ∷ []) side (remote_told family (told_addr t))
remote_heard es op side ctx family (Told.Addr a) m = by_test (is_wildcard family a) refl
  where
    by_test : (b : Bool) → is_wildcard family a ≡ b → RemoteIs (es ++ entry op (Call.Peer side) (Told.Addr a) ∷ []) side (if b then None else Some a)
    by_test true p addr e = absurd (cc)
    by_test false p addr e = let same : a ≡ addr = cc in subst (IsRemote (es ++ entry op (Call.Peer side) (Told.Addr a) ∷ []) side) same (record {
      ctx = ctx;
      family = family;
      maker = maker_more es _ ctx family side m;
      told = record { front = es; op = op; back = []; cut = refl; last = λ o t i. i };
      other = p;
    })
remote_heard es op side ctx family _ m = λ addr e. absurd (cc)

-- == where a datagram goes
-- one for the remote address goes there only while that is the network socket's
goes_there : (es : List Entry) (side : OpId) (remote : Option IpSocketAddress) (kept : Bool) (addr : IpSocketAddress) → RemoteIs es side remote → kept ≡ true → (kept && not (is_now remote addr)) ≡ false → GoesTo es side None addr
goes_there es side remote false addr r k e = absurd (cc)
goes_there es side None true addr r k e = absurd (cc)
goes_there es side (Some b) true addr r k e = (b, r b refl, by_test (same_address addr b) refl e)
  where
    by_test : (yes : Bool) → same_address addr b ≡ yes → not yes ≡ false → same_address addr b ≡ true
    by_test true p q = p
    by_test false p q = absurd (cc)

-- and one with an address of its own goes there
goes_to : (es : List Entry) (side : OpId) (remote : Option IpSocketAddress) (d : OutgoingDatagram) (kept : Bool) (addr : IpSocketAddress) → IsFor d kept addr → RemoteIs es side remote → (kept && not (is_now remote addr)) ≡ false → GoesTo es side d.remote_address addr
goes_to es side remote d kept addr (inl p) r e = subst (λ (o : Option IpSocketAddress). GoesTo es side o addr) (sym p) refl
goes_to es side remote d kept addr (inr p) r e = subst (λ (o : Option IpSocketAddress). GoesTo es side o addr) (sym p.0) (goes_there es side remote kept addr r p.1 e)

-- == a connect
module _ (steps : List Step) (es fs : List Entry) (op : Operation) where
  -- one that waits may be polled on, and nothing was told; one that ends after its `peer` gives the remote address
  abbrev pub ConnectLeaves : End × List Item → Type 0
  ConnectLeaves (Waits, items) = UdpConnectIsFine steps fs (left_of op items) × KeepsRemote es fs op.who.side
  ConnectLeaves (Done (Remote r), items) = RemoteIs fs op.who.side r
  ConnectLeaves (Done _, items) = ⊥
  ConnectLeaves (Refused c (Remote r), items) = RemoteIs fs op.who.side r
  ConnectLeaves (Refused c _, items) = KeepsRemote es fs op.who.side

-- how far it is in the middle of a poll: nothing was told yet, or the remote address
data Connecting (steps : List Step) (start : List Entry) (op : Operation) (es : List Entry) : Given → List Item → Type 0 where
  Asking : (items : List Item) → UdpConnectIsFine steps es (left_of op items) → KeepsRemote start es op.who.side → Connecting steps start op es Nothing items
  Heard : (remote : Option IpSocketAddress) → RemoteIs es op.who.side remote → Connecting steps start op es (Remote remote) []

module _ (contexts : List WasiSocketsCtx) (steps : List Step) (start : List Entry) (op : Operation) where
  -- an ask that may come, and a `peer` of this network socket alone
  abbrev MayConnect : List Entry → OpId → Call → Type 0
  MayConnect es o c = MayQuietly contexts steps es o c × PeerOn op.who.side c

  -- what the poll leaves
  abbrev Leaves : List Entry → End × List Item → Type 0
  Leaves es ended = ConnectLeaves steps start es op ended

  -- what is known once the front ask is answered
  abbrev Leads : List Item → List Entry → Front → Type 0
  Leads items es f = FrontKeeps MayConnect op.who (Connecting steps start op) Leaves items es f

  -- It is on its network socket, and was told nothing so far.
  record OnConnect (family : SocketAddressFamily) (es : List Entry) : Type 0 where
    pub made : IsMaker es op.who.context family op.who.side
    pub named : Names steps es op.who.id op.who.side
    pub kept : KeepsRemote start es op.who.side

  module _ (addr : IpSocketAddress) (to : BeganBy steps op.who.id (IsUdpConnectTo addr)) (udp : BeganBy steps op.who.side MakesUdp) (family : SocketAddressFamily) (last : op.who.last ≡ NothingLast) where
    -- it stays so after an ask
    connect_on : (es : List Entry) (c : Call) (t : Told) → NoPeer c → OnConnect family es → OnConnect family (es ++ entry op.who.id c t ∷ [])
    connect_on es c t n w = record {
      made = maker_more es _ op.who.context family op.who.side w.made;
      named = names_on (stay steps) es _ op.who.id op.who.side w.named;
      kept = keeps_on start es op.who.id c t op.who.side n w.kept;
    }

    -- with these items left it may be polled
    connect_stands : (es : List Entry) (items : List Item) → OnConnect family es → UdpConnectLeft es op.who.id op.who.side op.who.context family addr items → Connecting steps start op es Nothing items
    connect_stands es items w l = Asking items (record { addr = addr; to = to; udp = udp; family = family; made = w.made; named = w.named; last = last; left = l }) w.kept

    -- a code ends it, and nothing more is asked
    connect_ends : (es : List Entry) (c : ErrorCode) (given : Given) → Leaves es (Refused c given, []) → Allows MayConnect Leaves es (last_ask op.who op.who.last c given)
    connect_ends es c given h = subst (λ (l : LastAsk). Allows MayConnect Leaves es (last_ask op.who l c given)) (sym last) h

    -- the check of the wildcard
    asked_first : (es : List Entry) (t : Told) → OnConnect family es
        → Leads (Check addr use_of.UdpSend ∷ Check addr use_of.UdpReceive ∷ UdpConnect family addr ∷ []) (es ++ entry op.who.id (Call.Check op.who.context (wildcard family) use_of.UdpBind) t ∷ []) (verdict_front (Check (wildcard family) use_of.UdpBind) (told_verdict t))
    asked_first es Told.Yes w = connect_stands _ _ (connect_on es _ Told.Yes (λ x e. absurd (cc)) w)
        (ConnectWhole (inr (record { ctx = op.who.context; family = family; maker = maker_more es _ op.who.context family op.who.side w.made; checked = has_last es _ })))
    asked_first es Told.No w = connect_ends _ AccessDenied Nothing (keeps_on start es _ _ Told.No _ (λ x e. absurd (cc)) w.kept)
    asked_first es t w = connect_stands _ _ (connect_on es _ t (λ x e. absurd (cc)) w) ConnectUnbound

    -- the check of what it sends
    asked_sends : (es : List Entry) (t : Told) → OnConnect family es → MaySendOut es op.who.id op.who.side
        → Leads (Check addr use_of.UdpReceive ∷ UdpConnect family addr ∷ []) (es ++ entry op.who.id (Call.Check op.who.context addr use_of.UdpSend) t ∷ []) (verdict_front (Check addr use_of.UdpSend) (told_verdict t))
    asked_sends es Told.Yes w o = connect_stands _ _ (connect_on es _ Told.Yes (λ x e. absurd (cc)) w) (ConnectSends (send_out_more es _ op.who.id op.who.side o) (has_last es _))
    asked_sends es Told.No w o = connect_ends _ AccessDenied Nothing (keeps_on start es _ _ Told.No _ (λ x e. absurd (cc)) w.kept)
    asked_sends es t w o = connect_stands _ _ (connect_on es _ t (λ x e. absurd (cc)) w) (ConnectWhole (send_out_more es _ op.who.id op.who.side o))

    -- the check of what it receives
    asked_receives : (es : List Entry) (t : Told) → OnConnect family es → MaySendOut es op.who.id op.who.side → Has es (entry op.who.id (Call.Check op.who.context addr use_of.UdpSend) Told.Yes)
        → Leads (UdpConnect family addr ∷ []) (es ++ entry op.who.id (Call.Check op.who.context addr use_of.UdpReceive) t ∷ []) (verdict_front (Check addr use_of.UdpReceive) (told_verdict t))
    asked_receives es Told.Yes w o y = connect_stands _ _ (connect_on es _ Told.Yes (λ x e. absurd (cc)) w) (ConnectChecked (send_out_more es _ op.who.id op.who.side o) (has_front es _ _ y) (has_last es _))
    asked_receives es Told.No w o y = connect_ends _ AccessDenied Nothing (keeps_on start es _ _ Told.No _ (λ x e. absurd (cc)) w.kept)
    asked_receives es t w o y = connect_stands _ _ (connect_on es _ t (λ x e. absurd (cc)) w) (ConnectSends (send_out_more es _ op.who.id op.who.side o) (has_front es _ _ y))

    -- the `peer` after the connect, whatever that was told
    heard : (es : List Entry) (outcome : Result (Unit {0}) ErrorCode) (remote : Option IpSocketAddress) → RemoteIs es op.who.side remote → Leads [] es (peer_front outcome remote)
    heard es (Ok done) remote r = Heard remote r
    heard es (Err c) remote r = connect_ends es c (Remote remote) r

    -- it asks for its own network socket
    asks_peer : (es : List Entry) (outcome : Result (Unit {0}) ErrorCode) → OnConnect family es → Allows MayConnect (Leads []) es (ask_peer_front op.who family outcome)
    unfolding bind
    asks_peer es outcome w = ((((inl w.named, tt), tt), λ x e. cc), λ t fits. heard _ outcome _ (remote_heard es op.who.id op.who.side op.who.context family t w.made))

    -- a check that was answered yes is the one that the connect needs
    yes_of : (es : List Entry) (usage : SocketAddrUse) → OnConnect family es → Has es (entry op.who.id (Call.Check op.who.context addr usage) Told.Yes) → HasYes es es op.who.id op.who.side addr usage
    yes_of es usage w y = record { ctx = op.who.context; family = family; maker = w.made; checked = y }

    -- the front ask, by what is left
    connect_front : (es : List Entry) (item : Item) (items : List Item) → OnConnect family es → UdpConnectLeft es op.who.id op.who.side op.who.context family addr (item ∷ items) → Allows MayConnect (Leads items) es (front op.who item)
    unfolding bind
    connect_front es _ _ w ConnectUnbound = ((((tt, tt), tt), λ x e. absurd (cc)), λ t fits. asked_first es t w)
    connect_front es _ _ w (ConnectWhole o) = ((((tt, tt), tt), λ x e. absurd (cc)), λ t fits. asked_sends es t w o)
    connect_front es _ _ w (ConnectSends o y) = ((((tt, tt), tt), λ x e. absurd (cc)), λ t fits. asked_receives es t w o y)
    connect_front es _ _ w (ConnectChecked o y z) = (
      ((((inl w.named, to, yes_of es use_of.UdpSend w y, yes_of es use_of.UdpReceive w z, o, udp), tt), tt), λ x e. absurd (cc)),
      λ t fits. asks_peer _ (told_done t) (connect_on es _ t (λ x e. absurd (cc)) w),
    )

  -- the front ask is allowed
  connects : (es : List Entry) (given : Given) (item : Item) (items : List Item) → Connecting steps start op es given (item ∷ items) → Allows MayConnect (Leads items) es (front op.who item)
  connects es _ item items (Asking _ f k) = connect_front f.addr f.to f.udp f.family f.last es item items (record { made = f.made; named = f.named; kept = k }) f.left

  -- a poll that ends before the last ask was told nothing
  connect_waits : (es : List Entry) (items : List Item) → Connecting steps start op es Nothing items → Leaves es (Waits, items)
  connect_waits es items (Asking _ f k) = (f, k)

  -- after the last ask the remote address was told
  connect_done : (es : List Entry) (given : Given) → Connecting steps start op es given [] → Leaves es (Done given, [])
  connect_done es _ (Asking _ f k) = elim f.left [ ]
  connect_done es _ (Heard remote r) = r

module _ (contexts : List WasiSocketsCtx) (steps : List Step) where
  -- a poll of a connect leaves one that may be polled, or tells the remote address
  pub fine_poll_udp_connect : (op : Operation) (es : List Entry) → UdpConnectIsFine steps es op → Allows (λ fs o c. MayQuietly contexts steps fs o c × PeerOn op.who.side c) (λ fs ended. ConnectLeaves steps es fs op ended) es (poll_asks op)
  fine_poll_udp_connect op es f =
      allows_polls (MayConnect contexts steps es op) op.who (Connecting steps es op) (Leaves contexts steps es op)
      (connects contexts steps es op) (connect_waits contexts steps es op) (connect_done contexts steps es op) 64 op.left es (Asking op.left f (λ addr h. h))

-- == a datagram that is sent
module _ (contexts : List WasiSocketsCtx) (steps : List Step) where
  -- an ask that may come, and is no `peer`
  abbrev pub MayUntold : List Entry → OpId → Call → Type 0
  MayUntold es o c = MayQuietly contexts steps es o c × NoPeer c

module _ (contexts : List WasiSocketsCtx) (steps : List Step) (remote : Option IpSocketAddress) (op : Operation) where
  -- who sends while the socket keeps this remote address
  abbrev sends : Who
  sends = record op.who { remote = remote }

  -- with what the poll leaves it may be polled
  abbrev SendAfter : List Entry → End × List Item → Type 0
  SendAfter es ended = SendIsFine steps es (left_of op ended.1)

  -- between its asks it may be polled, and the remote address is the one that is kept
  abbrev SendBefore : List Entry → Given → List Item → Type 0
  SendBefore es given items = SendIsFine steps es (left_of op items) × RemoteIs es op.who.side remote

  -- what is known once the front ask is answered
  abbrev SendLeads : List Item → List Entry → Front → Type 0
  SendLeads items es f = FrontKeeps (MayUntold contexts steps) sends SendBefore SendAfter items es f

  -- It is on its network socket, whose remote address is the one that is kept.
  record OnSend (family : SocketAddressFamily) (es : List Entry) : Type 0 where
    pub made : IsMaker es op.who.context family op.who.side
    pub named : Names steps es op.who.id op.who.side
    pub kept : RemoteIs es op.who.side remote

  module _ (d : OutgoingDatagram) (of : BeganBy steps op.who.id (IsSendOf op.who.id.part d)) (udp : BeganBy steps op.who.side MakesUdp) (family : SocketAddressFamily) (last : op.who.last ≡ NothingLast) where
    -- it stays so after an ask
    send_on : (es : List Entry) (c : Call) (t : Told) → NoPeer c → OnSend family es → OnSend family (es ++ entry op.who.id c t ∷ [])
    send_on es c t n w = record {
      made = maker_more es _ op.who.context family op.who.side w.made;
      named = names_on (stay steps) es _ op.who.id op.who.side w.named;
      kept = remote_on es op.who.id c t op.who.side remote n w.kept;
    }

    -- with these items left it may be polled
    send_stands : (es : List Entry) (items : List Item) → OnSend family es → SendLeft es op.who.id op.who.side op.who.context family d items → SendIsFine steps es (left_of op items)
    send_stands es items w l = record { datagram = d; item = of; udp = udp; family = family; made = w.made; named = w.named; last = last; left = l }

    -- and the remote address is the one that is kept
    send_holds : (es : List Entry) (items : List Item) → OnSend family es → SendLeft es op.who.id op.who.side op.who.context family d items → SendBefore es Nothing items
    send_holds es items w l = (send_stands es items w l, w.kept)

    -- a code ends it, and nothing more is asked
    send_ends : (es : List Entry) (c : ErrorCode) (given : Given) → OnSend family es → Allows (MayUntold contexts steps) SendAfter es (last_ask sends sends.last c given)
    send_ends es c given w = subst (λ (l : LastAsk). Allows (MayUntold contexts steps) SendAfter es (last_ask sends l c given)) (sym last) (send_stands es [] w SendOver)

    -- the check of the wildcard
    asked_wildcard : (es : List Entry) (kept : Bool) (addr : IpSocketAddress) (t : Told) → OnSend family es → IsFor d kept addr
        → SendLeads (Check addr use_of.UdpSend ∷ Send kept addr d.bytes ∷ []) (es ++ entry op.who.id (Call.Check op.who.context (wildcard family) use_of.UdpBind) t ∷ []) (verdict_front (Check (wildcard family) use_of.UdpBind) (told_verdict t))
    asked_wildcard es kept addr Told.Yes w f = send_holds _ _ (send_on es _ Told.Yes (λ x e. absurd (cc)) w)
        (SendUnchecked kept addr f (inr (record { ctx = op.who.context; family = family; maker = maker_more es _ op.who.context family op.who.side w.made; checked = has_last es _ })))
    asked_wildcard es kept addr Told.No w f = send_ends _ AccessDenied Nothing (send_on es _ Told.No (λ x e. absurd (cc)) w)
    asked_wildcard es kept addr t w f = send_holds _ _ (send_on es _ t (λ x e. absurd (cc)) w) (SendUnbound kept addr f)

    -- the check of the address
    asked_send : (es : List Entry) (kept : Bool) (addr : IpSocketAddress) (t : Told) → OnSend family es → IsFor d kept addr → MaySendOut es op.who.id op.who.side
        → SendLeads (Send kept addr d.bytes ∷ []) (es ++ entry op.who.id (Call.Check op.who.context addr use_of.UdpSend) t ∷ []) (verdict_front (Check addr use_of.UdpSend) (told_verdict t))
    asked_send es kept addr Told.Yes w f o = send_holds _ _ (send_on es _ Told.Yes (λ x e. absurd (cc)) w) (SendChecked kept addr f (send_out_more es _ op.who.id op.who.side o) (has_last es _))
    asked_send es kept addr Told.No w f o = send_ends _ AccessDenied Nothing (send_on es _ Told.No (λ x e. absurd (cc)) w)
    asked_send es kept addr t w f o = send_holds _ _ (send_on es _ t (λ x e. absurd (cc)) w) (SendUnchecked kept addr f (send_out_more es _ op.who.id op.who.side o))

    -- the datagram itself
    sent : (es : List Entry) (kept : Bool) (addr : IpSocketAddress) (t : Told) → OnSend family es → IsFor d kept addr → MaySendOut es op.who.id op.who.side → Has es (entry op.who.id (Call.Check op.who.context addr use_of.UdpSend) Told.Yes)
        → SendLeads [] (es ++ entry op.who.id (Call.Send op.who.side addr d.bytes) t ∷ []) (polled_front (Send kept addr d.bytes) (told_polled t))
    sent es kept addr Told.Done w f o y = send_holds _ _ (send_on es _ Told.Done (λ x e. absurd (cc)) w) SendOver
    sent es kept addr (Told.Code c) w f o y = send_ends _ c Nothing (send_on es _ (Told.Code c) (λ x e. absurd (cc)) w)
    sent es kept addr t w f o y = send_holds _ _ (send_on es _ t (λ x e. absurd (cc)) w) (SendChecked kept addr f (send_out_more es _ op.who.id op.who.side o) (has_front es _ _ y))

    -- it is the one of its part in its step
    sends_item : (es : List Entry) (addr : IpSocketAddress) → GoesTo es op.who.side d.remote_address addr → BeganBy steps op.who.id (SendsItem es op.who.id op.who.side addr d.bytes)
    sends_item es addr g = record { origin = of.origin; at = of.at; holds = record { datagram = d; item = of.holds; bytes_are = refl; goes = g } }

    -- it is asked for only where it goes to the address that was checked
    asks_send : (es : List Entry) (kept : Bool) (addr : IpSocketAddress) → OnSend family es → IsFor d kept addr → MaySendOut es op.who.id op.who.side → Has es (entry op.who.id (Call.Check op.who.context addr use_of.UdpSend) Told.Yes)
        → Allows (MayUntold contexts steps) (SendLeads []) es (send_front sends kept addr d.bytes)
    unfolding bind
    asks_send es kept addr w f o y = allows_if (MayUntold contexts steps) (SendLeads []) es (kept && not (is_now remote addr)) _ _ (λ late. send_ends es _ Nothing w) (λ now. (
      ((((inl w.named, sends_item es addr (goes_to es op.who.side remote d kept addr f w.kept now), record { ctx = op.who.context; family = family; maker = w.made; checked = y }, o, udp), tt), tt), λ x e. absurd (cc)),
      λ t fits. sent es kept addr t w f o y,
    ))

    -- the front ask, by what is left
    send_item : (es : List Entry) (item : Item) (items : List Item) → OnSend family es → SendLeft es op.who.id op.who.side op.who.context family d (item ∷ items) → Allows (MayUntold contexts steps) (SendLeads items) es (front sends item)
    unfolding bind
    send_item es _ _ w (SendRefused c) = send_ends es c Nothing w
    send_item es _ _ w (SendUnbound kept addr f) = ((((tt, tt), tt), λ x e. absurd (cc)), λ t fits. asked_wildcard es kept addr t w f)
    send_item es _ _ w (SendUnchecked kept addr f o) = ((((tt, tt), tt), λ x e. absurd (cc)), λ t fits. asked_send es kept addr t w f o)
    send_item es _ _ w (SendChecked kept addr f o y) = asks_send es kept addr w f o y

module _ (contexts : List WasiSocketsCtx) (steps : List Step) where
  -- a poll of a datagram leaves one that may be polled
  pub fine_poll_send : (op : Operation) (remote : Option IpSocketAddress) (es : List Entry) → SendIsFine steps es op → RemoteIs es op.who.side remote → Allows (λ fs o c. MayQuietly contexts steps fs o c × NoPeer c) (λ fs ended. SendIsFine steps fs (left_of op ended.1)) es (poll_asks (at_remote remote op))
  fine_poll_send op remote es f r =
      allows_polls (MayUntold contexts steps) (sends contexts steps remote op) (SendBefore contexts steps remote op) (SendAfter contexts steps remote op)
      (λ fs given item items k. send_item contexts steps remote op k.0.datagram k.0.item k.0.udp k.0.family k.0.last fs item items (record { made = k.0.made; named = k.0.named; kept = k.1 }) k.0.left)
      (λ fs items k. k.0) (λ fs given k. k.0) 64 op.left es (f, r)

-- == a receive
-- what is left of a receive stays so where another address is wanted
wanted_left : (wanted : Option IpSocketAddress) (items : List Item) → IsLeftOfReceive items → IsLeftOfReceive (wanted_in wanted items)
wanted_left wanted _ (ToRefuse c) = ToRefuse c
wanted_left wanted _ (Unreceived only) = Unreceived wanted
wanted_left wanted _ (Received only bytes peer) = Received wanted bytes peer
wanted_left wanted _ Ended = Ended

module _ (contexts : List WasiSocketsCtx) (steps : List Step) (op : Operation) where
  -- with what the poll leaves it may be polled
  abbrev ReceiveAfter : List Entry → End × List Item → Type 0
  ReceiveAfter es ended = ReceiveIsFine steps es (left_of op ended.1)

  -- between its asks too
  abbrev ReceiveBefore : List Entry → Given → List Item → Type 0
  ReceiveBefore es given items = ReceiveIsFine steps es (left_of op items)

  -- what is known once the front ask is answered
  abbrev ReceiveLeads : List Item → List Entry → Front → Type 0
  ReceiveLeads items es f = FrontKeeps (MayUntold contexts steps) op.who ReceiveBefore ReceiveAfter items es f

  -- with this left it may be polled
  receive_with : (es : List Entry) (items left : List Item) → ReceiveIsFine steps es (left_of op items) → IsLeftOfReceive left → ReceiveIsFine steps es (left_of op left)
  receive_with es items left f l = record { began = f.began; family = f.family; made = f.made; named = f.named; last = f.last; left = l }

  -- it stays so after an ask
  receive_on : (es : List Entry) (items : List Item) (c : Call) (t : Told) → ReceiveIsFine steps es (left_of op items) → ReceiveIsFine steps (es ++ entry op.who.id c t ∷ []) (left_of op items)
  receive_on es items c t f = receive_more (stay steps) es _ (left_of op items) f

  -- a code ends it, and nothing more is asked
  receive_ends : (es : List Entry) (items : List Item) (c : ErrorCode) (given : Given) → ReceiveIsFine steps es (left_of op items) → Allows (MayUntold contexts steps) ReceiveAfter es (last_ask op.who op.who.last c given)
  receive_ends es items c given f = subst (λ (l : LastAsk). Allows (MayUntold contexts steps) ReceiveAfter es (last_ask op.who l c given)) (sym f.last) (receive_with es items [] f Ended)

  -- the check of the sender
  checked_peer : (es : List Entry) (items : List Item) (wanted : Option IpSocketAddress) (bytes : List ℕ) (a : IpSocketAddress) (t : Told) → ReceiveIsFine steps es (left_of op items) → ReceiveLeads [] es (received_front wanted bytes a (told_verdict t))
  checked_peer es items wanted bytes a Told.Yes f = by_test (is_wanted wanted a)
    where
      by_test : (b : Bool) → ReceiveLeads [] es (if b then Goes (Datagram bytes a) else Again (Receive wanted))
      by_test true = receive_with es items [] f Ended
      by_test false = receive_with es items _ f (Unreceived wanted)
  checked_peer es items wanted bytes a Told.No f = receive_with es items _ f (Unreceived wanted)
  checked_peer es items wanted bytes a t f = receive_with es items _ f (Received wanted bytes a)

  -- the check itself
  checks_peer : (es : List Entry) (items : List Item) (wanted : Option IpSocketAddress) (bytes : List ℕ) (a : IpSocketAddress) → ReceiveIsFine steps es (left_of op items) → Allows (MayUntold contexts steps) (ReceiveLeads []) es (check_peer_front op.who wanted bytes a)
  unfolding bind
  checks_peer es items wanted bytes a f = ((((tt, tt), tt), λ x e. absurd (cc)), λ t fits. checked_peer _ items wanted bytes a t (receive_on es items _ t f))

  -- what was received
  received : (es : List Entry) (items : List Item) (wanted : Option IpSocketAddress) (t : Told) → ReceiveIsFine steps es (left_of op items) → Allows (MayUntold contexts steps) (ReceiveLeads []) es (receive_front op.who wanted (told_datagram t))
  received es items wanted (Told.Datagram bytes a) f = checks_peer es items wanted bytes a f
  received es items wanted (Told.Code c) f = receive_ends es items c Nothing f
  received es items wanted t f = receive_with es items _ f (Unreceived wanted)

  -- the front ask, by what is left
  receive_item : (es : List Entry) (item : Item) (items all : List Item) → ReceiveIsFine steps es (left_of op all) → IsLeftOfReceive (item ∷ items) → Allows (MayUntold contexts steps) (ReceiveLeads items) es (front op.who item)
  unfolding bind
  receive_item es _ _ all f (ToRefuse c) = receive_ends es all c Nothing f
  receive_item es _ _ all f (Unreceived only) = (((((inl f.named, f.began), tt), tt), λ x e. absurd (cc)), λ t fits. received _ all only t (receive_on es all _ t f))
  receive_item es _ _ all f (Received only bytes peer) = checks_peer es all only bytes peer f

module _ (contexts : List WasiSocketsCtx) (steps : List Step) where
  -- a poll of a receive leaves one that may be polled
  pub fine_poll_receive : (op : Operation) (wanted : Option IpSocketAddress) (es : List Entry) → ReceiveIsFine steps es op → Allows (λ fs o c. MayQuietly contexts steps fs o c × NoPeer c) (λ fs ended. ReceiveIsFine steps fs (left_of op ended.1)) es (poll_asks (wanting wanted op))
  fine_poll_receive op wanted es f =
      allows_polls (MayUntold contexts steps) op.who (ReceiveBefore contexts steps op) (ReceiveAfter contexts steps op)
      (λ fs given item items k. receive_item contexts steps op fs item items (item ∷ items) k k.left)
      (λ fs items k. k) (λ fs given k. k) 64 (wanted_in wanted op.left) es (receive_with contexts steps op es op.left _ f (wanted_left wanted op.left f.left))
