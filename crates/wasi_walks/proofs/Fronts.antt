-- One poll of an operation by its single asks: what each item that is left asks, what it becomes, and what is known of the items that
-- are left.
use Rattle.std.proofs.Math.Seq.{drop-nil}
use Rattle.std.specs.Prelude.{Option, drop, not, ◌&&◌}
use Rattle.wasi_addr.specs.declared.address.IpAddress.{IpAddress}
use Rattle.wasi_addr.specs.declared.address.ShutdownType.TheVariants as half
use Rattle.wasi_addr.specs.declared.address.SocketAddrUse.TheVariants.{TcpAccept, UdpReceive}
use Rattle.wasi_world.specs.declared.asks.Polled.TheVariants as polled
use Rattle.wasi_world.specs.declared.asks.Verdict.TheVariants as verdict
use Rattle.wasi_world.specs.declared.call.Call.TheVariants as call
use Rattle.wasi_world.specs.Operation as item
use Rattle.wasi_world.specs.Operation.{AskPeer, CheckPeer, Connection, Ends, Hand, Lookup, Receive, Send, UdpBind, UdpConnect, UdpWritable, ask_peer_front, check_peer_front, is_now, is_wanted, lookup_front, peer_front, receive_front, received_front, remote_told, send_front}
use Rattle.wasi_world.specs.Typed.{told_datagram, told_names, told_taken}
use Rattle.wasi_world.specs.Asks.{IsFront}
use Rattle.wasi_walks.proofs.Lists.{has_last}
use Rattle.wasi_walks.proofs.Words.{Accept, Allows, Asks, Bind, Bool, Call, Check, CheckArrival, CheckLocal, Connect, Done, End, Entry, Err, ErrorCode, Fits, Front, FrontKeeps, Given, Has, IpSocketAddress, Item, Last, List, Listen, Nothing, Ok, OpId, Polled, Refuse, Result, ShutdownSend, SocketAddressFamily, SocketAddrUse, Told, Verdict, Waits, Who, Write, [], accept_front, admitted_front, allows_if, allows_polls, arrival_front, bind, check_front, done_front, entry, false, front, hand_front, if◌then◌else◌, last_ask, length, less_one, local_front, poll_asks, polled_front, refl, refuse_front, suc, taken_front, told_addr, told_arrival, told_done, told_polled, told_verdict, true, verdict_front, write_front, zero, ℕ, ⊤, ◌++◌, ◌∷◌, ◌≡◌}

-- What is asked where this item is the first that is left, but by a write.
pub data AsksBy (who : Who) : Item → Call → Type 0 where
  Checks : (a : IpSocketAddress) (usage : SocketAddrUse) → AsksBy who (Check a usage) (call.Check who.context a usage)
  ChecksArrival : (peer : IpSocketAddress) → AsksBy who (CheckArrival peer) (call.Check who.context peer TcpAccept)
  ChecksPeer : (wanted : Option IpSocketAddress) (bytes : List ℕ) (a : IpSocketAddress)
      → AsksBy who (CheckPeer wanted bytes a) (call.Check who.context a UdpReceive)
  Locals : (usage : SocketAddrUse) → AsksBy who (CheckLocal usage) (call.Local who.side)
  Binds : (a : IpSocketAddress) → AsksBy who (Bind a) (call.Bind who.side a)
  Connects : (a : IpSocketAddress) → AsksBy who (Connect a) (call.Connect who.side a)
  Listens : (backlog : ℕ) → AsksBy who (Listen backlog) (call.Listen who.side backlog)
  Accepts : AsksBy who Accept (call.Accept who.side)
  Hands : (peer : IpSocketAddress) → AsksBy who (Hand peer) (call.Hand who.side peer)
  Refuses : (peer : IpSocketAddress) → AsksBy who (Refuse peer) (call.Refuse who.side peer)
  Shuts : AsksBy who ShutdownSend (call.Shutdown who.side half.Send)
  Wakes : AsksBy who UdpWritable (call.UdpWritable who.side)
  UdpBinds : (a : IpSocketAddress) → AsksBy who (UdpBind a) (call.UdpBind who.side a)
  UdpConnects : (family : SocketAddressFamily) (a : IpSocketAddress) → AsksBy who (UdpConnect family a) (call.UdpConnect who.side a)
  AsksPeer : (family : SocketAddressFamily) (outcome : Result (Unit {0}) ErrorCode)
      → AsksBy who (AskPeer family outcome) (call.Peer who.side)
  Sends : (kept : Bool) (a : IpSocketAddress) (bytes : List ℕ) → AsksBy who (Send kept a bytes) (call.Send who.side a bytes)
  Receives : (wanted : Option IpSocketAddress) → AsksBy who (Receive wanted) (call.Recv who.side)
  Looks : (host : List ℕ) → AsksBy who (Lookup host) (call.Lookup host)

-- The forms that an item takes on its way.
pub data Becomes : Item → Item → Type 0 where
  ToldAddress : (a : IpSocketAddress) (usage : SocketAddrUse) → Becomes (CheckLocal usage) (Check a usage)
  Arrives : (peer : IpSocketAddress) → Becomes Accept (CheckArrival peer)
  IsAdmitted : (peer : IpSocketAddress) → Becomes (CheckArrival peer) (Hand peer)
  IsUnwanted : (peer : IpSocketAddress) → Becomes (CheckArrival peer) (Refuse peer)
  IsRefused : (peer : IpSocketAddress) → Becomes (Refuse peer) Accept
  IsConnected : (family : SocketAddressFamily) (a : IpSocketAddress) (outcome : Result (Unit {0}) ErrorCode) → Becomes (UdpConnect family a) (AskPeer family outcome)
  Comes : (wanted : Option IpSocketAddress) (bytes : List ℕ) (a : IpSocketAddress) → Becomes (Receive wanted) (CheckPeer wanted bytes a)
  GoesBy : (wanted : Option IpSocketAddress) (bytes : List ℕ) (a : IpSocketAddress) → Becomes (CheckPeer wanted bytes a) (Receive wanted)

-- an item that was answered is left out; of a write all was taken
abbrev pub IsSpent : Item → Type 0
IsSpent (Write bytes) = bytes ≡ []
IsSpent _ = ⊤

-- what is still to be written
abbrev pub still : Polled ℕ → ℕ → List ℕ → List ℕ
still (polled.Ready n) b bytes = drop (less_one n) bytes
still _ b bytes = b ∷ bytes

-- A network socket was handed over by this name.
pub record IsHandedOver (es : List Entry) (side : OpId) : Type 0 where
  pub listener : OpId
  pub peer : IpSocketAddress
  pub told : Told
  pub has : Has es (entry side (call.Hand listener peer) told)

-- a connection that is given was, and has the operation's own name
abbrev pub IsGivenOver : OpId → List Entry → Given → Type 0
IsGivenOver own es (Connection new peer) = IsHandedOver es new × (new ≡ own)
IsGivenOver own es given = ⊤

-- K is what is known where these items are left, and Q what is at the end.
pub record PollLaw (P : List Entry → OpId → Call → Type 0) (who : Who) (K : List Entry → List Item → Type 0) (Q : List Entry → End × List Item → Type 0) : Type 0 where
  pub asks : (es : List Entry) (i : Item) (items : List Item) (c : Call) → AsksBy who i c → K es (i ∷ items) → P es who.id c × ((told : Told) → Fits c told → K (es ++ entry who.id c told ∷ []) (i ∷ items))
  pub writes : (es : List Entry) (b : ℕ) (bytes : List ℕ) (items : List Item) → K es (Write (b ∷ bytes) ∷ items) → let c : Call = call.Write who.side (length (b ∷ bytes)) in
      P es who.id c × ((told : Told) → Fits c told → IsFront told (b ∷ bytes) → K (es ++ entry who.id c told ∷ []) (Write (still (told_taken told) b bytes) ∷ items))
  pub becomes : (es : List Entry) (i j : Item) (items : List Item) → Becomes i j → K es (i ∷ items) → K es (j ∷ items)
  pub drops : (es : List Entry) (i : Item) (items : List Item) → IsSpent i → K es (i ∷ items) → K es items
  pub ends : (es : List Entry) (i : Item) (items : List Item) (c : ErrorCode) (given : Given) → K es (i ∷ items) → Allows P Q es (last_ask who who.last c given)
  pub waits : (es : List Entry) (items : List Item) → K es items → Q es (Waits, items)
  pub done : (es : List Entry) (given : Given) → IsGivenOver who.id es given → K es [] → Q es (Done given, [])

module _ {P : List Entry → OpId → Call → Type 0} {who : Who} {K : List Entry → List Item → Type 0} {Q : List Entry → End × List Item → Type 0} (law : PollLaw P who K Q) where
  abbrev Before : List Entry → Given → List Item → Type 0
  Before es given items = K es items × IsGivenOver who.id es given

  module _ (items : List Item) where
    abbrev Leads : List Entry → Asks Front → Type 0
    Leads es asks = Allows P (FrontKeeps P who Before Q items) es asks

    abbrev Holds : List Entry → Front → Type 0
    Holds es f = FrontKeeps P who Before Q items es f

    -- what is known where this item is the first
    abbrev At : List Entry → Item → Type 0
    At es i = K es (i ∷ items)

    over : (es : List Entry) (i : Item) (c : ErrorCode) → At es i → Holds es (Ends c Nothing)
    over es i c k = law.ends es i items c Nothing k

    checked : (es : List Entry) (a : IpSocketAddress) (usage : SocketAddrUse) (v : Verdict) → At es (Check a usage) → Holds es (verdict_front (Check a usage) v)
    checked es a usage verdict.Yes k = (law.drops es (Check a usage) items tt k, tt)
    checked es a usage verdict.No k = over es (Check a usage) _ k
    checked es a usage verdict.Pending k = (k, tt)

    check_leads : (es : List Entry) (a : IpSocketAddress) (usage : SocketAddrUse) → At es (Check a usage) → Leads es (check_front who a usage)
    unfolding bind
    check_leads es a usage k = let x = law.asks es (Check a usage) items _ (Checks a usage) k in (x.0, λ t fits. checked _ a usage (told_verdict t) (x.1 t fits))

    local_leads : (es : List Entry) (usage : SocketAddrUse) (r : Result IpSocketAddress ErrorCode) → At es (CheckLocal usage) → Leads es (local_front who usage r)
    local_leads es usage (Ok a) k = check_leads es a usage (law.becomes es (CheckLocal usage) (Check a usage) items (ToldAddress a usage) k)
    local_leads es usage (Err c) k = over es (CheckLocal usage) c k

    done_keeps : (es : List Entry) (i : Item) (r : Result (Unit {0}) ErrorCode) → IsSpent i → At es i → Holds es (done_front r)
    done_keeps es i (Ok done) s k = (law.drops es i items s k, tt)
    done_keeps es i (Err c) s k = over es i c k

    polled_keeps : (es : List Entry) (i : Item) (p : Polled (Unit {0})) → IsSpent i → At es i → Holds es (polled_front i p)
    polled_keeps es i (polled.Ready done) s k = (law.drops es i items s k, tt)
    polled_keeps es i polled.Pending s k = (k, tt)
    polled_keeps es i (polled.Code c) s k = over es i c k

    -- an accept
    hand_leads : (es : List Entry) (peer : IpSocketAddress) → At es (Hand peer) → Leads es (hand_front who peer)
    unfolding bind
    hand_leads es peer k =
        let x = law.asks es (Hand peer) items (call.Hand who.side peer) (Hands peer) k in
        (x.0, λ t fits. (law.drops _ (Hand peer) items tt (x.1 t fits), (record { listener = who.side; peer = peer; told = t; has = has_last es _ }, refl)))

    refuse_leads : (es : List Entry) (peer : IpSocketAddress) → At es (Refuse peer) → Leads es (refuse_front who peer)
    unfolding bind
    refuse_leads es peer k = let x = law.asks es (Refuse peer) items (call.Refuse who.side peer) (Refuses peer) k in (x.0, λ t fits. (law.becomes _ (Refuse peer) Accept items (IsRefused peer) (x.1 t fits), tt))

    admitted_leads : (es : List Entry) (peer : IpSocketAddress) (v : Verdict) → At es (CheckArrival peer) → Leads es (admitted_front who peer v)
    admitted_leads es peer verdict.Yes k = hand_leads es peer (law.becomes es (CheckArrival peer) (Hand peer) items (IsAdmitted peer) k)
    admitted_leads es peer verdict.No k = refuse_leads es peer (law.becomes es (CheckArrival peer) (Refuse peer) items (IsUnwanted peer) k)
    admitted_leads es peer verdict.Pending k = (k, tt)

    arrival_leads : (es : List Entry) (peer : IpSocketAddress) → At es (CheckArrival peer) → Leads es (arrival_front who peer)
    unfolding bind
    arrival_leads es peer k = let x = law.asks es (CheckArrival peer) items _ (ChecksArrival peer) k in (x.0, λ t fits. admitted_leads _ peer (told_verdict t) (x.1 t fits))

    accept_leads : (es : List Entry) (p : Polled IpSocketAddress) → At es Accept → Leads es (accept_front who p)
    accept_leads es polled.Pending k = (k, tt)
    accept_leads es (polled.Ready peer) k = arrival_leads es peer (law.becomes es Accept (CheckArrival peer) items (Arrives peer) k)
    accept_leads es (polled.Code c) k = over es Accept c k

    -- a write
    write_leads : (bytes : List ℕ) (skip : ℕ) (es : List Entry) → At es (Write (drop skip bytes)) → Leads es (write_front who bytes skip)
    unfolding bind
    write_leads [] skip es k = (law.drops es (Write (drop skip [])) items (drop-nil {A = ℕ} skip) k, tt)
    write_leads (b ∷ bytes) (suc skip) es k = write_leads bytes skip es k
    write_leads (b ∷ bytes) zero es k = let x = law.writes es b bytes items k in (x.0, λ t fits front. took b bytes (λ n. write_leads bytes n) _ (told_taken t) (x.1 t fits front))
      where
        took : (b : ℕ) (bytes : List ℕ) → ((n : ℕ) (fs : List Entry) → At fs (Write (drop n bytes)) → Leads fs (write_front who bytes n)) → (fs : List Entry) (p : Polled ℕ) → At fs (Write (still p b bytes)) → Leads fs (taken_front (λ skip. write_front who bytes skip) (Write (b ∷ bytes)) p)
        took b bytes next fs (polled.Ready n) k = next (less_one n) fs k
        took b bytes next fs polled.Pending k = (k, tt)
        took b bytes next fs (polled.Code c) k = over fs (Write (b ∷ bytes)) c k

    -- datagrams
    peer_keeps : (es : List Entry) (i : Item) (outcome : Result (Unit {0}) ErrorCode) (remote : Option IpSocketAddress) → IsSpent i → At es i → Holds es (peer_front outcome remote)
    peer_keeps es i (Ok done) remote s k = (law.drops es i items s k, tt)
    peer_keeps es i (Err c) remote s k = law.ends es i items c _ k

    peer_leads : (es : List Entry) (family : SocketAddressFamily) (outcome : Result (Unit {0}) ErrorCode) → At es (AskPeer family outcome) → Leads es (ask_peer_front who family outcome)
    unfolding bind
    peer_leads es family outcome k = let x = law.asks es (AskPeer family outcome) items (call.Peer who.side) (AsksPeer family outcome) k in (x.0, λ t fits. peer_keeps _ (AskPeer family outcome) outcome (remote_told family (told_addr t)) tt (x.1 t fits))

    send_leads : (es : List Entry) (kept : Bool) (a : IpSocketAddress) (bytes : List ℕ) → At es (Send kept a bytes) → Leads es (send_front who kept a bytes)
    unfolding bind
    send_leads es kept a bytes k =
        let x = law.asks es (Send kept a bytes) items (call.Send who.side a bytes) (Sends kept a bytes) k in
        allows_if P (FrontKeeps P who Before Q items) es (kept && not (is_now who.remote a)) _ _ (λ changed. over es (Send kept a bytes) _ k) (λ same. (x.0, λ t fits. polled_keeps _ (Send kept a bytes) (told_polled t) tt (x.1 t fits)))

    wanted_keeps : (es : List Entry) (wanted : Option IpSocketAddress) (bytes : List ℕ) (a : IpSocketAddress) (yes : Bool) → At es (CheckPeer wanted bytes a) → Holds es (if yes then item.Goes (item.Datagram bytes a) else item.Again (Receive wanted))
    wanted_keeps es wanted bytes a true k = (law.drops es (CheckPeer wanted bytes a) items tt k, tt)
    wanted_keeps es wanted bytes a false k = (law.becomes es (CheckPeer wanted bytes a) (Receive wanted) items (GoesBy wanted bytes a) k, tt)

    received_keeps : (es : List Entry) (wanted : Option IpSocketAddress) (bytes : List ℕ) (a : IpSocketAddress) (v : Verdict) → At es (CheckPeer wanted bytes a) → Holds es (received_front wanted bytes a v)
    received_keeps es wanted bytes a verdict.Yes k = wanted_keeps es wanted bytes a (is_wanted wanted a) k
    received_keeps es wanted bytes a verdict.No k = wanted_keeps es wanted bytes a false k
    received_keeps es wanted bytes a verdict.Pending k = (k, tt)

    check_peer_leads : (es : List Entry) (wanted : Option IpSocketAddress) (bytes : List ℕ) (a : IpSocketAddress) → At es (CheckPeer wanted bytes a) → Leads es (check_peer_front who wanted bytes a)
    unfolding bind
    check_peer_leads es wanted bytes a k = let x = law.asks es (CheckPeer wanted bytes a) items _ (ChecksPeer wanted bytes a) k in (x.0, λ t fits. received_keeps _ wanted bytes a (told_verdict t) (x.1 t fits))

    receive_leads : (es : List Entry) (wanted : Option IpSocketAddress) (p : Polled (List ℕ × IpSocketAddress)) → At es (Receive wanted) → Leads es (receive_front who wanted p)
    receive_leads es wanted polled.Pending k = (k, tt)
    receive_leads es wanted (polled.Ready d) k = check_peer_leads es wanted d.0 d.1 (law.becomes es (Receive wanted) (CheckPeer wanted d.0 d.1) items (Comes wanted d.0 d.1) k)
    receive_leads es wanted (polled.Code c) k = over es (Receive wanted) c k

    lookup_keeps : (es : List Entry) (host : List ℕ) (p : Polled (List IpAddress)) → At es (Lookup host) → Holds es (lookup_front host p)
    lookup_keeps es host polled.Pending k = (k, tt)
    lookup_keeps es host (polled.Ready names) k = (law.drops es (Lookup host) items tt k, tt)
    lookup_keeps es host (polled.Code c) k = over es (Lookup host) c k

  fronts : (es : List Entry) (given : Given) (i : Item) (items : List Item) → Before es given (i ∷ items) → Leads items es (front who i)
  unfolding bind
  fronts es given (Check a usage) items b = check_leads items es a usage b.0
  fronts es given (CheckLocal usage) items b = let x = law.asks es (CheckLocal usage) items (call.Local who.side) (Locals usage) b.0 in (x.0, λ t fits. local_leads items _ usage (told_addr t) (x.1 t fits))
  fronts es given (Bind a) items b = let x = law.asks es (Bind a) items (call.Bind who.side a) (Binds a) b.0 in (x.0, λ t fits. done_keeps items _ (Bind a) (told_done t) tt (x.1 t fits))
  fronts es given (Connect a) items b = let x = law.asks es (Connect a) items (call.Connect who.side a) (Connects a) b.0 in (x.0, λ t fits. polled_keeps items _ (Connect a) (told_polled t) tt (x.1 t fits))
  fronts es given (Listen backlog) items b = let x = law.asks es (Listen backlog) items (call.Listen who.side backlog) (Listens backlog) b.0 in (x.0, λ t fits. done_keeps items _ (Listen backlog) (told_done t) tt (x.1 t fits))
  fronts es given Accept items b = let x = law.asks es Accept items (call.Accept who.side) Accepts b.0 in (x.0, λ t fits. accept_leads items _ (told_arrival t) (x.1 t fits))
  fronts es given (CheckArrival peer) items b = arrival_leads items es peer b.0
  fronts es given (Hand peer) items b = hand_leads items es peer b.0
  fronts es given (Refuse peer) items b = refuse_leads items es peer b.0
  fronts es given (Write bytes) items b = write_leads items bytes 0 es b.0
  fronts es given ShutdownSend items b = let x = law.asks es ShutdownSend items (call.Shutdown who.side half.Send) Shuts b.0 in (x.0, λ t fits. (law.drops _ ShutdownSend items tt (x.1 t fits), tt))
  fronts es given UdpWritable items b = let x = law.asks es UdpWritable items (call.UdpWritable who.side) Wakes b.0 in (x.0, λ t fits. polled_keeps items _ UdpWritable (told_polled t) tt (x.1 t fits))
  fronts es given (UdpBind a) items b = let x = law.asks es (UdpBind a) items (call.UdpBind who.side a) (UdpBinds a) b.0 in (x.0, λ t fits. done_keeps items _ (UdpBind a) (told_done t) tt (x.1 t fits))
  fronts es given (UdpConnect family a) items b =
      let x = law.asks es (UdpConnect family a) items (call.UdpConnect who.side a) (UdpConnects family a) b.0 in (x.0, λ t fits. peer_leads items _ family (told_done t) (law.becomes _ (UdpConnect family a) (AskPeer family (told_done t)) items (IsConnected family a (told_done t)) (x.1 t fits)))
  fronts es given (AskPeer family outcome) items b = peer_leads items es family outcome b.0
  fronts es given (Send kept a bytes) items b = send_leads items es kept a bytes b.0
  fronts es given (Receive wanted) items b = let x = law.asks es (Receive wanted) items (call.Recv who.side) (Receives wanted) b.0 in (x.0, λ t fits. receive_leads items _ wanted (told_datagram t) (x.1 t fits))
  fronts es given (CheckPeer wanted bytes a) items b = check_peer_leads items es wanted bytes a b.0
  fronts es given (Lookup host) items b = let x = law.asks es (Lookup host) items (call.Lookup host) (Looks host) b.0 in (x.0, λ t fits. lookup_keeps items _ host (told_names t) (x.1 t fits))
  fronts es given (Last c kept) items b = law.ends es (Last c kept) items c kept b.0

  pub polls_by : (items : List Item) (es : List Entry) → K es items → Allows P Q es (poll_asks (record { who = who; left = items }))
  polls_by items es k = allows_polls P who Before Q fronts (λ fs left b. law.waits fs left b.0) (λ fs given b. law.done fs given b.1 b.0) 64 items es (k, tt)
