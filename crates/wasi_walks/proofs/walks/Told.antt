-- An operation that is pending doesn't wait for its local address: that is reported at once, and what was asked of it comes next.
use Rattle.std.proofs.Common.{ℕ, zero, suc, Bool, true, false, List, [], ◌∷◌, Option, not, ◌&&◌, if◌then◌else◌}
use Rattle.std.specs.Prelude.{⊤, Result, Ok, Err}
use Rattle.wasi_addr.specs.declared.address.IpAddress.{IpAddress}
use Rattle.wasi_addr.specs.declared.address.IpSocketAddress.{IpSocketAddress}
use Rattle.wasi_addr.specs.declared.address.SocketAddressFamily.{SocketAddressFamily}
use Rattle.wasi_addr.specs.declared.address.SocketAddrUse.{SocketAddrUse}
use Rattle.wasi_addr.specs.declared.address.SocketAddrUse.TheVariants as usages
use Rattle.wasi_addr.specs.declared.address.ShutdownType.TheVariants as half
use Rattle.wasi_addr.specs.declared.code.ErrorCode.{ErrorCode}
use Rattle.wasi_addr.specs.declared.code.ErrorCode.TheVariants.{InvalidState}
use Rattle.wasi_world.specs.declared.asks.Verdict.{Verdict}
use Rattle.wasi_world.specs.declared.asks.Verdict.TheVariants as verdict
use Rattle.wasi_world.specs.declared.asks.Polled.{Polled}
use Rattle.wasi_world.specs.declared.asks.Polled.TheVariants as polled
use Rattle.wasi_world.specs.Asks.{Asks, Give}
unfoldable use Rattle.wasi_world.specs.Asks.{bind}
unfoldable use Rattle.wasi_world.specs.Operation.{polls}
use Rattle.wasi_world.specs.Operation.{Given as What, Item, Check, CheckLocal, Bind, Connect, Listen, Accept, CheckArrival, Hand, Refuse, Write, ShutdownSend, UdpWritable, UdpBind, UdpConnect, AskPeer, Send, Receive, CheckPeer, Lookup, Last, Nothing, Datagram, LastAsk, NothingLast, CloseLast, ShutdownLast, Who, End, Waits, Refused, Front, Goes, Stays, Again, Ends, verdict_front, done_front, polled_front, check_front, local_front, hand_front, refuse_front, admitted_front, arrival_front, accept_front, taken_front, write_front, remote_told, peer_front, ask_peer_front, is_now, is_wanted, received_front, check_peer_front, receive_front, lookup_front, front, last_ask, after, round}
use Rattle.wasi_world.specs.Typed.{ask_check, ask_lookup, ask_udp_writable, ask_local, ask_peer, ask_bind, ask_udp_bind, ask_udp_connect, ask_listen, ask_connect, ask_accept, ask_hand, ask_refuse, ask_write, ask_shutdown, ask_send, ask_recv, ask_close}
use Rattle.wasi_walks.specs.Waiting.{StartsTold}
use Rattle.wasi_walks.proofs.walks.Law.{Given, given_then, given_on, given_along}

-- what is kept of an operation that waits
abbrev pub IsTold : End × List Item → Type 0
IsTold (Waits, items) = StartsTold items
IsTold _ = ⊤

-- what is kept of its front ask
abbrev KeepsTold : Front → Type 0
KeepsTold (Stays item) = (items : List Item) → StartsTold (item ∷ items)
KeepsTold (Again item) = (items : List Item) → StartsTold (item ∷ items)
KeepsTold _ = ⊤

by_verdict : (a : IpSocketAddress) (usage : SocketAddrUse) (v : Verdict) → KeepsTold (verdict_front (Check a usage) v)
by_verdict a usage verdict.Yes = tt
by_verdict a usage verdict.No = tt
by_verdict a usage verdict.Pending = λ items. tt

by_done : (r : Result (Unit {0}) ErrorCode) → KeepsTold (done_front r)
by_done (Ok done) = tt
by_done (Err c) = tt

by_polled : (item : Item) (p : Polled (Unit {0})) → ((items : List Item) → StartsTold (item ∷ items)) → KeepsTold (polled_front item p)
by_polled item (polled.Ready done) k = tt
by_polled item (polled.Code c) k = tt
by_polled item polled.Pending k = k

checks : (who : Who) (a : IpSocketAddress) (usage : SocketAddrUse) → Given KeepsTold (check_front who a usage)
checks who a usage = given_then KeepsTold (verdict_front (Check a usage)) (by_verdict a usage) (ask_check who.id who.context a usage)

locals : (who : Who) (usage : SocketAddrUse) (r : Result IpSocketAddress ErrorCode) → Given KeepsTold (local_front who usage r)
locals who usage (Ok a) = checks who a usage
locals who usage (Err c) = tt

refuses : (who : Who) (peer : IpSocketAddress) → Given KeepsTold (refuse_front who peer)
refuses who peer = given_then KeepsTold (λ done. Again Accept) (λ done items. tt) (ask_refuse who.id who.side peer)

hands : (who : Who) (peer : IpSocketAddress) → Given KeepsTold (hand_front who peer)
hands who peer = given_on KeepsTold _ (λ done. tt) (ask_hand who.id who.side peer)

admits : (who : Who) (peer : IpSocketAddress) (v : Verdict) → Given KeepsTold (admitted_front who peer v)
admits who peer verdict.Yes = hands who peer
admits who peer verdict.No = refuses who peer
admits who peer verdict.Pending = λ items. tt

arrivals : (who : Who) (peer : IpSocketAddress) → Given KeepsTold (arrival_front who peer)
arrivals who peer = given_on KeepsTold (admitted_front who peer) (admits who peer) (ask_check who.id who.context peer usages.TcpAccept)

accepts : (who : Who) (p : Polled IpSocketAddress) → Given KeepsTold (accept_front who p)
accepts who polled.Pending = λ items. tt
accepts who (polled.Ready peer) = arrivals who peer
accepts who (polled.Code c) = tt

takes : (next : ℕ → Asks Front) (bytes : List ℕ) (p : Polled ℕ) → ((n : ℕ) → Given KeepsTold (next n)) → Given KeepsTold (taken_front next (Write bytes) p)
takes next bytes (polled.Ready n) k = k _
takes next bytes polled.Pending k = λ items. tt
takes next bytes (polled.Code c) k = tt

writes : (who : Who) (bytes : List ℕ) (skip : ℕ) → Given KeepsTold (write_front who bytes skip)
writes who [] skip = tt
writes who (b ∷ bytes) (suc skip) = writes who bytes skip
writes who (b ∷ bytes) zero = given_on KeepsTold (taken_front (λ skip. write_front who bytes skip) (Write (b ∷ bytes))) (λ p. takes (λ skip. write_front who bytes skip) (b ∷ bytes) p (writes who bytes)) (ask_write who.id who.side (b ∷ bytes))

by_peer : (r : Result (Unit {0}) ErrorCode) (remote : Option IpSocketAddress) → KeepsTold (peer_front r remote)
by_peer (Ok done) remote = tt
by_peer (Err c) remote = tt

peers : (who : Who) (family : SocketAddressFamily) (r : Result (Unit {0}) ErrorCode) → Given KeepsTold (ask_peer_front who family r)
peers who family r = given_then KeepsTold (λ told. peer_front r (remote_told family told)) (λ told. by_peer r (remote_told family told)) (ask_peer who.id who.side)

sends : (who : Who) (kept : Bool) (a : IpSocketAddress) (bytes : List ℕ) (late : Bool) → Given KeepsTold (if late then Give (Ends InvalidState Nothing) else bind (ask_send who.id who.side a bytes) (λ told. Give (polled_front (Send kept a bytes) told)))
sends who kept a bytes true = tt
sends who kept a bytes false = given_then KeepsTold (polled_front (Send kept a bytes)) (λ p. by_polled (Send kept a bytes) p (λ items. tt)) (ask_send who.id who.side a bytes)

if_wanted : (wanted : Option IpSocketAddress) (bytes : List ℕ) (a : IpSocketAddress) (b : Bool) → KeepsTold (if b then Goes (Datagram bytes a) else Again (Receive wanted))
if_wanted wanted bytes a true = tt
if_wanted wanted bytes a false = λ items. tt

by_received : (wanted : Option IpSocketAddress) (bytes : List ℕ) (a : IpSocketAddress) (v : Verdict) → KeepsTold (received_front wanted bytes a v)
by_received wanted bytes a verdict.Yes = if_wanted wanted bytes a (is_wanted wanted a)
by_received wanted bytes a verdict.No = λ items. tt
by_received wanted bytes a verdict.Pending = λ items. tt

check_peers : (who : Who) (wanted : Option IpSocketAddress) (bytes : List ℕ) (a : IpSocketAddress) → Given KeepsTold (check_peer_front who wanted bytes a)
check_peers who wanted bytes a = given_then KeepsTold (received_front wanted bytes a) (by_received wanted bytes a) (ask_check who.id who.context a usages.UdpReceive)

receives : (who : Who) (wanted : Option IpSocketAddress) (p : Polled (List ℕ × IpSocketAddress)) → Given KeepsTold (receive_front who wanted p)
receives who wanted polled.Pending = λ items. tt
receives who wanted (polled.Ready d) = check_peers who wanted d.0 d.1
receives who wanted (polled.Code c) = tt

by_lookup : (host : List ℕ) (p : Polled (List IpAddress)) → KeepsTold (lookup_front host p)
by_lookup host polled.Pending = λ items. tt
by_lookup host (polled.Ready names) = tt
by_lookup host (polled.Code c) = tt

fronts : (who : Who) (item : Item) → Given KeepsTold (front who item)
fronts who (Check a usage) = checks who a usage
fronts who (CheckLocal usage) = given_on KeepsTold (local_front who usage) (locals who usage) (ask_local who.id who.side)
fronts who (Bind a) = given_then KeepsTold done_front by_done (ask_bind who.id who.side a)
fronts who (Connect a) = given_then KeepsTold (polled_front (Connect a)) (λ p. by_polled (Connect a) p (λ items. tt)) (ask_connect who.id who.side a)
fronts who (Listen backlog) = given_then KeepsTold done_front by_done (ask_listen who.id who.side backlog)
fronts who Accept = given_on KeepsTold (accept_front who) (accepts who) (ask_accept who.id who.side)
fronts who (CheckArrival peer) = arrivals who peer
fronts who (Hand peer) = hands who peer
fronts who (Refuse peer) = refuses who peer
fronts who (Write bytes) = writes who bytes zero
fronts who ShutdownSend = given_then KeepsTold (λ done. Goes Nothing) (λ done. tt) (ask_shutdown who.id who.side half.Send)
fronts who UdpWritable = given_then KeepsTold (polled_front UdpWritable) (λ p. by_polled UdpWritable p (λ items. tt)) (ask_udp_writable who.id who.side)
fronts who (UdpBind a) = given_then KeepsTold done_front by_done (ask_udp_bind who.id who.side a)
fronts who (UdpConnect family a) = given_on KeepsTold (ask_peer_front who family) (peers who family) (ask_udp_connect who.id who.side a)
fronts who (AskPeer family outcome) = peers who family outcome
fronts who (Send kept a bytes) = sends who kept a bytes (kept && not (is_now who.remote a))
fronts who (Receive wanted) = given_on KeepsTold (receive_front who wanted) (receives who wanted) (ask_recv who.id who.side)
fronts who (CheckPeer wanted bytes a) = check_peers who wanted bytes a
fronts who (Lookup host) = given_then KeepsTold (lookup_front host) (by_lookup host) (ask_lookup who.id host)
fronts who (Last c given) = tt

lasts : (who : Who) (last : LastAsk) (c : ErrorCode) (given : What) → Given IsTold (last_ask who last c given)
lasts who NothingLast c given = tt
lasts who CloseLast c given = given_then IsTold (λ done. (Refused c given, [])) (λ done. tt) (ask_close who.id who.side)
lasts who ShutdownLast c given = given_then IsTold (λ done. (Refused c given, [])) (λ done. tt) (ask_shutdown who.id who.side half.Send)

module _ (who : Who) (again : List Item → Asks (End × List Item)) (told : (items : List Item) → StartsTold items → Given IsTold (again items)) where
  follows : (items : List Item) → ((given : What) → Given IsTold (round again who given items)) → (f : Front) → KeepsTold f → Given IsTold (after again who items (λ g. round again who g items) f)
  follows items next (Goes g) k = next g
  follows items next (Stays now) k = k items
  follows items next (Again now) k = told (now ∷ items) (k items)
  follows items next (Ends c g) k = lasts who who.last c g

  rounds : (items : List Item) (given : What) → Given IsTold (round again who given items)
  rounds [] given = tt
  rounds (item ∷ items) given = given_along KeepsTold IsTold (front who item) (after again who items (λ g. round again who g items)) (fronts who item) (follows items (rounds items))

told_again : (n : ℕ) (who : Who) (items : List Item) → StartsTold items → Given IsTold (polls n who items)
unfolding polls
told_again zero who items k = k
told_again (suc n) who items k = rounds who (polls n who) (told_again n who) items Nothing

pub told_first : (n : ℕ) (who : Who) (items : List Item) → Given IsTold (polls (suc n) who items)
unfolding polls
told_first n who items = rounds who (polls n who) (told_again n who) items Nothing
