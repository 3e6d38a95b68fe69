-- What a UDP socket asks for its connects, its disconnects and its datagrams makes no network socket and closes none.
use Rattle.std.specs.Prelude.{ℕ, Bool, true, false, ◌&&◌, not, if◌then◌else◌, List, [], ◌∷◌, Option, Some, None, Result, Ok, Err}
use Rattle.std.proofs.Common.{◌≡◌, refl}
use Rattle.wasi_addr.specs.declared.address.IpSocketAddress.{IpSocketAddress}
use Rattle.wasi_addr.specs.declared.address.SocketAddressFamily.{SocketAddressFamily}
use Rattle.wasi_addr.specs.declared.address.SocketAddrUse.{SocketAddrUse}
use Rattle.wasi_addr.specs.declared.address.SocketAddrUse.TheVariants.{UdpBind, UdpSend, UdpReceive}
use Rattle.wasi_addr.specs.Address.{wildcard}
use Rattle.wasi_addr.specs.declared.code.ErrorCode.{ErrorCode}
use Rattle.wasi_addr.specs.declared.code.ErrorCode.TheVariants.{InvalidState}
use Rattle.wasi_world.specs.declared.asks.Polled.{Polled}
use Rattle.wasi_world.specs.declared.asks.Polled.TheVariants as polled
use Rattle.wasi_world.specs.declared.ids.OpId.{OpId}
use Rattle.wasi_world.specs.Asks.{Asks, Give, bind}
use Rattle.wasi_world.specs.Typed.{ask_send}
use Rattle.wasi_world.specs.Operation.{Given, Nothing, Item, Check, Send, UdpConnect, Who, Operation, NothingLast, Front, Goes, Stays, Again, Ends, check_front, polled_front, peer_front, ask_peer_front, is_now, front, after, round, polls, poll_asks, End}
use Rattle.socket_common.specs.Rounds.{is_going}
use Rattle.wasi_udp.specs.Connect.{connect_asks, connect_poll_asks, is_connectable, IsConnect, IsLeftOfConnect, Unbound, Unchecked, SendChecked, Checked, Connected, Ended}
use Rattle.wasi_udp.specs.Send as sent
use Rattle.wasi_udp.specs.Send.{send_asks, at_remote, IsSend, IsLeftOfSend}
use Rattle.wasi_udp.specs.Shape.{Socket}
use Rattle.wasi_udp.specs.Socket.{bound_asks, disconnect_in, disconnect_asks}
use Rattle.record_common.proofs.OptionSides.{calm_if}
use Rattle.record_common.proofs.SideCounts.{Calm, Any, calm_then, IsCalmFront, calm_verdict}
use Rattle.udp_records.proofs.UdpCalms.{calm_bound}

-- == a poll, each ask of which is calm and isn't made again in a new round
abbrev pub CalmFronts : Who → List Item → Type 0
CalmFronts who [] = Unit {0}
CalmFronts who (i ∷ items) = Calm IsCalmFront (front who i) × CalmFronts who items

-- what follows a front ask that is calm
calm_after : (again : List Item → Asks (End × List Item)) (who : Who) (items : List Item) (next : Given → Asks (End × List Item)) → who.last ≡ NothingLast → ((g : Given) → Calm Any (next g)) → (fr : Front) → IsCalmFront fr → Calm Any (after again who items next fr)
calm_after again who items next l f (Goes given) k = f given
calm_after again who items next l f (Stays j) k = tt
calm_after again who items next l f (Again j) k = absurd k
calm_after again who items next l f (Ends c given) k = rw l tt

calm_items : (again : List Item → Asks (End × List Item)) (who : Who) (g : Given) (items : List Item) → who.last ≡ NothingLast → CalmFronts who items → Calm Any (round again who g items)
calm_items again who g [] l h = tt
calm_items again who g (i ∷ items) l h = calm_then IsCalmFront Any (front who i) _ h.0 (calm_after again who items _ l (λ given. calm_items again who given items l h.1))

pub calm_fronts : (op : Operation) → op.who.last ≡ NothingLast → CalmFronts op.who op.left → Calm Any (poll_asks op)
unfolding polls
calm_fronts op l h = calm_items (polls 63 op.who) op.who Nothing op.left l h

-- a check
calm_check : (who : Who) (a : IpSocketAddress) (usage : SocketAddrUse) → Calm IsCalmFront (check_front who a usage)
unfolding bind
calm_check who a usage = ((λ t. refl, refl), λ t. calm_verdict (Check a usage) _)

-- == a connect
calm_told : (told : Result (Unit {0}) ErrorCode) (remote : Option IpSocketAddress) → IsCalmFront (peer_front told remote)
calm_told (Ok d) remote = tt
calm_told (Err c) remote = tt

calm_peer : (who : Who) (family : SocketAddressFamily) (told : Result (Unit {0}) ErrorCode) → Calm IsCalmFront (ask_peer_front who family told)
unfolding bind
calm_peer who family told = ((λ t. refl, refl), λ t. calm_told told _)

-- the ask to connect, and then the remote address
calm_asked : (who : Who) (family : SocketAddressFamily) (a : IpSocketAddress) → CalmFronts who (UdpConnect family a ∷ [])
unfolding bind
calm_asked who family a = (((λ t. refl, refl), λ t. calm_peer who family _), tt)

calm_connects : (who : Who) (items : List Item) → IsLeftOfConnect items → CalmFronts who items
calm_connects who _ (Unbound family a) = (calm_check who (wildcard family) UdpBind, (calm_check who a UdpSend, (calm_check who a UdpReceive, calm_asked who family a)))
calm_connects who _ (Unchecked family a) = (calm_check who a UdpSend, (calm_check who a UdpReceive, calm_asked who family a))
calm_connects who _ (SendChecked family a) = (calm_check who a UdpReceive, calm_asked who family a)
calm_connects who _ (Checked family a) = calm_asked who family a
calm_connects who _ (Connected family told) = (calm_peer who family told, tt)
calm_connects who _ Ended = tt

pub calm_udp_connect : (op : Operation) (s : Socket) → IsConnect op → Calm Any (connect_poll_asks op s)
calm_udp_connect op s its = calm_if (is_going op) _ _ (calm_then Any Any (poll_asks op) _ (calm_fronts op its.last (calm_connects op.who op.left its.left)) (λ e k. tt)) tt

-- its start
pub calm_connect_begins : (op : OpId) (s : Socket) (a : IpSocketAddress) → Calm Any (connect_asks op s a)
calm_connect_begins op s a = calm_if (is_connectable s a) _ _ (calm_then Any Any (bound_asks op s) _ (calm_bound op s) (λ b k. tt)) tt

-- a disconnect
calm_disconnect_in : (op : OpId) (s : Socket) (remote : Option IpSocketAddress) → Calm Any (disconnect_in op s remote)
unfolding bind
calm_disconnect_in op s None = tt
calm_disconnect_in op s (Some a) = ((λ t. refl, refl), λ t. ((λ u. refl, refl), λ u. tt))

pub calm_disconnect : (op : OpId) (s : Socket) → Calm Any (disconnect_asks op s)
calm_disconnect op s = calm_disconnect_in op s s.remote

-- == a datagram that is sent
calm_polled : (i : Item) (p : Polled (Unit {0})) → IsCalmFront (polled_front i p)
calm_polled i (polled.Ready d) = tt
calm_polled i (polled.Code c) = tt
calm_polled i polled.Pending = tt

calm_send_front : (who : Who) (kept : Bool) (a : IpSocketAddress) (bytes : List ℕ) → Calm IsCalmFront (front who (Send kept a bytes))
unfolding bind
calm_send_front who kept a bytes = by (kept && not (is_now who.remote a))
  where
    by : (b : Bool) → Calm IsCalmFront (if b then Give (Ends InvalidState Nothing) else bind (ask_send who.id who.side a bytes) (λ told. Give (polled_front (Send kept a bytes) told)))
    by true = tt
    by false = ((λ t. refl, refl), λ t. calm_polled _ _)

calm_sends : (who : Who) (items : List Item) → IsLeftOfSend items → CalmFronts who items
calm_sends who _ (sent.ToRefuse c) = (tt, tt)
calm_sends who _ (sent.Unbound family kept a bytes) = (calm_check who (wildcard family) UdpBind, (calm_check who a UdpSend, (calm_send_front who kept a bytes, tt)))
calm_sends who _ (sent.Unchecked kept a bytes) = (calm_check who a UdpSend, (calm_send_front who kept a bytes, tt))
calm_sends who _ (sent.Checked kept a bytes) = (calm_send_front who kept a bytes, tt)
calm_sends who _ sent.Ended = tt

-- while the socket has this remote address, or none
pub calm_send : (remote : Option IpSocketAddress) (op : Operation) → IsSend op → Calm Any (poll_asks (at_remote remote op))
calm_send remote op its = calm_fronts (at_remote remote op) its.last (calm_sends (at_remote remote op).who op.left its.left)

-- its start
pub calm_send_begins : (op : OpId) (s : Socket) (bytes : List ℕ) (to : Option IpSocketAddress) → Calm Any (send_asks op s bytes to)
calm_send_begins op s bytes to = calm_then Any Any (bound_asks op s) _ (calm_bound op s) (λ b k. tt)
