-- What a UDP socket asks, but for its create and its close, makes no network socket and closes none.
use Rattle.std.specs.Prelude.{Bool, true, false, ℕ, List}
use Rattle.std.proofs.Common.{refl}
use Rattle.wasi_addr.specs.declared.address.IpSocketAddress.{IpSocketAddress}
use Rattle.wasi_world.specs.declared.call.Opt.{Opt}
use Rattle.wasi_world.specs.declared.ids.OpId.{OpId}
use Rattle.wasi_world.specs.Asks.{bind}
use Rattle.wasi_world.specs.Operation.{Item, Operation, poll_asks}
use Rattle.socket_common.specs.Options.{zero_test, refused_before}
use Rattle.wasi_udp.specs.Bind.{bind_asks, IsBind, IsLeftOfBind, Unchecked, Checked, Ended}
use Rattle.wasi_udp.specs.Options.{get_option_asks, set_option_asks}
use Rattle.wasi_udp.specs.Shape.{Socket}
use Rattle.wasi_udp.specs.Socket.{ask_bound, bound_asks, local_where, local_asks}
use Rattle.udp_records.specs.declared.udp.OpenUdp.{OpenUdp}
use Rattle.udp_records.specs.Udp.{udp_local_asks}
use Rattle.record_common.proofs.OptionSides.{calm_if, calm_get_side, calm_set_side}
use Rattle.record_common.proofs.SideCounts.{Calm, Any, calm_then, AllCalm, calm_poll}

-- whether it is bound
calm_ask_bound : (op : OpId) (s : Socket) (b : Bool) → Calm Any (ask_bound op s b)
unfolding bind
calm_ask_bound op s true = tt
calm_ask_bound op s false = ((λ t. refl, refl), λ t. tt)

pub calm_bound : (op : OpId) (s : Socket) → Calm Any (bound_asks op s)
calm_bound op s = calm_ask_bound op s s.bound

-- its local address
calm_where : (op : OpId) (s : Socket) (b : Bool) → Calm Any (local_where op s b)
unfolding bind
calm_where op s true = ((λ t. refl, refl), λ t. tt)
calm_where op s false = tt

pub calm_udp_local : (op : OpId) (o : OpenUdp) → Calm Any (udp_local_asks op o)
calm_udp_local op o = calm_then Any Any (local_asks op o.inner) _ (calm_then Any Any (bound_asks op o.inner) _ (calm_bound op o.inner) (λ b k. calm_where op b.1 b.0)) (λ d k. tt)

-- a bind
pub calm_udp_begins : (op : OpId) (s : Socket) (a : IpSocketAddress) → Calm Any (bind_asks op s a)
calm_udp_begins op s a = calm_then Any Any (bound_asks op s) _ (calm_bound op s) (λ b k. tt)

all_calm : (items : List Item) → IsLeftOfBind items → AllCalm items
all_calm _ (Unchecked a) = (tt, (tt, tt))
all_calm _ (Checked a) = (tt, tt)
all_calm _ Ended = tt

pub calm_udp_bind : (op : Operation) → IsBind op → Calm Any (poll_asks op)
calm_udp_bind op h = calm_poll op (record { items = all_calm op.left h.left; last = h.last })

-- its options
pub calm_udp_get : (op : OpId) (s : Socket) (option : Opt) → Calm Any (get_option_asks op s option)
calm_udp_get op s option = calm_get_side op s.side option

pub calm_udp_set : (op : OpId) (s : Socket) (option : Opt) (value : ℕ) → Calm Any (set_option_asks op s option value)
calm_udp_set op s option value = calm_if (refused_before (zero_test option) value) _ _ tt (calm_set_side op s.side option value)
