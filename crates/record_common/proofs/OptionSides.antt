-- The options of a network socket make and close none.
use Rattle.std.proofs.Common.{ℕ, Bool, true, false, if◌then◌else◌, refl}
use Rattle.wasi_world.specs.declared.call.Opt.{Opt}
use Rattle.wasi_world.specs.declared.ids.OpId.{OpId}
use Rattle.wasi_world.specs.Asks.{Asks, bind}
use Rattle.socket_common.specs.Options.{zero_test, refused_after, get_of_side_asks, set_of_side_asks}
use Rattle.record_common.proofs.SideCounts.{Calm, Any}

pub calm_if : {A : Type 0} (b : Bool) (one other : Asks A) → Calm Any one → Calm Any other → Calm Any (if b then one else other)
calm_if true one other h k = h
calm_if false one other h k = k

pub calm_get_side : (op side : OpId) (option : Opt) → Calm Any (get_of_side_asks op side option)
unfolding bind
calm_get_side op side option = ((λ t. refl, refl), λ t. tt)

pub calm_set_side : (op side : OpId) (option : Opt) (value : ℕ) → Calm Any (set_of_side_asks op side option value)
calm_set_side op side option value = calm_if (refused_after (zero_test option) value) _ _ tt ((λ t. refl, refl), λ t. tt)
