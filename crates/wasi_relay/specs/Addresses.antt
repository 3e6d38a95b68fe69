-- Where a relay goes.
use Rattle.std.specs.Prelude.{◌≡◌, List, ◌∷◌, ◌++◌}
use Rattle.wasi_addr.specs.declared.address.IpSocketAddress.{IpSocketAddress}
use Rattle.wasi_world.specs.declared.ids.OpId.{OpId}
use Rattle.wasi_world.specs.declared.call.Call.TheVariants.{Bind, Connect}
use Rattle.wasi_world.specs.declared.call.Told.{Told}
use Rattle.wasi_world.specs.declared.call.Entry.{Entry}
use Rattle.wasi_walks.specs.Allowed.{entry}
use Rattle.wasi_relay.specs.declared.order.Order.{Order}

-- Each bind in the log is to the listen address, and each connect to the target.
pub record KeepsTo (order : Order) (log : List Entry) : Type 0 where
  pub binds : (before after : List Entry) (op sock : OpId) (addr : IpSocketAddress) (told : Told) → log ≡ before ++ entry op (Bind sock addr) told ∷ after → addr ≡ order.listen
  pub connects : (before after : List Entry) (op sock : OpId) (addr : IpSocketAddress) (told : Told) → log ≡ before ++ entry op (Connect sock addr) told ∷ after → addr ≡ order.target
