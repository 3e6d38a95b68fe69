-- What the example says of its own guest.
use Rattle.std.specs.Prelude.{◌≡◌, List, ◌∷◌, ◌++◌}
use Rattle.wasi_addr.specs.declared.address.IpSocketAddress.{IpSocketAddress}
use Rattle.wasi_addr.specs.declared.address.SocketAddrUse.TheVariants.{TcpConnect}
use Rattle.wasi_world.specs.declared.ids.OpId.{OpId}
use Rattle.wasi_world.specs.declared.call.Entry.{Entry}
use Rattle.wasi_world.specs.declared.call.Call.TheVariants.{Connect}
use Rattle.wasi_world.specs.declared.call.Told.{Told}
use Rattle.wasi_walks.specs.Licence.{HasYes}

-- before each connect the check said yes to its address, within the same operation
abbrev pub ConnectsChecked : List Entry → Type 0
ConnectsChecked log = (before after : List Entry) (op sock : OpId) (addr : IpSocketAddress) (told : Told) → log ≡ before ++ (record { op = op; call = Connect sock addr; answer = told }) ∷ after → HasYes before before op sock addr TcpConnect
