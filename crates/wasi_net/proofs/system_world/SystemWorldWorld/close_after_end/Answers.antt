use Rattle.wasi_net.specs.Known.{known_sides}
use Rattle.wasi_net.proofs.Keeping.{closes_keep}
use Rattle.wasi_net.proofs.system_world.SystemWorldWorld.close_after_end.Goals as goal

pub returns-clause-owned : goal.returns-clause-owned
returns-clause-owned g c = closes_keep c.args.sock (known_sides c.args.self.now.network.sides) (known_sides c.close.new.self.sides) _ _ c.close.ensures.closes
