-- What is known of the network sockets, after a change of one.
use Rattle.std.proofs.Common.{◌≡◌, Bool, true, false, cond, Option, Some, refl}
use Rattle.std.specs.Prelude.{unwrap_or}
use Rattle.wasi_world.specs.declared.sides.Side.{Side}
use Rattle.wasi_world.specs.Sides.{unmade}

pub known_put : (same : Bool) (side : Side) (was : Option Side) → unwrap_or (cond same (Some side) was) unmade ≡ cond same side (unwrap_or was unmade)
known_put true side was = refl
known_put false side was = refl
