-- What a scripted world knows of its network sockets.
use Rattle.std.specs.Prelude.{ℕ, ◌==◌, Bool, ◌&&◌, unwrap_or}
use Rattle.std.specs.HashMap.{HashMap, get}
use Rattle.wasi_world.specs.declared.ids.OpId.{OpId}
use Rattle.wasi_world.specs.declared.sides.Side.{Side}
use Rattle.wasi_world.specs.Sides.{unmade}

-- two names have the same step and part
abbrev pub is_same_name : ℕ × ℕ → ℕ × ℕ → Bool
is_same_name a b = (a.0 == b.0) && (a.1 == b.1)

-- what a map of network sockets knows of each
abbrev pub known : {S : Type 0} → HashMap (ℕ × ℕ) Side S → OpId → Side
known sides sock = unwrap_or (get is_same_name sides (sock.step, sock.part)) unmade
