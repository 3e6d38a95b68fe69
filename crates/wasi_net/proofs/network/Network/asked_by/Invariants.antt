use Rattle.std.specs.Prelude.{take, Some}
use Rattle.std.proofs.Common.{◌≡◌}
use Rattle.wasi_net.specs.Awaited.{asked_by}
use Rattle.wasi_net.specs.Known.{known_sides}
use Rattle.wasi_net.proofs.network.Network.asked_by.Given as goal

-- what is asked so far
abbrev pub invariant-loop-look : goal.invariant-loop-look
invariant-loop-look g l = asked_by (known_sides l.self.sides) (take l.look-index l.looks) ≡ Some l.asked.items
