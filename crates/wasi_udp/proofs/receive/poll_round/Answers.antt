use Rattle.std.proofs.Common.{refl}
use Rattle.wasi_world.proofs.Polls.{ended}
use Rattle.socket_common.proofs.Turns.{round_end}
use Rattle.wasi_udp.proofs.receive.poll_round.Goals as goal

pub returns-in-Refused-clause-round : goal.returns-in-Refused-clause-round
returns-in-Refused-clause-round g c = rw c.in-Refused.is (round_end refl refl (λ n. ended n _ refl))
