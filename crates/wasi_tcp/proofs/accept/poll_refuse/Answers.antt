use Rattle.std.proofs.Common.{refl}
use Rattle.wasi_world.proofs.Walks.{reaches_on}
use Rattle.wasi_world.proofs.Polls.{again}
use Rattle.socket_common.proofs.Turns.{round_none, round_end}
use Rattle.wasi_tcp.proofs.accept.poll_refuse.Goals as goal

pub returns-in_err-refuse-clause-round : goal.returns-in_err-refuse-clause-round
returns-in_err-refuse-clause-round g c = rw c.requires.stage (round_none _ c.from_residual.ensures.1 c.in_err-refuse.ensures.err refl)

pub returns-clause-round : goal.returns-clause-round
returns-clause-round g c = rw c.requires.stage (round_end refl refl (λ n. again n _ _ _ (reaches_on _ c.in_ok-refuse.ensures.asked.ok)))
