use Rattle.std.proofs.Common.{refl}
use Rattle.wasi_world.proofs.Walks.{reaches_on}
use Rattle.wasi_world.proofs.Polls.{done}
use Rattle.socket_common.proofs.Turns.{round_none, round_end}
use Rattle.wasi_tcp.proofs.accept.poll_hand.Goals as goal

pub returns-in_err-hand-clause-round : goal.returns-in_err-hand-clause-round
returns-in_err-hand-clause-round g c = rw c.requires.stage (round_none _ c.from_residual.ensures.1 c.in_err-hand.ensures.err refl)

pub returns-clause-round : goal.returns-clause-round
returns-clause-round g c = rw c.requires.stage (round_end refl refl (λ n. done n _ _ (reaches_on _ c.in_ok-hand.ensures.asked.ok)))
