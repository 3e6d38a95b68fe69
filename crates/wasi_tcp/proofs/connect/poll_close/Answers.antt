use Rattle.std.proofs.Common.{refl}
use Rattle.wasi_world.proofs.Polls.{ended_by_close, polls_none, polls_refused}
use Rattle.wasi_tcp.proofs.connect.poll_close.Goals as goal

pub returns-in_err-close : goal.returns-in_err-close
returns-in_err-close g c = record { polled = polls_none _ c.from_residual.ensures.1 c.in_err-close.ensures.err }

pub returns : goal.returns
returns g c = record { polled = rw c.requires.stage (polls_refused refl (ended_by_close 63 _ _ refl c.in_ok-close.ensures.asked.ok)) }
