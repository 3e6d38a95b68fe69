use Rattle.wasi_world.proofs.Walks.{asks_then, asks_exit}
use Rattle.tcp_records.proofs.socket.Streams.give_up.Goals as goal

pub returns-in_err-shutdown : goal.returns-in_err-shutdown
returns-in_err-shutdown g c = record { asked = asks_exit _ _ c.from_residual.ensures.1 c.in_err-shutdown.ensures.asked.err }

pub returns : goal.returns
returns g c = record { asked = asks_then _ c.in_ok-shutdown.ensures.asked.ok c.give_up.ensures.asked }
