use Rattle.std.proofs.Common.{refl}
use Rattle.wasi_world.proofs.Walks.{reaches_in, asks_then, asks_end}
use Rattle.wasi_streams.proofs.Streams.{stream_exit, stream_on, on_memory, memory_on}
use Rattle.wasi_tcp.proofs.Writers.{look_left_over}
use Rattle.wasi_tcp.proofs.writer.WriteState.write_on.Goals as goal

pub returns-in_err-turn-clause-asked : goal.returns-in_err-turn-clause-asked
returns-in_err-turn-clause-asked g c = stream_exit _ c.from_residual.result c.from_residual.ensures.1 c.in_err-turn.ensures.asked.err

pub returns-in_err-turn-clause-err : goal.returns-in_err-turn-clause-err
returns-in_err-turn-clause-err g c = on_memory c.from_residual.result (reaches_in _ c.in_err-turn.ensures.err)

pub returns-in_err-poll_ready-clause-asked : goal.returns-in_err-poll_ready-clause-asked
returns-in_err-poll_ready-clause-asked g c =
    asks_then _ c.in_ok-turn.ensures.asked.ok (stream_on _ _ c.from_residual-in_err-poll_ready.result c.from_residual-in_err-poll_ready.ensures.1 c.in_err-poll_ready.ensures.asked (λ stop. refl))

pub returns-in_err-poll_ready-clause-err : goal.returns-in_err-poll_ready-clause-err
returns-in_err-poll_ready-clause-err g c =
    memory_on _ _ c.from_residual-in_err-poll_ready.result c.from_residual-in_err-poll_ready.ensures.1 c.in_err-poll_ready.ensures.err c.in_err-poll_ready.ensures.ready
    (λ unasked ready. look_left_over _ _ _ _ c.in_ok-turn.ensures.asked.ok c.in_err-poll_ready.ensures.state ready unasked)

pub returns-clause-asked : goal.returns-clause-asked
returns-clause-asked g c = asks_then _ c.in_ok-turn.ensures.asked.ok (asks_end _ c.in_ok-poll_ready.ensures.asked.ok refl)
