use Rattle.std.proofs.Common.{Ok, refl}
use Rattle.wasi_world.specs.Asks.{Give}
use Rattle.wasi_world.proofs.Walks.{asks_end, reaches_on}
use Rattle.host_tcp.proofs.ConnectionEnds.{memory_exit, started_in}
use Rattle.host_tcp.proofs.end_polls.end_by.Goals as goal

pub returns-in_err-close_end-clause-asked : goal.returns-in_err-close_end-clause-asked
returns-in_err-close_end-clause-asked g c =
    memory_exit _ c.from_residual.result c.from_residual.ensures.1 (started_in (λ done. Give (Ok done.0, done.1)) c.in_err-close_end.ensures.asked.err)

pub returns-clause-asked : goal.returns-clause-asked
returns-clause-asked g c = asks_end _ (reaches_on _ c.in_ok-close_end.ensures.asked.ok) refl
