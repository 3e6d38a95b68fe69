use Rattle.wasi_world.proofs.Walks.{asks_gives}
use Rattle.host_store.specs.Jobs.{after_turn}
use Rattle.host_store.specs.Store.{Records}
use Rattle.host_store.proofs.KnownSides.{knows_none}
use Rattle.host_store.specs.declared.store.Store.TheView.{view}
use Rattle.wasi_host.proofs.jobs.turn_store.Goals as goal

pub returns-clause-asked : goal.returns-clause-asked
returns-clause-asked g c =
    let store : Records = view c.store.inside in
    rw (← c.store.view_is) (asks_gives (λ done. (tt, after_turn store done)) c.turn_jobs.ensures.asked)

pub returns-clause-sides : goal.returns-clause-sides
returns-clause-sides g c = λ k. knows_none _ _ c.turn_jobs.ensures.none c.turn_jobs.ensures.held (rw (← c.store.view_is) at k)
