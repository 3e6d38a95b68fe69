use Rattle.wasi_world.proofs.Walks.{asks_at, asks_gives}
use Rattle.host_store.specs.Machine.{with_store}
use Rattle.host_store.specs.Views.{state_of}
use Rattle.wasi_host.proofs.WatchedLooks.{looked_at}
use Rattle.wasi_host.proofs.pollables.ready.Goals as goal

pub returns-in-Socket-clause-asked : goal.returns-in-Socket-clause-asked
returns-in-Socket-clause-asked g c =
    rw c.in_ok-watched.ensures
    (asks_at (λ asks. asks) (looked_at (state_of c.args.view.now) c.args.ids.now c.in_ok-watched.watched c.in-Socket.place c.in-Socket.is)
    (asks_gives (with_store (state_of c.args.view.now)) (rw c.in-Socket.watched-is at c.poll_watched.ensures.asked)))

pub returns-in-Incoming-clause-asked : goal.returns-in-Incoming-clause-asked
returns-in-Incoming-clause-asked g c = rw (c.in_ok-watched.ensures, c.in-Incoming.is) (asks_gives (with_store (state_of c.args.view.now)) c.incoming_ready.ensures.asked)

pub returns-in-Incoming-clause-names : goal.returns-in-Incoming-clause-names
returns-in-Incoming-clause-names g c = rw (c.in_ok-watched.ensures, c.in-Incoming.is) c.incoming_ready.ensures.names
