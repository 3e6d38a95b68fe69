use Rattle.wasi_world.proofs.Walks.{asks_at, asks_gives}
use Rattle.udp_records.specs.Receiving.{look_incoming, with_incoming}
use Rattle.udp_records.proofs.udp.OpenUdp.look_incoming.Goals as goal

pub returns-in-Some-clause-asked : goal.returns-in-Some-clause-asked
returns-in-Some-clause-asked g c = asks_at (look_incoming c.args.ids.now c.args.self.now) c.in-Some.is (asks_gives (with_incoming c.args.self.now) c.fetch.ensures.asked)
