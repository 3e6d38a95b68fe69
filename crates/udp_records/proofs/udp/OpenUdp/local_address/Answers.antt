use Rattle.wasi_world.proofs.Walks.{asks_gives}
use Rattle.udp_records.specs.Udp.{udp_inner_answered}
use Rattle.udp_records.proofs.udp.OpenUdp.local_address.Goals as goal

pub returns-clause-asked : goal.returns-clause-asked
returns-clause-asked g c = asks_gives (udp_inner_answered c.args.self.now) c.local_address.ensures.asked
