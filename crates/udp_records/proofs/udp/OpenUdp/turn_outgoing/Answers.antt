use Rattle.std.proofs.Common.{Some}
use Rattle.wasi_world.proofs.Walks.{asks_at, asks_gives}
use Rattle.udp_records.specs.Datagrams.{turn_outgoing}
use Rattle.udp_records.proofs.udp.OpenUdp.turn_outgoing.Goals as goal

pub returns-in-Some-clause-asked : goal.returns-in-Some-clause-asked
returns-in-Some-clause-asked g c = asks_at (turn_outgoing c.args.self.now) c.in-Some.is (asks_gives (λ now. record c.args.self.now { outgoing = Some now }) c.turn.ensures.asked)
