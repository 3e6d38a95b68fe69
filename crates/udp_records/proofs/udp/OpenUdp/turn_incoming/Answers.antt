use Rattle.std.specs.Prelude.{Some}
use Rattle.wasi_world.proofs.Walks.{asks_at, asks_gives}
use Rattle.udp_records.specs.declared.datagrams.Incoming.{Incoming}
use Rattle.udp_records.specs.declared.udp.OpenUdp.{OpenUdp}
use Rattle.udp_records.specs.Receiving.{turn_incoming}
use Rattle.udp_records.proofs.udp.OpenUdp.turn_incoming.Goals as goal

pub returns-in-Some-clause-asked : goal.returns-in-Some-clause-asked
returns-in-Some-clause-asked g c =
    let o : OpenUdp = c.args.self.now in
    asks_at (turn_incoming c.args.self.now) c.in-Some.is (asks_gives (λ (now : Incoming). record o { incoming = Some now }) c.turn.ensures.asked)
