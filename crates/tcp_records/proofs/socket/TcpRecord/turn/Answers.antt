use Rattle.wasi_world.proofs.Walks.{asks_at, asks_gives}
use Rattle.tcp_records.specs.Halves.{with_writer, turned}
use Rattle.record_common.proofs.SideCounts.{none_calm, none_first}
use Rattle.tcp_records.proofs.StreamCounts.{calm_turn}
use Rattle.tcp_records.proofs.socket.TcpRecord.turn.Goals as goal

pub returns-in-Some-clause-asked : goal.returns-in-Some-clause-asked
returns-in-Some-clause-asked g c = asks_at (turned c.args.self.now) c.in-Some.is (asks_gives (λ done. with_writer c.args.self.now c.in-Some.streams done.1) c.turn.ensures.asked)

pub returns-in-Some-clause-none : goal.returns-in-Some-clause-none
returns-in-Some-clause-none g c = none_calm (calm_turn c.in-Some.streams.writer c.turn.ensures.write) c.turn.result c.turn.ensures.asked

pub returns-in-None-clause-none : goal.returns-in-None-clause-none
returns-in-None-clause-none g c = none_first _
