use Rattle.std.proofs.Common.{ap}
use Rattle.wasi_tcp.specs.Socket.{side_of}
use Rattle.tcp_records.proofs.SideCounts.{balances_calm, holds-same}
use Rattle.tcp_records.proofs.Looks.{calm_ready_reader, calm_ready_writer}
use Rattle.wasi_host.proofs.pollables.poll_ready.Goals as goal

pub returns-in-Input-clause-sides : goal.returns-in-Input-clause-sides
returns-in-Input-clause-sides g c = balances_calm (calm_ready_reader (c.own.result) c.args.record.now c.args.record.now.streams) _ c.input_ready.ensures.asked (holds-same c.args.record.now c.input_ready.new.self (ap side_of c.input_ready.ensures.inner) c.input_ready.ensures.listening)

pub returns-in-Output-clause-sides : goal.returns-in-Output-clause-sides
returns-in-Output-clause-sides g c = balances_calm (calm_ready_writer (c.own-in-Output.result) c.args.record.now c.args.record.now.streams) _ c.output_ready.ensures.asked (holds-same c.args.record.now c.output_ready.new.self (ap side_of c.output_ready.ensures.inner) c.output_ready.ensures.listening)
