use Rattle.wasi_world.proofs.Walks.{asks_at}
use Rattle.tcp_records.specs.Looks.{ready_listening}
use Rattle.tcp_records.proofs.AcceptSides.{accept_over, looked_balances}
use Rattle.tcp_records.proofs.socket.TcpRecord.accept_ready.Goals as goal

pub returns-in-Accepts-clause-asked : goal.returns-in-Accepts-clause-asked
returns-in-Accepts-clause-asked g c =
    asks_at (ready_listening c.args.ids.now c.args.self.now) c.in-Accepts.is
    (rw c.is_read.ensures (accept_over c.args.self.now c.in-Accepts.listener c.poll_ready.new.self c.args.ids.now c.poll_ready.result c.poll_ready.ensures.asked))

pub returns-in-Accepts-clause-sides : goal.returns-in-Accepts-clause-sides
returns-in-Accepts-clause-sides g c =
    looked_balances c.args.self.now c.in-Accepts.listener c.poll_ready.new.self c.args.ids.now c.poll_ready.result c.in-Accepts.is c.poll_ready.ensures.before c.poll_ready.ensures.after c.poll_ready.ensures.asked c.poll_ready.ensures.err
