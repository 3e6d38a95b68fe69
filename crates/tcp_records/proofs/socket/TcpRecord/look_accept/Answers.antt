use Rattle.std.proofs.Common.{refl}
use Rattle.wasi_world.proofs.Walks.{asks_at, asks_end, refused_exit}
use Rattle.tcp_records.specs.Listening.{look_listening}
use Rattle.tcp_records.proofs.AcceptSides.{looked_balances}
use Rattle.tcp_records.proofs.socket.TcpRecord.look_accept.Goals as goal

pub returns-in_err-answer-in-Accepts-clause-asked : goal.returns-in_err-answer-in-Accepts-clause-asked
returns-in_err-answer-in-Accepts-clause-asked g c =
    asks_at (look_listening c.args.ids.now c.args.self.now) c.in-Accepts.is
    (refused_exit _ c.from_residual.result c.from_residual.ensures.1 c.in_err-answer-in-Accepts.ensures.asked.err)

pub returns-in_err-answer-in-Accepts-clause-sides : goal.returns-in_err-answer-in-Accepts-clause-sides
returns-in_err-answer-in-Accepts-clause-sides g c =
    looked_balances c.args.self.now c.in-Accepts.listener c.poll_ready.new.self c.args.ids.now _ c.in-Accepts.is c.in_err-answer-in-Accepts.ensures.before c.in_err-answer-in-Accepts.ensures.after c.in_err-answer-in-Accepts.ensures.asked c.in_err-answer-in-Accepts.ensures.err

pub returns-in_ok-answer-in-Accepts-clause-asked : goal.returns-in_ok-answer-in-Accepts-clause-asked
returns-in_ok-answer-in-Accepts-clause-asked g c =
    asks_at (look_listening c.args.ids.now c.args.self.now) c.in-Accepts.is (asks_end _ c.in_ok-answer-in-Accepts.ensures.asked.ok refl)

pub returns-in_ok-answer-in-Accepts-clause-sides : goal.returns-in_ok-answer-in-Accepts-clause-sides
returns-in_ok-answer-in-Accepts-clause-sides g c =
    looked_balances c.args.self.now c.in-Accepts.listener c.poll_ready.new.self c.args.ids.now _ c.in-Accepts.is c.in_ok-answer-in-Accepts.ensures.before c.in_ok-answer-in-Accepts.ensures.after c.in_ok-answer-in-Accepts.ensures.asked c.in_ok-answer-in-Accepts.ensures.err
