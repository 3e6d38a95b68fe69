use Rattle.std.proofs.Common.{refl}
use Rattle.wasi_world.proofs.Walks.{asks_at, asks_end, refused_exit}
use Rattle.tcp_records.specs.Listening.{accept_listening}
use Rattle.tcp_records.proofs.AcceptSides.{accepted_balances, accepted_is, stood_balances}
use Rattle.tcp_records.proofs.socket.TcpRecord.poll_accept.Goals as goal

pub returns-in_err-answer-in-Accepts-clause-asked : goal.returns-in_err-answer-in-Accepts-clause-asked
returns-in_err-answer-in-Accepts-clause-asked g c =
    asks_at (accept_listening c.args.ids.now c.args.self.now) c.in-Accepts.is
    (refused_exit _ c.from_residual.result c.from_residual.ensures.1 c.in_err-answer-in-Accepts.ensures.asked.err)

pub returns-in_err-answer-in-Accepts-clause-sides : goal.returns-in_err-answer-in-Accepts-clause-sides
returns-in_err-answer-in-Accepts-clause-sides g c =
    stood_balances _ c.args.self.now c.in-Accepts.listener c.poll_accept.new.self c.args.ids.now c.from_residual.result c.from_residual.ensures.1 c.in-Accepts.is c.in_err-answer-in-Accepts.ensures.before c.in_err-answer-in-Accepts.ensures.after c.in_err-answer-in-Accepts.ensures.err

pub returns-in_ok-answer-in-Accepts-clause-asked : goal.returns-in_ok-answer-in-Accepts-clause-asked
returns-in_ok-answer-in-Accepts-clause-asked g c =
    asks_at (accept_listening c.args.ids.now c.args.self.now) c.in-Accepts.is (asks_end _ c.in_ok-answer-in-Accepts.ensures.asked.ok refl)

pub returns-in_ok-answer-in-Accepts-clause-sides : goal.returns-in_ok-answer-in-Accepts-clause-sides
returns-in_ok-answer-in-Accepts-clause-sides g c =
    accepted_balances c.args.self.now c.in-Accepts.listener c.poll_accept.new.self c.args.ids.now c.in_ok-answer-in-Accepts.answer c.in-Accepts.is c.in_ok-answer-in-Accepts.ensures.before c.in_ok-answer-in-Accepts.ensures.asked.ok

pub returns-in_ok-answer-in-Accepts-clause-accepted : goal.returns-in_ok-answer-in-Accepts-clause-accepted
returns-in_ok-answer-in-Accepts-clause-accepted g c =
    accepted_is c.in-Accepts.listener c.poll_accept.new.self c.args.ids.now c.in_ok-answer-in-Accepts.answer c.in_ok-answer-in-Accepts.ensures.before c.in_ok-answer-in-Accepts.ensures.asked.ok
