use Rattle.wasi_calls.proofs.CallWords.{asks_answered, asks_end, asks_exit, refl, resumed_reply}
use Rattle.wasi_calls.proofs.calls.call.Goals as goal

pub returns-in_err-turn-in-Turn-clause-asked : goal.returns-in_err-turn-in-Turn-clause-asked
returns-in_err-turn-in-Turn-clause-asked g c = rw c.in-Turn.is (asks_exit _ _ c.from_residual.ensures.1 c.in_err-turn-in-Turn.ensures.asked.err)

pub returns-in_ok-turn-in-Turn-clause-asked : goal.returns-in_ok-turn-in-Turn-clause-asked
returns-in_ok-turn-in-Turn-clause-asked g c = rw c.in-Turn.is (asks_end _ c.in_ok-turn-in-Turn.ensures.asked.ok (rw c.done.ensures refl))

pub returns-in-Poll-clause-asked : goal.returns-in-Poll-clause-asked
returns-in-Poll-clause-asked g c = rw c.in-Poll.is (asks_answered (resumed_reply c.in-Poll.line) _ _ c.resume-resumed.ensures.asked c.resumed_reply.ensures)

pub returns-in_err-cancelled-in-Cancel-clause-asked : goal.returns-in_err-cancelled-in-Cancel-clause-asked
returns-in_err-cancelled-in-Cancel-clause-asked g c = rw c.in-Cancel.is (asks_exit _ _ c.from_residual-in_err-cancelled-in-Cancel.ensures.1 c.in_err-cancelled-in-Cancel.ensures.asked.err)

pub returns-in_ok-cancelled-in-Cancel-clause-asked : goal.returns-in_ok-cancelled-in-Cancel-clause-asked
returns-in_ok-cancelled-in-Cancel-clause-asked g c = rw c.in-Cancel.is (asks_end _ c.in_ok-cancelled-in-Cancel.ensures.asked.ok (rw c.cancelled_reply.ensures refl))
