use Rattle.std.proofs.Common.{◌≡◌, ◌==◌, false, arith, refl}
use Rattle.wasi_addr.specs.Code.{p3_of_code}
use Rattle.wasi_world.proofs.Walks.{asks_end, asks_then}
use Rattle.host_store.specs.Views.{state_of}
use Rattle.wasi_p3.proofs.HostCalls.{stopped, value_told}
use Rattle.wasi_p3.proofs.listening.ListenStreamProducer.poll_produce.Goals as goal

pub returns-in_err-answer-clause-asked : goal.returns-in_err-answer-clause-asked
returns-in_err-answer-clause-asked g c = rw (c.in_ok-place.ensures, c.if-remaining-eq0.true)
    (stopped p3_of_code (state_of c.args.view.now) _ c.look_accept.result _ c.from_residual-in_err-answer.result c.from_residual-in_err-answer.ensures.1 c.in_err-answer.ensures c.look_accept.ensures.asked)

pub returns-then-remaining-eq0-clause-asked : goal.returns-then-remaining-eq0-clause-asked
returns-then-remaining-eq0-clause-asked g c = rw (c.in_ok-place.ensures, c.if-remaining-eq0.true, c.looked.ensures)
    (asks_end _ (rw (value_told p3_of_code c.look_accept.result c.in_ok-answer.answer c.in_ok-answer.ensures) at c.look_accept.ensures.asked).ok refl)

pub returns-in_err-accepted-clause-asked : goal.returns-in_err-accepted-clause-asked
returns-in_err-accepted-clause-asked g c =
    let some : (c.args.remaining == 0) ≡ false = grind (arith, c.if-remaining-eq0.false) in
    rw (c.in_ok-place.ensures, some)
    (stopped p3_of_code (state_of c.args.view.now) _ c.accept_tcp.result _ c.from_residual-in_err-accepted.result c.from_residual-in_err-accepted.ensures.1 c.in_err-accepted.ensures c.accept_tcp.ensures.asked)

pub returns-clause-asked : goal.returns-clause-asked
returns-clause-asked g c =
    let some : (c.args.remaining == 0) ≡ false = grind (arith, c.if-remaining-eq0.false) in
    rw (c.in_ok-place.ensures, some)
    (asks_then _ (rw (value_told p3_of_code c.accept_tcp.result c.in_ok-accepted.accepted c.in_ok-accepted.ensures) at c.accept_tcp.ensures.asked).ok
    (rw c.accept_tcp.ensures.ids.line at c.hand_over.ensures.asked))
