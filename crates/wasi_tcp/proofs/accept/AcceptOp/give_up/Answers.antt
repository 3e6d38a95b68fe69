use Rattle.std.proofs.Common.{sym, ◌∙◌}
use Rattle.std.specs.Prelude.{Some}
use Rattle.wasi_world.specs.Operation.{NothingLast}
use Rattle.wasi_world.proofs.Walks.{asks_at}
use Rattle.wasi_tcp.specs.Accept.{refuse_in}
use Rattle.socket_common.specs.Asker.{who_of}
use Rattle.wasi_tcp.proofs.accept.AcceptOp.give_up.Goals as goal

pub returns-in-Some-clause-asked : goal.returns-in-Some-clause-asked
returns-in-Some-clause-asked g c =
    rw (← c.self.view_is) (asks_at (refuse_in (who_of c.self.inside.asker NothingLast)) {e = Some c.in-Some.peer} (rw (← c.self.view_is) at (sym c.in_hand.ensures ∙ c.in-Some.is)) c.refuse.ensures.asked)
