use Rattle.std.proofs.Common.{refl}
use Rattle.wasi_world.proofs.Walks.{asks_exit, asks_end}
use Rattle.wasi_tcp.proofs.writer.WriteState.shutdown.Goals as goal

pub returns-in_err-shut_down-in-Ready-clause-asked : goal.returns-in_err-shut_down-in-Ready-clause-asked
returns-in_err-shut_down-in-Ready-clause-asked g c = rw c.in-Ready.is (asks_exit _ _ c.from_residual.ensures.1 c.in_err-shut_down-in-Ready.ensures.asked.err)

pub returns-in_ok-shut_down-in-Ready-clause-asked : goal.returns-in_ok-shut_down-in-Ready-clause-asked
returns-in_ok-shut_down-in-Ready-clause-asked g c = rw c.in-Ready.is (asks_end _ c.in_ok-shut_down-in-Ready.ensures.asked.ok refl)

pub returns-in_err-finish-in-Writing-clause-asked : goal.returns-in_err-finish-in-Writing-clause-asked
returns-in_err-finish-in-Writing-clause-asked g c = rw c.in-Writing.is (asks_exit _ _ c.from_residual-in_err-finish-in-Writing.ensures.1 c.in_err-finish-in-Writing.ensures.asked.err)

pub returns-in_ok-finish-in-Writing-clause-asked : goal.returns-in_ok-finish-in-Writing-clause-asked
returns-in_ok-finish-in-Writing-clause-asked g c = rw (c.in-Writing.is, c.begin_closing.ensures) (asks_end _ c.in_ok-finish-in-Writing.ensures.asked.ok refl)
