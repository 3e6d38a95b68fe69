use Rattle.std.proofs.Common.{refl}
use Rattle.wasi_world.proofs.Walks.{refused_exit, refused_end}
use Rattle.socket_common.proofs.options.get_of_side.Goals as goal

pub returns-in_err-told-clause-asked : goal.returns-in_err-told-clause-asked
returns-in_err-told-clause-asked g c = refused_exit _ c.from_residual.result c.from_residual.ensures.1 c.in_err-told.ensures.asked.err

pub returns-clause-asked : goal.returns-clause-asked
returns-clause-asked g c = refused_end _ c.answer.result c.in_ok-told.ensures.asked.ok c.answer.ensures.answer refl
