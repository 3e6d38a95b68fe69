use Rattle.wasi_world.proofs.Walks.{asks_typed, asks_none}
use Rattle.wasi_world.proofs.Answers.{read_within}
use Rattle.wasi_world.proofs.asks.read.Goals as goal

pub returns-in_err-told-clause-asked : goal.returns-in_err-told-clause-asked
returns-in_err-told-clause-asked g c = asks_none _ _ c.from_residual.ensures.1 c.in_err-told.ensures.err

pub returns-clause-asked : goal.returns-clause-asked
returns-clause-asked g c = asks_typed _ c.in_ok-told.ensures.asked.ok c.told_bytes.ensures

pub returns-clause-within : goal.returns-clause-within
returns-clause-within g c = rw c.told_bytes.ensures (read_within c.args.size c.in_ok-told.told c.in_ok-told.ensures.fits)
