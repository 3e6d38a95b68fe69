use Rattle.wasi_walks.proofs.licence.Longer.{prefix_is_licensed}
use Rattle.wasi_walks.proofs.laws.beginnings_are_licensed.Goals as goal

pub returns : goal.returns
returns c = prefix_is_licensed
