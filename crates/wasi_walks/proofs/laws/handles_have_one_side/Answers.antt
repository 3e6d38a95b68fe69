use Rattle.wasi_walks.proofs.licence.Meanings.{one_side}
use Rattle.wasi_walks.proofs.laws.handles_have_one_side.Goals as goal

pub returns : goal.returns
returns c = λ contexts steps log replies handle side other h. one_side contexts steps log h handle side other
