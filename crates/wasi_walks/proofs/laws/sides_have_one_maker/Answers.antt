use Rattle.wasi_walks.proofs.licence.Meanings.{one_maker}
use Rattle.wasi_walks.proofs.laws.sides_have_one_maker.Goals as goal

pub returns : goal.returns
returns c = λ contexts steps log replies side ctx other family its h. one_maker contexts steps log h ctx other family its side
