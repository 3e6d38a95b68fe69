use Rattle.wasi_walks.proofs.licence.Longer.{fewer_replies}
use Rattle.wasi_walks.proofs.laws.fewer_replies_are_licensed.Goals as goal

pub returns : goal.returns
returns c = fewer_replies
