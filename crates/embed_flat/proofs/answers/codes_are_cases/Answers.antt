use Rattle.embed_flat.proofs.Replies.{code_told}
use Rattle.embed_flat.proofs.answers.codes_are_cases.Goals as goal

pub returns : goal.returns
returns c = code_told
