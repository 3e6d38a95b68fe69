use Rattle.wasi_embed.proofs.Steps.{licensed_if}
use Rattle.wasi_embed.proofs.opened.Open.entries.Goals as goal

pub returns : goal.returns
returns c = licensed_if c.args.self.now.kept c.entries.result (λ log. log.now) c.entries.ensures.kind c.entries.ensures.log c.args.self.now.did
