use Rattle.std.proofs.Common.{◌<◌, subst}
use Rattle.wasi_jobs.proofs.Reading.{some_left}
use Rattle.wasi_jobs.proofs.ahead.Ahead.reach.Goals as goal

pub returns-then-self-len-clause-read : goal.returns-then-self-len-clause-read
returns-then-self-len-clause-read c =
    let more = subst (λ n. c.args.self.now.given < n) c.len.ensures.value c.if-self-len.true in
    some_left _ _ _ c.args.self.now.entries.items c.args.self.now.given c.requires c.if-self-number.true more
