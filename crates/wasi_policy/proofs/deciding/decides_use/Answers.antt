use Rattle.std.proofs.Common.{◌≡◌, false, rules}
use Rattle.wasi_policy.specs.Decision.{is_about}
use Rattle.wasi_policy.proofs.DecidingLaws.{never_about}
use Rattle.wasi_policy.proofs.deciding.decides_use.Goals as goal

pub returns-then-not-is_about-clause-complete : goal.returns-then-not-is_about-clause-complete
returns-then-not-is_about-clause-complete c = λ no.
    let none : is_about c.args.rule.now.usage c.args.usage ≡ false = search rules in
    never_about c.args.policy.now c.args.line c.args.rule.now c.args.usage c.requires.begins c.requires.rule none
