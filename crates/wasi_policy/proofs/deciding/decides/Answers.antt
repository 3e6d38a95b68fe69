use Rattle.std.proofs.Common.{◌≡◌, Bool, true, false, refl}
use Rattle.std.proofs.lemmas.List.Elements.{All-contains}
use Rattle.wasi_policy.specs.declared.deciding.TheConstants.{USES}
use Rattle.wasi_policy.specs.Findings.{Decides}
use Rattle.wasi_policy.specs.Deciding.{NeverOf}
use Rattle.wasi_policy.proofs.DecidingLaws.{each_use, never_decides}
use Rattle.wasi_policy.proofs.deciding.decides.Goals as goal

pub returns-clause-complete : goal.returns-clause-complete
returns-clause-complete c = λ found. by_result found c.decides_any.result refl where
  by_result : Decides c.args.policy.now c.args.line → (found : Bool) → c.decides_any.result ≡ found → c.decides_any.result ≡ true
  by_result found true is = is
  by_result found false is = absurd (never_decides c.args.policy.now c.args.line (λ asked. All-contains (λ u. NeverOf c.args.policy.now c.args.line u) USES asked (c.decides_any.ensures.complete is) (each_use asked)) found)
