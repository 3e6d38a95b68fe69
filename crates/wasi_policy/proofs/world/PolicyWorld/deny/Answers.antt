use Rattle.std.proofs.Common.{length, refl, ap, ◌∙◌}
use Rattle.wasi_world.proofs.Walks.{asks_none}
use Rattle.wasi_world.specs.declared.call.Told.TheVariants.{No}
use Rattle.wasi_policy.specs.Policed.{seen_under}
use Rattle.wasi_policy.proofs.Handing.{asked_denied, under_denied}
use Rattle.wasi_policy.proofs.world.PolicyWorld.deny.Goals as goal

pub invariant_of-self-2-clause-under : goal.invariant_of-self-2-clause-under
invariant_of-self-2-clause-under g c =
    let was = c.args.self.now in
    rw (c.push_reserved.ensures.items, c.reserve.ensures.items) (under_denied g.R.Rules.rules was.denied.items (record { place = c.len-place.result; entry = record { op = c.args.op; call = c.args.call; answer = No } }) (length was.handed.items) (g.W.World.seen was.inner) was.under (c.len-place.ensures ∙ was.handed.ok.0) c.requires.denied refl)

pub returns-in_err-reserve-clause-asked : goal.returns-in_err-reserve-clause-asked
returns-in_err-reserve-clause-asked g c = asks_none _ _ c.from_residual.ensures.1 (ap (λ ds. seen_under ds (g.W.World.seen c.args.self.now.inner)) c.reserve.ensures.items)

pub returns-clause-asked : goal.returns-clause-asked
returns-clause-asked g c =
    let was = c.args.self.now in
    rw (c.push_reserved.ensures.items, c.reserve.ensures.items) (asked_denied g.R.Rules.rules was.denied.items (record { place = c.len-place.result; entry = record { op = c.args.op; call = c.args.call; answer = No } }) (length was.handed.items) (g.W.World.seen was.inner) was.under (c.len-place.ensures ∙ was.handed.ok.0) c.requires.denied refl)
