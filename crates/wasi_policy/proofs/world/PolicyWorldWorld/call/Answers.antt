use Rattle.std.proofs.Common.{length, length-append, refl, ap, ◌∙◌, ◌≡◌, ◌+◌, Ok, sym}
use Rattle.wasi_world.specs.Asks.{one}
use Rattle.wasi_world.proofs.Walks.{asks_none}
use Rattle.wasi_policy.specs.Policed.{seen_under}
use Rattle.wasi_policy.proofs.Handing.{asked_under, under_call}
use Rattle.wasi_policy.proofs.world.PolicyWorldWorld.call.Goals as goal

pub returns-in_err-reserve-clause-asked : goal.returns-in_err-reserve-clause-asked
returns-in_err-reserve-clause-asked g c = asks_none _ _ c.from_residual.ensures.1 refl

pub returns-in_err-told-clause-asked : goal.returns-in_err-told-clause-asked
returns-in_err-told-clause-asked g c = asks_none _ _ c.from_residual-in_err-told.ensures.1 (ap (seen_under c.args.self.now.denied.items) c.in_err-told.ensures.err)

pub invariant_of-self-2-clause-plan : goal.invariant_of-self-2-clause-plan
invariant_of-self-2-clause-plan g c = c.in_ok-told.ensures.asked.ok.passed.plan ∙ c.args.self.now.plan

pub invariant_of-self-2-clause-under : goal.invariant_of-self-2-clause-under
invariant_of-self-2-clause-under g c =
    let was = c.args.self.now in
    let more : length c.push_reserved.new.self.items ≡ length was.handed.items + 1 = ap length c.push_reserved.ensures.items ∙ (length-append c.reserve.new.self.items _ ∙ ap (λ xs. length xs + 1) c.reserve.ensures.items) in
    rw more (under_call g.R.Rules.rules was.denied.items (length was.handed.items) (g.W.World.seen was.inner) (g.W.World.seen c.call.new.self) c.args.op c.args.call c.in_ok-told.told (sym c.denies.ensures ∙ c.if-denies.false) was.under c.in_ok-told.ensures.asked.ok)

pub returns-clause-asked : goal.returns-clause-asked
returns-clause-asked g c =
    let was = c.args.self.now in
    asked_under (one c.args.op c.args.call) g.R.Rules.rules was.denied.items (length was.handed.items) (g.W.World.seen was.inner) (g.W.World.seen c.call.new.self) (λ t. t) (Ok c.in_ok-told.told) was.under c.in_ok-told.ensures.asked

pub returns-in_err-reserve-clause-handed : goal.returns-in_err-reserve-clause-handed
returns-in_err-reserve-clause-handed g c = λ no. asks_none _ _ c.from_residual.ensures.1 refl

pub returns-in_err-told-clause-handed : goal.returns-in_err-told-clause-handed
returns-in_err-told-clause-handed g c = λ no. asks_none _ _ c.from_residual-in_err-told.ensures.1 c.in_err-told.ensures.err

pub returns-clause-handed : goal.returns-clause-handed
returns-clause-handed g c = λ no. c.in_ok-told.ensures.asked
