use Rattle.std.proofs.Common.{refl}
use Rattle.host_store.specs.Store.{Records}
use Rattle.host_store.proofs.GivenBack.{held_still}
use Rattle.host_store.proofs.KnownSides.{knows_same}
use Rattle.host_store.specs.declared.store.Store.TheView.{view}
use Rattle.host_store.proofs.store.Store.give_back.Goals as goal

pub returns-clause-state : goal.returns-clause-state
returns-clause-state c = rw (← c.self.view_is, c.give_back.ensures, c.forget.ensures) refl

pub returns-clause-sides : goal.returns-clause-sides
returns-clause-sides c = λ s none k.
    let before : Records = view c.self.inside in
    rw c.give_back.ensures (knows_same before _ (held_still c.self.inside.records.items c.args.place (rw (← c.self.view_is) at none)) (rw (← c.self.view_is) at k))
