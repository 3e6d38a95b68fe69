use Rattle.wasi_table.proofs.Leads.{are_of_live, has_each, has_once}
use Rattle.wasi_table.proofs.table.Table.slots.Goals as goal

pub returns-clause-live : goal.returns-clause-live
returns-clause-live g c = rw (← c.self.view_is) (are_of_live _ _ _ c.self.invariant)

pub returns-clause-each : goal.returns-clause-each
returns-clause-each g c = rw (← c.self.view_is) (has_each _ _ _ c.self.invariant)

pub returns-clause-once : goal.returns-clause-once
returns-clause-once g c = has_once _ _ _ c.self.invariant
