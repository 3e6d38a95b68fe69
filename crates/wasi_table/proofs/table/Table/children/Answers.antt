use Rattle.std.proofs.Common.{refl, sym}
use Rattle.wasi_table.proofs.Leads.{has_slot, children_found, is_live, is_dead}
use Rattle.wasi_table.proofs.table.Table.children.Goals as goal

pub index-requires : goal.index-requires
index-requires g c = has_slot _ _ _ _ _ c.self.invariant (sym c.in-Some.ensures)

pub returns-in-Some-clause-listed : goal.returns-in-Some-clause-listed
returns-in-Some-clause-listed g c = rw (← c.self.view_is) (children_found _ _ _ _ _ _ c.self.invariant (sym c.in-Some.ensures) c.index.ensures)

pub returns-in-Some-clause-live : goal.returns-in-Some-clause-live
returns-in-Some-clause-live g c = rw (← c.self.view_is) (is_live _ _ _ _ _ c.self.invariant (sym c.in-Some.ensures))

pub returns-in-None-clause-missing : goal.returns-in-None-clause-missing
returns-in-None-clause-missing g c = rw (← c.self.view_is) (refl, is_dead _ _ _ _ c.self.invariant (sym c.in-None.ensures))
