use Rattle.std.proofs.Common.{refl, sym}
use Rattle.wasi_table.proofs.Leads.{is_live, is_dead}
use Rattle.wasi_table.proofs.table.Table.get_mut.Goals as goal

pub value_mut-requires : goal.value_mut-requires
value_mut-requires g c = rw (← c.self.view_is) (is_live _ _ _ _ _ c.self.invariant (sym c.in-Some.ensures))

pub returns-in-None : goal.returns-in-None
returns-in-None g c = (refl, record { lends = tt; found = tt; missing = rw (← c.self.view_is) (refl, is_dead _ _ _ _ c.self.invariant (sym c.in-None.ensures)) })
