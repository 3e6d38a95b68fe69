use Rattle.wasi_records.proofs.HeldMaps.{held_records}
use Rattle.wasi_records.proofs.closing.close_sides.Goals as goal

pub returns-clause-counted : goal.returns-clause-counted
returns-clause-counted g c = rw (← c.records.view_is, ← held_records _ _ _ c.close_live.ensures.ordered c.records.invariant.0) c.close_live.ensures.closed

pub returns-clause-named : goal.returns-clause-named
returns-clause-named g c = rw (← c.records.view_is, ← held_records _ _ _ c.close_live.ensures.ordered c.records.invariant.0) c.close_live.ensures.named
