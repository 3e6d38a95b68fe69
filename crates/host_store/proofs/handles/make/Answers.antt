use Rattle.std.proofs.Common.{refl}
use Rattle.wasi_world.proofs.Walks.{asks_end}
use Rattle.record_common.proofs.Hosts.{fault_exit, fault_on}
use Rattle.host_store.proofs.LiveHandles.{stays_live, comes_live}
use Rattle.record_common.proofs.SideCounts.{Any, calm_made}
use Rattle.host_store.proofs.KnownSides.{knows_calm}
use Rattle.host_store.proofs.handles.make.Goals as goal

pub returns-in_err-made-clause-asked : goal.returns-in_err-made-clause-asked
returns-in_err-made-clause-asked g c = rw (← c.is_full.ensures.full, c.if-is_full.false) (fault_exit _ c.from_residual.result c.from_residual.ensures.1 (rw (c.name.ensures, c.next.ensures) at c.in_err-made.ensures.asked.err))

pub returns-in_err-handle-clause-asked : goal.returns-in_err-handle-clause-asked
returns-in_err-handle-clause-asked g c = rw (← c.is_full.ensures.full, c.if-is_full.false) (fault_on _ c.from_residual-in_err-handle.result c.from_residual-in_err-handle.ensures.1 (rw (c.name.ensures, c.next.ensures) at c.in_ok-made.ensures.asked.ok))

pub returns-in_err-handle-clause-sides : goal.returns-in_err-handle-clause-sides
returns-in_err-handle-clause-sides g c = λ store k. knows_calm Any store store (calm_made c.args.op c.next.result c.name.result c.args.parent c.args.side) c.in_ok-made.ensures.asked.ok refl k

pub returns-clause-asked : goal.returns-clause-asked
returns-clause-asked g c = rw (← c.is_full.ensures.full, c.if-is_full.false) (asks_end _ (rw (c.name.ensures, c.next.ensures) at c.in_ok-made.ensures.asked.ok) (rw (c.in_ok-handle.ensures.ok.0, c.in_ok-handle.ensures.ok.1, c.table_parent.ensures) refl))

pub returns-clause-stay : goal.returns-clause-stay
returns-clause-stay g c = λ h k. stays_live c.args.table.now _ _ _ h c.in_ok-handle.ensures.ok.1 k

pub returns-clause-live : goal.returns-clause-live
returns-clause-live g c = comes_live c.args.table.now _ _ _ _ c.in_ok-handle.ensures.ok.0 c.in_ok-handle.ensures.ok.1

pub returns-clause-sides : goal.returns-clause-sides
returns-clause-sides g c = λ store k. knows_calm Any store store (calm_made c.args.op c.next.result c.name.result c.args.parent c.args.side) c.in_ok-made.ensures.asked.ok refl k
