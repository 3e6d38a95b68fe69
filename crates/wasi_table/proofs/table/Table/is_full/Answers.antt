use Rattle.std.proofs.Common.{arith}
use Rattle.std.proofs.lemmas.Grind.{common_steps}
use Rattle.wasi_table.proofs.Leads.{live_length}
use Rattle.wasi_table.proofs.table.Table.is_full.Goals as goal

pub returns-then-len-ge-MOST_LIVE-clause-full : goal.returns-then-len-ge-MOST_LIVE-clause-full
returns-then-len-ge-MOST_LIVE-clause-full g c =
    rw (← c.self.view_is) (let n = live_length _ _ _ _ c.self.invariant.matches in rw (n, ← c.len.ensures) (grind (arith, common_steps)))

pub returns-else-len-ge-MOST_LIVE-clause-full : goal.returns-else-len-ge-MOST_LIVE-clause-full
returns-else-len-ge-MOST_LIVE-clause-full g c =
    rw (← c.self.view_is) (let n = live_length _ _ _ _ c.self.invariant.matches in rw (n, ← c.len.ensures) (grind (arith, common_steps)))
