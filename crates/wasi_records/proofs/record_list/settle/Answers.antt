use Rattle.std.proofs.Common.{ℕ, ◌+◌, ap, sym}
use Rattle.wasi_records.specs.RecordMap.{record_in}
use Rattle.wasi_records.specs.Totals.{total_of}
use Rattle.wasi_records.specs.Used.{used_in}
use Rattle.wasi_records.proofs.record_list.settle.Goals as goal

pub returns-then-before-next : goal.returns-then-before-next
returns-then-before-next c = λ exact. (exact, λ context. ap (λ (q : ℕ). total_of c.args.totals.now context + used_in context (record_in c.args.slots.now c.args.keys.now q)) (sym c.if-before-next.true))
