use Rattle.wasi_asking.specs.Asks.{WaitsAfter, NoneIs}
use Rattle.wasi_asking.proofs.asks.Asks.first_after.Given as goal

abbrev pub invariant-loop-place : goal.invariant-loop-place
invariant-loop-place l = NoneIs (WaitsAfter l.number) l.place l.self.asked.items
