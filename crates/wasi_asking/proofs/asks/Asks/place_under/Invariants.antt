use Rattle.wasi_asking.specs.Asks.{WaitsAs, NoneIs}
use Rattle.wasi_asking.proofs.asks.Asks.place_under.Given as goal

abbrev pub invariant-loop-place : goal.invariant-loop-place
invariant-loop-place l = NoneIs (WaitsAs l.number) l.place l.self.asked.items
