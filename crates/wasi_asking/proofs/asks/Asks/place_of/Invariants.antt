use Rattle.wasi_asking.specs.Asks.{AsksThis, NoneIs}
use Rattle.wasi_asking.proofs.asks.Asks.place_of.Given as goal

abbrev pub invariant-loop-place : goal.invariant-loop-place
invariant-loop-place l = NoneIs (AsksThis l.question) l.place l.self.asked.items
