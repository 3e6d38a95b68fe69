use Rattle.std.proofs.Common.{◌≡◌, length}
use Rattle.wasi_pump.specs.Copying.{InStep, counted}
use Rattle.wasi_pump.proofs.copying.copy_all.Given as goal

-- so many bytes were read and accepted
abbrev pub invariant-loop : goal.invariant-loop
invariant-loop g l = (goal.iterator-loop g).can_next l.iterator' × (goal.iterator-loop g).is_finite l.iterator'
    × InStep l.reader l.writer × (l.moved ≡ counted (length l.reader.given)) × (l.reader.began ≡ l.fn.reader.began) × (l.writer.began ≡ l.fn.writer.began)
