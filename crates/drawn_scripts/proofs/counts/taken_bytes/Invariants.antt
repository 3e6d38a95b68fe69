use Rattle.wasi_run.proofs.Words.{min, take, ◌≡◌}
use Rattle.drawn_scripts.specs.Counted.{taken_bytes}
use Rattle.drawn_scripts.proofs.counts.taken_bytes.Given as goal

-- the bytes so far
abbrev pub invariant-loop-entry : goal.invariant-loop-entry
invariant-loop-entry l = l.taken ≡ min (taken_bytes (take l.entry-index l.log)) 18446744073709551615
