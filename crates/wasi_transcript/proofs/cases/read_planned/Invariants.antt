use Rattle.std.proofs.Common.{length}
use Rattle.wasi_transcript.proofs.CasesRead.{Planning}
use Rattle.wasi_transcript.proofs.cases.read_planned.Given as goal

abbrev pub invariant-planned : goal.invariant-planned
invariant-planned l = Planning l.fn.lines l.lines l.scenario.items

abbrev pub decreases-planned : goal.decreases-planned
decreases-planned l = length l.lines
