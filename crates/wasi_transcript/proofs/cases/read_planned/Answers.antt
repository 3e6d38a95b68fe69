use Rattle.wasi_transcript.proofs.CasesRead.{planning_on, planning_over}
use Rattle.wasi_transcript.proofs.cases.read_planned.Goals as goal

pub planned-preserved : goal.planned-preserved
planned-preserved c = planning_on c.planned.invariant c.in-Some.ensures c.in_ok-push_line.ensures

pub returns : goal.returns
returns c = planning_over c.planned.invariant c.in_default.ensures
