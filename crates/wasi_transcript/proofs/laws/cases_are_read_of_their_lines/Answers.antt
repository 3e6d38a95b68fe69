use Rattle.wasi_transcript.proofs.CasesSpelled.{case_spelled, only_cases}
use Rattle.wasi_transcript.proofs.laws.cases_are_read_of_their_lines.Goals as goal

pub returns : goal.returns
returns c = record { read = case_spelled; only = only_cases }
