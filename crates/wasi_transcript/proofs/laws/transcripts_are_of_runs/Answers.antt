use Rattle.wasi_transcript.proofs.RunsShown.{ran_on, ran_to_trap}
use Rattle.wasi_transcript.proofs.laws.transcripts_are_of_runs.Goals as goal

pub returns : goal.returns
returns c = record { on = ran_on; to_a_trap = ran_to_trap }
