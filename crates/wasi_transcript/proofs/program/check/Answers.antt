use Rattle.wasi_transcript.proofs.CasesHeld.{as_checked}
use Rattle.wasi_transcript.proofs.program.check.Goals as goal

pub returns-in-Fails : goal.returns-in-Fails
returns-in-Fails g c = (c.in-Fails.field-0, as_checked c.args.text.now c.in-Fails.is c.in-Ok.ensures)
