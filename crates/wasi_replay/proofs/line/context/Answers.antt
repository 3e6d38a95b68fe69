use Rattle.wasi_replay.proofs.ContextLines.{no_context}
use Rattle.wasi_replay.proofs.line.context.Goals as goal

pub returns-in_default : goal.returns-in_default
returns-in_default c = no_context c.args.number c.args.line.now c.of-fields.result c.word.new.self c.in_ok-word.field-0.now c.of-fields.ensures c.in_ok-word.ensures.read (assumption c)
