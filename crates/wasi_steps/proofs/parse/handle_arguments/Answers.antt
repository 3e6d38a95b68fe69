use Rattle.std.proofs.Common.{◌++◌, rules}
use Rattle.world_text.specs.Fields.{read_then}
use Rattle.wasi_steps.specs.Steps.{rows_of, value_calls, handle_calls}
use Rattle.wasi_steps.proofs.StepWords.{none_reads}
use Rattle.wasi_steps.proofs.parse.handle_arguments.Goals as goal

pub returns-in_err-handle : goal.returns-in_err-handle
unfolding read_then
returns-in_err-handle c =
    rw c.from_residual.ensures
    (none_reads (rows_of (value_calls ++ handle_calls)) c.args.word.now c.args.fields.now (rw c.in_err-handle.ensures.read (search rules)))
