use Rattle.wasi_commands.proofs.ProgramCompletes.{program_completes}
use Rattle.wasi_commands.proofs.program.run_main.Goals as goal

pub returns-clause-complete : goal.returns-clause-complete
returns-clause-complete g c = program_completes c.run_command.ensures.ran c.run_command.ensures.no_worker
