use Rattle.wasi_causes.proofs.tables.Steps.{busy_exactly, busy_is_quiet}
use Rattle.wasi_causes.proofs.causes.busy_while_a_call_stands.Goals as goal

pub returns : goal.returns
returns c = record { exactly = busy_exactly; stays = busy_is_quiet }
