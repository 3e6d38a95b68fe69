use Rattle.wasi_causes.proofs.tcp.listening_and_family_are_never_refused.Goals as goal
use Rattle.wasi_causes.proofs.tables.Steps.{quiet_never, quiet_stays}

pub returns : goal.returns
returns c = record { never = quiet_never; quiet = quiet_stays }
