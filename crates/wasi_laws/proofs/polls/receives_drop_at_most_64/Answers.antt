use Rattle.wasi_laws.proofs.bounds.Receives.{received_most, checked_most, dropped_most}
use Rattle.wasi_laws.proofs.bounds.Reached.{drops_reached}
use Rattle.wasi_laws.proofs.polls.receives_drop_at_most_64.Goals as goal

pub returns : goal.returns
returns c = record { received = received_most; checked = checked_most; dropped = dropped_most; reached = drops_reached }
