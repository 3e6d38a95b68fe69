use Rattle.wasi_laws.proofs.bounds.Accepts.{all_arrived, all_refused}
use Rattle.wasi_laws.proofs.bounds.Reached.{refusals_reached}
use Rattle.wasi_laws.proofs.polls.accepts_refuse_at_most_64.Goals as goal

pub returns : goal.returns
returns c = record { arrived = all_arrived; refused = all_refused; reached = refusals_reached }
