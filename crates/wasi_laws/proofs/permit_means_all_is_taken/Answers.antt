use Rattle.wasi_laws.proofs.permits.Runs.{runs_take_all}
use Rattle.wasi_laws.proofs.permit_means_all_is_taken.Goals as goal

pub returns : goal.returns
returns c = runs_take_all
