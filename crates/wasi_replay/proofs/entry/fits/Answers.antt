use Rattle.wasi_replay.proofs.Fitting.{entry_decides}
use Rattle.wasi_replay.proofs.entry.fits.Goals as goal

pub returns-clause-exact : goal.returns-clause-exact
returns-clause-exact c = rw c.is_fitting.ensures (entry_decides c.args.entry.now)
