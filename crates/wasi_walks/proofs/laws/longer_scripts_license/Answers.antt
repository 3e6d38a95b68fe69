use Rattle.wasi_walks.proofs.licence.Longer.{longer_script}
use Rattle.wasi_walks.proofs.laws.longer_scripts_license.Goals as goal

pub returns : goal.returns
returns c = longer_script
