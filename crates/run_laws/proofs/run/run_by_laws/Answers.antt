use Rattle.run_laws.proofs.Laws.{by_laws}
use Rattle.run_laws.proofs.run.run_by_laws.Goals as goal

pub returns-clause-composed : goal.returns-clause-composed
returns-clause-composed g c = by_laws c.run_script.ensures.licensed
