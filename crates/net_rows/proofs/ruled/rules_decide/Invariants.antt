use Rattle.std.specs.Prelude.{None}
use Rattle.net_rows.proofs.ruled.rules_decide.Given as goal

abbrev pub ghosts-runs_under : goal.ghosts-runs_under
ghosts-runs_under a = record { rules = a.policy; plan = None }
