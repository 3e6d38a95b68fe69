use Rattle.std.specs.Prelude.{None}
use Rattle.live_commands.proofs.ruled.run_ruled.Given as goal

abbrev pub ghosts-run_under : goal.ghosts-run_under
ghosts-run_under g a = record { rules = a.policy; plan = None }
