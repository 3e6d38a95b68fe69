use Rattle.std.specs.Prelude.{None}
use Rattle.live_commands.proofs.recorded.run_recorded_under.Given as goal

abbrev pub ghosts-record_under : goal.ghosts-record_under
ghosts-record_under g a = record { rules = a.policy; plan = None }
