use Rattle.world_scripted.specs.Scripted.{seen_by}
use Rattle.policy_commands.proofs.run.run_plan.Given as goal

abbrev pub ghosts-run_under : goal.ghosts-run_under
ghosts-run_under g a = record { rules = a.policy; plan = (seen_by a.world).plan }
