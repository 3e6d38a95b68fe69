-- How the rules are read.
use Rattle.std.specs.Prelude.{◌≡◌}
use Rattle.world_io.specs.Io.{Reading}
use Rattle.wasi_world.specs.Seen.{Rose}
use Rattle.wasi_program.specs.declared.status.Status.TheVariants as status
use Rattle.policy_commands.specs.declared.rules.FoundRules.{FoundRules}
use Rattle.policy_commands.specs.declared.rules.FoundRules.TheVariants.{Read, Stopped}
use Rattle.policy_commands.specs.declared.status.PolicyStatus.TheVariants.{Of, BadRules, RulesFault}
use Rattle.policy_commands.specs.Ends.{RulesRead, HasBadRule}

-- the rules, or why there are none
abbrev pub IsReadSo : Reading → Reading → FoundRules → Type 0
IsReadSo before after (Read rules) = RulesRead before after rules
IsReadSo before after (Stopped BadRules line) = HasBadRule before after line
IsReadSo before after (Stopped RulesFault line) = Rose before.faults after.faults × (line ≡ 0)
IsReadSo before after (Stopped (Of status.Memory) line) = line ≡ 0
IsReadSo before after (Stopped (Of _) line) = ⊥
