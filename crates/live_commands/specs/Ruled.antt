-- What became of a script over the system's sockets under rules.
use Rattle.std.specs.Prelude.{◌≡◌, ◌⊎◌, ℕ, List, Result}
use Rattle.wasi_world.specs.Seen.{Rose}
use Rattle.world_io.specs.Io.{Reading, Writing}
use Rattle.wasi_run.specs.declared.run.RunEnd.{RunEnd}
use Rattle.wasi_run.specs.declared.error.RunError.{RunError}
use Rattle.wasi_program.specs.declared.status.Status.{Status}
use Rattle.wasi_program.specs.declared.status.Status.TheVariants as status
use Rattle.wasi_program.specs.Status.{status_of, bad_line_of}
use Rattle.wasi_policy.specs.declared.rule.Rule.{Rule}
use Rattle.policy_commands.specs.declared.status.PolicyStatus.{PolicyStatus}
use Rattle.policy_commands.specs.declared.status.PolicyStatus.TheVariants.{Of, BadRules, RulesFault}
use Rattle.policy_commands.specs.Ends.{RulesRead, HasBadRule}
use Rattle.live_commands.specs.Live.{RanLive}

-- The rules were read, the script was run under them, and so the program ends so.
pub record RanUnderRules (limit : ℕ) (r_old r_new s_old s_new : Reading) (k_old k_new : Writing) (line : ℕ) (end : Status) : Type 0 where
  pub rules : List Rule
  pub read : RulesRead r_old r_new rules
  pub result : Result RunEnd RunError
  pub status_is : end ≡ status_of result
  pub line_is : line ≡ bad_line_of result
  pub ran : RanLive limit s_old s_new k_old k_new result

-- Nothing was read from the script or written, for this reason.
pub record NoRules (s_old s_new : Reading) (k_old k_new : Writing) (P : Type 0) : Type 0 where
  pub source : s_new ≡ s_old
  pub sink : k_new ≡ k_old
  pub because : P

-- the cause of each end
abbrev pub EndsUnderRules : ℕ → Reading → Reading → Reading → Reading → Writing → Writing → ℕ → PolicyStatus → Type 0
EndsUnderRules limit r_old r_new s_old s_new k_old k_new line BadRules = NoRules s_old s_new k_old k_new (HasBadRule r_old r_new line)
EndsUnderRules limit r_old r_new s_old s_new k_old k_new line RulesFault =
    NoRules s_old s_new k_old k_new (Rose r_old.faults r_new.faults × (line ≡ 0))
EndsUnderRules limit r_old r_new s_old s_new k_old k_new line (Of status.Memory) =
    NoRules s_old s_new k_old k_new (line ≡ 0) ⊎ RanUnderRules limit r_old r_new s_old s_new k_old k_new line status.Memory
EndsUnderRules limit r_old r_new s_old s_new k_old k_new line (Of end) =
    RanUnderRules limit r_old r_new s_old s_new k_old k_new line end
