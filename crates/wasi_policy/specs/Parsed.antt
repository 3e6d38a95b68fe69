-- Why rules weren't read.
use Rattle.std.specs.Prelude.{ℕ, Option, Some, None}
use Rattle.wasi_policy.specs.declared.parse.RulesError.{RulesError}
use Rattle.wasi_policy.specs.declared.parse.RulesError.TheVariants.{BadRules, Memory}

-- the line that an error names
abbrev pub bad_line : RulesError → Option ℕ
bad_line (BadRules line) = Some line
bad_line (Memory e) = None
