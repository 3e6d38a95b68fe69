-- What the words ask for, and the numbers that the program ends with.
use Rattle.std.specs.Prelude.{ℕ, if◌then◌else◌, bytes_eq, codes, List, [], ◌∷◌, Option, Some, None, Result, Ok, Err}
use Rattle.std.specs.Option.{option_and_then}
use Rattle.world_text.specs.Fields.{number_in}
use Rattle.wasi_program.specs.declared.status.Status.TheVariants as status
use Rattle.wasi_program.specs.Status as program
use Rattle.policy_asks.specs.declared.answer.Form.TheVariants as form
use Rattle.policy_asks.specs.declared.asking.AskError.{AskError}
use Rattle.policy_asks.specs.declared.asking.AskError.TheVariants as error
use Rattle.policy_commands.specs.declared.status.Command.{Command}
use Rattle.policy_commands.specs.declared.status.Command.TheVariants.{Run, Ask, Check}
use Rattle.policy_commands.specs.declared.status.PolicyStatus.{PolicyStatus}
use Rattle.policy_commands.specs.declared.status.PolicyStatus.TheVariants.{Of, BadRules, RulesFault}

abbrev pub number_of : PolicyStatus → ℕ
number_of (Of s) = program.number_of s
number_of BadRules = 16
number_of RulesFault = 17

-- how the end of questions is reported
abbrev pub status_of_ask : Result (Unit {0}) AskError → PolicyStatus
status_of_ask (Ok u) = Of status.Ok
status_of_ask (Err (error.BadLine n)) = Of status.BadStep
status_of_ask (Err error.TooLong) = Of status.TooLong
status_of_ask (Err error.ReadFault) = Of status.ReadFault
status_of_ask (Err error.WriteFault) = Of status.WriteFault
status_of_ask (Err error.Memory) = Of status.Memory

abbrev pub bad_line_of_ask : Result (Unit {0}) AskError → ℕ
bad_line_of_ask (Err (error.BadLine n)) = n
bad_line_of_ask _ = 0

-- the command of a word with a limit
abbrev pub limited_by : List ℕ → ℕ → Option Command
limited_by word limit =
    if bytes_eq word (codes "run") then Some (Run limit)
    else if bytes_eq word (codes "ask") then Some (Ask form.Decision limit)
    else if bytes_eq word (codes "explain") then Some (Ask form.Rule limit)
    else None

abbrev pub limited_in : List ℕ → List ℕ → Option Command
limited_in word limit = option_and_then (limited_by word) (number_in limit 4294967295)

-- the command of one word
abbrev pub alone : List ℕ → Option Command
alone word = if bytes_eq word (codes "check") then Some Check else None

-- the command in the words: `run LIMIT`, `ask LIMIT`, `explain LIMIT` or `check`
abbrev pub command_in : List (List ℕ) → Option Command
command_in (word ∷ []) = alone word
command_in (word ∷ limit ∷ []) = limited_in word limit
command_in _ = None
