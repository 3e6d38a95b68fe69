-- What the words ask for, and the numbers that the program ends with.
use Rattle.std.specs.Prelude.{ℕ, if◌then◌else◌, bytes_eq, codes, List, [], ◌∷◌, Option, Some, None, option_map}
use Rattle.std.specs.Option.{option_and_then}
use Rattle.world_text.specs.Fields.{number_in}
use Rattle.wasi_program.specs.Status as program
use Rattle.recorder_commands.specs.declared.status.Command.{Command}
use Rattle.recorder_commands.specs.declared.status.Command.TheVariants.{Record, Replay, Draw}
use Rattle.recorder_commands.specs.declared.status.RecorderStatus.{RecorderStatus}
use Rattle.recorder_commands.specs.declared.status.RecorderStatus.TheVariants.{Of, BadLog, LogFault, Differs, LogEnds}

abbrev pub number_of : RecorderStatus → ℕ
number_of (Of s) = program.number_of s
number_of BadLog = 13
number_of LogFault = 14
number_of Differs = 15
number_of LogEnds = 25

-- the command of a word with a limit
abbrev pub limited_by : List ℕ → ℕ → Option Command
limited_by word limit =
    if bytes_eq word (codes "record") then Some (Record limit)
    else if bytes_eq word (codes "replay") then Some (Replay limit)
    else None

abbrev pub limited_in : List ℕ → List ℕ → Option Command
limited_in word limit = option_and_then (limited_by word) (number_in limit 4294967295)

-- the entries of these lines of the script
abbrev pub drawn : ℕ → ℕ → Command
drawn from upto = Draw (record { from = from; upto = upto })

-- the command of a word with two lines
abbrev pub part_in : List ℕ → List ℕ → List ℕ → Option Command
part_in word from upto =
    if bytes_eq word (codes "draw")
    then option_and_then (λ first. option_map (drawn first) (number_in upto 4294967295)) (number_in from 4294967295)
    else None

-- the command of one word
abbrev pub alone : List ℕ → Option Command
alone word = if bytes_eq word (codes "draw") then Some (drawn 0 4294967295) else None

-- the command in the words: `record LIMIT`, `replay LIMIT`, `draw` or `draw FROM TO`
abbrev pub command_in : List (List ℕ) → Option Command
command_in (word ∷ []) = alone word
command_in (word ∷ limit ∷ []) = limited_in word limit
command_in (word ∷ from ∷ upto ∷ []) = part_in word from upto
command_in _ = None
