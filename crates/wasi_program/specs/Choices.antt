-- What a program decides by itself: what its words ask for, where its scenario is, and the line that it shows.
use Rattle.std.specs.Prelude.{◌≡◌, ℕ, ◌⊎◌, if◌then◌else◌, bytes_eq, codes, List, [], ◌∷◌}
use Rattle.wasi_program.specs.declared.choices.Choice.{Choice}
use Rattle.wasi_program.specs.declared.choices.Choice.TheVariants as choice
use Rattle.wasi_program.specs.declared.choices.ShownLine.{ShownLine}
use Rattle.wasi_program.specs.declared.choices.ShownLine.TheVariants as shown
use Rattle.wasi_program.specs.declared.status.Status.{Status}
use Rattle.wasi_program.specs.declared.status.Status.TheVariants as status
use Rattle.wasi_program.specs.Status.{number_of}

-- what a word asks for that stands alone
abbrev pub choice_by : List ℕ → Choice
choice_by word =
    if bytes_eq word (codes "--help") then choice.Help
    else if bytes_eq word (codes "--version") then choice.Version
    else choice.Command

-- what the words ask for
abbrev pub choice_in : List (List ℕ) → Choice
choice_in (word ∷ []) = choice_by word
choice_in _ = choice.Command

-- where the scenario is
abbrev pub scenario_file : List ℕ
scenario_file = codes "scenario.txt"

-- whose line is shown, by how it ended
abbrev pub shown_line : Status → ShownLine
shown_line status.BadScenario = shown.OfScenario
shown_line status.BadStep = shown.OfScript
shown_line _ = shown.Neither

-- the numbers that a program ends with which prints a text: the write failed, or all is well
abbrev pub IsEndOfPrint : ℕ → Type 0
IsEndOfPrint number = (number ≡ number_of status.Ok) ⊎ (number ≡ number_of status.WriteFault)

-- the numbers that a program ends with which does no command: it prints a text, or it can't have its words
abbrev pub IsEndWithoutCommand : ℕ → Type 0
IsEndWithoutCommand number = IsEndOfPrint number ⊎ (number ≡ number_of status.BadWords) ⊎ (number ≡ number_of status.Memory)

-- the ends of a program that can't have its words: one isn't UTF-8, or memory ran out
abbrev pub IsWantOfWords : Status → Type 0
IsWantOfWords end = (end ≡ status.BadWords) ⊎ (end ≡ status.Memory)
