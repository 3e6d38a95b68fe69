-- A log that was cut.
use Rattle.std.specs.Prelude.{◌≡◌, ℕ, ◌-◌, List, ◌++◌, take, length, codes}
use Rattle.world_text.specs.Lines.{rest_of}

-- a text up to its last newline, with it
abbrev pub whole_lines : List ℕ → List ℕ
whole_lines text = take (length text - length (rest_of text)) text

-- it has no newline
abbrev pub IsInOneLine : List ℕ → Type 0
IsInOneLine text = rest_of text ≡ text

-- what a text that was cut is read as: its whole lines, and `end` behind them
abbrev pub completed : List ℕ → List ℕ
completed text = whole_lines text ++ codes "end\n"
