-- What is written of pairs.
use Rattle.std.specs.Prelude.{ℕ, ◌+◌, List, [], ◌∷◌, ◌++◌, codes, decimal}
use Rattle.wasi_relay.specs.declared.pair.DirEnd.{DirEnd}
use Rattle.wasi_relay.specs.declared.pair.DirEnd.TheVariants.{Open, Clean, Broken}
use Rattle.wasi_relay.specs.declared.pair.Flow.{Flow}
use Rattle.wasi_relay.specs.declared.pair.Pair.{Pair}

abbrev pub end_word : DirEnd → List ℕ
end_word Open = codes "open"
end_word Clean = codes "clean"
end_word Broken = codes "broken"

-- what became of a direction, and how many bytes were written
abbrev pub flow_text : Flow → List ℕ
flow_text flow = end_word flow.end ++ codes " " ++ decimal flow.bytes

-- `pair K up WORD N down WORD N`
abbrev pub pair_line : ℕ → Pair → List ℕ
pair_line number pair =
    codes "pair " ++ decimal number ++ codes " up " ++ flow_text pair.up ++ codes " down " ++ flow_text pair.down ++ codes "\n"

abbrev pub lines_from : ℕ → List Pair → List ℕ
lines_from number [] = []
lines_from number (pair ∷ pairs) = pair_line number pair ++ lines_from (number + 1) pairs

-- a line for each pair, in order of arrival
abbrev pub pair_lines : List Pair → List ℕ
pair_lines pairs = lines_from 1 pairs
