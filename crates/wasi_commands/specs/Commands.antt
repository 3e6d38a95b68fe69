-- What the words `run`, `pump`, `gen` and `gen3` ask for.
use Rattle.std.specs.Prelude.{ℕ, ◌⊎◌, if◌then◌else◌, bytes_eq, codes, List, [], ◌∷◌, Option, Some, None, option_map}
use Rattle.std.specs.Option.{option_and_then}
use Rattle.world_text.specs.Fields.{number_in}
use Rattle.drawn_scripts.specs.declared.drawn.Drawn.{Drawn}
use Rattle.drawn_scripts.specs.declared.drawn.Drawn.TheVariants.{OfTwo, OfBoth}
use Rattle.wasi_commands.specs.declared.commands.Command.{Command}
use Rattle.wasi_commands.specs.declared.commands.Command.TheVariants.{Run, Pump, Generate}

-- the words are `run LIMIT`
abbrev pub run_in : List ℕ → List ℕ → Option Command
run_in word limit = if bytes_eq word (codes "run") then option_map (λ n. Run n) (number_in limit 4294967295) else None

-- the words are `pump BUDGET`
abbrev pub pump_in : List ℕ → List ℕ → Option Command
pump_in word budget = if bytes_eq word (codes "pump") then option_map (λ n. Pump n) (number_in budget 4294967295) else None

-- the words are `run LIMIT` or `pump BUDGET`
abbrev pub limited_in : List ℕ → List ℕ → Option Command
limited_in word most = if bytes_eq word (codes "run") then run_in word most else pump_in word most

-- which calls are drawn
abbrev pub drawn_in : List ℕ → Option Drawn
drawn_in word = if bytes_eq word (codes "gen") then Some OfTwo else if bytes_eq word (codes "gen3") then Some OfBoth else None

-- the words are `gen SEED STEPS`, or `gen3 SEED STEPS`
abbrev pub generate_in : List ℕ → List ℕ → List ℕ → Option Command
generate_in word seed steps =
    option_and_then (λ kind. option_and_then (λ n. option_map (λ count. Generate kind n count) (number_in steps 100000)) (number_in seed 18446744073709551615)) (drawn_in word)

-- what the words ask for
abbrev pub command_in : List (List ℕ) → Option Command
command_in (word ∷ most ∷ []) = limited_in word most
command_in (word ∷ seed ∷ steps ∷ []) = generate_in word seed steps
command_in _ = None

-- the words ask for a pump
abbrev pub IsPump : Option Command → Type 0
IsPump (Some (Pump budget)) = Unit {0}
IsPump _ = ⊥
