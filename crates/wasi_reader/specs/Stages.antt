-- Stages, and their numbers in a ledger.
use Rattle.std.specs.Prelude.{ℕ, ◌==◌, if◌then◌else◌}
use Rattle.wasi_reader.specs.declared.stage.Stage.{Stage}
use Rattle.wasi_reader.specs.declared.stage.Stage.TheVariants.{Open, Ended, Failed, Starved}

abbrev pub number_of : Stage → ℕ
number_of Open = 0
number_of Ended = 1
number_of Failed = 2
number_of Starved = 3

-- the stage of this number
abbrev pub stage_at : ℕ → Stage
stage_at n = if n == 0 then Open else if n == 1 then Ended else if n == 2 then Failed else Starved
