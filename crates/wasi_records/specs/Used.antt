-- How many bytes the writers of a context hold or are permitted.
use Rattle.std.specs.Prelude.{ℕ, ◌+◌, List, [], ◌∷◌}
use Rattle.wasi_records.specs.declared.records.Record.{Record}
use Rattle.wasi_records.specs.declared.records.Record.TheVariants.{Tcp}
use Rattle.tcp_records.specs.Used.{used_by}

abbrev pub used_in : ℕ → Record → ℕ
used_in context (Tcp r) = used_by context r
used_in context _ = 0

-- the sum over all records
abbrev pub used : ℕ → List Record → ℕ
used context [] = 0
used context (r ∷ records) = used_in context r + used context records
