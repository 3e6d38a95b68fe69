-- What a walk over the jobs has read ahead of itself.
use Rattle.std.specs.Prelude.{◌≡◌, ℕ, List, [], ◌++◌, drop}
use Rattle.wasi_jobs.specs.declared.ahead.Ahead.{Ahead}
use Rattle.wasi_jobs.specs.declared.ahead.Hinted.{Hinted}
use Rattle.wasi_jobs.specs.Entries.{entries_from}

-- what was read and is not handed out
abbrev pub left : Ahead → List (ℕ × Hinted)
left ahead = drop ahead.given ahead.entries.items

-- of the entries with this number or a higher one, these are the first
pub record Begins (number : ℕ) (jobs first : List (ℕ × Hinted)) : Type 0 where
  pub rest : List (ℕ × Hinted)
  pub are : entries_from number jobs ≡ first ++ rest

-- and there is one among them, unless there is none in the map
pub record AreRead (number : ℕ) (jobs first : List (ℕ × Hinted)) : Type 0 where
  pub begins : Begins number jobs first
  pub none : first ≡ [] → entries_from number jobs ≡ []

-- what is read ahead is what comes next in the map
abbrev pub IsAhead : List (ℕ × Hinted) → Ahead → Type 0
IsAhead jobs ahead = Begins ahead.from jobs (left ahead)
