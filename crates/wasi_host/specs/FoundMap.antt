-- What the code keeps of what looks found: the looks in order, and a map from each pollable to what the first look at it found.
use Rattle.std.specs.Prelude.{◌≡◌, ℕ, Bool, List, Option}
use Rattle.std.specs.Ordering.{nat_cmp}
use Rattle.std.specs.BTreeMap.{is_at}
use Rattle.std.specs.Map.{lookup}
use Rattle.wasi_host.specs.Polling.{Found, found_of}

-- what stands in the map at a pollable
abbrev pub first_at : List (ℕ × Bool) → ℕ → Option Bool
first_at entries pollable = lookup (is_at (nat_cmp pollable)) entries

-- the map has at each pollable what is found by the looks
pub record KeepsFirst (looks : Found) (entries : List (ℕ × Bool)) : Type 0 where
  pub found : (pollable : ℕ) → first_at entries pollable ≡ found_of looks pollable
