-- Numbers, each with the key of a slab, in rising order.
use Rattle.std.specs.Prelude.{◌≡◌, ℕ, if◌then◌else◌, List, Option}
use Rattle.std.specs.Ordering.{nat_cmp}
use Rattle.std.specs.BTreeMap.{is_at}
use Rattle.std.specs.Map.{lookup}

-- the key of a number
abbrev pub key_at : List (ℕ × ℕ) → ℕ → Option ℕ
key_at keys number = lookup (is_at (nat_cmp number)) keys

-- a number has this key now, or none, and each other has the key that it had
abbrev pub Rekeys : List (ℕ × ℕ) → List (ℕ × ℕ) → ℕ → Option ℕ → Type 0
Rekeys old new number key = (other : ℕ) → key_at new other ≡ (if is_at (nat_cmp number) other then key else key_at old other)
