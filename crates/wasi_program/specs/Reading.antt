-- How a source is read whole.
use Rattle.std.specs.Prelude.{◌≡◌, ℕ, ◌+◌, ◌≤◌, ◌⊎◌, List, length}
use Rattle.world_io.specs.Io.{Reading, Gave, HasEnded}

-- The source was read to its end, or to one byte past so many.
pub record ReadWithin (most : ℕ) (before after : Reading) (text : List ℕ) : Type 0 where
  pub gave : Gave before text after
  pub whole : (HasEnded after × (length text ≤ most)) ⊎ (length text ≡ most + 1)
