-- What a read of a text leaves.
use Rattle.std.specs.Prelude.{◌≡◌, ℕ, ◌+◌, ◌≤◌, List, length}
use Rattle.world_io.specs.Io.{Reading, Gave, HasEnded}
use Rattle.wasi_world.specs.Seen.{Rose}
use Rattle.policy_asks.specs.declared.read.ReadEnd.{ReadEnd}
use Rattle.policy_asks.specs.declared.read.ReadEnd.TheVariants.{Whole, TooLong, Fault}

-- why a text ends where it does
abbrev pub EndsSo : ℕ → Reading → Reading → List ℕ → ReadEnd → Type 0
EndsSo limit before after text Whole = HasEnded after × (length text ≤ limit)
EndsSo limit before after text TooLong = length text ≡ limit + 1
EndsSo limit before after text Fault = Rose before.faults after.faults × (length text ≤ limit)

-- The source gave this text, which ends so.
pub record HasReadText (limit : ℕ) (before after : Reading) (text : List ℕ) (end : ReadEnd) : Type 0 where
  pub gave : Gave before text after
  pub ends : EndsSo limit before after text end
