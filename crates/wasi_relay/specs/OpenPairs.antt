-- Pairs in order of arrival, and the places of those that aren't over.
use Rattle.std.specs.Prelude.{ℕ, ◌+◌, not, Bool, false, if◌then◌else◌, List, [], ◌∷◌, Option, Some, None, slice_get}
use Rattle.wasi_relay.specs.declared.pair.Pair.{Pair}
use Rattle.wasi_relay.specs.Pair.{is_over}

-- Pairs, and whether there is room for one more.
pub record Pairs : Type 0 where
  pub items : List Pair
  pub room : Bool

-- the places of the pairs that aren't over, where the first has this place
abbrev pub open_from : ℕ → List Pair → List ℕ
open_from place [] = []
open_from place (pair ∷ pairs) = if is_over pair then open_from (place + 1) pairs else place ∷ open_from (place + 1) pairs

abbrev pub open_places : List Pair → List ℕ
open_places pairs = open_from 0 pairs

abbrev pub is_still_open : Option Pair → Bool
is_still_open (Some pair) = not (is_over pair)
is_still_open None = false

abbrev pub is_open_at : List Pair → ℕ → Bool
is_open_at pairs place = is_still_open (slice_get pairs place)
