-- The names of the network sockets that were closed after the end mark, in the order of their closing, where a world keeps them.
use Rattle.std.specs.Prelude.{◌≡◌, List, [], ◌∷◌, ◌++◌, ◌⊎◌, Option, Some, None, option_map}
use Rattle.wasi_world.specs.declared.ids.OpId.{OpId}

-- None was closed yet, or none are known.
abbrev pub NoneNamed : Option (List OpId) → Type 0
NoneNamed names = (names ≡ None) ⊎ (names ≡ Some [])

-- This name came to those that are known, or none are known any longer.
abbrev pub Named : Option (List OpId) → OpId → Option (List OpId) → Type 0
Named old sock new = (new ≡ None) ⊎ (new ≡ option_map (λ names. names ++ sock ∷ []) old)
