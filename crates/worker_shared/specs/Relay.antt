-- The rule of a line: what was pushed is what was popped, followed by what the line holds, and each chunk has bytes.
use Rattle.std.specs.Prelude.{◌≡◌, ◌<◌, ⊤, ℕ, Bool, true, List, [], ◌∷◌, ◌++◌, length}
use mathlib.Core.Option.{some}
use lib.ListN.{get_elem?}
use Rattle.worker_shared.specs.declared.rule.Log.{Log}

abbrev pub log : Bool → Bool → List (List ℕ) → List (List ℕ) → Log
log pushes pops pushed popped = record { pushes = pushes; pops = pops; pushed = pushed; popped = popped }

-- A pass that may push is the one that does, and has all that was pushed. The same for pops.
pub record Fits (pusher popper : ℕ) (pushed popped : List (List ℕ)) (port : ℕ) (v : Log) : Type 0 where
  pub pushes : v.pushes ≡ true → (port ≡ pusher) × (v.pushed ≡ pushed)
  pub pops : v.pops ≡ true → (port ≡ popper) × (v.popped ≡ popped)

-- each chunk has bytes
abbrev pub AllFilled : List (List ℕ) → Type 0
AllFilled [] = ⊤
AllFilled (chunk ∷ chunks) = (0 < length chunk) × AllFilled chunks

-- All was pushed by one pass and popped by one, in order. Each chunk that is left has bytes.
pub record Relayed (items : List (List ℕ)) (views : List Log) : Type 0 where
  pub pusher : ℕ
  pub popper : ℕ
  pub pushed : List (List ℕ)
  pub popped : List (List ℕ)
  pub in_order : pushed ≡ popped ++ items
  pub filled : AllFilled items
  pub fits : (port : ℕ) (v : Log) → get_elem? views port ≡ some v → Fits pusher popper pushed popped port v
