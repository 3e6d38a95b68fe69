-- The first rule of each port.
use Rattle.std.specs.Prelude.{◌≡◌, ℕ, ◌+◌, ◌&&◌, min, nat_le, Bool, true, false, if◌then◌else◌, List, [], ◌∷◌}
use Rattle.wasi_policy.specs.declared.cells.Cell.{Cell}
use Rattle.wasi_policy.specs.declared.reach.Reach.{Reach}
use Rattle.wasi_policy.specs.Reach.{no_rule}

-- what the last cell has that starts at a port or before it; before the first cell it is this
abbrev pub at_port : ℕ → List Cell → ℕ → ℕ
at_port first [] port = first
at_port first (cell ∷ cells) port = if nat_le cell.start port then at_port cell.first cells port else first

abbrev pub cells_of_one : Reach → List Cell
cells_of_one reach =
    if nat_le reach.least reach.greatest
    then (record { start = reach.least; first = reach.place }) ∷ (record { start = reach.greatest + 1; first = no_rule }) ∷ []
    else []

abbrev pub cell_of : ℕ → ℕ → Cell
cell_of start first = record { start = start; first = first }

-- the first of these cells comes before the first of those
abbrev pub is_next : List Cell → List Cell → Bool
is_next [] those = false
is_next (this ∷ these) [] = true
is_next (this ∷ these) (that ∷ those) = nat_le this.start that.start

-- the lesser of a rule and what each cell has
abbrev pub least_with : ℕ → List Cell → List Cell
least_with first [] = []
least_with first (cell ∷ cells) = cell_of cell.start (min first cell.first) ∷ least_with first cells

-- a cell among others, before which these have the first number; more gives what follows the cell, where the others have
-- the number that it is passed
abbrev pub among : ℕ → Cell → (ℕ → List Cell → List Cell) → ℕ → List Cell → List Cell
among first cell more other [] = cell_of cell.start (min cell.first other) ∷ more other []
among first cell more other (beside ∷ cells) =
    if nat_le cell.start beside.start
    then cell_of cell.start (min cell.first other) ∷ more other (beside ∷ cells)
    else cell_of beside.start (min first beside.first) ∷ among first cell more beside.first cells

-- cells with the lesser of what two lists of cells have, where they have these numbers before their first cell
abbrev pub merged_cells : ℕ → ℕ → List Cell → List Cell → List Cell
merged_cells first other [] others = least_with first others
merged_cells first other (cell ∷ cells) others =
    among first cell (λ next more. merged_cells cell.first next cells more) other others

-- each cell starts where the one before it does or behind it, the first at this port or behind it
abbrev pub rises_from : ℕ → List Cell → Bool
rises_from start [] = true
rises_from start (cell ∷ cells) = nat_le start cell.start && rises_from cell.start cells

-- The cells stand by their starts.
abbrev pub IsRising : List Cell → Type 0
IsRising cells = rises_from 0 cells ≡ true
