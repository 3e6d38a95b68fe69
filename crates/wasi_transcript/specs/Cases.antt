-- Files of transcripts: a list of cases, each a script over a scripted network beside its transcript.
use Rattle.std.specs.Prelude.{◌≡◌, ◌≢◌, ℕ, if◌then◌else◌, List, [], ◌∷◌, ◌++◌, map, length, take, drop, bytes_eq, codes, Option, Some, None, option_map, option_and_then}
use Rattle.std.specs.List.{flat_map, filter_map, AllByRecursion}

-- what follows the front of a line, if it begins so
unfoldable pub after : List ℕ → List ℕ → Option (List ℕ)
after front line = if bytes_eq (take (length front) line) front then Some (drop (length front) line) else None

-- the text of lines
abbrev pub unlines : List (List ℕ) → List ℕ
unlines lines = flat_map (λ line. line ++ codes "\n") lines

-- A case: what it shows, the lines of its scenario, and the lines of its transcript.
pub record CaseText : Type 0 where
  pub title : List ℕ
  pub planned : List (List ℕ)
  pub shown : List (List ℕ)

-- its lines in a file, the last of which is empty
abbrev pub case_lines : CaseText → List (List ℕ)
case_lines c = (codes "# " ++ c.title) ∷ (map (λ line. codes "given " ++ line) c.planned ++ (c.shown ++ [] ∷ []))

-- the first of the lines doesn't begin so
abbrev pub NotFirst : List ℕ → List (List ℕ) → Type 0
NotFirst front [] = Unit {0}
NotFirst front (line ∷ lines) = after front line ≡ None

-- No line of the transcript is empty, and the first is none of the scenario.
pub record IsCase (c : CaseText) : Type 0 where
  pub some : AllByRecursion (λ line. line ≢ []) c.shown
  pub first : NotFirst (codes "given ") c.shown

-- the lines of a script in its transcript: those behind `> `
abbrev pub script_of : List (List ℕ) → List (List ℕ)
script_of shown = filter_map (after (codes "> ")) shown

abbrev pub script_lines : CaseText → List (List ℕ)
script_lines c = script_of c.shown

-- == reading
-- the lines of a scenario at the front, and what follows them
abbrev pub next_planned : Option (List ℕ) → List ℕ → List (List ℕ) → List (List ℕ) × List (List ℕ) → List (List ℕ) × List (List ℕ)
next_planned (Some plan) line lines more = (plan ∷ more.0, more.1)
next_planned None line lines more = ([], line ∷ lines)

abbrev pub planned_at : List (List ℕ) → List (List ℕ) × List (List ℕ)
planned_at [] = ([], [])
planned_at (line ∷ lines) = next_planned (after (codes "given ") line) line lines (planned_at lines)

-- the lines up to an empty one, and what follows that
abbrev pub shown_at : List (List ℕ) → Option (List (List ℕ) × List (List ℕ))
shown_at [] = None
shown_at ([] ∷ lines) = Some ([], lines)
shown_at ((b ∷ bytes) ∷ lines) = option_map (λ found. ((b ∷ bytes) ∷ found.0, found.1)) (shown_at lines)

abbrev pub titled : List (List ℕ) → List ℕ → Option (CaseText × List (List ℕ))
titled lines title =
    let planned = planned_at lines in
    option_map (λ found. (record { title = title; planned = planned.0; shown = found.0 }, found.1)) (shown_at planned.1)

-- the case that lines begin with, and what follows it
abbrev pub case_at : List (List ℕ) → Option (CaseText × List (List ℕ))
case_at [] = None
case_at (line ∷ lines) = option_and_then (titled lines) (after (codes "# ") line)
