-- What is written of rules that are odd.
use Rattle.std.specs.Prelude.{◌≡◌, ℕ, ◌+◌, ◌-◌, ◌<◌, ◌≤◌, ◌⊎◌, min, nat_lt, if◌then◌else◌, List, [], ◌∷◌, ◌++◌, take, codes, decimal, length, Result, Ok, Err}
use Rattle.std.specs.List.{All, Contains}
use Rattle.world_io.specs.Io.{Writing}
use Rattle.world_io.specs.Written.{TookAll, TookPart}
use Rattle.wasi_policy.specs.declared.rule.Rule.{Rule}
use Rattle.wasi_policy.specs.Findings.{Decides, IsShadowed, Matches, IsUnmatched, AreConflicts}
use Rattle.policy_asks.specs.declared.asking.AskError.{AskError}
use Rattle.policy_asks.specs.declared.asking.AskError.TheVariants as error

-- `unmatched N` for each line
abbrev pub unmatched_text : List ℕ → List ℕ
unmatched_text [] = []
unmatched_text (line ∷ lines) = codes "unmatched " ++ decimal line ++ codes "\n" ++ unmatched_text lines

-- `shadowed N` for each line
abbrev pub shadowed_text : List ℕ → List ℕ
shadowed_text [] = []
shadowed_text (line ∷ lines) = codes "shadowed " ++ decimal line ++ codes "\n" ++ shadowed_text lines

-- `overlap N M` for each two lines
abbrev pub overlaps_text : List (ℕ × ℕ) → List ℕ
overlaps_text [] = []
overlaps_text (pair ∷ pairs) =
    codes "overlap " ++ decimal pair.0 ++ codes " " ++ decimal pair.1 ++ codes "\n" ++ overlaps_text pairs

-- how many findings aren't listed
abbrev pub rest_text : ℕ → List ℕ
rest_text rest = if nat_lt 0 rest then codes "and " ++ decimal rest ++ codes " more\n" else []

-- how many findings there are, in 64 bits
abbrev pub total : ℕ → ℕ → ℕ → ℕ
total unmatched shadowed conflicts = min (unmatched + shadowed + conflicts) 18446744073709551615

-- the first 1,000, and how many are left
abbrev pub listed_text : List ℕ → List ℕ → List (ℕ × ℕ) → ℕ → List ℕ
listed_text unmatched shadowed conflicts count =
    unmatched_text (take 1000 unmatched)
    ++ shadowed_text (take (1000 - length unmatched) shadowed)
    ++ overlaps_text (take (1000 - length unmatched - length shadowed) conflicts)
    ++ rest_text (count - 1000)

-- all, or that there are none; of the conflicts these are the first, and so many there are
abbrev pub findings_text : List ℕ → List ℕ → List (ℕ × ℕ) → ℕ → List ℕ
findings_text unmatched shadowed conflicts count =
    let all = total (length unmatched) (length shadowed) count in
    if nat_lt 0 all then listed_text unmatched shadowed conflicts all else codes "nothing to report\n"

-- These are the rules that match nothing, those that match something and decide nothing, and the pairs that overlap where the
-- later one says otherwise: only those, and each of them.
pub record AreFindings (rules : List Rule) (unmatched shadowed : List ℕ) (conflicts : List (ℕ × ℕ)) : Type 0 where
  pub unmatched_sound : All (λ line. IsUnmatched rules line) unmatched
  pub unmatched_rules : All (λ line. (0 < line) × (line ≤ length rules)) unmatched
  pub unmatched_complete : (line : ℕ) → 0 < line → line ≤ length rules → Contains unmatched line ⊎ Matches rules line
  pub shadowed_sound : All (λ line. IsShadowed rules line) shadowed
  pub shadowed_matched : All (λ line. Matches rules line) shadowed
  pub shadowed_rules : All (λ line. (0 < line) × (line ≤ length rules)) shadowed
  pub shadowed_complete : (line : ℕ) → 0 < line → line ≤ length rules → Contains shadowed line ⊎ (Decides rules line ⊎ IsUnmatched rules line)
  pub conflicts_are : AreConflicts rules conflicts

-- What is odd about the rules was found, and the sink took its text so. A count of more conflicts than 64 bits hold stays at
-- the greatest number.
pub record Found (rules : List Rule) (P : List ℕ → Type 0) : Type 0 where
  pub unmatched : List ℕ
  pub shadowed : List ℕ
  pub conflicts : List (ℕ × ℕ)
  pub are : AreFindings rules unmatched shadowed conflicts
  pub took : P (findings_text unmatched shadowed (take 1000 conflicts) (min (length conflicts) 18446744073709551615))

-- the cause of each end
abbrev pub CheckEnds : List Rule → Writing → Writing → Result (Unit {0}) AskError → Type 0
CheckEnds rules k_old k_new (Ok u) = Found rules (λ text. TookAll k_old text k_new)
CheckEnds rules k_old k_new (Err error.WriteFault) = Found rules (λ text. TookPart k_old text k_new)
CheckEnds rules k_old k_new (Err error.Memory) = k_new ≡ k_old
CheckEnds rules k_old k_new (Err _) = ⊥
