-- Rules that decide nothing, and rules that say otherwise than one before them.
use Rattle.std.specs.Prelude.{◌≡◌, ◌≢◌, ◌⊎◌, ℕ, ◌<◌, ◌≤◌, ◌-◌, true, List, [], ◌∷◌, length, Some}
use Rattle.std.specs.List.{slice_get, All, Contains}
use Rattle.wasi_addr.specs.declared.address.IpSocketAddress.{IpSocketAddress}
use Rattle.wasi_addr.specs.declared.address.SocketAddrUse.{SocketAddrUse}
use Rattle.world_text.specs.Written.{FitsAddress}
use Rattle.wasi_policy.specs.declared.rule.Rule.{Rule}
use Rattle.wasi_policy.specs.Decision.{allows, matches, decision}

-- The rule of this line decides some use of some address; line 0, that no rule matches it.
pub record Decides (rules : List Rule) (line : ℕ) : Type 0 where
  pub address : IpSocketAddress
  pub asked : SocketAddrUse
  pub fits : FitsAddress address
  pub decided : (decision rules address asked).rule ≡ line

-- The rule of this line decides no use of any address: rules before it decide all that it matches.
abbrev pub IsShadowed : List Rule → ℕ → Type 0
IsShadowed rules line =
    (address : IpSocketAddress) (asked : SocketAddrUse) → FitsAddress address → (decision rules address asked).rule ≡ line → ⊥

-- Both rules match some use of some address.
pub record Overlap (one other : Rule) : Type 0 where
  pub address : IpSocketAddress
  pub asked : SocketAddrUse
  pub fits : FitsAddress address
  pub one_matches : matches one address asked ≡ true
  pub other_matches : matches other address asked ≡ true

-- The rule of a line matches some use of some address.
pub record Matches (rules : List Rule) (line : ℕ) : Type 0 where
  pub rule : Rule
  pub rule_is : slice_get rules (line - 1) ≡ Some rule
  pub some : Overlap rule rule

-- The rule of a line matches no use of any address.
abbrev pub IsUnmatched : List Rule → ℕ → Type 0
IsUnmatched rules line = Matches rules line → ⊥

-- The rules of two lines overlap, and the later one says otherwise.
pub record Conflict (rules : List Rule) (line later : ℕ) : Type 0 where
  pub begins : 0 < line
  pub before : line < later
  pub within : later ≤ length rules
  pub one : Rule
  pub one_is : slice_get rules (line - 1) ≡ Some one
  pub other : Rule
  pub other_is : slice_get rules (later - 1) ≡ Some other
  pub differ : allows one.action ≢ allows other.action
  pub overlap : Overlap one other

-- the pair comes before this one, in the order of the lines
abbrev pub IsPairBefore : ℕ → ℕ → ℕ × ℕ → Type 0
IsPairBefore line later pair = (pair.0 < line) ⊎ ((pair.0 ≡ line) × (pair.1 < later))

-- each pair once, in the order of the lines
abbrev pub AreInOrder : List (ℕ × ℕ) → Type 0
AreInOrder [] = ◌≡◌ {A = ℕ} 0 0
AreInOrder (pair ∷ pairs) = All (λ more. IsPairBefore more.0 more.1 pair) pairs × AreInOrder pairs

-- and all before this one
pub record AreBefore (line later : ℕ) (pairs : List (ℕ × ℕ)) : Type 0 where
  pub order : AreInOrder pairs
  pub before : All (λ pair. IsPairBefore line later pair) pairs

-- The conflicts of rules: only those, each of them, and each once.
pub record AreConflicts (rules : List Rule) (pairs : List (ℕ × ℕ)) : Type 0 where
  pub sound : All (λ p. Conflict rules p.0 p.1) pairs
  pub complete : (line later : ℕ) → Conflict rules line later → Contains pairs (line, later)
  pub order : AreInOrder pairs
