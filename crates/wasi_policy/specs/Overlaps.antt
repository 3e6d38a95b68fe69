-- Where to look for an address that two rules match: if there is one, they match this one too.
use Rattle.std.specs.Prelude.{◌≡◌, ◌⊎◌, ℕ, ◌+◌, nat_le, max, min, take, length, if◌then◌else◌, List, Option, Some, None}
use Rattle.std.specs.List.{All, Contains}
use Rattle.wasi_addr.specs.declared.address.SocketAddressFamily.{SocketAddressFamily}
use Rattle.wasi_addr.specs.declared.address.SocketAddressFamily.TheVariants as family
use Rattle.wasi_addr.specs.declared.address.SocketAddrUse.{SocketAddrUse}
use Rattle.wasi_addr.specs.declared.address.SocketAddrUse.TheVariants as usage
use Rattle.wasi_policy.specs.declared.rule.Rule.{Rule}
use Rattle.wasi_policy.specs.Points.{is_canonical}
use Rattle.wasi_policy.specs.Findings.{Conflict, AreBefore}

-- what is behind the numbers that no canonical address has
abbrev pub after_mapped : SocketAddressFamily → Option ℕ
after_mapped family.Ipv4 = None
after_mapped family.Ipv6 = Some 281474976710656

-- the first number from this one on that a canonical address of the family has
abbrev pub canonical_from : SocketAddressFamily → ℕ → Option ℕ
canonical_from family number = if is_canonical family number then Some number else after_mapped family

-- the number, if it isn't above this one
abbrev pub at_most : ℕ → Option ℕ → Option ℕ
at_most most None = None
at_most most (Some number) = if nat_le number most then Some number else None

-- the first number that is in both ranges
abbrev pub first_common : Option (ℕ × ℕ) → Option (ℕ × ℕ) → SocketAddressFamily → Option ℕ
first_common None other family = None
first_common (Some one) None family = None
first_common (Some (low, high)) (Some (least, greatest)) family = at_most (min high greatest) (canonical_from family (max low least))

-- a use that both are about, if there is one
abbrev pub common_use : Option SocketAddrUse → Option SocketAddrUse → SocketAddrUse
common_use (Some asked) other = asked
common_use None (Some asked) = asked
common_use None None = usage.TcpBind

-- == lists of lines
-- A line was added to a list, or this holds of it; all that are listed are of one kind.
pub record Lists (P Q : ℕ → Type 0) (line : ℕ) (old new : List ℕ) : Type 0 where
  pub kept : (k : ℕ) → Contains old k → Contains new k
  pub sound : All P old → All P new
  pub there : Contains new line ⊎ Q line

-- == conflicts
-- The first pairs of a list, and how many there are; a count that would pass 64 bits stays at the greatest number.
pub record Tally (most : ℕ) (first : List (ℕ × ℕ)) (count : ℕ) (all : List (ℕ × ℕ)) : Type 0 where
  pub first_is : first ≡ take most all
  pub count_is : count ≡ min (length all) 18446744073709551615

-- What became of a list of conflicts that two lines were added to, if they are one.
pub record Notes (rules : List Rule) (line later : ℕ) (old new : List (ℕ × ℕ)) : Type 0 where
  pub kept : (pair : ℕ × ℕ) → Contains old pair → Contains new pair
  pub sound : All (λ p. Conflict rules p.0 p.1) old → All (λ p. Conflict rules p.0 p.1) new
  pub order : AreBefore line later old → AreBefore line (later + 1) new
  pub there : Conflict rules line later → Contains new (line, later)

-- The same for a line with each later one.
pub record NotesLine (rules : List Rule) (line : ℕ) (old new : List (ℕ × ℕ)) : Type 0 where
  pub kept : (pair : ℕ × ℕ) → Contains old pair → Contains new pair
  pub sound : All (λ p. Conflict rules p.0 p.1) old → All (λ p. Conflict rules p.0 p.1) new
  pub order : AreBefore line 0 old → AreBefore (line + 1) 0 new
  pub there : (later : ℕ) → Conflict rules line later → Contains new (line, later)

-- A longer list was counted, of which this holds.
pub record Counted (most : ℕ) (first : List (ℕ × ℕ)) (count : ℕ) (P : List (ℕ × ℕ) → Type 0) : Type 0 where
  pub all : List (ℕ × ℕ)
  pub tally : Tally most first count all
  pub holds : P all

-- What was counted is counted still, with more of which this holds.
abbrev pub Counts : ℕ → List (ℕ × ℕ) → ℕ → List (ℕ × ℕ) → ℕ → (List (ℕ × ℕ) → List (ℕ × ℕ) → Type 0) → Type 0
Counts most first count new_first new_count P =
    (all : List (ℕ × ℕ)) → Tally most first count all → Counted most new_first new_count (P all)
