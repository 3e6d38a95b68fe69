-- A log under rules: which checks are denied without being handed on, and where they stand.
use Rattle.std.specs.Prelude.{◌≡◌, ℕ, ◌-◌, ◌&&◌, nat_le, Bool, true, false, not, List, [], ◌∷◌, ◌++◌, take, drop, length, map, filter, Some, None, option_map}
use Rattle.std.specs.List.{list_all, AllByRecursion}
use Rattle.wasi_addr.specs.declared.address.IpSocketAddress.{IpSocketAddress}
use Rattle.wasi_addr.specs.declared.address.SocketAddrUse.{SocketAddrUse}
use Rattle.wasi_world.specs.declared.call.Call.{Call}
use Rattle.wasi_world.specs.declared.call.Call.TheVariants.{Check}
use Rattle.wasi_world.specs.declared.call.Told.{Told}
use Rattle.wasi_world.specs.declared.call.Told.TheVariants.{No}
use Rattle.wasi_world.specs.declared.call.Entry.{Entry}
use Rattle.wasi_world.specs.Seen.{Seen}
use Rattle.wasi_policy.specs.declared.denied.Denied.{Denied}
use Rattle.wasi_policy.specs.declared.rule.Rule.{Rule}
use Rattle.wasi_policy.specs.Decision.{decision}

-- whether the rules deny a call: an address check, for its address and its use
abbrev pub denies : List Rule → Call → Bool
denies rules (Check ctx address asked) = not (decision rules address asked).allow
denies rules _ = false

abbrev pub is_no : Told → Bool
is_no No = true
is_no _ = false

-- a check that the rules deny, told No
abbrev pub is_denied : List Rule → Entry → Bool
is_denied rules e = denies rules e.call && is_no e.answer

-- a call that the rules don't deny
abbrev pub is_handed : List Rule → Entry → Bool
is_handed rules e = not (denies rules e.call)

-- a log with the denied checks put in, each at its place; so many of its entries came before
abbrev pub merged_from : ℕ → List Denied → List Entry → List Entry
merged_from at [] log = log
merged_from at (d ∷ ds) log = take (d.place - at) log ++ d.entry ∷ merged_from d.place ds (drop (d.place - at) log)

abbrev pub merged : List Denied → List Entry → List Entry
merged denied log = merged_from 0 denied log

-- the places rise from the one number to the other
abbrev pub rises : ℕ → List Denied → ℕ → Bool
rises at [] top = nat_le at top
rises at (d ∷ ds) top = nat_le at d.place && rises d.place ds top

-- what is known of a world under rules, by what is known of the one that it hands on to: its log has the denied checks too
abbrev pub seen_under : List Denied → Seen → Seen
seen_under denied inner = record {
  log = option_map (merged denied) inner.log;
  ended = inner.ended;
  closings = inner.closings;
  faults = inner.faults;
  plan = None;
}

-- What holds of a world under rules that handed on so many calls: each was one that the rules don't deny, the others were
-- denied, and each of those has its place among them.
pub record IsUnder (rules : List Rule) (denied : List Denied) (handed : ℕ) (inner : Seen) : Type 0 where
  pub count : (log : List Entry) → inner.log ≡ Some log → length log ≡ handed
  pub places : rises 0 denied handed ≡ true
  pub refused : list_all (λ (d : Denied). is_denied rules d.entry) denied ≡ true
  pub passed : (log : List Entry) → inner.log ≡ Some log → list_all (is_handed rules) log ≡ true

-- An entry keeps the rules: a check that they deny was told No.
abbrev pub Keeps : List Rule → Entry → Type 0
Keeps rules e = denies rules e.call ≡ true → e.answer ≡ No

-- An address that was told yes, or was waited for, is one that the rules allow for that use.
abbrev pub IsAllowed : List Rule → Entry → Type 0
IsAllowed rules e = (ctx : ℕ) (address : IpSocketAddress) (asked : SocketAddrUse) → e.call ≡ Check ctx address asked → (e.answer ≡ No → ⊥) → (decision rules address asked).allow ≡ true

-- The log is the inner one with the denied checks, each at its place. Without the checks that the rules deny it is the inner
-- log, so every other check has the inner world's answer; and each check that they deny was told No.
pub record IsPoliced (rules : List Rule) (denied : List Denied) (inner log : List Entry) : Type 0 where
  pub log_is : log ≡ merged denied inner
  pub handed : filter (is_handed rules) log ≡ inner
  pub refused : filter (λ e. denies rules e.call) log ≡ map (λ (d : Denied). d.entry) denied
  pub keeps : AllByRecursion (Keeps rules) log
  pub allowed : AllByRecursion (IsAllowed rules) log
