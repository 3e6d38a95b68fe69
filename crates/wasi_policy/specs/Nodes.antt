-- The first rule of each address and port.
use Rattle.std.specs.Prelude.{◌≡◌, ℕ, ◌≤◌, ◌<◌, ◌+◌, ◌&&◌, min, nat_le, if◌then◌else◌, List, [], ◌∷◌, length, take}
use Rattle.std.specs.List.{slice_index_or}
use Rattle.std.specs.List.Sorted.{IsNonDecreasingBy}
use Rattle.wasi_policy.specs.declared.cells.Cell.{Cell}
use Rattle.wasi_policy.specs.declared.node.Node.{Node}
use Rattle.wasi_policy.specs.declared.reach.Reach.{Reach}
use Rattle.wasi_policy.specs.Reach.{no_rule}
use Rattle.wasi_policy.specs.Cells.{at_port, IsRising}

-- what a port has among the addresses from low to high, if the address is one of them
abbrev pub at_range : ℕ → ℕ → List Cell → ℕ → ℕ → ℕ
at_range low high cells number port =
    if nat_le low number && nat_le number high then at_port no_rule cells port else no_rule

abbrev pub at_node : Node → ℕ → ℕ → ℕ
at_node node number port = at_range node.low node.high node.cells.items number port

-- the least of what the nodes have for an address and a port
abbrev pub at_nodes : List Node → ℕ → ℕ → ℕ
at_nodes [] number port = no_rule
at_nodes (node ∷ nodes) number port = min (at_node node number port) (at_nodes nodes number port)

-- Each node tells how many nodes there are up to the last before it that reaches to its own least address.
abbrev pub IsLinked : List Node → Type 0
IsLinked nodes =
    (k : ℕ) (d : Node) → k < length nodes
    → ((slice_index_or nodes k d).before ≤ k)
    × ((h : ℕ) → (slice_index_or nodes k d).before ≤ h → h < k → (slice_index_or nodes h d).high < (slice_index_or nodes k d).low)

-- For the addresses in it each node tells as much as all nodes up to it, with those before the place that it names.
abbrev pub StandFor : List Node → Type 0
StandFor nodes =
    (k : ℕ) (d : Node) → k < length nodes
    → ((slice_index_or nodes k d).next ≤ k)
    × ((number port : ℕ) → (slice_index_or nodes k d).low ≤ number → number ≤ (slice_index_or nodes k d).high
    → at_nodes (take (k + 1) nodes) number port
    ≡ min (at_node (slice_index_or nodes k d) number port) (at_nodes (take (slice_index_or nodes k d).next nodes) number port))

-- where the next node is that may tell more of an address, which isn't below this node's least
abbrev pub next_for : Node → ℕ → ℕ
next_for node number = if nat_le number node.high then node.next else node.before

-- The nodes stand by their least addresses, each with its links.
pub record IsIndex (nodes : List Node) : Type 0 where
  pub rising : IsNonDecreasingBy (λ (node : Node). node.low) nodes
  pub linked : IsLinked nodes
  pub gathered : StandFor nodes

-- They begin at or before a number.
abbrev pub BeginBy : List Node → ℕ → Type 0
BeginBy nodes number = (k : ℕ) (d : Node) → k < length nodes → (slice_index_or nodes k d).low ≤ number

-- The cells have what the node's own have, and what the nodes from one place up to another have, for addresses that all of
-- these begin by, up to a greatest.
pub record Gathers (nodes : List Node) (high before : ℕ) (own : List Cell) (next : ℕ) (cells : List Cell) : Type 0 where
  pub rising : IsRising cells
  pub bound : next ≤ before
  pub more : (port : ℕ) → at_port no_rule cells port ≤ at_port no_rule own port
  pub same : (number port : ℕ) → BeginBy nodes number → number ≤ high
      → min (at_port no_rule cells port) (at_nodes (take next nodes) number port)
      ≡ min (at_port no_rule own port) (at_nodes (take before nodes) number port)

-- The first so many match the same addresses.
abbrev pub AreAlike : List Reach → ℕ → Type 0
AreAlike reaches count =
    (k : ℕ) (d : Reach) → k < count
    → ((slice_index_or reaches k d).low ≡ (slice_index_or reaches 0 d).low) × ((slice_index_or reaches k d).high ≡ (slice_index_or reaches 0 d).high)
