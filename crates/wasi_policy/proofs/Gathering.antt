-- The cells of a node with those of nodes round it.
use Rattle.std.specs.Prelude.{nat_le, min, ◌&&◌}
use Rattle.std.proofs.Common.{◌≡◌, ℕ, ◌+◌, ◌-◌, ◌≤◌, ◌<◌, Bool, true, List, length, take, get_or, arith, ap, sym, ◌∙◌, refl}
use Rattle.std.proofs.lemmas.Bool.{and_parts}
use Rattle.std.proofs.lemmas.List.{get_or_default}
use Rattle.std.proofs.lemmas.Bool.Decides.{nat_tests}
use Rattle.wasi_policy.specs.declared.cells.Cell.{Cell}
use Rattle.wasi_policy.specs.declared.node.Node.{Node}
use Rattle.wasi_policy.specs.Reach.{no_rule}
use Rattle.wasi_policy.specs.Cells.{at_port, merged_cells, IsRising}
use Rattle.wasi_policy.specs.Nodes.{at_node, at_nodes, IsIndex, Gathers}
use Rattle.wasi_policy.proofs.FirstCells.{merged_at, merged_rises}

-- its own cells alone
pub gathers_none : (nodes : List Node) (high before : ℕ) (own : List Cell) → IsRising own → Gathers nodes high before own before own
gathers_none nodes high before own rising = record {
  rising = rising;
  bound = omega arith;
  more = λ port. omega arith;
  same = λ number port begun below. refl;
}

-- those of one more node, which was seen to hold the addresses
pub gathers_one : (nodes : List Node) (high before at : ℕ) (own cells : List Cell) (seen node : Node) (small : Bool) → IsIndex nodes → before ≤ length nodes → 0 < at → seen ≡ get_or nodes (at - 1) seen → node ≡ get_or nodes (at - 1) node → (nat_le high seen.high && small) ≡ true → Gathers nodes high before own at cells → Gathers nodes high before own node.next (merged_cells no_rule no_rule cells node.cells.items)
gathers_one nodes high before at own cells seen node small index bound some was is joins done =
    let inside : at - 1 < length nodes = omega (arith, some, done.bound, bound) in
    let same : seen ≡ node = was ∙ (get_or_default nodes (at - 1) seen node inside ∙ sym is) in
    let reaches : nat_le high seen.high ≡ true = (and_parts (nat_le high seen.high) small joins).0 in
    let below_seen : high ≤ seen.high = grind (arith, nat_tests) in
    let holds : high ≤ node.high = omega (arith, below_seen, ap (λ (x : Node). x.high) same) in
    let stands = index.gathered (at - 1) node inside in
    let next : node.next ≡ (get_or nodes (at - 1) node).next = ap (λ (x : Node). x.next) is in
    record {
      rising = merged_rises no_rule no_rule 0 cells node.cells.items done.rising node.rising;
      bound = omega (arith, next, stands.0, done.bound, some);
      more = λ port. less (at_port no_rule cells port) (at_port no_rule node.cells.items port) (at_port no_rule own port) (at_port no_rule (merged_cells no_rule no_rule cells node.cells.items) port) (merged_at no_rule no_rule cells node.cells.items port) (done.more port);
      same = λ number port begun below.
          let low : (get_or nodes (at - 1) node).low ≤ number = begun (at - 1) node inside in
          let upto : number ≤ (get_or nodes (at - 1) node).high = omega (arith, below, holds, ap (λ (x : Node). x.high) is) in
          let place : at - 1 + 1 ≡ at = omega (arith, some) in
          let here : at_nodes (take at nodes) number port ≡ min (at_node node number port) (at_nodes (take node.next nodes) number port) =
          ap (λ k. at_nodes (take k nodes) number port) (sym place)
          ∙ (stands.1 number port low upto ∙ ap (λ (x : Node). min (at_node x number port) (at_nodes (take x.next nodes) number port)) (sym is)) in
          let its : at_node node number port ≡ at_port no_rule node.cells.items port = in_it number port (omega (arith, low, ap (λ (x : Node). x.low) is)) (omega (arith, below, holds)) in
          all_of (at_port no_rule cells port) (at_port no_rule node.cells.items port) (at_node node number port) (at_nodes (take node.next nodes) number port) (at_nodes (take at nodes) number port) (at_port no_rule (merged_cells no_rule no_rule cells node.cells.items) port) (min (at_port no_rule own port) (at_nodes (take before nodes) number port)) (merged_at no_rule no_rule cells node.cells.items port) its here (done.same number port begun below);
    }
  where
    less : (a b own both : ℕ) → both ≡ min a b → a ≤ own → both ≤ own
    less a b own both e f = omega (arith, e, f)

    in_it : (number port : ℕ) → node.low ≤ number → number ≤ node.high → at_node node number port ≡ at_port no_rule node.cells.items port
    in_it number port low high =
        let begins : nat_le node.low number ≡ true = grind (arith, nat_tests) in
        let reaches : nat_le number node.high ≡ true = grind (arith, nat_tests) in
        rw (begins, reaches) refl

    all_of : (mine its here next at both all : ℕ) → both ≡ min mine its → here ≡ its → at ≡ min here next → min mine at ≡ all → min both next ≡ all
    all_of mine its here next at both all e f g h = omega (arith, e, f, g, h)
