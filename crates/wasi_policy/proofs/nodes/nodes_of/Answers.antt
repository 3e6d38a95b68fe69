use Rattle.std.proofs.Common.{rules, ap, ◌∙◌}
use Rattle.std.proofs.lemmas.List.Sorted.{IsNonDecreasingBy-from_sort_by_key, IsPermutation-trans}
use Rattle.wasi_policy.specs.declared.reach.Reach.{Reach}
use Rattle.wasi_policy.specs.Reach.{first_of}
use Rattle.wasi_policy.proofs.FirstCells.{then_ok}
use Rattle.wasi_policy.proofs.NodeLaws.{first_in_order}
use Rattle.wasi_policy.proofs.nodes.nodes_of.Goals as goal

pub nodes_by_low-requires : goal.nodes_by_low-requires
nodes_by_low-requires c = record { rising = rw c.as_slice.ensures.value (IsNonDecreasingBy-from_sort_by_key (λ (r : Reach). r.low) _ c.in_ok-sort_by_key-2.ensures.sorted (λ a r q k. search rules)) }

pub returns-clause-first : goal.returns-clause-first
returns-clause-first c =
    let moved = IsPermutation-trans _ _ _ c.in_ok-sort_by_key.ensures.permutation c.in_ok-sort_by_key-2.ensures.permutation in
    then_ok c.nodes_by_low.result c.nodes_by_low.ensures.first (λ nodes is number port. is number port ∙ (ap (λ xs. first_of xs number port) c.as_slice.ensures.value ∙ first_in_order number port _ _ moved))
