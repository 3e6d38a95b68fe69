use Rattle.std.proofs.Common.{◌≡◌, filter, rules, ◌∙◌}
use Rattle.std.proofs.lemmas.Fn.{filter_same}
use Rattle.std.proofs.lemmas.List.{with_items_is, places}
use Rattle.wasi_relay.specs.OpenPairs.{is_open_at}
use Rattle.wasi_relay.proofs.pairs.PairList.serve_each.Goals as goal

pub invariant_of-self : goal.invariant_of-self
invariant_of-self g c =
    let now : c.as_slice-pairs.result.now ≡ c.serve_open-moved.new.pairs = c.as_slice-pairs.ensures.value ∙ with_items_is c.self.inside.all c.serve_open-moved.new.pairs (search (rules, places)) in
    let kept : c.retain.new.self.items ≡ filter (is_open_at c.as_slice-pairs.result.now) c.self.inside.open.items = filter_same _ _ _ (λ x b f' k. search rules) _ _ c.retain.ensures.filtered in
    rw (← c.as_slice-pairs.ensures.value, now) (rw now at kept ∙ rw c.as_slice.ensures.value at c.serve_open-moved.ensures.open)
