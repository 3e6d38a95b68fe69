use Rattle.std.proofs.Common.{◌≡◌, ap, length, ◌∙◌, rules}
use Rattle.wasi_relay.proofs.OpenPairs.{open_count}
use Rattle.wasi_relay.proofs.pairs.PairList.open_count.Goals as goal

pub returns : goal.returns
returns c =
    let many : c.len.result ≡ length c.self.inside.open.items = search rules in
    rw (← c.self.view_is) (many ∙ ap length c.self.invariant ∙ open_count c.self.inside.all.items)
