use Rattle.std.proofs.Common.{◌≡◌, refl, sym, length, rules}
use Rattle.wasi_relay.specs.Pair.{first_pair}
use Rattle.wasi_relay.proofs.OpenPairs.{open_more}
use Rattle.wasi_relay.proofs.pairs.PairList.push_reserved.Goals as goal

pub invariant_of-self : goal.invariant_of-self
invariant_of-self c =
    let many : c.len.result ≡ length c.self.inside.all.items = search rules in
    rw (c.push_reserved.ensures.items, c.push_reserved-2.ensures.items, c.new.ensures, many, c.self.invariant)
    (sym (open_more c.self.inside.all.items (first_pair c.args.client c.args.target) refl))
