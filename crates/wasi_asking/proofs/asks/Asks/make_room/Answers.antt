use Rattle.std.proofs.Common.{arith, rules}
use Rattle.std.proofs.lemmas.Fn.{filter_same}
use Rattle.wasi_asking.proofs.Searches.{gave_way}
use Rattle.wasi_asking.proofs.asks.Asks.make_room.Goals as goal

pub returns-then-len-self-clause-kept : goal.returns-then-len-self-clause-kept
returns-then-len-self-clause-kept c = gave_way c.args.self.now.most c.args.self.now.asked.items c.retain.new.self.items
    (grind (arith, c.if-len-self.true, c.len.ensures, c.args.self.now.asked.ok))
    (filter_same _ _ _ (λ x b f' k. search rules) _ _ c.retain.ensures.filtered)
