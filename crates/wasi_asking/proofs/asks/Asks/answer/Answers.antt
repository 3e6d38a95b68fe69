use Rattle.wasi_asking.proofs.Searches.{did_answer}
use Rattle.wasi_asking.proofs.asks.Asks.answer.Goals as goal

pub returns-clause-did : goal.returns-clause-did
returns-clause-did c = did_answer c.args.number c.args.yes c.args.self.now.asked.items c.index_mut.result.now
    (rw c.in-Some.is at c.place_under.ensures.bound) (rw c.in-Some.is at c.place_under.ensures.found) c.index_mut.ensures.value
