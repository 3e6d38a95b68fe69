use Rattle.world_scripted.proofs.Listing.{told_fits}
use Rattle.world_scripted.proofs.lists.Lists.tell.Goals as goal

pub returns-in-Some-clause-fits : goal.returns-in-Some-clause-fits
returns-in-Some-clause-fits c =
    told_fits c.self.inside.queues.items c.place.result c.in-Some.kind c.place.ensures.place c.index.result.now c.self.invariant c.index.ensures c.args.call.now c.tell.result c.in-Some.ensures c.requires.some c.tell.ensures.told
