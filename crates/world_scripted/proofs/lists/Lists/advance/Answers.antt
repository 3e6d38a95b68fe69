use Rattle.world_scripted.proofs.Listing.{advance_listed, listed_advance}
use Rattle.world_scripted.proofs.lists.Lists.advance.Goals as goal

pub invariant_of-self : goal.invariant_of-self
invariant_of-self c =
    advance_listed c.self.inside.queues.items c.place.result c.in-Some.kind c.place.ensures.place c.index_mut-queue.result.now c.self.invariant c.index_mut-queue.ensures.value c.advance.new.self c.args.call.now c.advance.ensures

pub returns-in-Some : goal.returns-in-Some
returns-in-Some c =
    rw (← c.self.view_is) (listed_advance c.self.inside.queues.items c.place.result c.in-Some.kind c.place.ensures.place c.index_mut-queue.result.now c.self.invariant c.index_mut-queue.ensures.value c.advance.new.self c.args.call.now c.in-Some.ensures c.advance.ensures)
