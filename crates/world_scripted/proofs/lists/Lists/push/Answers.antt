use Rattle.world_scripted.proofs.Listing.{push_listed, listed_push}
use Rattle.world_scripted.proofs.lists.Lists.push.Goals as goal

pub invariant_of-self-2 : goal.invariant_of-self-2
invariant_of-self-2 c =
    push_listed c.self.inside.queues.items c.place.result c.args.kind c.place.ensures.place c.index_mut-queue.result.now c.self.invariant c.index_mut-queue.ensures.value c.push.new.self c.args.answer c.requires c.in_ok-push.ensures.ok

pub returns-clause-ok : goal.returns-clause-ok
returns-clause-ok c =
    rw (← c.self.view_is) (listed_push c.self.inside.queues.items c.place.result c.args.kind c.place.ensures.place c.index_mut-queue.result.now c.self.invariant c.index_mut-queue.ensures.value c.push.new.self c.args.answer c.in_ok-push.ensures.ok)
