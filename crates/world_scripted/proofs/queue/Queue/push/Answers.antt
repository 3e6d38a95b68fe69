use Rattle.std.proofs.Common.{arith}
use Rattle.std.proofs.lemmas.List.{length-append}
use Rattle.world_scripted.proofs.Queues.{left_push, still_has_front}
use Rattle.world_scripted.proofs.queue.Queue.push.Goals as goal

pub invariant_of-self-2 : goal.invariant_of-self-2
invariant_of-self-2 c =
    rw c.in_ok-push.ensures.items (simp length-append (omega arith), still_has_front _ _ _ _ c.self.invariant.0 c.self.invariant.1)

pub returns-clause-ok : goal.returns-clause-ok
returns-clause-ok c =
    rw (c.in_ok-push.ensures.items, ← c.self.view_is, left_push _ _ _ c.args.answer c.self.invariant.0 c.self.invariant.1)
