use Rattle.std.proofs.Common.{◌≡◌, [], replicate}
use Rattle.world_scripted.proofs.lists.Lists.new.Given as goal

abbrev pub invariant-loop : goal.invariant-loop
invariant-loop l = l.queues.items ≡ replicate l.counter (record { all = []; left = [] })
