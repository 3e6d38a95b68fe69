use Rattle.world_scripted.proofs.sides.keep_change.Goals as goal

pub returns-clause-ok : goal.returns-clause-ok
returns-clause-ok c = rw (← c.in-Some.ensures) c.put.ensures.ok
