use Rattle.std.proofs.Common.{refl}
use Rattle.wasi_session.proofs.Steps.{did_none}
use Rattle.wasi_session.proofs.session.Session.new.Goals as goal

pub returns-clause-did : goal.returns-clause-did
returns-clause-did g c = did_none c.args.contexts.items c.new.result.machine c.new.result.lines (g.W.World.seen c.args.world) (g.W.World.seen c.args.world) c.new.ensures.machine c.new.ensures.lines refl
