use Rattle.std.proofs.Common.{rules, Ok, Err, subst}
use Rattle.wasi_net.specs.Known.{known_sides}
use Rattle.wasi_net.specs.Answers.{OnMade}
use Rattle.wasi_net.proofs.Results.{if_ok}
use Rattle.wasi_net.proofs.network.Network.create_of.Goals as goal

pub returns-in-Ok-clause-does : goal.returns-in-Ok-clause-does
returns-in-Ok-clause-does g c =
    if_ok _ _ c.made.result
    (λ told h. (Ok c.in-Ok.descriptor.number, subst (λ a. OnMade c.args.family c.args.op c.in-Ok.descriptor.number (known_sides c.args.self.now.sides) told (known_sides c.made.new.self.sides) a (g.S.System.acts c.made.new.self.system)) c.in-Ok.ensures h))
    c.made.ensures.does

pub returns-in-Err-clause-does : goal.returns-in-Err-clause-does
returns-in-Err-clause-does g c = (Err c.in-Err.e, search rules)
