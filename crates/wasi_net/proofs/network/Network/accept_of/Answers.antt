use Rattle.std.proofs.Common.{rules, ◌≡◌, Ok, Err, refl, ap, subst, ◌∙◌, to_z, of_z, w32}
use Rattle.wasi_net.specs.Known.{known_sides}
use Rattle.wasi_net.specs.Acts.{Accept, after}
use Rattle.wasi_net.specs.Answers.{OnArrival}
use Rattle.wasi_net.proofs.Results.{if_ok}
use Rattle.wasi_net.proofs.network.Network.accept_of.Goals as goal

pub returns-in-Ok-clause-does : goal.returns-in-Ok-clause-does
returns-in-Ok-clause-does g c =
    let made = c.in-Ok.descriptor.number in
    let asked : g.S.System.acts c.accept.new.self ≡ after (Accept c.args.fd (Ok made)) (g.S.System.acts c.args.self.now.system) = search rules in
    if_ok _ _ c.arrive.result
    (λ told h. (Ok made, subst (λ a. OnArrival c.args.family c.args.op made (known_sides c.args.self.now.sides) told (known_sides c.arrive.new.self.sides) a (g.S.System.acts c.arrive.new.self.system)) asked h))
    c.arrive.ensures.arrives

pub returns-in-Err-clause-does : goal.returns-in-Err-clause-does
returns-in-Err-clause-does g c =
    let passed : to_z w32 (of_z w32 c.args.fd) ≡ c.args.fd = search rules in
    (Err c.in-Err.e, (search rules, (λ name. refl), c.in-Err.ensures ∙ ap (λ fd. after (Accept fd (Err c.in-Err.e)) (g.S.System.acts c.args.self.now.system)) passed))
