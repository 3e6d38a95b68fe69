use Rattle.std.proofs.Common.{◌++◌, [], ◌∷◌, ◌∙◌, sym, subst}
use Rattle.wasi_host.specs.declared.polling.Found.TheInside.{Inside}
use Rattle.wasi_host.specs.FoundMap.{KeepsFirst}
use Rattle.wasi_host.proofs.FoundMaps.{keeps_again, keeps_more}
use Rattle.wasi_host.proofs.polling.Found.push.Goals.{then-not-contains_key+in_ok-insert, else-not-contains_key}
use Rattle.wasi_host.proofs.polling.Found.push.Goals as goal

pub invariant_of-self-2 : goal.invariant_of-self-2
invariant_of-self-2 c =
    let so = λ (i : Inside). KeepsFirst (i.looks.items ++ (c.args.pollable, c.args.ready) ∷ []) i.first.entries in
    let came : so c.if-not-contains_key.self-inside =
    elim c.if-not-contains_key.branch [
      | then-not-contains_key+in_ok-insert w ↦ subst so (sym w.self-inside-is) (rw c.reserve.ensures.items (keeps_more _ c.self.inside.first.entries _ c.args.pollable c.args.ready c.self.invariant (sym c.contains_key.ensures ∙ w.if-not-contains_key.true) w.in_ok-insert.ensures.updates.0))
      | else-not-contains_key w ↦ subst so (sym w.self-inside-is) (rw c.reserve.ensures.items (keeps_again _ _ c.args.pollable c.args.ready c.self.invariant (sym c.contains_key.ensures ∙ w.if-not-contains_key.false)))
    ] in
    rw c.push_reserved.ensures.items came
