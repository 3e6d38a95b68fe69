use Rattle.std.proofs.Common.{◌+◌, refl, ap, ◌∙◌}
use Rattle.wasi_table.proofs.Leads.{none_next, is_dead}
use Rattle.wasi_table.proofs.Puts.{put_live, put_sound}
use Rattle.wasi_table.proofs.Stays.{kept}
use Rattle.wasi_table.proofs.table.Table.push.Goals as goal

pub invariant_of-self : goal.invariant_of-self
invariant_of-self g c = let k = kept _ _ _ _ _ c.in-Err.ensures.err c.self.invariant in k.0

pub invariant_of-self-in-Ok : goal.invariant_of-self-in-Ok
invariant_of-self-in-Ok g c =
    let put = rw c.new-slot.ensures at c.in-Ok.ensures.ok in
    rw c.take_number.ensures.risen (put_sound _ _ _ _ _ put c.self.invariant refl tt)

pub returns-in-Err-clause-err : goal.returns-in-Err-clause-err
returns-in-Err-clause-err g c =
    let k = kept _ _ _ _ _ c.in-Err.ensures.err c.self.invariant in ap (λ live. record { next = c.self.inside.next; live = live }) k.1 ∙ c.self.view_is

pub returns-in-Ok-clause-ok : goal.returns-in-Ok-clause-ok
returns-in-Ok-clause-ok g c =
    let put = rw c.new-slot.ensures at c.in-Ok.ensures.ok in
    let live = put_live _ _ _ _ _ put c.self.invariant refl tt in
    rw (← c.self.view_is, c.take_number.ensures.risen) (c.take_number.ensures.number, ap (λ l. record { next = c.self.inside.next + 1; live = l }) live)

pub returns-in-Ok-clause-fresh : goal.returns-in-Ok-clause-fresh
returns-in-Ok-clause-fresh g c = rw (← c.self.view_is) (is_dead _ _ _ _ c.self.invariant (none_next _ _ _ _ c.self.invariant.matches))
