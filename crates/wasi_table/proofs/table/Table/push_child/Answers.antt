use Rattle.std.proofs.Common.{◌+◌, Some, refl, ap, ◌∙◌, sym}
use Rattle.wasi_table.proofs.Leads.{leads, none_next, key_below, is_live, is_dead, not_dead}
use Rattle.wasi_table.proofs.Puts.{put_live, put_sound}
use Rattle.wasi_table.proofs.Stays.{kept}
use Rattle.wasi_table.proofs.table.Table.push_child.Goals as goal

pub returns-in_default-clause-missing : goal.returns-in_default-clause-missing
returns-in_default-clause-missing g c = rw (← c.self.view_is) (λ e. is_dead _ _ _ _ c.self.invariant (sym c.in_default.ensures), λ none. refl)

pub returns-in_default-clause-full : goal.returns-in_default-clause-full
returns-in_default-clause-full g c =
    let dead = is_dead _ _ _ _ c.self.invariant (sym c.in_default.ensures) in rw (← c.self.view_is) (λ e. absurd (cc), λ h. absurd (let live = rw dead at h.0 in cc))

pub returns-then-is_full-clause-missing : goal.returns-then-is_full-clause-missing
returns-then-is_full-clause-missing g c = rw (← c.self.view_is) (λ e. absurd (cc), λ none. absurd (not_dead _ _ _ _ _ c.self.invariant (sym c.in-Some.ensures) none))

pub returns-then-is_full-clause-full : goal.returns-then-is_full-clause-full
returns-then-is_full-clause-full g c =
    let full = rw (← c.self.view_is) at (sym c.if-is_full.ensures.full) in
    rw (← c.self.view_is) (λ e. (is_live _ _ _ _ _ c.self.invariant (sym c.in-Some.ensures), full), λ h. refl)

pub put_child-requires-clause-parent : goal.put_child-requires-clause-parent
put_child-requires-clause-parent g c =
    let l = leads _ _ _ _ _ _ c.self.invariant.matches (sym c.in-Some.ensures) in rw c.new-slot.ensures (l.slot, l.stands, ap (λ n. Some n) (sym l.named))

pub put_child-requires-clause-fresh : goal.put_child-requires-clause-fresh
put_child-requires-clause-fresh g c = rw c.new-slot.ensures (none_next _ _ _ _ c.self.invariant.matches)

pub invariant_of-self : goal.invariant_of-self
invariant_of-self g c = let k = kept _ _ _ _ _ c.in-Err.ensures.err c.self.invariant in k.0

pub invariant_of-self-in-Ok : goal.invariant_of-self-in-Ok
invariant_of-self-in-Ok g c =
    let put = rw c.new-slot.ensures at c.in-Ok.ensures.ok in
    let below = key_below _ _ _ _ _ _ c.self.invariant.matches (sym c.in-Some.ensures) in
    rw c.take_number.ensures.risen (put_sound _ _ _ _ _ put c.self.invariant refl below)

pub returns-in-Err-clause-err : goal.returns-in-Err-clause-err
returns-in-Err-clause-err g c =
    let k = kept _ _ _ _ _ c.in-Err.ensures.err c.self.invariant in ap (λ live. record { next = c.self.inside.next; live = live }) k.1 ∙ c.self.view_is

pub returns-in-Err-clause-missing : goal.returns-in-Err-clause-missing
returns-in-Err-clause-missing g c = rw (← c.self.view_is) (λ e. absurd (cc), λ none. absurd (not_dead _ _ _ _ _ c.self.invariant (sym c.in-Some.ensures) none))

pub returns-in-Ok-clause-ok : goal.returns-in-Ok-clause-ok
returns-in-Ok-clause-ok g c =
    let put = rw c.new-slot.ensures at c.in-Ok.ensures.ok in
    let below = key_below _ _ _ _ _ _ c.self.invariant.matches (sym c.in-Some.ensures) in
    let live = put_live _ _ _ _ _ put c.self.invariant refl below in
    rw (← c.self.view_is, c.take_number.ensures.risen) (c.take_number.ensures.number, ap (λ l. record { next = c.self.inside.next + 1; live = l }) live)

pub returns-in-Ok-clause-fresh : goal.returns-in-Ok-clause-fresh
returns-in-Ok-clause-fresh g c = rw (← c.self.view_is) (is_dead _ _ _ _ c.self.invariant (none_next _ _ _ _ c.self.invariant.matches))

pub returns-in-Ok-clause-missing : goal.returns-in-Ok-clause-missing
returns-in-Ok-clause-missing g c = rw (← c.self.view_is) (λ e. absurd (cc), λ none. absurd (not_dead _ _ _ _ _ c.self.invariant (sym c.in-Some.ensures) none))
