use Rattle.std.proofs.Common.{Some, refl, ap, ◌∙◌, sym}
use Rattle.wasi_table.specs.Table.{without}
use Rattle.wasi_table.specs.Keys.{live_of}
use Rattle.wasi_table.proofs.Leads.{has_slot, is_filled, is_live, is_dead, not_dead, named_found, value_found, children_found}
use Rattle.wasi_table.proofs.Outs.{out_live, out_sound}
use Rattle.wasi_table.proofs.table.Table.delete.Goals as goal

pub returns-in_default-clause-missing : goal.returns-in_default-clause-missing
returns-in_default-clause-missing g c = rw (← c.self.view_is) (λ e. is_dead _ _ _ _ c.self.invariant (sym c.in_default.ensures), λ none. refl)

pub returns-in_default-clause-has_children : goal.returns-in_default-clause-has_children
returns-in_default-clause-has_children g c =
    let dead = is_dead _ _ _ _ c.self.invariant (sym c.in_default.ensures) in rw (← c.self.view_is) (λ e. absurd (cc), λ h. absurd (let live = rw dead at h.0 in cc))

pub index-requires : goal.index-requires
index-requires g c = has_slot _ _ _ _ _ c.self.invariant (sym c.in-Some.ensures)

pub returns-then-not-is_empty-clause-missing : goal.returns-then-not-is_empty-clause-missing
returns-then-not-is_empty-clause-missing g c = rw (← c.self.view_is) (λ e. absurd (cc), λ none. absurd (not_dead _ _ _ _ _ c.self.invariant (sym c.in-Some.ensures) none))

pub returns-then-not-is_empty-clause-has_children : goal.returns-then-not-is_empty-clause-has_children
returns-then-not-is_empty-clause-has_children g c =
    let listed = children_found _ _ _ _ _ _ c.self.invariant (sym c.in-Some.ensures) c.index.ensures in
    rw (← c.self.view_is) (λ e. (is_live _ _ _ _ _ c.self.invariant (sym c.in-Some.ensures), λ none. (let t = c.if-not-is_empty.ensures.1 (listed ∙ none) in cc)), λ h. refl)

pub take_out-requires-clause-filled : goal.take_out-requires-clause-filled
take_out-requires-clause-filled g c = is_filled _ _ _ c.self.invariant

pub invariant_of-self : goal.invariant_of-self
invariant_of-self g c = out_sound _ _ _ _ _ _ _ c.take_out.ensures c.self.invariant

pub returns-clause-value : goal.returns-clause-value
returns-clause-value g c =
    rw (← c.self.view_is) (value_found _ _ _ _ _ _ c.self.invariant (sym c.in-Some.ensures) c.take_out.ensures.was ∙ ap (λ v. Some v) c.take_out.ensures.held)

pub returns-clause-childless : goal.returns-clause-childless
returns-clause-childless g c =
    let listed = children_found _ _ _ _ _ _ c.self.invariant (sym c.in-Some.ensures) c.index.ensures in
    rw (← c.self.view_is) (sym listed ∙ c.if-not-is_empty.ensures.0 refl)

pub returns-clause-gone : goal.returns-clause-gone
returns-clause-gone g c =
    let named = named_found _ _ _ _ _ _ c.self.invariant (sym c.in-Some.ensures) c.take_out.ensures.was in
    let live = out_live _ _ _ _ _ _ _ c.take_out.ensures c.self.invariant ∙ ap (without (live_of c.self.inside.keys c.self.inside.slots)) named in
    rw (← c.self.view_is) (ap (λ l. record { next = c.self.inside.next; live = l }) live)

pub returns-clause-missing : goal.returns-clause-missing
returns-clause-missing g c = rw (← c.self.view_is) (λ e. absurd (cc), λ none. absurd (not_dead _ _ _ _ _ c.self.invariant (sym c.in-Some.ensures) none))

pub returns-clause-has_children : goal.returns-clause-has_children
returns-clause-has_children g c =
    let listed = children_found _ _ _ _ _ _ c.self.invariant (sym c.in-Some.ensures) c.index.ensures in
    rw (← c.self.view_is) (λ e. absurd (cc), λ h. absurd (h.1 (sym listed ∙ c.if-not-is_empty.ensures.0 refl)))
