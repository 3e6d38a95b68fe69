use Rattle.std.proofs.Common.{ap, refl, ◌∙◌, sym}
use Rattle.wasi_table.proofs.Leads.{has_key, has_slot, value_found}
use Rattle.wasi_table.proofs.Writes.{written}
use Rattle.wasi_table.proofs.table.Table.value_mut.Goals as goal

pub unwrap-key-requires : goal.unwrap-key-requires
unwrap-key-requires g c = rw c.key_of.ensures (has_key _ _ _ _ c.self.invariant (rw (← c.self.view_is) at c.requires))

pub index_mut-requires : goal.index_mut-requires
index_mut-requires g c = has_slot _ _ _ _ _ c.self.invariant (sym c.key_of.ensures ∙ c.unwrap-key.ensures)

pub invariant_of-self-lent : goal.invariant_of-self-lent
invariant_of-self-lent g c w = let r = written _ _ _ _ _ _ w c.self.invariant (sym c.key_of.ensures ∙ c.unwrap-key.ensures) c.index_mut.ensures.value in r.0

pub returns : goal.returns
returns g c = (
  (
    refl,
    λ w. (let r = written _ _ _ _ _ _ w c.self.invariant (sym c.key_of.ensures ∙ c.unwrap-key.ensures) c.index_mut.ensures.value in
        rw (← c.self.view_is) (ap (λ live. record { next = c.self.inside.next; live = live }) r.1)),
  ),
  record { lends = tt; found = rw (← c.self.view_is) (value_found _ _ _ _ _ _ c.self.invariant (sym c.key_of.ensures ∙ c.unwrap-key.ensures) c.index_mut.ensures.value) },
)
