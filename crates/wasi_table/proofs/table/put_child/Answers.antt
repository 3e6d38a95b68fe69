use Rattle.std.proofs.Common.{◌≡◌, ℕ, List, Option, Some, ap, ◌∙◌, sym}
use Rattle.std.specs.Option.{option_map}
use Rattle.std.specs.Ordering.{nat_cmp}
use Rattle.std.specs.BTreeMap.{is_at}
use Rattle.std.specs.BTreeSet.{insert_key}
use Rattle.std.specs.Map.{remove_entry}
use Rattle.slab.specs.Slab.{Slab, get}
use Rattle.wasi_table.specs.declared.slot.Slot.{Slot}
use Rattle.wasi_table.specs.Keys.{IsLed, relisted}
use Rattle.wasi_table.proofs.Leads.{one_slot}
use Rattle.wasi_table.proofs.Puts.{undone}
use Rattle.wasi_table.proofs.Stays.{relisted_at, same_children}
use Rattle.wasi_table.proofs.table.put_child.Goals as goal

pub returns-in-Err-clause-err : goal.returns-in-Err-clause-err
returns-in-Err-clause-err g c =
    record {
      slots = λ k. same_children c.reserve.new.self _ _ _ c.index_mut.ensures.value c.in-Err.ensures.err k ∙ ap (λ (s : Slab (Slot g.row.K.Denot)). get s k) c.reserve.ensures.rest_kept;
      entries = c.remove.ensures.entries ∙ ap (remove_entry (is_at (nat_cmp c.args.slot.handle))) c.in_ok-insert.ensures.entries ∙ undone _ _ _ c.requires.fresh;
    }

pub returns-clause-ok : goal.returns-clause-ok
returns-clause-ok g c =
    let same : (k : ℕ) → get c.reserve.new.self k ≡ get c.args.slots.now k = λ k. ap (λ (s : Slab (Slot g.row.K.Denot)). get s k) c.reserve.ensures.rest_kept in
    let key = c.insert_reserved.ensures.key ∙ sym c.vacant_key.ensures.value in
    let put = rw key at c.insert_reserved.ensures.updates in
    let parent = c.requires.parent in
    let it = one_slot c.args.slots.now c.args.at c.index_mut.result.now parent.0 (sym (same c.args.at) ∙ c.index_mut.ensures.value) parent.1 in
    let led : IsLed c.args.keys.now c.reserve.new.self = λ k x f. c.requires.led k x (sym (same k) ∙ f) in
    let change : List ℕ → List ℕ = λ ids. insert_key nat_cmp ids c.args.slot.handle in
    record {
      key = c.vacant_key.result;
      vacant = sym (same c.vacant_key.result) ∙ c.vacant_key.ensures.vacant;
      there = put.changed;
      others = λ k other.
          put.others k other
          ∙ relisted_at c.args.keys.now c.reserve.new.self c.args.at parent.0.handle c.index_mut.result.now c.add.new.self change led c.index_mut.ensures.value (ap (λ (z : Slot g.row.K.Denot). z.handle) it) c.in_default.ensures.ok k
          ∙ ap (λ (o : Option (Slot g.row.K.Denot)). option_map (relisted change (Some parent.0.handle)) o) (same k)
          ∙ ap (λ (q : Option ℕ). option_map (relisted change q) (get c.args.slots.now k)) (sym parent.2);
      entries = c.in_ok-insert.ensures.entries;
      found = c.in_ok-insert.ensures.found;
    }
