use Rattle.std.proofs.Common.{refl, ap, ◌∙◌}
use Rattle.std.specs.Option.{option_map}
use Rattle.std.specs.Ordering.{nat_cmp}
use Rattle.std.specs.BTreeMap.{is_at}
use Rattle.std.specs.Set.{remove_key}
use Rattle.wasi_table.specs.Keys.{relisted}
use Rattle.wasi_table.proofs.Outs.{filled_out}
use Rattle.wasi_table.proofs.table.take_out.Goals as goal

pub forget_child-requires-clause-filled : goal.forget_child-requires-clause-filled
forget_child-requires-clause-filled g c = filled_out _ _ _ _ _ _ c.requires.filled c.remove-handle.ensures.value c.remove-handle.ensures.updates c.remove.ensures.found

pub returns : goal.returns
returns g c =
    let change = relisted {K = g.row.K.Denot} (remove_key (is_at (nat_cmp c.remove-handle.result.handle))) c.remove-handle.result.parent in
    record {
      slot = c.remove-handle.result;
      was = c.remove-handle.ensures.value;
      held = refl;
      gone = c.forget_child.ensures c.args.key ∙ ap (option_map change) c.remove-handle.ensures.updates.changed;
      others = λ k other. c.forget_child.ensures k ∙ ap (option_map change) (c.remove-handle.ensures.updates.others k other);
      entries = c.remove.ensures.entries;
      found = c.remove.ensures.found;
    }
