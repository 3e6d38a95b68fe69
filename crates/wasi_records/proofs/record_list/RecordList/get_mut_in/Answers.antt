use Rattle.std.proofs.Common.{inr, sym, ap, ◌∙◌}
use Rattle.wasi_records.specs.Numbered.{Numbered, or_gone}
use Rattle.wasi_records.proofs.Counts.{leaves, counted_written}
use Rattle.wasi_records.proofs.RecordMaps.{item, item_in, named_in, lent, same_lend, sound_written}
use Rattle.wasi_records.proofs.record_list.RecordList.get_mut_in.Goals as goal

pub settle-requires-clause-led : goal.settle-requires-clause-led
settle-requires-clause-led c = c.self.invariant.0.led

pub settle-requires-clause-counted : goal.settle-requires-clause-counted
settle-requires-clause-counted c = leaves c.self.inside.slots c.self.inside.keys c.self.inside.next c.self.invariant.0 c.self.inside.totals c.self.inside.lent c.args.place c.self.invariant.1

pub invariant_of-self-lent : goal.invariant_of-self-lent
invariant_of-self-lent c w =
    let named = named_in c.self.inside.slots c.in_ok-found.found c.args.place c.index_mut.result.now c.in_ok-found.ensures.found c.index_mut.ensures.value in (
      sound_written c.self.inside.slots c.self.inside.keys c.self.inside.next c.self.invariant.0 c.in_ok-found.found c.index_mut.result.now w c.index_mut.ensures.value,
      counted_written c.self.inside.slots c.self.inside.keys c.self.inside.next c.self.invariant.0 c.self.inside.totals c.settle.new.totals c.self.inside.lent c.args.place c.in_ok-found.found c.index_mut.result.now w c.index_mut.ensures.value named c.self.invariant.1 c.settle.ensures,
    )

pub returns-in_err-found : goal.returns-in_err-found
returns-in_err-found c =
    rw c.from_residual.ensures (
      ap (λ (v : Numbered). inr v) c.self.view_is,
      record {
        writes_back = tt;
        item = rw (← c.self.view_is) (sym (ap or_gone c.in_err-found.ensures.none) ∙ item c.self.inside.slots c.self.inside.keys c.self.inside.next c.self.invariant.0 c.args.place);
      },
    )

pub returns : goal.returns
returns c =
    let named = named_in c.self.inside.slots c.in_ok-found.found c.args.place c.index_mut.result.now c.in_ok-found.ensures.found c.index_mut.ensures.value in (
      same_lend _ _ _ (λ w. rw (← c.self.view_is) (lent c.self.inside.slots c.self.inside.keys c.self.inside.next c.self.invariant.0 c.in_ok-found.found c.index_mut.result.now w c.index_mut.ensures.value c.args.place named)),
      record {
        writes_back = tt;
        item = rw (← c.self.view_is) (
            ap or_gone (item_in c.self.inside.slots c.self.inside.keys c.self.inside.next c.self.invariant.0 c.in_ok-found.found c.args.place c.index_mut.result.now c.index_mut.ensures.value named)
            ∙ item c.self.inside.slots c.self.inside.keys c.self.inside.next c.self.invariant.0 c.args.place
            );
      },
    )
