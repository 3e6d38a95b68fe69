use Rattle.std.proofs.Common.{Some, None, refl, sym, ◌∙◌}
use Rattle.wasi_records.specs.Records.{with_stored}
use Rattle.wasi_records.proofs.RecordLends.{lent_or_same, item_back, seen}
use Rattle.wasi_records.proofs.records.find_mut_in.Goals as goal

pub returns : goal.returns
returns g c =
    let v = c.args.records.now in
    let i = c.args.place in
    let gone = g.met.T.Stored.gone ∙ sym g.met.T.Stored.none in
    let x = c.in_ok-get_mut_in.field-0.now in
    let found = c.in_ok-get_mut_in.ensures.item in (
      lent_or_same v i x c.of_record_mut.result (with_stored g.T.Stored.into v i) (item_back v.items i x found),
      record {
        writes_back = tt;
        item = c.of_record_mut.ensures.value ∙ seen g.T.Stored.of v.items i (Some x) gone found;
      },
    )

pub returns-in_err-get_mut_in : goal.returns-in_err-get_mut_in
returns-in_err-get_mut_in g c =
    let xs = c.args.records.now.items in
    let none = sym g.met.T.Stored.none in
    let gone = g.met.T.Stored.gone ∙ none in
    let item = none ∙ seen g.T.Stored.of xs c.args.place None gone c.in_err-get_mut_in.ensures.item in
    rw c.from_residual.ensures (refl, record { writes_back = tt; item = item })
