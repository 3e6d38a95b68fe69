use Rattle.std.proofs.Common.{Some, None, sym, ◌∙◌}
use Rattle.wasi_records.proofs.RecordLends.{seen}
use Rattle.wasi_records.proofs.records.find.Goals as goal

pub returns : goal.returns
returns g c =
    let xs = c.args.records.now.items in
    let gone = g.met.T.Stored.gone ∙ sym g.met.T.Stored.none in
    let x = c.in_ok-get.field-0.now in
    record { item = c.of_record.ensures ∙ seen g.T.Stored.of xs c.args.place (Some x) gone c.in_ok-get.ensures }

pub returns-in_err-get : goal.returns-in_err-get
returns-in_err-get g c =
    let xs = c.args.records.now.items in
    let none = sym g.met.T.Stored.none in
    let gone = g.met.T.Stored.gone ∙ none in
    let item = none ∙ seen g.T.Stored.of xs c.args.place None gone c.in_err-get.ensures in
    rw c.from_residual.ensures (record { item = item })
