use Rattle.std.proofs.Common.{◌∙◌, ap}
use Rattle.slab.specs.Slab.{get}
use Rattle.wasi_records.specs.Numbered.{or_gone}
use Rattle.wasi_records.specs.RecordMap.{of_number}
use Rattle.wasi_records.proofs.RecordMaps.{item}
use Rattle.wasi_records.proofs.record_list.RecordList.get.Goals as goal

pub returns : goal.returns
returns c =
    rw (← c.self.view_is) (
    ap or_gone c.record_of.ensures ∙ ap (λ key. or_gone (of_number c.args.place (get c.self.inside.slots key))) c.key_of.ensures
    ∙ item c.self.inside.slots c.self.inside.keys c.self.inside.next c.self.invariant.0 c.args.place
    )
