use Rattle.std.proofs.Common.{◌+◌, ◌-◌, min, ap, ◌∙◌, sym}
use Rattle.wasi_records.specs.Numbered.{Numbered, item_at}
use Rattle.wasi_records.specs.RecordMap.{numbered, record_in}
use Rattle.wasi_records.specs.Used.{used, used_in}
use Rattle.wasi_records.proofs.Counts.{and_one}
use Rattle.wasi_records.proofs.record_list.RecordList.used.Goals as goal

pub returns : goal.returns
returns c =
    let all = and_one c.self.inside.slots c.self.inside.keys c.self.inside.next c.self.invariant.0 c.self.inside.lent c.args.context 18446744073709551615 in
    let but = c.used_but.ensures
    ∙ ap (λ (v : Numbered). min (used c.args.context v.items - used_in c.args.context (item_at v.items c.self.inside.lent)) 18446744073709551615) (sym c.self.view_is) in
    let own = c.of.ensures ∙ c.share_of-lent.ensures c.args.context in
    c.saturating_add.ensures ∙ ap (λ n. min (n + c.of.result) 18446744073709551615) but
    ∙ ap (λ n. min (min (used c.args.context (numbered (record_in c.self.inside.slots c.self.inside.keys) c.self.inside.next) - used_in c.args.context (item_at (numbered (record_in c.self.inside.slots c.self.inside.keys) c.self.inside.next) c.self.inside.lent)) 18446744073709551615 + n) 18446744073709551615) own ∙ all
    ∙ ap (λ (v : Numbered). min (used c.args.context v.items) 18446744073709551615) c.self.view_is
