use Rattle.std.proofs.Common.{◌≡◌, ◌+◌, ◌-◌, min, ap, ◌∙◌, arith}
use Rattle.wasi_records.specs.Numbered.{Numbered, item_at}
use Rattle.wasi_records.specs.RecordMap.{record_in}
use Rattle.wasi_records.specs.Totals.{total_of}
use Rattle.wasi_records.specs.Used.{used, used_in}
use Rattle.wasi_records.proofs.Counts.{within, but_one}
use Rattle.wasi_records.proofs.Unders.{under_is}
use Rattle.wasi_records.proofs.record_list.RecordList.used_but.Goals as goal

pub returns-then-not-self : goal.returns-then-not-self
returns-then-not-self c =
    let all = under_is c.args.context c.args.place c.self.inside.slots c.self.inside.keys c.self.inside.next c.count_but.ensures.ordered c.self.invariant.0 in
    c.count_but.ensures.counted ∙ ap (λ n. min n 18446744073709551615) all
    ∙ ap (λ (v : Numbered). min (used c.args.context v.items - used_in c.args.context (item_at v.items c.args.place)) 18446744073709551615) c.self.view_is

pub overflow_sub-total : goal.overflow_sub-total
overflow_sub-total c =
    let part = within c.self.inside.slots c.self.inside.keys c.self.inside.next c.self.invariant.0 c.self.inside.totals c.self.inside.lent c.args.place c.args.context c.self.invariant.1 c.if-not-self.false c.if-place-self.false in
    let own = c.of.ensures ∙ c.share_of-own.ensures c.args.context in
    let total = c.of-total.ensures in omega (arith, part, own, total)

pub returns : goal.returns
returns c =
    let but = but_one c.self.inside.slots c.self.inside.keys c.self.inside.next c.self.invariant.0 c.self.inside.totals c.self.inside.lent c.args.place c.args.context c.self.invariant.1 c.if-not-self.false c.if-place-self.false in
    let own = c.of.ensures ∙ c.share_of-own.ensures c.args.context in
    let lent = c.of-2.ensures ∙ c.share_of-lent.ensures c.args.context in
    let total = c.of-total.ensures in
    let sum : (c.of-total.result - c.of.result) + c.of-2.result ≡ used c.args.context c.args.self.now.items - used_in c.args.context (item_at c.args.self.now.items c.args.place) =
    ap (λ n. (n - c.of.result) + c.of-2.result) total ∙ ap (λ n. (total_of c.self.inside.totals c.args.context - n) + c.of-2.result) own
    ∙ ap (λ n. (total_of c.self.inside.totals c.args.context - used_in c.args.context (record_in c.self.inside.slots c.self.inside.keys c.args.place)) + n) lent ∙ but
    ∙ ap (λ (v : Numbered). used c.args.context v.items - used_in c.args.context (item_at v.items c.args.place)) c.self.view_is in
    c.saturating_add.ensures ∙ ap (λ n. min n 18446744073709551615) sum
