-- The family, the port and the parts, each in its place.
use Rattle.std.proofs.Common.{◌≡◌, sym, ◌∙◌}
use Rattle.embed_flat.specs.Fields.{number_in}
use Rattle.embed_flat.proofs.Done.{ipv4_block, ipv6_block}
use Rattle.embed_flat.proofs.results.address_block.Goals as goal

pub returns-then-number_at-eq4 : goal.returns-then-number_at-eq4
returns-then-number_at-eq4 c =
    let four : number_in c.args.fields.now 0 ≡ 4 = sym c.number_at.ensures ∙ c.if-number_at-eq4.true in
    ipv4_block c.args.fields.now c.set.new.block c.set_bytes.new.block c.number_at-then-number_at-eq4.result four c.number_at-then-number_at-eq4.ensures c.set.ensures c.set_bytes.ensures

pub returns : goal.returns
returns c =
    let six : number_in c.args.fields.now 0 ≡ 4 → ⊥ = λ e. c.if-number_at-eq4.false (c.number_at.ensures ∙ e) in
    ipv6_block c.args.fields.now c.set-2.new.block c.set-3.new.block c.set-4.new.block c.set_segments.new.block c.set-5.new.block
    c.number_at-2.result c.number_at-3.result c.number_at-4.result six c.number_at-2.ensures c.number_at-3.ensures c.number_at-4.ensures
    c.set-2.ensures c.set-3.ensures c.set-4.ensures c.set_segments.ensures c.set-5.ensures
