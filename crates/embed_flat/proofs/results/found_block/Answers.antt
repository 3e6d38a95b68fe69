-- An address is there, its family, and its parts.
use Rattle.std.proofs.Common.{◌≡◌, sym, ◌∙◌}
use Rattle.embed_flat.specs.Fields.{number_in}
use Rattle.embed_flat.proofs.Done.{found_four_block, found_six_block}
use Rattle.embed_flat.proofs.results.found_block.Goals as goal

pub returns-then-family-eq4 : goal.returns-then-family-eq4
returns-then-family-eq4 c =
    let four : number_in c.args.fields.now 0 ≡ 4 = sym c.number_at-family.ensures ∙ c.if-family-eq4.true in
    found_four_block c.args.fields.now c.set.new.block c.set_bytes.new.block four c.set.ensures c.set_bytes.ensures

pub returns-then-family-eq6 : goal.returns-then-family-eq6
returns-then-family-eq6 c =
    let six : number_in c.args.fields.now 0 ≡ 6 = sym c.number_at-family.ensures ∙ c.if-family-eq6.true in
    found_six_block c.args.fields.now c.set-then-family-eq6.new.block c.set-then-family-eq6-2.new.block c.set_segments.new.block six
    c.set-then-family-eq6.ensures c.set-then-family-eq6-2.ensures c.set_segments.ensures
