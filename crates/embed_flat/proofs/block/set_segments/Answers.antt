-- One segment more stands right behind those before.
use Rattle.std.proofs.Common.{◌≤◌, length, refl, arith}
use Rattle.embed_flat.proofs.Puts.{segments_more}
use Rattle.embed_flat.proofs.block.set_segments.Goals as goal

pub loop-k-preserved : goal.loop-k-preserved
loop-k-preserved c =
    let inside : c.args.at ≤ length c.args.block.now = omega arith in
    segments_more c.args.fields.now c.args.block.now c.set.new.block c.args.at c.args.first c.loop-k.k inside (rw (c.set.ensures, c.loop-k.invariant, c.number_at.ensures) refl)
