-- One byte more stands right behind those before.
use Rattle.std.proofs.Common.{◌≤◌, length, refl, arith}
use Rattle.embed_flat.proofs.Puts.{bytes_more}
use Rattle.embed_flat.proofs.block.set_bytes.Goals as goal

pub loop-k-preserved : goal.loop-k-preserved
loop-k-preserved c =
    let inside : c.args.at ≤ length c.args.block.now = omega arith in
    bytes_more c.args.fields.now c.args.block.now c.set.new.block c.args.at c.args.first c.loop-k.k inside (rw (c.set.ensures, c.loop-k.invariant, c.number_at.ensures) refl)
