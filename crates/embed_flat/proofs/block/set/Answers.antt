-- The bytes that are copied are the lowest of the number.
use Rattle.std.proofs.Common.{◌≡◌, ◌+◌, ◌-◌, ◌∙◌, ap, take, arith, sym}
use Rattle.embed_flat.proofs.Puts.{length-low_bytes, take-low_bytes, put-part}
use Rattle.embed_flat.proofs.block.set.Goals as goal

pub returns : goal.returns
returns c =
    let low = take-low_bytes 0 c.args.width 8 c.args.number c.requires.width in
    let width : c.args.at + c.args.width - c.args.at ≡ c.args.width = omega arith in
    put-part _ _ _ _ _ (c.copy_from_slice.ensures.after ∙ (ap (take c.args.width) c.to_le_bytes-bytes.ensures ∙ low)) (width ∙ sym (length-low_bytes 0 c.args.width c.args.number))
