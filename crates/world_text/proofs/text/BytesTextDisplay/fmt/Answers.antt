use Rattle.std.proofs.Common.{rules, sym, refl, true}
use Rattle.std.proofs.Output.{has_written_append, has_written_of_eq}
use Rattle.hex.specs.Hex.{encode_with}
use Rattle.world_text.proofs.BytesText.{encode_next, encode_whole}
use Rattle.world_text.proofs.text.BytesTextDisplay.fmt.Goals as goal

pub loop-byte-init : goal.loop-byte-init
unfolding encode_with
loop-byte-init g c = search rules

pub loop-byte-preserved : goal.loop-byte-preserved
loop-byte-preserved g c = λ plain.
    let before = c.loop-byte.invariant plain in
    let e = encode_next c.args.self.now.0.now c.loop-byte.byte-index c.loop-byte-test.true in
    has_written_of_eq _ _ _ _ _ (sym e) (has_written_append _ _ _ _ _ _ before (c.in_ok-write_byte.ensures before.plain (refl {a = true})))

pub returns-clause-writes : goal.returns-clause-writes
returns-clause-writes g c = λ plain ok.
    has_written_of_eq _ _ _ _ _ (encode_whole c.args.self.now.0.now c.loop-byte.byte-index (sym c.if-is_empty.ensures) c.loop-byte-test.false) (c.loop-byte.invariant plain)
