use Rattle.std.proofs.Common.{arith, ◌∙◌, ◌*◌}
use Rattle.hex.proofs.HexLemmas.{decode_of-even}
use Rattle.hex.proofs.Pairs.{decode_step, decode_done}
use Rattle.world_text.proofs.digits.decode_into.Goals as goal

pub bytes-preserved : goal.bytes-preserved
bytes-preserved c =
    decode_step _ _ c.bytes.i _ (omega arith) (omega arith) (c.pair.ensures (2 * c.bytes.i)) c.bytes.invariant

pub returns : goal.returns
returns c =
    decode_of-even _ (omega arith)
    ∙ decode_done _ c.bytes.bytes c.bytes.i (omega arith) (omega arith) c.bytes.invariant
