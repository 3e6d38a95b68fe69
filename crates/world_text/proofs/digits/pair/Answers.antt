use Rattle.world_text.proofs.Decoding.{pair_is}
use Rattle.world_text.proofs.digits.pair.Goals as goal

pub returns : goal.returns
returns c = pair_is c.args.high c.args.low _ _ c.digit_value.ensures.value c.digit_value-2.ensures.value
