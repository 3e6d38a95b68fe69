use Rattle.std.proofs.Common.{arith}
use Rattle.world_text.proofs.Numbers.{one_digit_is}
use Rattle.world_text.proofs.fields.one_digit.Goals as goal

pub returns-in-48-to-57 : goal.returns-in-48-to-57
returns-in-48-to-57 c = rw c.from.ensures (omega arith, one_digit_is c.args.field.now (omega arith) (omega arith) (omega arith))
