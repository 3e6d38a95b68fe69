use Rattle.std.proofs.Common.{refl, arith}
use Rattle.live_commands.proofs.command.limit_in.Goals as goal

pub overflow_cast-result : goal.overflow_cast-result
overflow_cast-result c = let most = ((c.in_ok-number.ensures.exact c.in_ok-number.field-0).0 refl).1 in omega (arith, most)
