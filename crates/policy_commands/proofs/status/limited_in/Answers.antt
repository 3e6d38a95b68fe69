use Rattle.std.proofs.Common.{refl, arith}
use Rattle.policy_commands.proofs.status.limited_in.Goals as goal

pub overflow_cast-limit : goal.overflow_cast-limit
overflow_cast-limit c = let most = ((c.in_ok-limit.ensures.exact c.in_ok-limit.limit).0 refl).1 in omega (arith, most)
