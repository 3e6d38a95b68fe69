use Rattle.std.proofs.Common.{refl, arith}
use Rattle.wasi_commands.proofs.commands.generate_in.Goals as goal

pub overflow_cast-result : goal.overflow_cast-result
overflow_cast-result c = let most = ((c.in_ok-steps.ensures.exact c.in_ok-steps.steps).0 refl).1 in omega (arith, most)
