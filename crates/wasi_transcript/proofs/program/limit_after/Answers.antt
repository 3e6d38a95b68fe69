use Rattle.std.proofs.Common.{refl, arith}
use Rattle.wasi_transcript.proofs.program.limit_after.Goals as goal

pub overflow_cast-result : goal.overflow_cast-result
overflow_cast-result c = let most = ((c.in_ok-limit-in-len2.ensures.exact c.in_ok-limit-in-len2.limit).0 refl).1 in omega (arith, most)
