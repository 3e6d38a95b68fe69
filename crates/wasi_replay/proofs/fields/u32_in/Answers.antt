use Rattle.std.proofs.Common.{refl, arith}
use Rattle.wasi_replay.proofs.fields.u32_in.Goals as goal

pub overflow_cast-result : goal.overflow_cast-result
overflow_cast-result c = let is = (c.in_ok-number.ensures.exact c.in_ok-number.field-0).0 refl in omega arith
