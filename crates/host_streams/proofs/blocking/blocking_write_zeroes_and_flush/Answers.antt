use Rattle.std.proofs.Common.{◌≡◌, ◌≤◌, false, nat_lt, arith, refl}
use Rattle.host_streams.proofs.Blocks.{call_none}
use Rattle.host_streams.proofs.blocking.blocking_write_zeroes_and_flush.Goals as goal

pub returns-in_err-bytes-clause-asked : goal.returns-in_err-bytes-clause-asked
returns-in_err-bytes-clause-asked g c = call_none c.from_residual-in_err-bytes.result c.from_residual-in_err-bytes.ensures.1 refl

pub returns-clause-asked : goal.returns-clause-asked
returns-clause-asked g c =
    let small : c.args.len ≤ 4096 = omega (arith, c.if-len-gt-MOST_BYTES.false) in
    let short : nat_lt 4096 c.args.len ≡ false = grind (arith, small) in
    rw (c.in_ok-to.ensures.some, ← c.in_ok-to.ensures.named.0, short, ← c.in_ok-bytes.ensures)
    c.write_rounds.ensures.asked
