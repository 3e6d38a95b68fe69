use Rattle.std.proofs.Common.{◌≡◌, false, length, nat_lt, arith}
use Rattle.host_streams.proofs.blocking.blocking_write_and_flush.Goals as goal

pub returns-clause-asked : goal.returns-clause-asked
returns-clause-asked g c =
    let short : nat_lt 4096 (length c.args.bytes) ≡ false = grind (arith, c.len.ensures, c.if-len-gt-MOST_BYTES.false) in
    rw (c.in_ok-to.ensures.some, ← c.in_ok-to.ensures.named.0, short) c.write_rounds.ensures.asked
