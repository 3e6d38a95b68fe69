use Rattle.wasi_run.proofs.Words.{take-replicate}
use Rattle.drawn_scripts.proofs.GeneratedLines.{ended}
use Rattle.drawn_scripts.proofs.drawn.push_bytes.Goals as goal

pub returns : goal.returns
returns c =
    rw (← c.byte_of-bytes.ensures, ← c.count_of.ensures.count, ← take-replicate c.count_of.result 64 c.byte_of-bytes.result c.count_of.ensures.within)
    (ended c.push_str.result _ _ _ _ c.in_ok-push_octets.ensures c.push_str.ensures.bytes)
