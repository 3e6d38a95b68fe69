use Rattle.wasi_udp.proofs.Lates.{late_sends_none}
use Rattle.wasi_udp.proofs.laws.late_datagrams_are_not_sent.Goals as goal

pub returns : goal.returns
returns c = late_sends_none
