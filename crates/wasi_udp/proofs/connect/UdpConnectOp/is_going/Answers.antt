use Rattle.std.proofs.Common.{rules}
use Rattle.wasi_udp.proofs.Connects.{is_connect}
use Rattle.wasi_udp.proofs.connect.UdpConnectOp.is_going.Goals as goal

pub returns-in-CheckWildcard : goal.returns-in-CheckWildcard
returns-in-CheckWildcard c = record { going = search rules; connect = rw (← c.self.view_is) (is_connect _ _ _ _) }

pub returns-in-Over-clause-connect : goal.returns-in-Over-clause-connect
returns-in-Over-clause-connect c = rw (← c.self.view_is) (is_connect _ _ _ _)
