use Rattle.wasi_udp.proofs.Connects.{is_connect}
use Rattle.wasi_udp.proofs.connect.UdpConnectOp.poll_stage.Goals as goal

pub returns-in-CheckWildcard-clause-after : goal.returns-in-CheckWildcard-clause-after
returns-in-CheckWildcard-clause-after g c = is_connect _ _ _ _

pub returns-in-CheckSend-clause-after : goal.returns-in-CheckSend-clause-after
returns-in-CheckSend-clause-after g c = is_connect _ _ _ _

pub returns-in-CheckReceive-clause-after : goal.returns-in-CheckReceive-clause-after
returns-in-CheckReceive-clause-after g c = is_connect _ _ _ _

pub returns-in-Connect-clause-after : goal.returns-in-Connect-clause-after
returns-in-Connect-clause-after g c = is_connect _ _ _ _

pub returns-in-Peer-clause-after : goal.returns-in-Peer-clause-after
returns-in-Peer-clause-after g c = is_connect _ _ _ _
