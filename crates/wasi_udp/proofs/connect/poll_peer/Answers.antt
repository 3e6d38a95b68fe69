use Rattle.std.proofs.Common.{refl}
use Rattle.wasi_udp.proofs.Connects.{connect_none, connect_end, peer_end}
use Rattle.wasi_udp.proofs.connect.poll_peer.Goals as goal

pub returns-in_err-peer-clause-polled : goal.returns-in_err-peer-clause-polled
returns-in_err-peer-clause-polled g c = connect_none _ _ c.from_residual.ensures.1 c.in_err-peer.ensures.err

pub returns-clause-polled : goal.returns-clause-polled
returns-clause-polled g c = rw (c.requires.stage, c.remote_told-remote.ensures) (connect_end refl (peer_end _ _ _ refl c.in_ok-peer.ensures.asked.ok))
