use Rattle.std.proofs.Common.{refl}
use Rattle.wasi_world.proofs.Walks.{reaches_on}
use Rattle.wasi_world.proofs.Polls.{becomes}
use Rattle.wasi_udp.proofs.Connects.{connect_none, connect_on}
use Rattle.wasi_udp.proofs.connect.poll_connect.Goals as goal

pub returns-in_err-told-clause-polled : goal.returns-in_err-told-clause-polled
returns-in_err-told-clause-polled g c = connect_none _ _ c.from_residual.ensures.1 c.in_err-told.ensures.err

pub returns-clause-polled : goal.returns-clause-polled
returns-clause-polled g c = rw c.requires.stage (connect_on refl (becomes 63 _ _ _ _ (reaches_on _ c.in_ok-told.ensures.asked.ok)) c.poll_peer.ensures.polled)
