use Rattle.std.proofs.Common.{refl}
use Rattle.wasi_world.proofs.Walks.{refused_exit, asks_at, asks_end}
use Rattle.wasi_tcp.specs.Addresses.{peer_known}
use Rattle.wasi_tcp.proofs.socket.Connection.remote_address.Goals as goal

pub returns-in_err-told-clause-asked : goal.returns-in_err-told-clause-asked
returns-in_err-told-clause-asked g c = rw c.in_default.is (refused_exit _ c.from_residual.result c.from_residual.ensures.1 c.in_err-told.ensures.asked.err)

pub returns-in-Ok-clause-asked : goal.returns-in-Ok-clause-asked
returns-in-Ok-clause-asked g c = rw c.in_default.is (asks_end _ c.in_ok-told.ensures.asked.ok (rw c.in-Ok.is refl))

pub returns-in-Err-clause-asked : goal.returns-in-Err-clause-asked
returns-in-Err-clause-asked g c = asks_at (peer_known c.args.op c.args.self.now) c.in_default.is (asks_end _ c.in_ok-told.ensures.asked.ok (rw c.in-Err.is refl))
