use Rattle.wasi_world.proofs.Walks.{refused_exit, asks_then}
use Rattle.wasi_udp.proofs.LocalAddresses.{local_unasked, local_left_over}
use Rattle.wasi_udp.proofs.socket.UdpSocket.local_address.Goals as goal

pub returns-in_err-bound-clause-asked : goal.returns-in_err-bound-clause-asked
returns-in_err-bound-clause-asked g c = refused_exit _ c.from_residual.result c.from_residual.ensures.1 c.in_err-bound.ensures.asked.err

pub returns-in_err-bound-clause-err : goal.returns-in_err-bound-clause-err
returns-in_err-bound-clause-err g c = local_unasked c.args.op _ _ _ _ _ c.in_err-bound.ensures.err c.in_err-bound.ensures.unasked

pub returns-clause-asked : goal.returns-clause-asked
returns-clause-asked g c = asks_then _ c.in_ok-bound.ensures.asked.ok c.local_where.ensures.asked

pub returns-clause-err : goal.returns-clause-err
returns-clause-err g c = local_left_over c.args.op _ _ _ _ _ _ _ c.in_ok-bound.ensures.asked.ok c.in_ok-bound.ensures.kept c.local_where.ensures.err c.local_where.ensures.bound
