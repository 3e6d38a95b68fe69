use Rattle.wasi_tcp.proofs.Connects.{connect_asked, connect_left_over, settled_holds}
use Rattle.wasi_tcp.proofs.socket.TcpState.poll_finish_connect.Goals as goal

pub returns-in-Connecting-clause-asked : goal.returns-in-Connecting-clause-asked
returns-in-Connecting-clause-asked g c = rw (c.in-Connecting.is, c.settle.ensures, c.side-side.ensures) (connect_asked _ c.poll-polled.result c.poll-polled.ensures.polled)

pub returns-in-Connecting-clause-err : goal.returns-in-Connecting-clause-err
returns-in-Connecting-clause-err g c = rw (c.in-Connecting.is, c.settle.ensures, c.side-side.ensures) (connect_left_over _ c.poll-polled.result c.poll-polled.ensures.polled)

pub returns-in-Connecting-clause-before : goal.returns-in-Connecting-clause-before
returns-in-Connecting-clause-before g c = rw c.in-Connecting.is c.poll-polled.ensures.before

pub returns-in-Connecting-clause-after : goal.returns-in-Connecting-clause-after
returns-in-Connecting-clause-after g c = rw c.settle.ensures (settled_holds _ _ c.poll-polled.result c.poll-polled.ensures.after)
