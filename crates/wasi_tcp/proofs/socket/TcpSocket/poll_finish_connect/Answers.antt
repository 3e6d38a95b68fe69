use Rattle.wasi_world.proofs.Walks.{asks_gives, err_in}
use Rattle.wasi_tcp.specs.Connecting.{in_socket}
use Rattle.wasi_tcp.proofs.socket.TcpSocket.poll_finish_connect.Goals as goal

pub returns-clause-asked : goal.returns-clause-asked
returns-clause-asked g c = rw (← c.self.view_is) (asks_gives (in_socket (record { state = c.self.inside.state; family = c.self.inside.family; backlog = c.self.inside.backlog; bound = c.self.inside.bound; maker = c.self.inside.maker })) c.poll_finish_connect.ensures.asked)

pub returns-clause-err : goal.returns-clause-err
returns-clause-err g c = rw (← c.self.view_is) (err_in _ _ _ _ _ _ c.poll_finish_connect.ensures.err)
