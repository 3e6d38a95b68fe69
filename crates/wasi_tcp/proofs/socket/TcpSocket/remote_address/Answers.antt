use Rattle.wasi_world.proofs.Walks.{asks_gives}
use Rattle.wasi_tcp.specs.Connecting.{in_socket}
use Rattle.wasi_tcp.proofs.socket.TcpSocket.remote_address.Goals as goal

pub returns-clause-asked : goal.returns-clause-asked
returns-clause-asked g c = rw (← c.self.view_is) (asks_gives (in_socket (record { state = c.self.inside.state; family = c.self.inside.family; backlog = c.self.inside.backlog; bound = c.self.inside.bound; maker = c.self.inside.maker })) c.remote_address.ensures.asked)
