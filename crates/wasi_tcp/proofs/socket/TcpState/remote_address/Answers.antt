use Rattle.wasi_world.proofs.Walks.{asks_gives}
use Rattle.wasi_tcp.specs.Addresses.{still_connected}
use Rattle.wasi_tcp.proofs.socket.TcpState.remote_address.Goals as goal

pub returns-in-Connected-clause-asked : goal.returns-in-Connected-clause-asked
returns-in-Connected-clause-asked g c = rw c.in-Connected.is (asks_gives still_connected c.remote_address.ensures.asked)
