use Rattle.wasi_addr.specs.Code.{p2_of_code}
use Rattle.host_store.specs.BaseStops.{ends_as}
use Rattle.host_udp.proofs.CreatedNames.{created_named}
use Rattle.host_udp.proofs.udp_calls.create_udp_socket.Goals as goal

pub returns-clause-asked : goal.returns-clause-asked
returns-clause-asked g c = rw c.named.ensures (created_named p2_of_code (ends_as c.create_udp.result) c.create_udp.ensures.asked)
