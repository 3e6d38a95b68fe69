use Rattle.wasi_addr.specs.Code.{p3_of_code}
use Rattle.host_store.specs.BaseStops.{ends_as}
use Rattle.host_udp.proofs.CreatedNames.{created_named}
use Rattle.wasi_p3.proofs.udp.create.Goals as goal

pub returns-clause-asked : goal.returns-clause-asked
returns-clause-asked g c =
    rw c.named.ensures (created_named p3_of_code (ends_as c.create_udp.result) c.create_udp.ensures.asked)
