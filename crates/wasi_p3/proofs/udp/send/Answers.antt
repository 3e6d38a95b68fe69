use Rattle.wasi_addr.specs.Code.{p3_of_code}
use Rattle.host_store.specs.BaseStops.{ends_as}
use Rattle.host_store.specs.Views.{state_of}
use Rattle.host_store.proofs.Bases.{stored_named}
use Rattle.wasi_p3.proofs.udp.send.Goals as goal

pub returns-clause-asked : goal.returns-clause-asked
returns-clause-asked g c =
    rw (c.named.ensures, c.in_ok-place.ensures)
    (stored_named p3_of_code (state_of c.args.view.now) (ends_as c.send_datagram.result) c.send_datagram.ensures.asked)
