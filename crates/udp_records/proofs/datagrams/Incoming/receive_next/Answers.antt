use Rattle.wasi_world.proofs.Walks.{asks_end, refused_exit}
use Rattle.udp_records.proofs.ReceiveLists.{on_err}
use Rattle.udp_records.proofs.Receives.{taken_as}
use Rattle.udp_records.proofs.datagrams.Incoming.receive_next.Goals as goal

pub returns-in_err-fetch-clause-asked : goal.returns-in_err-fetch-clause-asked
returns-in_err-fetch-clause-asked g c = refused_exit _ c.from_residual.result c.from_residual.ensures.1 c.in_err-fetch.ensures.asked.err

pub returns-in-Ok-clause-asked : goal.returns-in-Ok-clause-asked
returns-in-Ok-clause-asked g c = asks_end _ c.in_ok-fetch.ensures.asked.ok (taken_as c.fetch.new.socket c.fetch.new.self _ _ c.in-Ok.ensures)

pub returns-in-Err-clause-asked : goal.returns-in-Err-clause-asked
returns-in-Err-clause-asked g c = asks_end _ c.in_ok-fetch.ensures.asked.ok (taken_as c.fetch.new.socket c.fetch.new.self _ _ c.in-Err.ensures)

pub returns-in_err-fetch-clause-stays : goal.returns-in_err-fetch-clause-stays
returns-in_err-fetch-clause-stays g c = on_err _ c.in_err-fetch.ensures.stays
