use Rattle.std.proofs.Common.{refl}
use Rattle.wasi_world.proofs.Walks.{asks_at, asks_end}
use Rattle.udp_records.specs.Receiving.{receive_datagrams_asks}
use Rattle.record_common.proofs.Hosts.{host_refused}
use Rattle.udp_records.proofs.ReceiveLists.{stream_lost}
use Rattle.udp_records.proofs.udp.OpenUdp.receive_datagrams.Goals as goal

pub returns-in_err-datagrams-clause-asked : goal.returns-in_err-datagrams-clause-asked
returns-in_err-datagrams-clause-asked g c =
    asks_at (receive_datagrams_asks c.args.ids.now c.args.most c.args.self.now) c.in-Some.is
    (host_refused _ _ c.from_residual.result c.from_residual.ensures.1 (rw c.min.ensures at c.in_err-datagrams.ensures.asked) (λ code. refl))

pub returns-clause-asked : goal.returns-clause-asked
returns-clause-asked g c =
    asks_at (receive_datagrams_asks c.args.ids.now c.args.most c.args.self.now) c.in-Some.is
    (asks_end _ (rw c.min.ensures at c.in_ok-datagrams.ensures.asked.ok) refl)

pub returns-in_err-datagrams-clause-lost : goal.returns-in_err-datagrams-clause-lost
returns-in_err-datagrams-clause-lost g c = stream_lost _ _ _ c.args.most c.args.ids.now c.args.self.now _ _ _ _ c.from_residual.result c.from_residual.ensures.1 c.in-Some.is (rw c.min.ensures at c.in_err-datagrams.ensures.lost)
