use Rattle.std.proofs.Common.{refl}
use Rattle.wasi_world.proofs.Walks.{asks_at, asks_end}
use Rattle.host_store.specs.declared.machine.Machine.{Machine}
use Rattle.host_store.proofs.Bases.{ends_fault}
use Rattle.host_udp.proofs.UdpMakes.{marked}
use Rattle.host_udp.proofs.udp_calls.make_udp_handle.Goals as goal

pub returns-in_err-handle-clause-asked : goal.returns-in_err-handle-clause-asked
returns-in_err-handle-clause-asked g c =
    let m : Machine = record { table = c.args.table.now; store = c.args.store.now } in
    asks_at (λ asks. asks) (marked c.args.interface m c.args.place _ c.in-Some.side c.in-Some.ensures)
    (ends_fault _ _ c.from_residual.result c.from_residual.ensures.1 (rw c.udp_kind-kind.ensures at c.in_err-handle.ensures.asked) (λ stop. refl))

pub returns-clause-asked : goal.returns-clause-asked
returns-clause-asked g c =
    let m : Machine = record { table = c.args.table.now; store = c.args.store.now } in
    asks_at (λ asks. asks) (marked c.args.interface m c.args.place _ c.in-Some.side c.in-Some.ensures)
    (asks_end _ (rw c.udp_kind-kind.ensures at c.in_ok-handle.ensures.asked).ok refl)
