-- A turn of the machine: each job is polled once.
use Rattle.wasi_world.specs.Asks.{Asks, Give, bind}
use Rattle.host_store.specs.declared.machine.Machine.{Machine}
pub use Rattle.record_common.specs.Names.{own_of}
use Rattle.host_store.specs.Jobs.{turn_store_asks}
use Rattle.host_store.specs.Machine.{with_store}

-- == jobs
abbrev pub turn_machine_asks : Machine → Asks (Unit {0} × Machine)
turn_machine_asks m = bind (turn_store_asks m.store) (λ done. Give (with_store m done))
