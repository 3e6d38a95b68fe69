-- Between the lines each record fits.
use Rattle.host_store.specs.declared.machine.Machine.{Machine}
use Rattle.host_store.specs.Machine.{first_state}
use Rattle.wasi_walks.proofs.walks.Moves.{Own}
use Rattle.wasi_walks.proofs.walks.States.{Starts, Over}
use Rattle.wasi_walks.proofs.fits.Law.{Fit}

pub first_fit : Fit (Over first_state)
first_fit = record { records = λ place r e. absurd (cc); udps = λ place u e. absurd (cc); stands = λ c e. absurd (cc) }

pub starts_fit : (m : Machine) (own : Own) → Fit (Over m) → Fit (Starts m own)
starts_fit m own f = record { records = f.records; udps = f.udps; stands = f.stands }
