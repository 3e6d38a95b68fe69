-- One look at what is watched: a UDP socket is ready, and a TCP socket or a stream is asked.
use Rattle.std.proofs.Common.{◌≡◌, ℕ, Some, refl, ◌⊎◌, inl, inr}
use Rattle.wasi_world.specs.declared.ids.Ids.{Ids}
use Rattle.wasi_world.specs.Asks.{Give, bind}
use Rattle.host_store.specs.declared.kind.Watched.{Watched}
use Rattle.host_store.specs.declared.kind.Watched.TheVariants as watched
use Rattle.host_store.specs.declared.machine.Machine.{Machine}
use Rattle.wasi_host.specs.Pollables.{ready_on}
use Rattle.host_store.specs.Machine.{with_store}
use Rattle.record_common.specs.Names.{own_of}
use Rattle.host_store.specs.Readiness.{ready_at}
use Rattle.wasi_records.specs.Records.{tcp2_at}

-- it is a TCP socket or a stream of one
abbrev pub IsAsked : Watched → ℕ → Type 0
IsAsked w place = (w ≡ watched.Socket place) ⊎ ((w ≡ watched.Input place) ⊎ (w ≡ watched.Output place))

pub looked_at : (m : Machine) (ids : Ids) (w : Watched) (place : ℕ) → IsAsked w place
    → ready_on m ids (Some w) ≡ bind (ready_at m.store (own_of ids.line) ids w place (tcp2_at m.store.records place)) (λ done. Give (with_store m done))
looked_at m ids w place (inl h) = rw h refl
looked_at m ids w place (inr (inl h)) = rw h refl
looked_at m ids w place (inr (inr h)) = rw h refl
