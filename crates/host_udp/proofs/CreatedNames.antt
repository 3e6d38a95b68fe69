-- A create, with the names that an interface gives its codes.
use Rattle.std.specs.Prelude.{ℕ, Result, Ok, Err, refl}
use Rattle.std.specs.declared.alloc.AllocError.{AllocError}
use Rattle.wasi_addr.specs.declared.code.ErrorCode.{ErrorCode}
use Rattle.wasi_world.specs.declared.outcome.Answer.{Answer}
use Rattle.wasi_world.specs.Seen.{Seen}
use Rattle.wasi_world.specs.Asks.{Asks, Give, bind, AsksFor}
use Rattle.wasi_world.proofs.Walks.{reaches_in, asks_end, asks_err}
use Rattle.record_common.specs.Stops.{StopOf}
use Rattle.host_store.specs.declared.machine.Machine.{Machine}
use Rattle.host_store.specs.BaseStops.{BaseStop, named_as}
use Rattle.host_udp.specs.UdpCreates.{created_by}

-- == a create
-- by the names of an interface
pub created_named : {C : Type 0} (name : ErrorCode → C) {asks : Asks (Result (Answer ℕ) BaseStop × Machine)} {s t : Seen} {n : Machine} (told : Result (Result (Answer ℕ) BaseStop) AllocError) → AsksFor asks s t (λ (answer : Result (Answer ℕ) BaseStop). (answer, n)) told
    → AsksFor (bind asks (λ done. Give (created_by name done))) s t (λ (answer : Result (Answer ℕ) (StopOf C)). (answer, n)) (named_as name told)
created_named name (Ok told) k = asks_end _ k.ok refl
created_named name (Err e) k = asks_err (bind k.err.rest (λ done. Give (created_by name done))) (reaches_in (λ done. Give (created_by name done)) k.err.reached)
