-- Calls whose contract is a block.
use Rattle.std.specs.Prelude.{Result, Ok, Err, refl}
use Rattle.std.specs.declared.alloc.AllocError.{AllocError}
use Rattle.wasi_world.specs.Seen.{Seen}
use Rattle.wasi_world.specs.Asks.{Asks, bind, AsksFor}
use Rattle.wasi_world.proofs.Walks.{asks_end, reaches_in}
use Rattle.record_common.specs.Stops.{Stop}
use Rattle.host_store.specs.Block.{give, or_stop}
use Rattle.host_store.specs.Lines.{same_stop}

-- the last line of a block: what it gives is what the block gives
pub called_last : {S T A : Type 0} {asks : Asks (Result A Stop × T)} (put : T → S) {s t : Seen} {now : T} {r : Result (Result A Stop) AllocError} → AsksFor asks s t (λ answer. (answer, now)) r → AsksFor (bind asks (λ done. or_stop same_stop give done.0 (put done.1))) s t (λ answer. (answer, put now)) r
called_last put {r = Ok (Ok a)} h = asks_end _ h.ok refl
called_last put {r = Ok (Err stop)} h = asks_end _ h.ok refl
called_last put {r = Err d} h = record { ok = tt; err = record { rest = bind h.err.rest _; reached = reaches_in _ h.err.reached }; ended = h.ended }
