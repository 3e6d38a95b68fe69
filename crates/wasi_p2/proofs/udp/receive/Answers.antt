use Rattle.std.proofs.Common.{◌≡◌, ℕ, Some, None, Result, refl}
use Rattle.std.specs.Prelude.{OnErr}
use Rattle.wasi_world.specs.declared.ids.Ids.{Ids}
use Rattle.wasi_world.specs.Seen.{Seen}
use Rattle.wasi_world.proofs.Walks.{asks_gives}
use Rattle.wasi_records.specs.Records.{open_at}
use Rattle.record_common.specs.Stops.{SocketError, host_outcome}
use Rattle.udp_records.proofs.ReceiveLists.{err_then, on_err}
use Rattle.host_udp.specs.DatagramCalls.{StoreLoses}
use Rattle.host_store.specs.Machine.{with_store}
use Rattle.host_store.specs.Views.{state_of}
use Rattle.host_store.specs.declared.machine.Machine.{Machine}
use Rattle.wasi_p2.specs.Udp.{ReceiveLoses}
use Rattle.wasi_p2.proofs.udp.receive.Goals as goal

pub returns-clause-asked : goal.returns-clause-asked
returns-clause-asked g c = rw c.in_ok-place.ensures (asks_gives (with_store (state_of c.args.view.now)) c.receive_datagrams.ensures.asked)

-- the store lost it, and the table stays
store_lost : {T : Type 0} (s t : Seen) (r : Result T SocketError) (most : ℕ) (ids : Ids) (old now : Machine) (place : ℕ) → now.table ≡ old.table
    → OnErr (host_outcome r) (StoreLoses most ids place old.store now.store (open_at old.store.records place) s t) → OnErr (host_outcome r) (ReceiveLoses most ids old now (Some place) s t)
store_lost s t r most ids old now place e h =
    err_then (host_outcome r) (λ (lost : StoreLoses most ids place old.store now.store (open_at old.store.records place) s t).
    let all : ReceiveLoses most ids old now (Some place) s t = (e, lost) in all) h

-- nothing was asked
none_lost : {T : Type 0} (r : Result T SocketError) (most : ℕ) (ids : Ids) (m : Machine) (s : Seen) → OnErr (host_outcome r) (ReceiveLoses most ids m m None s s)
none_lost r most ids m s = let same : ReceiveLoses most ids m m None s s = (refl, refl) in on_err (host_outcome r) same

pub returns-in_err-place-clause-lost : goal.returns-in_err-place-clause-lost
returns-in_err-place-clause-lost g c =
    rw c.in_err-place.ensures.1 (none_lost c.from_residual.result c.args.max_results c.args.ids.now (state_of c.args.view.now) _)

pub returns-clause-lost : goal.returns-clause-lost
returns-clause-lost g c =
    rw c.in_ok-place.ensures (store_lost _ _ c.receive_datagrams.result c.args.max_results c.args.ids.now (state_of c.args.view.now) _ c.in_ok-place.place refl c.receive_datagrams.ensures.lost)
