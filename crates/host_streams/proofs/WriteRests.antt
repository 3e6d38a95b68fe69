-- A write that goes on, by its handle. The number of rounds is any, so that they aren't written out.
use Rattle.std.specs.Prelude.{◌≡◌, ℕ, List, Result, IsErrAnd, refl}
use Rattle.std.proofs.Common.{subst}
use Rattle.wasi_world.specs.declared.ids.Ids.{Ids}
use Rattle.wasi_world.specs.declared.outcome.Answer.{Answer}
use Rattle.wasi_world.specs.declared.outcome.TrapKind.TheVariants.{NoSuchHandle}
use Rattle.wasi_world.specs.Asks.{AsksFor}
use Rattle.wasi_world.specs.Seen.{Seen}
use Rattle.wasi_streams.specs.declared.fault.Fault.{Fault}
use Rattle.wasi_streams.specs.declared.fault.Fault.TheVariants as fault
use Rattle.host_store.specs.declared.error.CallError.{CallError}
use Rattle.host_store.specs.declared.machine.Machine.{Machine}
use Rattle.host_streams.specs.Blocking.{write_rounds}
use Rattle.host_store.specs.CallStops.{call_fault, call_outcome}
use Rattle.host_store.specs.Kinds.{kind_at}
use Rattle.host_streams.specs.StreamEnds.{NoOutput}
use Rattle.host_streams.proofs.Blocks.{rounds_some}
use Rattle.host_streams.proofs.StreamCalls.{none_named}

module _ (ids : Ids) (k : ℕ) (m : Machine) (rest : List ℕ) where
  -- the handle is an output's
  pub rounds_on : {named output : ℕ} {s t : Seen} {after : Machine} (r : Result (Answer (Unit {0})) CallError)
      → named ≡ output
      → AsksFor (write_rounds k ids named m rest) s t (λ y. (y, after)) (call_outcome r)
      → AsksFor (write_rounds k ids output m rest) s t (λ y. (y, after)) (call_outcome r)
  rounds_on {s} {t} {after} r e h =
      let P : ℕ → Type 0 = λ o. AsksFor (write_rounds k ids o m rest) s t (λ y. (y, after)) (call_outcome r) in
      subst P e h

  -- or none
  pub rounds_none : (output : ℕ) {s : Seen} (x : Fault) (r : Result (Answer (Unit {0})) CallError)
      → (k ≡ 0 → ⊥) → NoOutput (kind_at m.table output) → IsErrAnd r (λ y. y ≡ call_fault x)
      → x ≡ fault.Trap NoSuchHandle
      → AsksFor (write_rounds k ids output m rest) s s (λ y. (y, m)) (call_outcome r)
  rounds_none output x r e n h p = rw (rounds_some ids output m rest k e, n.1, n.0) (none_named _ _ x r h p refl)
