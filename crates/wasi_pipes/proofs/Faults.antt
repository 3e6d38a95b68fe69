-- What is reported of a fault.
use Rattle.std.proofs.Common.{◌≡◌, Bool, true, false, refl, sym}
use Rattle.wasi_pipes.specs.declared.cores.fault.WorkerFault.{WorkerFault}
use Rattle.wasi_pipes.specs.declared.cores.fault.WorkerFault.TheVariants.{Unmet, Kept, Told}
use Rattle.wasi_pipes.specs.Fault.{after_telling}

abbrev pub is_kept : {C : Type 0} → WorkerFault C → Bool
is_kept Unmet = false
is_kept (Kept cause) = true
is_kept (Told cause) = false

abbrev pub is_told : {C : Type 0} → WorkerFault C → Bool
is_told Unmet = false
is_told (Kept cause) = false
is_told (Told cause) = true

module _ {C : Type 0} where
  pub told_stays : (fault : WorkerFault C) → is_told fault ≡ true → is_told (after_telling fault) ≡ true
  told_stays Unmet h = h
  told_stays (Kept cause) h = refl
  told_stays (Told cause) h = refl

  pub kept_is_told : (fault : WorkerFault C) → is_kept fault ≡ true → is_told (after_telling fault) ≡ true
  kept_is_told Unmet h = h
  kept_is_told (Kept cause) h = refl
  kept_is_told (Told cause) h = refl

  pub told_is_not_kept : (fault : WorkerFault C) → is_told fault ≡ true → is_kept fault ≡ false
  told_is_not_kept Unmet h = refl
  told_is_not_kept (Kept cause) h = sym h
  told_is_not_kept (Told cause) h = refl
