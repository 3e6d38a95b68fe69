-- All the bytes of a write are a front of them.
use Rattle.std.proofs.Common.{◌≡◌, refl, sym, ℕ, List, length, take, take_all, Result, Ok, Err, IfOk, arith}
use Rattle.std.specs.declared.alloc.AllocError.{AllocError}
use Rattle.wasi_world.specs.declared.call.Told.{Told}
use Rattle.wasi_world.specs.declared.call.Told.TheVariants.{Took}
use Rattle.wasi_world.specs.Asks.{IsFront}

pub all_taken : {taken bytes : List ℕ} (r : Result Told AllocError) → IfOk r (λ told. told ≡ Took taken) → taken ≡ bytes → IfOk r (λ told. IsFront told bytes)
all_taken {taken} {bytes} (Ok told) h k = rw (h, k) (sym (take_all (length bytes) bytes (omega arith)))
all_taken (Err e) h k = tt
