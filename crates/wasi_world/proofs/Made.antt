-- One call of a world was made.
use Rattle.std.proofs.Common.{◌≡◌, ℕ, List, [], ◌∷◌, length, Result, Ok, Err, IfOk, refl}
use Rattle.std.specs.Prelude.{OnErr}
use Rattle.std.specs.declared.alloc.AllocError.{AllocError}
use Rattle.wasi_world.specs.declared.ids.OpId.{OpId}
use Rattle.wasi_world.specs.declared.call.Call.{Call}
use Rattle.wasi_world.specs.declared.call.Call.TheVariants.{Write}
use Rattle.wasi_world.specs.declared.call.Told.{Told}
use Rattle.wasi_world.specs.Fits.{Fits}
use Rattle.wasi_world.specs.Seen.{Seen, Passes}
use Rattle.wasi_world.specs.Asks.{one, one_write, IsFront, AsksFor}
use Rattle.wasi_world.proofs.Walks.{reaches_all, asks_err, asks_ok}

-- a call, of which an answer that fits is kept
pub asked_one : (op : OpId) (call : Call) (old new : Seen) (r : Result Told AllocError) → IfOk r (λ told. Passes old (record { op = op; call = call; answer = told } ∷ []) new) → IfOk r (λ told. Fits call told) → OnErr r (new ≡ old) → AsksFor (one op call) old new (λ told. told) r
asked_one op call old new (Ok told) passed fits err = asks_ok (record { entries = _; passed = passed; left = ((refl, refl, fits), refl) })
asked_one op call old new (Err e) passed fits err = asks_err (one op call) (rw err (reaches_all (one op call) old))

-- a write, which took a prefix of the bytes
pub asked_write : (op sock : OpId) (bytes : List ℕ) (old new : Seen) (r : Result Told AllocError) → IfOk r (λ told. Passes old (record { op = op; call = Write sock (length bytes); answer = told } ∷ []) new) → IfOk r (λ told. Fits (Write sock (length bytes)) told) → IfOk r (λ told. IsFront told bytes) → OnErr r (new ≡ old) → AsksFor (one_write op sock bytes) old new (λ told. told) r
asked_write op sock bytes old new (Ok told) passed fits front err = asks_ok (record { entries = _; passed = passed; left = ((refl, refl, fits), front, refl) })
asked_write op sock bytes old new (Err e) passed fits front err = asks_err (one_write op sock bytes) (rw err (reaches_all (one_write op sock bytes) old))
