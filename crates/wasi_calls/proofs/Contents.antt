-- The reply of a call that asks nothing and may run out of memory.
use Rattle.std.proofs.Common.{◌≡◌, IfOk, IsOkAnd, Result, Ok, Err, ap}
use Rattle.std.specs.declared.alloc.AllocError.{AllocError}
use Rattle.wasi_world.specs.Asks.{Give, AsksFor}
use Rattle.wasi_world.specs.Seen.{Seen}
use Rattle.wasi_world.proofs.Walks.{given_answered, reaches_all, asks_err}

pub given_if : {M X R : Type 0} (g : X → R) {s : Seen} {m : M} (x : X) (o : Result X AllocError) (r : Result R AllocError) → IfOk o (λ y. y ≡ x) → IfOk r (λ reply. IsOkAnd o (λ y. reply ≡ g y)) → AsksFor {A = R × M} (Give (g x, m)) s s (λ reply. (reply, m)) r
given_if g x (Ok y) r e h = given_answered g x (Ok y) r (ap Ok e) h
given_if g x (Err d) (Ok reply) e h = absurd h
given_if g {s} {m} x (Err d) (Err f) e h = asks_err (Give (g x, m)) (reaches_all (Give (g x, m)) s)
