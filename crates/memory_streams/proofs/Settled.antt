-- A call that asks nothing has its tree's answer.
use Rattle.std.proofs.Common.{◌≡◌, IfOk, Result, Ok, Err, refl, sym, ap}
use Rattle.std.specs.declared.alloc.AllocError.{AllocError}
use Rattle.wasi_world.specs.Asks.{Asks, Give, AsksFor}
use Rattle.wasi_world.specs.Seen.{Seen}
use Rattle.wasi_world.proofs.Walks.{asks_given, asks_none}

pub settled : {A T : Type 0} {s : Seen} {view : T → A} {value : A} (r : Result T AllocError) → IfOk r (λ x. view x ≡ value) → AsksFor (Give value) s s view r
settled (Ok x) e = asks_given x (Ok x) refl (ap Give (sym e))
settled {value} (Err d) e = asks_none (λ a. Unit {0}) (Give value) tt refl
