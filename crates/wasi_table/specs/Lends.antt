-- What a table is after a value of it was lent.
use Rattle.std.specs.Prelude.{ℕ, Result}
use Rattle.std.specs.Borrow.{Lends, LendsIfOk, Fml, RattleType, MutBor}
use Rattle.wasi_table.specs.declared.table.TableError.{TableError}
use Rattle.wasi_table.specs.Table.{Shown, with_value}
use Rattle.wasi_table.specs.contracts.table.Table.{the_row}

-- what is last written through r is the value of the handle; at an error the table stays
abbrev pub lends_get : (K : RattleType) → MutBor (Shown K.Denot) → ℕ → Result (MutBor K.Denot) TableError → Fml
lends_get K t handle r = LendsIfOk (the_row K) K t r (λ w. record t.now { live = with_value t.now.live handle w }) t.now

-- what is last written through r is the value of the handle
abbrev pub lends_value : (K : RattleType) → MutBor (Shown K.Denot) → ℕ → MutBor K.Denot → Fml
lends_value K t handle r = Lends (the_row K) K t r (λ w. record t.now { live = with_value t.now.live handle w })
