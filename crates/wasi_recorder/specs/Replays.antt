-- A run beside a recorded log: whether it asks just what is recorded, or where it differs.
use Rattle.std.specs.Prelude.{ℕ, ◌≤◌, ⊤, List, [], ◌∷◌, take, drop, length}
use Rattle.wasi_world.specs.declared.call.Call.{Call}
use Rattle.wasi_world.specs.declared.call.Call.TheVariants.{Write}
use Rattle.wasi_world.specs.declared.call.Told.{Told}
use Rattle.wasi_world.specs.declared.call.Entry.{Entry}
use Rattle.wasi_world.specs.Asks.{Asks, Give, Ask, AskWrite, Left, IsCall, IsFront}

-- each call but a write
abbrev pub IsNoWrite : Call → Type 0
IsNoWrite (Write _ _) = ⊥
IsNoWrite _ = ⊤

-- What is asked next isn't what is recorded next, or just one of the two has ended. A write is the recorded one only where what is
-- recorded as taken stands first in its bytes. (Writes are asked with their bytes, and in no other way.)
abbrev pub Parts : {A : Type 0} → Asks A → List Entry → Type 0
Parts (Give a) [] = ⊥
Parts (Give a) (e ∷ es) = ⊤
Parts (Ask op call next) [] = ⊤
Parts (Ask op call next) (e ∷ es) = IsNoWrite call → IsCall op call e → ⊥
Parts (AskWrite op sock bytes next) [] = ⊤
Parts (AskWrite op sock bytes next) (e ∷ es) = IsCall op (Write sock (length bytes)) e → IsFront e.answer bytes → ⊥

-- The asks go as recorded up to this place, and there they part.
pub record DiffersAt {A : Type 0} (asks : Asks A) (recorded : List Entry) (place : ℕ) : Type 0 where
  pub rest : Asks A
  pub inside : place ≤ length recorded
  pub same : Left asks (take place recorded) rest
  pub parts : Parts rest (drop place recorded)

-- Its writes are asked with their bytes: no other ask of it is a write.
abbrev pub WritesByBytes : {A : Type 0} → Asks A → Type 0
WritesByBytes (Give a) = ⊤
WritesByBytes (Ask op call next) = IsNoWrite call × ((told : Told) → WritesByBytes (next told))
WritesByBytes (AskWrite op sock bytes next) = (told : Told) → WritesByBytes (next told)
