-- Whose the open descriptors are, by what the system was asked.
use Rattle.std.specs.Prelude.{◌≡◌, ◌⊎◌, ℤ, List, [], ◌∷◌, Option, Some, None, Ok, ⊤}
use Rattle.wasi_world.specs.declared.ids.OpId.{OpId}
use Rattle.wasi_net.specs.Acts.{Act, Acts}
use Rattle.wasi_net.specs.Acts as act
use Rattle.wasi_net.specs.Known.{Known, Sides}

-- the descriptor that a call made
abbrev pub made_by : Act → Option ℤ
made_by (act.Socket _ _ (Ok fd)) = Some fd
made_by (act.Accept _ (Ok fd)) = Some fd
made_by _ = None

-- the descriptor that a call closed
abbrev pub closed_by : Act → Option ℤ
closed_by (act.Close fd) = Some fd
closed_by _ = None

-- a descriptor is open after these calls, the last first: one made it, and none since closed it
abbrev pub IsOpen : ℤ → List Act → Type 0
IsOpen fd [] = ⊥
IsOpen fd (act ∷ acts) = (made_by act ≡ Some fd) ⊎ ((closed_by act ≡ Some fd → ⊥) × IsOpen fd acts)

-- the system gives no descriptor that is open
abbrev pub IsFree : Option ℤ → List Act → Type 0
IsFree None acts = ⊤
IsFree (Some fd) acts = IsOpen fd acts → ⊥

abbrev pub GivesFree : List Act → Type 0
GivesFree [] = ⊤
GivesFree (act ∷ acts) = IsFree (made_by act) acts × GivesFree acts

-- each descriptor that is closed is open until then, so that it is closed once
abbrev pub IsTaken : Option ℤ → List Act → Type 0
IsTaken None acts = ⊤
IsTaken (Some fd) acts = IsOpen fd acts

abbrev pub ClosesOpen : List Act → Type 0
ClosesOpen [] = ⊤
ClosesOpen (act ∷ acts) = IsTaken (closed_by act) acts × ClosesOpen acts

-- a socket has the descriptor
pub record Has (sides : Sides) (fd : ℤ) : Type 0 where
  pub name : OpId
  pub known : Known
  pub stands : sides name ≡ Some known
  pub is : known.fd ≡ fd

-- Each socket has a descriptor that is open and no other socket's; each that is open is a socket's; and each was closed once.
pub record AreOwned (sides : Sides) (acts : List Act) : Type 0 where
  pub apart : (a b : OpId) (k m : Known) → sides a ≡ Some k → sides b ≡ Some m → k.fd ≡ m.fd → a ≡ b
  pub opened : (name : OpId) (k : Known) → sides name ≡ Some k → IsOpen k.fd acts
  pub theirs : (fd : ℤ) → IsOpen fd acts → Has sides fd
  pub once : ClosesOpen acts

-- that is so, on a system that gives no descriptor that is open
abbrev pub Owned : Sides → Acts → Type 0
Owned sides None = ⊤
Owned sides (Some acts) = GivesFree acts → AreOwned sides acts
