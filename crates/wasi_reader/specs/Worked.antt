-- What a worker made of its source.
use Rattle.std.specs.Prelude.{◌≡◌, ℕ, List, [], ◌∷◌, ◌++◌, Option, None, Some}
use Rattle.std.specs.List.{concat}
use Rattle.world_io.specs.Io.{Reading, Gave, HasEnded}
use Rattle.wasi_world.specs.Seen.{Rose}
use Rattle.wasi_reader.specs.declared.stage.Stage.{Stage}
use Rattle.wasi_reader.specs.declared.stage.Stage.TheVariants.{Open, Ended, Failed, Starved}

-- Neither a fault was counted nor the end given.
pub record SameReading (old new : Reading) : Type 0 where
  pub ended : new.ended ≡ old.ended
  pub faults : new.faults ≡ old.faults

-- The source gave its end, without a fault.
pub record MetEnd (old new : Reading) : Type 0 where
  pub ended : HasEnded new
  pub faults : new.faults ≡ old.faults

-- A read failed, and the end wasn't given.
pub record MetFault (old new : Reading) : Type 0 where
  pub ended : new.ended ≡ old.ended
  pub rose : Rose old.faults new.faults

-- From old to new the source was read up to this stage.
abbrev pub ReadUpTo : Stage → Reading → Reading → Type 0
ReadUpTo Open old new = SameReading old new
ReadUpTo Ended old new = MetEnd old new
ReadUpTo Failed old new = MetFault old new
ReadUpTo Starved old new = SameReading old new

-- bytes that were read last and not handed on: none where the end was met
abbrev pub MayLose : Stage → List ℕ → Type 0
MayLose Ended lost = lost ≡ []
MayLose _ lost = Unit {0}

-- From old to new the source gave a chunk, which was pushed.
pub record HandedOn (old new : Reading) (chunks chunks' : List (List ℕ)) : Type 0 where
  pub chunk : List ℕ
  pub gave : Gave old chunk new
  pub same : SameReading old new
  pub pushed : chunks' ≡ chunks ++ chunk ∷ []

-- From old to new the source was read up to this stage, and nothing more was pushed.
pub record StoppedAt (stage : Stage) (old new : Reading) (chunks chunks' : List (List ℕ)) : Type 0 where
  pub lost : List ℕ
  pub gave : Gave old lost new
  pub upto : ReadUpTo stage old new
  pub loses : MayLose stage lost
  pub pushed : chunks' ≡ chunks

-- one read: the worker continues, or stops at a stage
abbrev pub HasStepped : Option Stage → Reading → Reading → List (List ℕ) → List (List ℕ) → Type 0
HasStepped None old new chunks chunks' = HandedOn old new chunks chunks'
HasStepped (Some stage) old new chunks chunks' = StoppedAt stage old new chunks chunks'

-- From began to now the source gave what the worker pushed, in order, and then what was lost at its end.
pub record Worked (began : Reading) (chunks : List (List ℕ)) (stage : Stage) (now : Reading) : Type 0 where
  pub lost : List ℕ
  pub gave : Gave began (concat chunks ++ lost) now
  pub upto : ReadUpTo stage began now
  pub loses : MayLose stage lost

-- From began to now the source gave what the worker pushed, in order.
pub record GoesOn (began : Reading) (chunks : List (List ℕ)) (now : Reading) : Type 0 where
  pub gave : Gave began (concat chunks) now
  pub same : SameReading began now

-- what became of bytes that were to be handed on: they are a chunk, or lost where the worker stops
abbrev pub HasHanded : Option Stage → List ℕ → List (List ℕ) → List (List ℕ) → Type 0
HasHanded None bytes chunks chunks' = chunks' ≡ chunks ++ bytes ∷ []
HasHanded (Some Open) bytes chunks chunks' = chunks' ≡ chunks
HasHanded (Some Starved) bytes chunks chunks' = chunks' ≡ chunks
HasHanded (Some Ended) bytes chunks chunks' = ⊥
HasHanded (Some Failed) bytes chunks chunks' = ⊥
