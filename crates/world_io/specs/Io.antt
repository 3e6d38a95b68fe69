-- What is known of a source and of a sink of bytes.
use Rattle.std.specs.Prelude.{◌≡◌, ℕ, List, [], ◌++◌, ◌<◌, ◌≤◌, ◌⊎◌, Bool, true, false, Option, option_map, IfSome, Result, Ok, Err, take, length}
use Rattle.world_io.specs.declared.io.Failed.{Failed}
use Rattle.wasi_world.specs.Seen.{Rose}

pub record Reading : Type 0 where
  pub left : Option (List ℕ)  -- the bytes that are left, where it tells them
  pub ended : Bool  -- whether it gave its end
  pub faults : ℕ

pub record Writing : Type 0 where
  pub written : Option (List ℕ)  -- the bytes so far, where it tells them
  pub flushed : Option Bool  -- whether a flush was answered Ok after the last write, where it tells that
  pub faults : ℕ
  pub refused : ℕ  -- pieces that it took nothing of

-- From old to new the source gave these bytes.
pub record Gave (old : Reading) (bytes : List ℕ) (new : Reading) : Type 0 where
  pub left : old.left ≡ option_map (λ left. bytes ++ left) new.left

-- The source gave its end, and nothing is left.
pub record HasEnded (source : Reading) : Type 0 where
  pub ended : source.ended ≡ true
  pub nothing : IfSome source.left (λ left. left ≡ [])

-- A read put so many bytes into a buffer of this size.
pub record GaveSome (old new : Reading) (size : ℕ) (buffer : List ℕ) (count : ℕ) : Type 0 where
  pub fits : count ≤ size
  pub gave : Gave old (take count buffer) new
  pub faults : new.faults ≡ old.faults
  pub nothing : 0 < size → count ≡ 0 → HasEnded new
  pub more : 0 < count → new.ended ≡ old.ended
  pub unasked : size ≡ 0 → new.ended ≡ old.ended

-- A read failed: one fault was counted, and no byte moved.
pub record GaveNone (old new : Reading) : Type 0 where
  pub rose : Rose old.faults new.faults
  pub left : new.left ≡ old.left
  pub ended : new.ended ≡ old.ended

abbrev pub HasRead : Reading → Reading → ℕ → List ℕ → Result ℕ Failed → Type 0
HasRead old new size buffer (Ok count) = GaveSome old new size buffer count
HasRead old new size buffer (Err e) = GaveNone old new

-- From old to new the sink took these bytes.
pub record Took (old : Writing) (bytes : List ℕ) (new : Writing) : Type 0 where
  pub written : new.written ≡ option_map (λ written. written ++ bytes) old.written

-- Neither a fault nor a refused piece was counted.
pub record SameCounts (old new : Writing) : Type 0 where
  pub faults : new.faults ≡ old.faults
  pub refused : new.refused ≡ old.refused

-- A fault or a refused piece was counted.
pub record CountRose (old new : Writing) : Type 0 where
  pub rose : Rose old.faults new.faults ⊎ Rose old.refused new.refused

-- A write took so many of the bytes: none of a piece that isn't empty is a refused piece.
pub record TookSome (old new : Writing) (bytes : List ℕ) (count : ℕ) : Type 0 where
  pub fits : count ≤ length bytes
  pub took : Took old (take count bytes) new
  pub faults : new.faults ≡ old.faults
  pub accepted : 0 < count → new.refused ≡ old.refused
  pub empty : length bytes ≡ 0 → new.refused ≡ old.refused
  pub refused : 0 < length bytes → count ≡ 0 → Rose old.refused new.refused
  pub flushed : new.flushed ≡ option_map (λ flushed. false) old.flushed

-- A write failed: one fault was counted, and no byte moved.
pub record TookNone (old new : Writing) : Type 0 where
  pub rose : Rose old.faults new.faults
  pub written : new.written ≡ old.written
  pub refused : new.refused ≡ old.refused
  pub flushed : new.flushed ≡ option_map (λ flushed. false) old.flushed

abbrev pub HasWritten : Writing → Writing → List ℕ → Result ℕ Failed → Type 0
HasWritten old new bytes (Ok count) = TookSome old new bytes count
HasWritten old new bytes (Err e) = TookNone old new

-- A flush was answered Ok.
pub record Flushed (old new : Writing) : Type 0 where
  pub written : new.written ≡ old.written
  pub counts : SameCounts old new
  pub flushed : new.flushed ≡ option_map (λ flushed. true) old.flushed

-- A flush failed: one fault was counted.
pub record FlushFailed (old new : Writing) : Type 0 where
  pub rose : Rose old.faults new.faults
  pub written : new.written ≡ old.written
  pub refused : new.refused ≡ old.refused
  pub flushed : new.flushed ≡ old.flushed

abbrev pub HasFlushed : Writing → Writing → Result (Unit {0}) Failed → Type 0
HasFlushed old new (Ok done) = Flushed old new
HasFlushed old new (Err e) = FlushFailed old new
