-- What a write of all bytes leaves.
use Rattle.std.specs.Prelude.{◌≡◌, ◌<◌, ℕ, List, ◌++◌, take, length, is_some}
use Rattle.world_io.specs.Io.{Writing, Took, SameCounts, CountRose}

-- it reports flushes as it did
abbrev pub StillTells : Writing → Writing → Type 0
StillTells old new = is_some new.flushed ≡ is_some old.flushed

-- From old to new the sink took all of these bytes.
pub record TookAll (old : Writing) (bytes : List ℕ) (new : Writing) : Type 0 where
  pub took : Took old bytes new
  pub counts : SameCounts old new
  pub tells : StillTells old new

-- From old to new the sink took the first of these bytes and not all, and counted why it took no more.
pub record TookPart (old : Writing) (bytes : List ℕ) (new : Writing) : Type 0 where
  pub cut : ℕ
  pub short : cut < length bytes
  pub took : Took old (take cut bytes) new
  pub counts : CountRose old new
  pub tells : StillTells old new

-- From old to new the sink took a prefix of these bytes.
pub record TookFront (old : Writing) (bytes : List ℕ) (new : Writing) : Type 0 where
  pub taken : List ℕ
  pub rest : List ℕ
  pub split : bytes ≡ taken ++ rest
  pub took : Took old taken new

-- From old to new the sink took a prefix of these bytes, and a call failed or took nothing of a piece.
pub record TookFault (old : Writing) (bytes : List ℕ) (new : Writing) : Type 0 where
  pub front : TookFront old bytes new
  pub rose : CountRose old new
  pub tells : StillTells old new
