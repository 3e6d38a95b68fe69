-- The lines of a source, as they are read one after another.
use Rattle.std.specs.Prelude.{◌≡◌, ◌≢◌, ℕ, ◌+◌, ◌-◌, ◌<◌, ◌≤◌, Bool, true, false, List, [], ◌∷◌, ◌++◌, length, take, Result, IfOk}
use Rattle.std.specs.declared.alloc.AllocError.{AllocError}
use Rattle.wasi_world.specs.Seen.{Rose}
use Rattle.world_io.specs.Io.{Reading, Gave, HasEnded}
use Rattle.world_text.specs.Lines.{lines_of, rest_of, lines_from, rest_from}
use Rattle.wasi_transcript.specs.declared.lines.NextLine.{NextLine}
use Rattle.wasi_transcript.specs.declared.lines.Piece.{Piece}
use Rattle.wasi_transcript.specs.declared.lines.Piece.TheVariants as piece
use Rattle.wasi_transcript.specs.declared.lines.NextLine.TheVariants.{Whole, End, Unfinished, TooLong, Failed}

-- What a reader of lines has read: how many bytes, and those within the limit of which it gave no line yet.
pub record Held : Type 0 where
  pub limit : ℕ
  pub taken : ℕ
  pub held : List ℕ

-- the bytes within the limit from which lines are given, once these more were read
abbrev pub with_more : Held → List ℕ → List ℕ
with_more old more = old.held ++ take (old.limit - old.taken) more

-- what is given next, and what is left of the bytes; the line is what was put into the caller's
abbrev pub Found : Reading → Reading → Held → List ℕ → List ℕ → NextLine → Type 0
Found s_old s_new new bytes line Whole = (lines_of bytes ≡ line ∷ lines_of new.held) × (rest_of bytes ≡ rest_of new.held) × (length new.held < length bytes) × (s_new.faults ≡ s_old.faults)
Found s_old s_new new bytes line End = (lines_of bytes ≡ []) × (rest_of bytes ≡ []) × HasEnded s_new × (new.taken ≤ new.limit)
Found s_old s_new new bytes line Unfinished = (lines_of bytes ≡ []) × (rest_of bytes ≡ line) × (line ≢ []) × HasEnded s_new × (new.taken ≤ new.limit)
Found s_old s_new new bytes line TooLong = (lines_of bytes ≡ []) × (new.taken ≡ new.limit + 1)
Found s_old s_new new bytes line Failed = Rose s_old.faults s_new.faults

-- What one more line took of a source.
pub record Reads (s_old s_new : Reading) (old new : Held) (line : List ℕ) (result : Result NextLine AllocError) : Type 0 where
  pub more : List ℕ
  pub gave : Gave s_old more s_new
  pub taken : new.taken ≡ old.taken + length more
  pub limit : new.limit ≡ old.limit
  pub within : new.taken ≤ new.limit + 1
  pub found : IfOk result (Found s_old s_new new (with_more old more) line)

-- The rest of a line was taken from what is held, or all that is held is a prefix of it.
abbrev pub TakesLine : Held → Held → List ℕ → List ℕ → Bool → Type 0
TakesLine old new front line true = (lines_from front old.held ≡ line ∷ lines_of new.held) × (rest_from front old.held ≡ rest_of new.held) × (length new.held < length old.held)
TakesLine old new front line false = (lines_from front old.held ≡ []) × (rest_from front old.held ≡ line) × (new.held ≡ [])

-- what one read gave, and what is held of it
abbrev pub GavePiece : Reading → Reading → Held → Held → List ℕ → Piece → Type 0
GavePiece s_old s_new old new more piece.Some = (new.held ≡ take (old.limit - old.taken) more) × (0 < length more) × (s_new.faults ≡ s_old.faults)
GavePiece s_old s_new old new more piece.End = (more ≡ []) × (new.held ≡ []) × HasEnded s_new
GavePiece s_old s_new old new more piece.Failed = (more ≡ []) × Rose s_old.faults s_new.faults

-- What one read took of a source.
pub record ReadsPiece (s_old s_new : Reading) (old new : Held) (result : Result Piece AllocError) : Type 0 where
  pub more : List ℕ
  pub gave : Gave s_old more s_new
  pub taken : new.taken ≡ old.taken + length more
  pub limit : new.limit ≡ old.limit
  pub within : new.taken ≤ new.limit + 1
  pub found : IfOk result (GavePiece s_old s_new old new more)
