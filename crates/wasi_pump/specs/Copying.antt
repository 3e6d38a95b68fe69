-- How far a pump's streams are.
use Rattle.std.specs.Prelude.{◌≡◌, ℕ, ◌+◌, ◌-◌, ◌^◌, true, false, List, ◌++◌, length, min, Option, None, Some}
use Rattle.std.specs.List.{concat}
use Rattle.wasi_reader.specs.declared.stage.Stage.TheVariants as stage
use Rattle.wasi_reader.specs.Stream.{ReadStream}
use Rattle.wasi_writer.specs.Stream.{WriteStream}
use Rattle.wasi_pump.specs.declared.piece.Piece.{Piece}
use Rattle.wasi_pump.specs.declared.piece.Piece.TheVariants.{Moved, Ended, Stopped}

-- a count in 64 bits, which stays at its top
abbrev pub counted : ℕ → ℕ
counted n = min n (2 ^ 64 - 1)

-- What was read was written, and neither stream told an error.
pub record InStep (r : ReadStream) (w : WriteStream) : Type 0 where
  pub same : concat w.chunks ≡ r.given
  pub closed : r.closed ≡ false
  pub stopped : r.stopped ≡ false
  pub flush : w.flush ≡ false

-- The end was read, all that was read was written, and a flush was accepted.
pub record AtEnd (r : ReadStream) (w : WriteStream) : Type 0 where
  pub same : concat w.chunks ≡ r.given
  pub heard : r.heard ≡ stage.Ended
  pub flush : w.flush ≡ true

-- What was written is a prefix of what was read.
pub record IsAhead (r : ReadStream) (w : WriteStream) : Type 0 where
  pub lost : List ℕ  -- bytes that were read and not written
  pub split : r.given ≡ concat w.chunks ++ lost

-- what one piece makes of the streams
abbrev pub HasCopied : ReadStream → WriteStream → ReadStream → WriteStream → Piece → Type 0
HasCopied r w r' w' (Moved count) = InStep r' w' × (length r'.given ≡ length r.given + count)
HasCopied r w r' w' Ended = AtEnd r' w' × (r'.given ≡ r.given)
HasCopied r w r' w' Stopped = IsAhead r' w'

-- The bytes were accepted.
pub record Appended (w : WriteStream) (bytes : List ℕ) (w' : WriteStream) : Type 0 where
  pub chunks : concat w'.chunks ≡ concat w.chunks ++ bytes
  pub flush : w.flush ≡ false → w'.flush ≡ false

-- what a write of these bytes makes of its stream
abbrev pub HasWritten : WriteStream → List ℕ → WriteStream → Piece → Type 0
HasWritten w bytes w' (Moved count) = Appended w bytes w' × (count ≡ length bytes)
HasWritten w bytes w' Ended = ⊥
HasWritten w bytes w' Stopped = w'.chunks ≡ w.chunks

-- what a flush makes of its stream
abbrev pub HasEndedWrites : WriteStream → WriteStream → Piece → Type 0
HasEndedWrites w w' (Moved count) = ⊥
HasEndedWrites w w' Ended = (w'.chunks ≡ w.chunks) × (w'.flush ≡ true)
HasEndedWrites w w' Stopped = w'.chunks ≡ w.chunks

-- what copying makes of the streams, where it came to the end with this count or stopped early
abbrev pub Copied : Option ℕ → ReadStream → WriteStream → Type 0
Copied (Some count) r w = AtEnd r w × (count ≡ counted (length r.given))
Copied None r w = IsAhead r w
