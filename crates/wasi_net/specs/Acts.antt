-- What the system was asked to do, with its answers.
use Rattle.std.specs.Prelude.{ℕ, ℤ, List, ◌∷◌, Option, Some, None, Result, Ok, Err, take}
use Rattle.libc.specs.declared.types.pollfd.{pollfd}
use Rattle.wasi_net.specs.declared.errno.Errno.{Errno}
use Rattle.wasi_net.specs.declared.descriptor.Descriptor.{Descriptor}

-- the answer of a call that makes or does something and gives nothing back
abbrev pub Status : Type 0
Status = Result (Unit {0}) Errno

-- one call of the system with its arguments, by the descriptor, and its answer
pub data Act : Type 0 where
  Socket : ℤ → ℤ → Result ℤ Errno → Act
  Bind : ℤ → List ℕ → ℕ → Status → Act
  Connect : ℤ → List ℕ → ℕ → Status → Act
  Listen : ℤ → ℤ → Status → Act
  Accept : ℤ → Result ℤ Errno → Act
  Local : ℤ → Result (List ℕ × ℕ) Errno → Act
  Peer : ℤ → Result (List ℕ × ℕ) Errno → Act
  Set : ℤ → ℤ → ℤ → List ℕ → ℕ → Status → Act
  Get : ℤ → ℤ → ℤ → Result (List ℕ) Errno → Act
  Send : ℤ → List ℕ → Result ℕ Errno → Act
  Receive : ℤ → ℕ → Result (List ℕ) Errno → Act
  SendTo : ℤ → List ℕ → List ℕ → ℕ → Result ℕ Errno → Act
  ReceiveFrom : ℤ → ℕ → Result (List ℕ) Errno → Act
  Shutdown : ℤ → ℤ → Status → Act
  Poll : List pollfd → ℤ → Result ℕ Errno → Act
  Close : ℤ → Act

-- the calls that were made, the last first, where they are reported
abbrev pub Acts : Type 0
Acts = Option (List Act)

-- one more call
abbrev pub after : Act → Acts → Acts
after act None = None
after act (Some acts) = Some (act ∷ acts)

-- the number of a descriptor that was made
abbrev pub number_of : Result Descriptor Errno → Result ℤ Errno
number_of (Ok descriptor) = Ok descriptor.number
number_of (Err error) = Err error

-- the bytes that came, at the front of the buffer
abbrev pub came : Result ℕ Errno → List ℕ → Result (List ℕ) Errno
came (Ok count) buffer = Ok (take count buffer)
came (Err error) buffer = Err error
