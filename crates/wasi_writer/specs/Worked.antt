-- What a worker made of its sink.
use Rattle.std.specs.Prelude.{◌≡◌, ℕ, Bool, true, false, List, IfSome}
use Rattle.std.specs.List.{concat}
use Rattle.world_io.specs.Io.{Writing}
use Rattle.world_io.specs.Written.{TookAll, TookFault}
use Rattle.wasi_writer.specs.Knows.{WorkerKnows}

-- a fault, or none
abbrev pub TookTo : Bool → Writing → List ℕ → Writing → Type 0
TookTo false old bytes new = TookAll old bytes new
TookTo true old bytes new = TookFault old bytes new

-- the last that is reported of flushes is that one was answered Ok
abbrev pub IsFlushed : Writing → Type 0
IsFlushed sink = IfSome sink.flushed (λ flushed. flushed ≡ true)

-- From began to now the worker wrote the chunks that it popped, in order: all of them, or the front of them before its fault.
pub record Worked (began : Writing) (chunks : List (List ℕ)) (knows : WorkerKnows) (now : Writing) : Type 0 where
  pub took : TookTo knows.met began (concat chunks) now
  pub flushed : knows.flushed ≡ true → IsFlushed now
