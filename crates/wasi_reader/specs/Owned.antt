-- What the owner of a read stream holds.
use Rattle.std.specs.Prelude.{◌≡◌, Bool, true, false, ℕ, List, [], ◌++◌, length}
use Rattle.std.specs.List.{concat}
use Rattle.std.specs.declared.alloc.Global.{Global}
use Rattle.crossbeam_queue.specs.SegTies.{SegId}
use Rattle.worker_shared.specs.Ends.{End}
use Rattle.wasi_reader.specs.declared.stage.Stage.TheVariants.{Open}
use Rattle.wasi_reader.specs.Knows.{OwnerKnows}
use Rattle.wasi_reader.specs.Stream.{given_of}

pub record Owned (ours : SegId Global) (pop : End) (keys : OwnerKnows) (rest : List ℕ) (closed : Bool) : Type 0 where
  pub line : pop.line ≡ ours
  pub counted : keys.popped ≡ length pop.chunks
  pub split : concat pop.chunks ≡ given_of pop.chunks rest ++ rest  -- what was popped is what was given, followed by what is kept
  pub heard : closed ≡ false → keys.heard ≡ Open
  pub empty : closed ≡ true → rest ≡ []
