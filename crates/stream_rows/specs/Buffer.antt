-- What contracts see of what a pipe holds.
use Rattle.std.specs.Prelude.{ℕ, Bool, List}

pub record BufferView : Type 0 where
  pub held : List ℕ  -- the bytes that were written and not read
  pub capacity : ℕ  -- how many it may hold
  pub reader_gone : Bool
  pub writer_gone : Bool
