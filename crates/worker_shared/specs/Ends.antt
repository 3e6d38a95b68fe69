-- What contracts see of the ends of a line.
use Rattle.std.specs.Prelude.{◌≡◌, ℕ, List, [], ◌∷◌, ◌++◌, length}
use Rattle.std.specs.declared.alloc.Global.{Global}
use Rattle.crossbeam_queue.specs.SegTies.{SegId}

-- an end of a line, and the chunks that went through it, in order
pub record End : Type 0 where
  pub line : SegId Global
  pub chunks : List (List ℕ)

-- the end with one chunk more
abbrev pub with_chunk : End → List ℕ → End
with_chunk end chunk = record end { chunks = end.chunks ++ chunk ∷ [] }

-- the line at this place
abbrev pub line_at : ℕ × ℕ → Global → SegId Global
line_at web heap = record { web = web; heap = heap }

-- What was pushed is what was popped, followed by so many chunks.
pub record IsLeft (pushed popped : List (List ℕ)) (count : ℕ) : Type 0 where
  pub items : List (List ℕ)
  pub in_order : pushed ≡ popped ++ items
  pub counted : length items ≡ count
