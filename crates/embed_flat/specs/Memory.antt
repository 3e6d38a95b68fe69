-- Bytes of a guest's memory.
use Rattle.std.specs.Prelude.{ℕ, ◌+◌, ◌<◌, ◌≤◌, ◌⊎◌, List, ◌++◌, length, take, drop}
use Rattle.std.specs.Int.{bytes_low_first}

-- the lowest bytes of a number, so many, the lowest first
abbrev pub low_bytes : ℕ → ℕ → List ℕ
low_bytes width n = bytes_low_first 0 width n

-- the bytes that a memory has once these were put at a place of it: those before and those behind are as they were
abbrev pub put : List ℕ → ℕ → List ℕ → List ℕ
put memory at bytes = take at memory ++ (bytes ++ drop (length bytes) (drop at memory))

-- it isn't among so many bytes at a place
abbrev pub IsOutside : ℕ → ℕ → ℕ → Type 0
IsOutside at len k = (k < at) ⊎ (at + len ≤ k)
