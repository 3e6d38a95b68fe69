-- The bytes that the writers of a context are permitted or have still to write, beside its limit.
use Rattle.std.specs.Prelude.{⊤, ℕ, ◌<◌, ◌≤◌, List, [], ◌∷◌, IfSome}
use Rattle.wasi_records.specs.Used.{used}
use Rattle.host_store.specs.Limits.{limit_in, limit_or}
use Rattle.host_store.specs.Store.{Records}
use Rattle.wasi_steps.specs.Steps.{context_of}
use Rattle.wasi_steps.specs.declared.step.Step.{Step}

-- of each context they are together at most the limit that is kept of it, and none where none is kept
abbrev pub IsWithin : Records → Type 0
IsWithin store = (context : ℕ) → used context store.records ≤ limit_or (limit_in store.limits context)

-- each call of a guest is of one of so many contexts
abbrev pub AreOf : ℕ → List Step → Type 0
AreOf count [] = ⊤
AreOf count (s ∷ steps) = IfSome (context_of s) (λ n. n < count) × AreOf count steps
