-- What a started closure gives.
use Rattle.std.specs.Prelude.{◌≡◌}
use Rattle.wasi_spawn.specs.declared.run.Ran.{Ran}
use Rattle.wasi_spawn.specs.declared.run.Ran.TheVariants.{Back, Done}

-- the job itself, or a result that it may give
abbrev pub IsRunOf : {J O : Type 0} → (J → O → Type 0) → J → Ran J O → Type 0
IsRunOf may_give job (Back same) = same ≡ job
IsRunOf may_give job (Done out) = may_give job out
