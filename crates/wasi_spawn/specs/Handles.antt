-- What a handle was made for.
use Rattle.wasi_spawn.specs.declared.handle.Handle.{Handle}
use Rattle.wasi_spawn.specs.declared.handle.Handle.TheVariants.{Thread, Here}

-- the job that was started
abbrev pub started_with : {J O : Type 0} → Handle J O → J
started_with (Thread handle) = handle.promise.0.value
started_with (Here kept) = kept
