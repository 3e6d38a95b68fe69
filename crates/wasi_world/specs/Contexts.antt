-- The contexts of a run, which are numbered by their places.
use Rattle.std.specs.Prelude.{◌≡◌, ℕ, true, false, List, IfSome, slice_get}
use Rattle.wasi_world.specs.declared.outcome.WasiSocketsCtx.{WasiSocketsCtx}

-- the limit on unwritten bytes where none is written
abbrev pub no_write_limit : ℕ
no_write_limit = 18446744073709551615

-- the one context of a run where none is described: it may use TCP, UDP and name lookup
abbrev pub free_context : WasiSocketsCtx
free_context = record { name = 0; ip_name_lookup = true; udp = true; tcp = true; write_limit = no_write_limit }

-- a context that is allowed nothing
abbrev pub default_context : WasiSocketsCtx
default_context = record { name = 0; ip_name_lookup = false; udp = false; tcp = false; write_limit = no_write_limit }

-- each context's name is its place
abbrev pub AreNumbered : List WasiSocketsCtx → Type 0
AreNumbered contexts = (i : ℕ) → IfSome (slice_get contexts i) (λ ctx. ctx.name ≡ i)
