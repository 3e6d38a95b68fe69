-- The 0.3 call of name lookup: what it asks, returns and leaves.
use Rattle.std.specs.Prelude.{ℕ, List, [], ◌∷◌, Result, Ok, Err}
use Rattle.wasi_addr.specs.declared.address.IpAddress.{IpAddress}
use Rattle.wasi_addr.specs.declared.lookup.ErrorCode.{ErrorCode}
use Rattle.wasi_names.specs.declared.name.HostName.{HostName}
use Rattle.wasi_names.specs.declared.name.HostName.TheVariants.{Address, Domain}
use Rattle.wasi_names.specs.Names.{host_for}
use Rattle.wasi_world.specs.declared.outcome.Answer.{Answer}
use Rattle.wasi_world.specs.declared.outcome.Answer.TheVariants.{Ready}
use Rattle.wasi_world.specs.declared.outcome.WasiSocketsCtx.{WasiSocketsCtx}
use Rattle.wasi_world.specs.Asks.{Give}
use Rattle.record_common.specs.Stops.{Code}
use Rattle.host_store.specs.declared.machine.Machine.{Machine}
use Rattle.host_store.specs.Block.{Does, last}
use Rattle.host_lookups.specs.Resolves.{resolve_of}
use Rattle.wasi_p3.specs.Lines.{in_store}

-- an address is its own answer; a domain is asked for
abbrev pub resolve_host : ℕ → Result HostName ErrorCode → Does ErrorCode Machine (Answer (List IpAddress))
resolve_host line (Err c) m = Give (Err (Code c), m)
resolve_host line (Ok (Address a)) m = Give (Ok (Ready (a ∷ [])), m)
resolve_host line (Ok (Domain host)) m = last (in_store (resolve_of line host)) m

-- where the context and the name allow it
abbrev pub resolve : ℕ → WasiSocketsCtx → List ℕ → Does ErrorCode Machine (Answer (List IpAddress))
resolve line ctx name = resolve_host line (host_for ctx name)
