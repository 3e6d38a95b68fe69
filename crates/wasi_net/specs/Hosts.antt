-- What lookups are answered from a list of names.
use Rattle.std.specs.Prelude.{ℕ, ◌==◌, bytes_eq, length, if◌then◌else◌, List, [], ◌∷◌}
use Rattle.wasi_addr.specs.declared.address.IpAddress.{IpAddress}
use Rattle.wasi_addr.specs.declared.code.ErrorCode.TheVariants.{AccessDenied}
use Rattle.wasi_world.specs.declared.call.Told.{Told}
use Rattle.wasi_world.specs.declared.call.Told.TheVariants.{Code, Names}
use Rattle.wasi_net.specs.declared.hosts.Named.{Named}

-- the addresses of a name, in order
abbrev pub addresses_of : List ℕ → List Named → List IpAddress
addresses_of host [] = []
addresses_of host (named ∷ more) = if bytes_eq named.name.items host then named.address ∷ addresses_of host more else addresses_of host more

-- the addresses that were found, or a code where there is none
abbrev pub found_told : List IpAddress → Told
found_told found = if length found == 0 then Code AccessDenied else Names found

-- the answer to a lookup of a name
abbrev pub lookup_told : List Named → List ℕ → Told
lookup_told names host = found_told (addresses_of host names)
