use Rattle.std.proofs.Common.{◌≡◌, ◌++◌, drop}
use Rattle.wasi_net.specs.Hosts.{addresses_of}
use Rattle.wasi_net.proofs.hosts.Hosts.addresses.Given as goal

-- the addresses so far, and then those of the rest
abbrev pub invariant-loop-named : goal.invariant-loop-named
invariant-loop-named l = l.found.items ++ addresses_of l.host (drop l.named-index l.self.entries.items) ≡ addresses_of l.host l.self.entries.items
