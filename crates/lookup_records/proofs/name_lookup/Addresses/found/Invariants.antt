use Rattle.std.proofs.Common.{◌≡◌}
use Rattle.lookup_records.proofs.NameLookups.{converted}
use Rattle.lookup_records.proofs.name_lookup.Addresses.found.Given as goal

-- those before the index are in their canonical form
abbrev pub invariant-loop-address : goal.invariant-loop-address
invariant-loop-address l = l.address-items ≡ converted l.address-index l.fn.list
