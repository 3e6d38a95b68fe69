use Rattle.std.proofs.Common.{◌≡◌, take}
use Rattle.wasi_steps.specs.Reply.{ips_values}
use Rattle.wasi_steps.proofs.fields.IpListIntoFields.into_fields.Given as goal

abbrev pub invariant-loop-address : goal.invariant-loop-address
invariant-loop-address l = l.fields.items ≡ ips_values (take l.address-index l.address-items)
