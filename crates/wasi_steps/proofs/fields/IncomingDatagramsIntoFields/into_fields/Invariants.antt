use Rattle.std.proofs.Common.{◌≡◌, ◌++◌, flat_map}
use Rattle.std.specs.Vec.Iter.{into_iter_items}
use Rattle.wasi_steps.specs.Reply.{received_values, datagram_values}
use Rattle.wasi_steps.proofs.fields.IncomingDatagramsIntoFields.into_fields.Given as goal

abbrev pub invariant-loop-datagram : goal.invariant-loop-datagram
invariant-loop-datagram l = l.fields.items ++ flat_map received_values (into_iter_items l.datagram-iterator) ≡ datagram_values l.fn.self
