use Rattle.std.proofs.Common.{◌≡◌, length}
use Rattle.wasi_steps.specs.Datagrams.{datagrams_at}
use Rattle.world_text.proofs.UpTo.{before}
use Rattle.wasi_steps.proofs.datagram.datagrams.Given as goal

abbrev pub invariant-loop-alloc : goal.invariant-loop-alloc
invariant-loop-alloc l = datagrams_at l.initial.fields ≡ before l.datagrams.items (datagrams_at l.fields)

abbrev pub decreases-loop-alloc : goal.decreases-loop-alloc
decreases-loop-alloc l = length l.fields
