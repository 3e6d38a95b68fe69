use Rattle.std.proofs.Common.{◌≡◌, false}
use Rattle.wasi_writer.specs.Worked.{Worked}
use Rattle.wasi_writer.proofs.worker.work.Given as goal

abbrev pub invariant-loop : goal.invariant-loop
invariant-loop g l = record {
  goes : (goal.iterator-loop g).can_next l.iterator';
  ends : (goal.iterator-loop g).is_finite l.iterator';
  worked : Worked (g.K.Sink.writing l.fn.sink) l.side.pop.chunks l.side.keys (g.K.Sink.writing l.sink);
  met : l.side.keys.met ≡ false;
  hand : l.side.keys.hand ≡ false;
}
