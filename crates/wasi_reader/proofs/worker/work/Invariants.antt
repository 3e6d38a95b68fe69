use Rattle.std.proofs.Common.{◌≡◌}
use Rattle.wasi_reader.specs.declared.stage.Stage.TheVariants.{Open}
use Rattle.wasi_reader.specs.Worked.{GoesOn}
use Rattle.wasi_reader.proofs.worker.work.Given as goal

abbrev pub invariant-loop : goal.invariant-loop
invariant-loop g l = record {
  goes : (goal.iterator-loop g).can_next l.iterator';
  ends : (goal.iterator-loop g).is_finite l.iterator';
  worked : GoesOn (g.S.Source.reading l.fn.source) l.side.push.chunks (g.S.Source.reading l.source);
  first : l.side.keys.stage ≡ Open;
}
