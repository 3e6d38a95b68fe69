use Rattle.std.proofs.Common.{◌≡◌, ◌+◌, ◌-◌, ◌≤◌, length}
use Rattle.world_io.specs.Io.{Gave}
use Rattle.wasi_program.proofs.reading.read_within.Given as goal

-- the source gave the text so far
abbrev pub invariant-reading : goal.invariant-reading
invariant-reading g l = record {
  gave : Gave (g.C.Source.reading l.fn.source) l.text.items (g.C.Source.reading l.source);
  within : length l.text.items ≤ l.most + 1;
  faults : (g.C.Source.reading l.source).faults ≡ (g.C.Source.reading l.fn.source).faults;
}

abbrev pub decreases-reading : goal.decreases-reading
decreases-reading g l = l.most + 1 - length l.text.items
