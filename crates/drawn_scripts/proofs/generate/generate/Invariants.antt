use Rattle.std.proofs.Common.{◌≡◌, ◌+◌, ◌/◌, string_bytes}
use Rattle.drawn_scripts.specs.Generate.{drawn, generated}
use Rattle.drawn_scripts.proofs.generate.generate.Given as goal

-- the lines so far, and the number of the block that the last of them is in
abbrev pub invariant-loop-k : goal.invariant-loop-k
invariant-loop-k l = record {
  text : string_bytes l.text ≡ generated l.fn.kind l.fn.seed l.k;
  drawn : l.x ≡ drawn l.fn.seed ((l.k + 7) / 9);
}
