use Rattle.wasi_run.proofs.Words.{◌==◌, count_by, take, ◌≡◌, ◌≤◌}
use Rattle.drawn_scripts.proofs.counts.count_lines.Given as goal

-- the newlines so far
abbrev pub invariant-loop-byte : goal.invariant-loop-byte
invariant-loop-byte l = record {
  lines : l.lines ≡ count_by (λ b. b == 10) (take l.byte-index l.text);
  within : l.lines ≤ l.byte-index;
}
