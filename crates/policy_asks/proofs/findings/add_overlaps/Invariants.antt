use Rattle.std.proofs.Common.{◌≡◌, ◌++◌, drop, string_bytes}
use Rattle.policy_asks.specs.Findings.{overlaps_text}
use Rattle.policy_asks.proofs.findings.add_overlaps.Given as goal

abbrev pub invariant-loop-line : goal.invariant-loop-line
invariant-loop-line l = string_bytes l.text ++ overlaps_text (drop l.line-index l.pairs) ≡ string_bytes l.fn.text ++ overlaps_text l.pairs
