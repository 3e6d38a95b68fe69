use Rattle.std.proofs.Common.{◌≡◌, ◌++◌, drop, string_bytes}
use Rattle.policy_asks.specs.Findings.{shadowed_text}
use Rattle.policy_asks.proofs.findings.add_shadowed.Given as goal

abbrev pub invariant-loop-line : goal.invariant-loop-line
invariant-loop-line l = string_bytes l.text ++ shadowed_text (drop l.line-index l.lines) ≡ string_bytes l.fn.text ++ shadowed_text l.lines
