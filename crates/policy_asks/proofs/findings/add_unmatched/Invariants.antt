use Rattle.std.proofs.Common.{◌≡◌, ◌++◌, drop, string_bytes}
use Rattle.policy_asks.specs.Findings.{unmatched_text}
use Rattle.policy_asks.proofs.findings.add_unmatched.Given as goal

abbrev pub invariant-loop-line : goal.invariant-loop-line
invariant-loop-line l = string_bytes l.text ++ unmatched_text (drop l.line-index l.lines) ≡ string_bytes l.fn.text ++ unmatched_text l.lines
