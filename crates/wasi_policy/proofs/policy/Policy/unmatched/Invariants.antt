use Rattle.std.proofs.Common.{ℕ, ◌≤◌, ◌<◌, ◌⊎◌, length}
use Rattle.std.specs.List.{All, Contains}
use Rattle.wasi_policy.specs.Findings.{Matches, IsUnmatched}
use Rattle.wasi_policy.proofs.policy.Policy.unmatched.Given as goal

abbrev pub invariant-loop-before : goal.invariant-loop-before
invariant-loop-before l = record {
  sound : All (λ k. (0 < k) × (k ≤ length l.self) × IsUnmatched l.self k) l.lines.items;
  there : (line : ℕ) → 0 < line → line ≤ l.before → Contains l.lines.items line ⊎ Matches l.self line;
}
