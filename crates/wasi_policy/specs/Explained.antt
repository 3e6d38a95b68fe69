-- Which rule decided, and how decisions are written.
use Rattle.std.specs.Prelude.{ℕ, ◌+◌, if◌then◌else◌, List, [], ◌∷◌, ◌++◌, codes, decimal, Option, Some, None}
use Rattle.std.specs.List.{slice_get}
use Rattle.wasi_addr.specs.declared.address.IpSocketAddress.{IpSocketAddress}
use Rattle.wasi_addr.specs.declared.address.SocketAddrUse.{SocketAddrUse}
use Rattle.wasi_policy.specs.declared.rule.Action.TheVariants.{Deny}
use Rattle.wasi_policy.specs.declared.rule.Net.{Net}
use Rattle.wasi_policy.specs.declared.rule.Net.TheVariants.{Any}
use Rattle.wasi_policy.specs.declared.rule.Rule.{Rule}
use Rattle.wasi_policy.specs.declared.rule.Decision.{Decision}
use Rattle.wasi_policy.specs.declared.rule.Explanation.{Explanation}
use Rattle.world_text.specs.Fields.{line_with}
use Rattle.wasi_policy.specs.Decision.{matches}
use Rattle.wasi_policy.specs.Grammar.{action_text, uses_text, net_fields}

-- as `allow 3`
abbrev pub decision_text : Decision → List ℕ
decision_text d = (if d.allow then codes "allow " else codes "deny ") ++ decimal d.rule

-- the fields of a rule's addresses, as text
abbrev pub net_text : Net → List ℕ
net_text net = line_with (net_fields net)

-- a rule as text, which is its line
abbrev pub rule_text : Rule → List ℕ
rule_text rule =
    action_text rule.action ++ codes " " ++ uses_text rule.usage ++ codes " " ++ net_text rule.net ++ codes " "
    ++ decimal rule.low ++ codes " " ++ decimal rule.high

-- what holds where no rule matches
abbrev pub last_rule : Rule
last_rule = record { action = Deny; usage = None; net = Any; low = 0; high = 65535 }

-- of the rules from this line on, the first that matches; where none does, line 0 and the rule that denies all
abbrev pub explained_from : ℕ → List Rule → IpSocketAddress → SocketAddrUse → Explanation
explained_from line [] address asked = record { line = 0; rule = last_rule }
explained_from line (rule ∷ rules) address asked =
    if matches rule address asked then record { line = line; rule = rule } else explained_from (line + 1) rules address asked

abbrev pub explanation : List Rule → IpSocketAddress → SocketAddrUse → Explanation
explanation rules address asked = explained_from 1 rules address asked

-- the rule of a place; none where there is no such rule
abbrev pub explained_by : ℕ → Option Rule → Explanation
explained_by place None = record { line = 0; rule = last_rule }
explained_by place (Some rule) = record { line = place + 1; rule = rule }

abbrev pub explained_at : List Rule → ℕ → Explanation
explained_at rules place = explained_by place (slice_get rules place)
