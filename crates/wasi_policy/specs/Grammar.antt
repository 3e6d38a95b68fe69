-- The grammar of rules: a line `ACTION USE NET LO HI` for each.
use Rattle.std.specs.Prelude.{ℕ, ◌+◌, ◌≤◌, ◌==◌, ◌&&◌, nat_le, Bool, if◌then◌else◌, List, [], ◌∷◌, ◌++◌, bytes_eq, length, take, map, codes, decimal, Option, Some, None, option_map, Result, Ok, Err}
use Rattle.wasi_addr.specs.declared.address.IpAddress.{IpAddress}
use Rattle.wasi_addr.specs.declared.address.IpAddress.TheVariants as ip
use Rattle.wasi_addr.specs.declared.address.SocketAddrUse.{SocketAddrUse}
use Rattle.world_text.specs.EntryText.{use_text}
use Rattle.world_text.specs.Fields.{Reader, ◌>>=◌, give, give_some, named, whole, fields_of, line_with, field_at, number_at, ip_at}
use Rattle.world_text.specs.Lines.{lines_of, rest_of}
use Rattle.world_text.specs.Written.{ipv4_numbers, ipv6_numbers, FitsIpv4, FitsIpv6}
use Rattle.wasi_policy.specs.declared.grammar.TheConstants.{ACTIONS, USES}
use Rattle.wasi_policy.specs.declared.rule.Action.{Action}
use Rattle.wasi_policy.specs.declared.rule.Action.TheVariants.{Allow, Deny}
use Rattle.wasi_policy.specs.declared.rule.Net.{Net}
use Rattle.wasi_policy.specs.declared.rule.Net.TheVariants as net
use Rattle.wasi_policy.specs.declared.rule.Rule.{Rule}

-- == the words
abbrev pub action_text : Action → List ℕ
action_text Allow = codes "allow"
action_text Deny = codes "deny"

-- the action whose word this is
unfoldable pub action_in : List ℕ → Option Action
action_in word = named action_text ACTIONS word

unfoldable pub action_at : Reader Action
action_at = do
  field ← field_at
  give_some (action_in field)

-- the word of a rule's uses: that of its use, or any
abbrev pub uses_text : Option SocketAddrUse → List ℕ
uses_text None = codes "any"
uses_text (Some asked) = use_text asked

-- the uses whose word this is
unfoldable pub uses_in : List ℕ → Option (Option SocketAddrUse)
uses_in word = named uses_text USES word

unfoldable pub uses_at : Reader (Option SocketAddrUse)
uses_at = do
  field ← field_at
  give_some (uses_in field)

-- == the addresses
-- the length of the prefix of this address
abbrev pub prefix_of : IpAddress → Reader Net
prefix_of (ip.Ipv4 front) = do
  len ← number_at 32
  give (net.Ipv4 front len)
prefix_of (ip.Ipv6 front) = do
  len ← number_at 128
  give (net.Ipv6 front len)

unfoldable pub any_net_at : Reader Net
any_net_at = do
  field ← field_at
  give_some (if bytes_eq field (codes "any") then Some net.Any else None)

-- the length of the prefix of an address that was read, or else `any`
abbrev pub net_after : Option (IpAddress × List (List ℕ)) → Reader Net
net_after None fields = any_net_at fields
net_after (Some (address, rest)) fields = prefix_of address rest

unfoldable pub net_at : Reader Net
net_at fields = net_after (ip_at fields) fields

-- == a rule
abbrev pub rule_with : Action → Option SocketAddrUse → Net → ℕ → ℕ → Option Rule
rule_with action uses net low high =
    if nat_le low high then Some (record { action = action; usage = uses; net = net; low = low; high = high }) else None

unfoldable pub rule_at : Reader Rule
rule_at = do
  action ← action_at
  uses ← uses_at
  net ← net_at
  low ← number_at 65535
  high ← number_at 65535
  give_some (rule_with action uses net low high)

-- the rule that a line is, without its newline
unfoldable pub rule_in : List ℕ → Option Rule
rule_in line = whole (rule_at (fields_of line))

-- == how a rule is written
abbrev pub net_fields : Net → List (List ℕ)
net_fields net.Any = codes "any" ∷ []
net_fields (net.Ipv4 front len) = map decimal (4 ∷ ipv4_numbers front ++ len ∷ [])
net_fields (net.Ipv6 front len) = map decimal (6 ∷ ipv6_numbers front ++ len ∷ [])

abbrev pub rule_fields : Rule → List (List ℕ)
rule_fields rule =
    action_text rule.action ∷ uses_text rule.usage ∷ net_fields rule.net ++ decimal rule.low ∷ decimal rule.high ∷ []

-- the line of a rule, without its newline
abbrev pub rule_line : Rule → List ℕ
rule_line rule = line_with (rule_fields rule)

abbrev pub IsNet : Net → Type 0
IsNet net.Any = Unit {0}
IsNet (net.Ipv4 front len) = FitsIpv4 front × (len ≤ 32)
IsNet (net.Ipv6 front len) = FitsIpv6 front × (len ≤ 128)

-- The numbers are in their ranges, and the least port is not above the greatest.
abbrev pub IsRule : Rule → Type 0
IsRule rule = IsNet rule.net × (rule.low ≤ rule.high) × (rule.high ≤ 65535)

-- == all rules
-- these rules with that of one more line
abbrev pub with_rule : List Rule → List ℕ → Option (List Rule)
with_rule before text = option_map (λ rule. before ++ rule ∷ []) (rule_in text)

-- these rules and those of the lines, the first of which has this number; or the number of the first that is no rule
abbrev pub next_rules : ℕ → Option (List Rule) → (List Rule → Result (List Rule) ℕ) → Result (List Rule) ℕ
next_rules line None more = Err line
next_rules line (Some next) more = more next

abbrev pub with_rules : ℕ → List Rule → List (List ℕ) → Result (List Rule) ℕ
with_rules line before [] = Ok before
with_rules line before (text ∷ lines) = next_rules line (with_rule before text) (λ next. with_rules (line + 1) next lines)

-- nothing follows the last newline of a text, and it has at most so many bytes
abbrev pub is_whole : ℕ → List ℕ → Bool
is_whole most text = (length (rest_of (take most text)) == 0) && nat_le (length text) most

-- what so many lines are, if they are the whole text; else the number of the line after them
abbrev pub if_whole : Bool → ℕ → Result (List Rule) ℕ → Result (List Rule) ℕ
if_whole whole lines (Err line) = Err line
if_whole whole lines (Ok rules) = if whole then Ok rules else Err (lines + 1)

-- the rules of a text of at most so many bytes, or the number of its first line that is no rule
unfoldable pub rules_within : ℕ → List ℕ → Result (List Rule) ℕ
rules_within most text =
    let lines = lines_of (take most text) in
    if_whole (is_whole most text) (length lines) (with_rules 1 [] lines)

-- The rules of a text, or the number of its first line that is no rule. It has at most 1,048,576 bytes, and each line has
-- its newline.
abbrev pub rules_of : List ℕ → Result (List Rule) ℕ
rules_of text = rules_within 1048576 text
