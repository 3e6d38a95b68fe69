-- Rules are read exactly as they are written.
use Rattle.std.specs.Prelude.{nat_le, ◌↔◌, codes}
use Rattle.std.proofs.Common.{◌≡◌, ℕ, ◌^◌, ◌<◌, ◌≤◌, Bool, true, false, cond, List, [], ◌∷◌, ◌++◌, bytes_eq, map, Option, Some, None, decimal, arith, ap, sym, ◌∙◌, refl, IsTrue, append-nil, append_assoc, subst}
use Rattle.std.specs.List.{list_all}
use Rattle.std.proofs.lemmas.Bool.Decides.{nat_tests}
use Rattle.std.proofs.lemmas.Slice.Eq.{bytes_eq-Decides}
use Rattle.std.specs.Str.Parse.{AllDigits}
use Rattle.std.proofs.lemmas.Str.Parse.{digit_from_value}
use Rattle.std.proofs.lemmas.Fmt.{decimal_is_IsNumeral}
use Rattle.wasi_addr.specs.declared.address.IpAddress.{IpAddress}
use Rattle.wasi_addr.specs.declared.address.IpAddress.TheVariants as ip
use Rattle.wasi_addr.specs.declared.address.SocketAddrUse.{SocketAddrUse}
use Rattle.wasi_addr.specs.declared.address.SocketAddrUse.TheVariants as usage
use Rattle.world_text.specs.Fields.{number_at, ip_at, whole, fields_of, line_with}
use Rattle.world_text.specs.Written.{ipv4_numbers, ipv6_numbers, ReadsExactly, ip_fields, FitsIp, AreVisible, IsVisible, is_visible, number_fields}
use Rattle.world_text.proofs.Exactly.{Only, exactly, all_give, only_give, all_some, only_some, all_then, only_then, field_exactly, number_exactly}
use Rattle.world_text.proofs.ReadBack.{ip_exactly, named_is}
use Rattle.world_text.proofs.Visible.{fields_of_line, line_of_fields, visible_line, number_visible}
use Rattle.wasi_policy.specs.declared.grammar.TheConstants.{ACTIONS, USES}
use Rattle.wasi_policy.specs.declared.rule.Action.{Action}
use Rattle.wasi_policy.specs.declared.rule.Action.TheVariants.{Allow, Deny}
use Rattle.wasi_policy.specs.declared.rule.Net.{Net}
use Rattle.wasi_policy.specs.declared.rule.Net.TheVariants as net
use Rattle.wasi_policy.specs.declared.rule.Rule.{Rule}
use Rattle.wasi_policy.specs.Explained.{net_text, rule_text}
use Rattle.wasi_policy.specs.Grammar.{action_text, action_in, action_at, uses_text, uses_in, uses_at, prefix_of, any_net_at, net_after, net_at, rule_with, rule_at, rule_in, net_fields, rule_fields, rule_line, IsNet, IsRule}

-- == words
action_in_text : (action : Action) → action_in (action_text action) ≡ Some action
unfolding action_in
action_in_text Allow = refl
action_in_text Deny = refl

action_in_is : (field : List ℕ) (action : Action) → action_in field ≡ Some action → action_text action ≡ field
unfolding action_in
action_in_is field action h = named_is action_text ACTIONS field action h

action_exactly : ReadsExactly action_at (λ action. action_text action ∷ []) (λ action. Unit {0})
unfolding action_at
action_exactly = exactly
    (only_then _ field_exactly (λ field u. only_some _ (λ action h. (tt, ap (λ f. f ∷ []) (sym (action_in_is field action h))))))
    (λ action fits. all_then _ field_exactly tt (all_some _ (action_in_text action)))

uses_in_text : (uses : Option SocketAddrUse) → uses_in (uses_text uses) ≡ Some uses
unfolding uses_in
uses_in_text None = refl
uses_in_text (Some usage.TcpBind) = refl
uses_in_text (Some usage.TcpListen) = refl
uses_in_text (Some usage.TcpAccept) = refl
uses_in_text (Some usage.TcpConnect) = refl
uses_in_text (Some usage.UdpBind) = refl
uses_in_text (Some usage.UdpSend) = refl
uses_in_text (Some usage.UdpReceive) = refl

uses_in_is : (field : List ℕ) (uses : Option SocketAddrUse) → uses_in field ≡ Some uses → uses_text uses ≡ field
unfolding uses_in
uses_in_is field uses h = named_is uses_text USES field uses h

uses_exactly : ReadsExactly uses_at (λ uses. uses_text uses ∷ []) (λ uses. Unit {0})
unfolding uses_at
uses_exactly = exactly
    (only_then _ field_exactly (λ field u. only_some _ (λ uses h. (tt, ap (λ f. f ∷ []) (sym (uses_in_is field uses h))))))
    (λ uses fits. all_then _ field_exactly tt (all_some _ (uses_in_text uses)))

-- == addresses
prefix_only : (address : IpAddress) → FitsIp address → Only (prefix_of address) (λ taken value. IsNet value × (ip_fields address ++ taken ≡ net_fields value))
prefix_only (ip.Ipv4 front) fits = only_then _ (number_exactly 32 (omega arith)) (λ len fl. only_give _ ((fits, fl), refl))
prefix_only (ip.Ipv6 front) fits = only_then _ (number_exactly 128 (omega arith)) (λ len fl. only_give _ ((fits, fl), refl))

any_is : (same : Bool) (field : List ℕ) (value : Net) → bytes_eq field (codes "any") ≡ same → cond same (Some net.Any) None ≡ Some value → (value ≡ net.Any) × (field ∷ [] ≡ codes "any" ∷ [])
any_is true field value e h = let is : field ≡ codes "any" = (bytes_eq-Decides field (codes "any")).0 e in (cc, ap (λ f. f ∷ []) is)
any_is false field value e h = cc

any_exactly : ReadsExactly any_net_at (λ value. codes "any" ∷ []) (λ value. value ≡ net.Any)
unfolding any_net_at
any_exactly = exactly
    (only_then _ field_exactly (λ field u. only_some _ (λ value h. any_is (bytes_eq field (codes "any")) field value refl h)))
    (λ value is. all_then _ field_exactly tt (all_some _ (rw is refl)))

net_only : (found : Option (IpAddress × List (List ℕ))) (value : Net) (fields rest : List (List ℕ)) → ip_at fields ≡ found → net_after found fields ≡ Some (value, rest) → IsNet value × (fields ≡ net_fields value ++ rest)
net_only None value fields rest e h =
    let any = any_exactly.only value fields rest h in
    rw any.0 (tt, any.1)
net_only (Some (address, mid)) value fields rest e h =
    let first = ip_exactly.only address fields mid e in
    let second = (prefix_only address first.0).holds value mid rest h in
    (second.2.0, first.1 ∙ (ap (λ m. ip_fields address ++ m) second.1 ∙ (sym (append_assoc (ip_fields address) second.0 rest) ∙ ap (λ front. front ++ rest) second.2.1)))

-- a number is digits alone
not_any : (n : ℕ) → n < 2 ^ 64 → codes "any" ≡ decimal n → ⊥
not_any n small same =
    let digits : AllDigits 10 (codes "any") = subst (λ ds. AllDigits 10 ds) (sym same) (decimal_is_IsNumeral n small).0.1 in
    let bounds = digit_from_value 97 digits.0 in
    omega (arith, bounds.1)

first_field : List (List ℕ) → List ℕ
first_field [] = []
first_field (field ∷ fields) = field

no_ip : (rest : List (List ℕ)) (found : Option (IpAddress × List (List ℕ))) → ip_at (codes "any" ∷ rest) ≡ found → found ≡ None
unfolding first_field
no_ip rest None e = refl
no_ip rest (Some (ip.Ipv4 a, mid)) e = absurd (not_any 4 (omega arith) (ap first_field (ip_exactly.only (ip.Ipv4 a) (codes "any" ∷ rest) mid e).1))
no_ip rest (Some (ip.Ipv6 a, mid)) e = absurd (not_any 6 (omega arith) (ap first_field (ip_exactly.only (ip.Ipv6 a) (codes "any" ∷ rest) mid e).1))

net_all : (value : Net) (rest : List (List ℕ)) → IsNet value → net_at (net_fields value ++ rest) ≡ Some (value, rest)
unfolding net_at
net_all net.Any rest fits = ap (λ found. net_after found (codes "any" ∷ rest)) (no_ip rest (ip_at (codes "any" ∷ rest)) refl) ∙ any_exactly.all net.Any rest refl
net_all (net.Ipv4 front len) rest fits =
    ap (λ found. net_after found (net_fields (net.Ipv4 front len) ++ rest)) (ip_exactly.all (ip.Ipv4 front) (decimal len ∷ rest) fits.0)
    ∙ (all_then (λ n. _) {value = len} {result = net.Ipv4 front len} (number_exactly 32 (omega arith)) fits.1 all_give).given rest
net_all (net.Ipv6 front len) rest fits =
    ap (λ found. net_after found (net_fields (net.Ipv6 front len) ++ rest)) (ip_exactly.all (ip.Ipv6 front) (decimal len ∷ rest) fits.0)
    ∙ (all_then (λ n. _) {value = len} {result = net.Ipv6 front len} (number_exactly 128 (omega arith)) fits.1 all_give).given rest

net_exactly : ReadsExactly net_at net_fields IsNet
unfolding net_at
net_exactly = record {
  only = λ value fields rest h. net_only (ip_at fields) value fields rest refl h;
  all = λ value rest fits. net_all value rest fits;
}

-- == rules
port_exactly : ReadsExactly (number_at 65535) number_fields (λ n. n ≤ 65535)
port_exactly = number_exactly 65535 (omega arith)

rule_is : (action : Action) (uses : Option SocketAddrUse) (net : Net) (low high : ℕ) (le : Bool) (rule : Rule) → nat_le low high ≡ le → IsNet net → high ≤ 65535 → cond le (Some (record { action = action; usage = uses; net = net; low = low; high = high })) None ≡ Some rule → IsRule rule × (rule_fields (record { action = action; usage = uses; net = net; low = low; high = high }) ≡ rule_fields rule)
rule_is action uses net low high true rule e fn fh h =
    let same : ◌≡◌ {A = Rule} (record { action = action; usage = uses; net = net; low = low; high = high }) rule = cc in
    let le : low ≤ high = grind (arith, nat_tests) in
    rw (← same) ((fn, le, fh), refl)
rule_is action uses net low high false rule e fn fh h = cc

rule_found : (rule : Rule) → rule.low ≤ rule.high → rule_with rule.action rule.usage rule.net rule.low rule.high ≡ Some rule
rule_found rule h = let le : nat_le rule.low rule.high ≡ true = grind (arith, nat_tests) in rw le refl

rule_exactly : ReadsExactly rule_at rule_fields IsRule
unfolding rule_at
rule_exactly = exactly
    (only_then _ action_exactly (λ action fa. only_then _ uses_exactly (λ uses fu. only_then _ net_exactly (λ net fn.
    only_then _ port_exactly (λ low fl. only_then _ port_exactly (λ high fh.
    only_some _ (λ rule h. rule_is action uses net low high (nat_le low high) rule refl fn fh h)))))))
    (λ rule fits. all_then _ action_exactly tt (all_then _ uses_exactly tt (all_then _ net_exactly fits.0
    (all_then _ port_exactly (omega arith) (all_then _ port_exactly fits.2 (all_some _ (rule_found rule fits.1)))))))

-- == lines
whole_is : {A : Type 0} (found : Option (A × List (List ℕ))) (value : A) → whole found ≡ Some value → found ≡ Some (value, [])
whole_is None value h = cc
whole_is (Some (other, [])) value h = cc
whole_is (Some (other, field ∷ rest)) value h = cc

action_visible : (action : Action) → IsTrue (list_all is_visible (action_text action))
action_visible Allow = refl
action_visible Deny = refl

uses_visible : (uses : Option SocketAddrUse) → IsTrue (list_all is_visible (uses_text uses))
uses_visible None = refl
uses_visible (Some usage.TcpBind) = refl
uses_visible (Some usage.TcpListen) = refl
uses_visible (Some usage.TcpAccept) = refl
uses_visible (Some usage.TcpConnect) = refl
uses_visible (Some usage.UdpBind) = refl
uses_visible (Some usage.UdpSend) = refl
uses_visible (Some usage.UdpReceive) = refl

small_visible : (n most : ℕ) → n ≤ most → most < 2 ^ 64 → IsTrue (list_all is_visible (decimal n))
small_visible n most h room = number_visible n (omega arith)

net_visible : (value : Net) (more : List (List ℕ)) → IsNet value → AreVisible more → AreVisible (net_fields value ++ more)
net_visible net.Any more fits h = (refl, h)
net_visible (net.Ipv4 (a, b, c, d) len) more fits h =
    let byte = λ (n : ℕ) (f : n ≤ 255). small_visible n 255 f (omega arith) in
    (number_visible 4 (omega arith), (byte a fits.0.0, (byte b fits.0.1, (byte c fits.0.2, (byte d fits.0.3, (small_visible len 32 fits.1 (omega arith), h))))))
net_visible (net.Ipv6 (a, b, c, d, e, f, g, i) len) more fits h =
    let segment = λ (n : ℕ) (k : n ≤ 65535). small_visible n 65535 k (omega arith) in (
      number_visible 6 (omega arith),
      (
        segment a fits.0.0,
        (
          segment b fits.0.1,
          (
            segment c fits.0.2,
            (
              segment d fits.0.3,
              (segment e fits.0.4, (segment f fits.0.5, (segment g fits.0.6, (segment i fits.0.7, (small_visible len 128 fits.1 (omega arith), h))))),
            ),
          ),
        ),
      ),
    )

rule_visible : (rule : Rule) → IsRule rule → AreVisible (rule_fields rule)
rule_visible rule fits = (
  action_visible rule.action,
  (
    uses_visible rule.usage,
    net_visible rule.net (decimal rule.low ∷ decimal rule.high ∷ []) fits.0
        (number_visible rule.low (omega (arith, fits.1, fits.2)), (number_visible rule.high (omega (arith, fits.2)), tt)),
  ),
)

some_fields : (rule : Rule) → rule_fields rule ≡ [] → ⊥
some_fields rule h = cc

read_is : (line : List ℕ) (rule : Rule) → rule_in line ≡ Some rule → (line ≡ rule_line rule) × IsRule rule
unfolding rule_in
read_is line rule h =
    let found = rule_exactly.only rule (fields_of line) [] (whole_is (rule_at (fields_of line)) rule h) in
    (line_of_fields line (rule_fields rule) (found.1 ∙ append-nil (rule_fields rule)), found.0)

written_is : (rule : Rule) → IsRule rule → rule_in (rule_line rule) ≡ Some rule
unfolding rule_in
written_is rule fits =
    let fields = fields_of_line (rule_fields rule) (some_fields rule) (rule_visible rule fits) in
    ap whole (ap rule_at (fields ∙ sym (append-nil (rule_fields rule))) ∙ rule_exactly.all rule [] fits)

pub line_exactly : (line : List ℕ) (rule : Rule) → (rule_in line ≡ Some rule) ↔ ((line ≡ rule_line rule) × IsRule rule)
line_exactly line rule = (read_is line rule, λ h. rw h.0 (written_is rule h.1))

pub line_visible : (line : List ℕ) (rule : Rule) → rule_in line ≡ Some rule → IsVisible line
line_visible line rule h = let is = read_is line rule h in rw is.0 (visible_line (rule_fields rule) (rule_visible rule is.1))

-- == texts
joined_two : (f : List ℕ) (fs : List (List ℕ)) (low high : List ℕ) → line_with ((f ∷ fs) ++ low ∷ high ∷ []) ≡ line_with (f ∷ fs) ++ 32 ∷ (low ++ 32 ∷ high)
joined_two f [] low high = refl
joined_two f (g ∷ fs) low high =
    ap (λ r. f ++ 32 ∷ r) (joined_two g fs low high) ∙ sym (append_assoc f (32 ∷ line_with (g ∷ fs)) (32 ∷ (low ++ 32 ∷ high)))

with_ports : (value : Net) (low high : List ℕ) → line_with (net_fields value ++ low ∷ high ∷ []) ≡ line_with (net_fields value) ++ 32 ∷ (low ++ 32 ∷ high)
with_ports net.Any low high = joined_two (codes "any") [] low high
with_ports (net.Ipv4 front len) low high = joined_two (decimal 4) (map decimal (ipv4_numbers front ++ len ∷ [])) low high
with_ports (net.Ipv6 front len) low high = joined_two (decimal 6) (map decimal (ipv6_numbers front ++ len ∷ [])) low high

spaced : (a b c d e s : List ℕ) → a ++ s ++ b ++ s ++ c ++ s ++ d ++ s ++ e ≡ a ++ (s ++ (b ++ (s ++ (c ++ (s ++ (d ++ (s ++ e)))))))
spaced a b c d e s = simp append_assoc refl

some_net : (value : Net) (more : List (List ℕ)) → (f : List ℕ) × (fs : List (List ℕ)) × (net_fields value ++ more ≡ f ∷ fs)
some_net net.Any more = (_, _, refl)
some_net (net.Ipv4 front len) more = (_, _, refl)
some_net (net.Ipv6 front len) more = (_, _, refl)

line_two : (a u : List ℕ) (fs : List (List ℕ)) (f : List ℕ) (more : List (List ℕ)) → fs ≡ f ∷ more → line_with (a ∷ u ∷ fs) ≡ a ++ 32 ∷ (u ++ 32 ∷ line_with fs)
line_two a u fs f more is = rw is refl

pub text_is : (rule : Rule) → rule_text rule ≡ rule_line rule
text_is rule =
    let low = decimal rule.low in
    let high = decimal rule.high in
    let net = some_net rule.net (decimal rule.low ∷ decimal rule.high ∷ []) in
    spaced (action_text rule.action) (uses_text rule.usage) (net_text rule.net) (decimal rule.low) (decimal rule.high) (codes " ")
    ∙ (ap (λ r. action_text rule.action ++ 32 ∷ (uses_text rule.usage ++ 32 ∷ r)) (sym (with_ports rule.net (decimal rule.low) (decimal rule.high)))
    ∙ sym (line_two (action_text rule.action) (uses_text rule.usage) (net_fields rule.net ++ decimal rule.low ∷ decimal rule.high ∷ []) net.0 net.1 net.2))
