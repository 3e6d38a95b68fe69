-- The first rule that matches is the least place of what the rules match.
use Rattle.std.specs.Prelude.{nat_le, min, if◌then◌else◌, ◌&&◌, ◌==◌, ◌%◌, ◌/◌, ◌*◌, ◌^◌, ◌-◌}
use Rattle.std.proofs.Common.{◌≡◌, ℕ, suc, ◌+◌, ◌≤◌, ◌<◌, Bool, true, false, List, [], ◌∷◌, Option, Some, None, length, arith, ap, sym, ◌∙◌, refl}
use Rattle.std.specs.List.{slice_get}
use Rattle.std.proofs.lemmas.Bool.Decides.{nat_tests}
use Rattle.std.proofs.lemmas.Nat.{pow_pos, mul-le, div-add-mod', mod_below}
use Rattle.wasi_addr.specs.declared.address.IpAddress.{IpAddress}
use Rattle.wasi_addr.specs.declared.address.IpAddress.TheVariants as ip
use Rattle.wasi_addr.specs.declared.address.IpSocketAddress.{IpSocketAddress}
use Rattle.wasi_addr.specs.declared.address.SocketAddrUse.{SocketAddrUse}
use Rattle.wasi_addr.specs.Address.{canonical, ip_of, port_of}
use Rattle.wasi_policy.specs.declared.rule.Net.{Net}
use Rattle.wasi_policy.specs.declared.rule.Net.TheVariants as net
use Rattle.wasi_policy.specs.declared.rule.Rule.{Rule}
use Rattle.wasi_policy.specs.Decision.{ipv4_number, ipv6_number, is_in, is_about, matches, allows, decided_from, decision}
use Rattle.wasi_policy.specs.Explained.{explained_from, explained_by, explained_at, explanation}
use Rattle.wasi_policy.specs.declared.reach.Reach.{Reach}
use Rattle.wasi_policy.specs.Points.{in_range}
use Rattle.wasi_policy.specs.Reach.{family_of, ip_number, block_low, block_high, range_of, reach_over, reach_of, with_reach, reaches_from, no_rule, first_of, by_rule, by_place}

-- == numbers that agree but for their last bits
-- n lies in the block that begins at low: d is 2 ^ bits, and q and s count the blocks before them
in_block : (d q s t low n : ℕ) → t < d → low ≡ q * d → n ≡ s * d + t → (q == s) ≡ (nat_le low n && nat_le n (low + (d - 1)))
in_block d q s t low n k from is = by_order (nat_le q s) (nat_le s q) refl refl where
  by_order : (b c : Bool) → nat_le q s ≡ b → nat_le s q ≡ c → (q == s) ≡ (nat_le low n && nat_le n (low + (d - 1)))
  by_order true true e f =
      let same : q ≡ s = grind (arith, nat_tests) in
      let start : low ≡ s * d = from ∙ ap (λ x. x * d) same in
      grind (arith, nat_tests)
  by_order true false e f =
      let more : q + 1 ≤ s = grind (arith, nat_tests) in
      let over : (q + 1) * d ≤ s * d = mul-le (q + 1) d s d more (omega arith) in
      let apart : (q + 1) * d ≡ q * d + d = omega arith in
      grind (arith, nat_tests)
  by_order false true e f =
      let more : s + 1 ≤ q = grind (arith, nat_tests) in
      let over : (s + 1) * d ≤ q * d = mul-le (s + 1) d q d more (omega arith) in
      let apart : (s + 1) * d ≡ s * d + d = omega arith in
      grind (arith, nat_tests)
  by_order false false e f = grind (arith, nat_tests)

low_is : (bits m : ℕ) → block_low bits m ≡ m / 2 ^ bits * 2 ^ bits
low_is bits m = omega (arith, div-add-mod' m (2 ^ bits))

below_both : (n high : ℕ) → n < 2 ^ 128 → nat_le n high ≡ nat_le n (min high (2 ^ 128 - 1))
below_both n high h = grind (arith, nat_tests)

pub agree_is : (bits m n : ℕ) → n < 2 ^ 128 → (m / 2 ^ bits == n / 2 ^ bits) ≡ (nat_le (block_low bits m) n && nat_le n (block_high bits m))
agree_is bits m n h =
    in_block (2 ^ bits) (m / 2 ^ bits) (n / 2 ^ bits) (n % 2 ^ bits) (block_low bits m) n (mod_below n (2 ^ bits) (pow_pos bits)) (low_is bits m) (sym (div-add-mod' n (2 ^ bits)))
    ∙ ap (λ b. nat_le (block_low bits m) n && b) (below_both n (block_low bits m + (2 ^ bits - 1)) h)

-- == one rule
pub range_is : (net : Net) (address : IpAddress) → ip_number address < 2 ^ 128 → is_in net address ≡ in_range (range_of net (family_of address)) (ip_number address)
range_is net.Any (ip.Ipv4 a) h = sym (all_in (ip_number (ip.Ipv4 a)) h) where
  all_in : (n : ℕ) → n < 2 ^ 128 → (nat_le 0 n && nat_le n (2 ^ 128 - 1)) ≡ true
  all_in n h = grind (arith, nat_tests)
range_is net.Any (ip.Ipv6 a) h = sym (all_in (ip_number (ip.Ipv6 a)) h) where
  all_in : (n : ℕ) → n < 2 ^ 128 → (nat_le 0 n && nat_le n (2 ^ 128 - 1)) ≡ true
  all_in n h = grind (arith, nat_tests)
range_is (net.Ipv4 front len) (ip.Ipv4 a) h = agree_is (32 - len) (ipv4_number front) (ipv4_number a) h
range_is (net.Ipv4 front len) (ip.Ipv6 a) h = refl
range_is (net.Ipv6 front len) (ip.Ipv4 a) h = refl
range_is (net.Ipv6 front len) (ip.Ipv6 a) h = agree_is (128 - len) (ipv6_number front) (ipv6_number a) h

-- the place of a rule, where it matches
abbrev pub place_if : Bool → ℕ → ℕ
place_if true place = place
place_if false place = no_rule

if_is : (b : Bool) (place : ℕ) → (if b then place else no_rule) ≡ place_if b place
if_is true place = refl
if_is false place = refl

fits_none : (rest : ℕ) → rest ≤ no_rule → min no_rule rest ≡ rest
fits_none rest h = grind arith

-- the least place, with that of a rule that may match
one_more : (rule : Rule) (place : ℕ) (range : Option (ℕ × ℕ)) (rest : List Reach) (n port : ℕ) → first_of rest n port ≤ no_rule → first_of (with_reach (reach_over rule place range) rest) n port ≡ min (place_if (nat_le rule.low port && nat_le port rule.high && in_range range n) place) (first_of rest n port)
one_more rule place None rest n port h = by_ports (nat_le rule.low port && nat_le port rule.high) where
  by_ports : (b : Bool) → first_of rest n port ≡ min (place_if (b && false) place) (first_of rest n port)
  by_ports true = sym (fits_none _ h)
  by_ports false = sym (fits_none _ h)
one_more rule place (Some (low, high)) rest n port h = ap (λ b. min b (first_of rest n port)) (if_is _ place ∙ ap (λ b. place_if b place) (turned (nat_le low n) (nat_le n high) (nat_le rule.low port) (nat_le port rule.high))) where
  turned : (a b c d : Bool) → (a && b && (c && d)) ≡ (c && d && (a && b))
  turned true true true true = refl
  turned true true true false = refl
  turned true true false d = refl
  turned true false true true = refl
  turned true false true false = refl
  turned true false false d = refl
  turned false b true true = refl
  turned false b true false = refl
  turned false b false d = refl

rule_more : (rule : Rule) (place : ℕ) (address : IpAddress) (port : ℕ) (asked : SocketAddrUse) (rest : List Reach) → ip_number address < 2 ^ 128 → first_of rest (ip_number address) port ≤ no_rule → first_of (with_reach (reach_of rule place asked (family_of address)) rest) (ip_number address) port ≡ min (place_if (is_about rule.usage asked && nat_le rule.low port && nat_le port rule.high && is_in rule.net address) place) (first_of rest (ip_number address) port)
rule_more rule place address port asked rest h k = by_use (is_about rule.usage asked) refl where
  by_use : (b : Bool) → is_about rule.usage asked ≡ b → first_of (with_reach (reach_of rule place asked (family_of address)) rest) (ip_number address) port ≡ min (place_if (is_about rule.usage asked && nat_le rule.low port && nat_le port rule.high && is_in rule.net address) place) (first_of rest (ip_number address) port)
  by_use true e = rw e (one_more rule place (range_of rule.net (family_of address)) rest (ip_number address) port k ∙ ap (λ b. min (place_if (nat_le rule.low port && nat_le port rule.high && b) place) (first_of rest (ip_number address) port)) (sym (range_is rule.net address h)))
  by_use false e = rw e (sym (fits_none _ k))

-- == all rules
-- the least place is none, or that of one of so many rules from a place on
record Within (place many first : ℕ) : Type 0 where
  low : place ≤ first
  high : first ≤ no_rule
  one : first < no_rule → first < place + many

within_more : (b : Bool) (place many rest : ℕ) → place + suc many ≤ no_rule → Within (place + 1) many rest → Within place (suc many) (min (place_if b place) rest)
within_more true place many rest h w = record {
  low = omega (arith, w.low);
  high = omega (arith, w.high);
  one = λ k. omega (arith, w.low);
}
within_more false place many rest h w = record {
  low = omega (arith, w.low, w.high);
  high = omega (arith, w.high);
  one = λ k. let less : rest < no_rule = omega (arith, w.high) in omega (arith, w.one less, w.high);
}

module _ (address : IpSocketAddress) (asked : SocketAddrUse) (fits : ip_number (canonical (ip_of address)) < 2 ^ 128) where
  abbrev pub first : ℕ → List Rule → ℕ
  first place rules = first_of (reaches_from place rules asked (family_of (canonical (ip_of address)))) (ip_number (canonical (ip_of address))) (port_of address)

  first_is : (place : ℕ) (rule : Rule) (rules : List Rule) → first (place + 1) rules ≤ no_rule → first place (rule ∷ rules) ≡ min (place_if (matches rule address asked) place) (first (place + 1) rules)
  first_is place rule rules h = rule_more rule place (canonical (ip_of address)) (port_of address) asked (reaches_from (place + 1) rules asked (family_of (canonical (ip_of address)))) fits h

  within : (place : ℕ) (rules : List Rule) → place + length rules ≤ no_rule → Within place (length rules) (first place rules)
  within place [] h = record { low = omega arith; high = omega arith; one = λ k. absurd (omega arith) }
  within place (rule ∷ rules) h =
      let rest = within (place + 1) rules (omega arith) in
      rw (first_is place rule rules rest.high) (within_more (matches rule address asked) place (length rules) (first (place + 1) rules) (omega arith) rest)

  decided : (place : ℕ) (rules : List Rule) → place + length rules ≤ no_rule → decided_from (place + 1) rules address asked ≡ by_rule (first place rules) (slice_get rules (first place rules - place))
  decided place [] h = refl
  decided place (rule ∷ rules) h =
      let rest = within (place + 1) rules (omega arith) in
      let more = decided (place + 1) rules (omega arith) in
      rw (first_is place rule rules rest.high) (by_match (matches rule address asked) refl rest.low rest.high more)
    where
      by_match : (b : Bool) → matches rule address asked ≡ b → place + 1 ≤ first (place + 1) rules → first (place + 1) rules ≤ no_rule → decided_from (place + 1 + 1) rules address asked ≡ by_rule (first (place + 1) rules) (slice_get rules (first (place + 1) rules - (place + 1))) → decided_from (place + 1) (rule ∷ rules) address asked ≡ by_rule (min (place_if (matches rule address asked) place) (first (place + 1) rules)) (slice_get (rule ∷ rules) (min (place_if (matches rule address asked) place) (first (place + 1) rules) - place))
      by_match true e low high more =
          let here : min place (first (place + 1) rules) ≡ place = omega (arith, low) in
          let none : place - place ≡ 0 = omega arith in
          rw (e, here, none) refl
      by_match false e low high more =
          let here : min no_rule (first (place + 1) rules) ≡ first (place + 1) rules = omega (arith, high) in
          let next : first (place + 1) rules - place ≡ suc (first (place + 1) rules - (place + 1)) = omega (arith, low) in
          rw (e, here, next) more

  -- the least place gives the decision
  pub decision_is : (rules : List Rule) → length rules ≤ no_rule → decided_from 1 rules address asked ≡ by_place rules (first 0 rules)
  decision_is rules h = decided 0 rules (omega (arith, h)) ∙ ap (λ k. by_rule (first 0 rules) (slice_get rules k)) (less (first 0 rules)) where
    less : (n : ℕ) → n - 0 ≡ n
    less n = omega arith

  explained : (place : ℕ) (rules : List Rule) → place + length rules ≤ no_rule → explained_from (place + 1) rules address asked ≡ explained_by (first place rules) (slice_get rules (first place rules - place))
  explained place [] h = refl
  explained place (rule ∷ rules) h =
      let rest = within (place + 1) rules (omega arith) in
      let more = explained (place + 1) rules (omega arith) in
      rw (first_is place rule rules rest.high) (by_match (matches rule address asked) refl rest.low rest.high more)
    where
      by_match : (b : Bool) → matches rule address asked ≡ b → place + 1 ≤ first (place + 1) rules → first (place + 1) rules ≤ no_rule → explained_from (place + 1 + 1) rules address asked ≡ explained_by (first (place + 1) rules) (slice_get rules (first (place + 1) rules - (place + 1))) → explained_from (place + 1) (rule ∷ rules) address asked ≡ explained_by (min (place_if (matches rule address asked) place) (first (place + 1) rules)) (slice_get (rule ∷ rules) (min (place_if (matches rule address asked) place) (first (place + 1) rules) - place))
      by_match true e low high more =
          let here : min place (first (place + 1) rules) ≡ place = omega (arith, low) in
          let none : place - place ≡ 0 = omega arith in
          rw (e, here, none) refl
      by_match false e low high more =
          let here : min no_rule (first (place + 1) rules) ≡ first (place + 1) rules = omega (arith, high) in
          let next : first (place + 1) rules - place ≡ suc (first (place + 1) rules - (place + 1)) = omega (arith, low) in
          rw (e, here, next) more

  -- and names the rule
  pub explanation_is : (rules : List Rule) → length rules ≤ no_rule → explained_from 1 rules address asked ≡ explained_at rules (first 0 rules)
  explanation_is rules h = explained 0 rules (omega (arith, h)) ∙ ap (λ k. explained_by (first 0 rules) (slice_get rules k)) (less (first 0 rules)) where
    less : (n : ℕ) → n - 0 ≡ n
    less n = omega arith

-- the rule that is named is the one that decides
pub explains : (rules : List Rule) (address : IpSocketAddress) (asked : SocketAddrUse) → ((explanation rules address asked).line ≡ (decision rules address asked).rule) × (allows (explanation rules address asked).rule.action ≡ (decision rules address asked).allow)
explains rules address asked = from 1 rules where
  from : (line : ℕ) (rules : List Rule) → ((explained_from line rules address asked).line ≡ (decided_from line rules address asked).rule) × (allows (explained_from line rules address asked).rule.action ≡ (decided_from line rules address asked).allow)
  from line [] = (refl, refl)
  from line (rule ∷ rules) = by_match (matches rule address asked) refl (from (line + 1) rules) where
    by_match : (b : Bool) → matches rule address asked ≡ b → ((explained_from (line + 1) rules address asked).line ≡ (decided_from (line + 1) rules address asked).rule) × (allows (explained_from (line + 1) rules address asked).rule.action ≡ (decided_from (line + 1) rules address asked).allow) → ((explained_from line (rule ∷ rules) address asked).line ≡ (decided_from line (rule ∷ rules) address asked).rule) × (allows (explained_from line (rule ∷ rules) address asked).rule.action ≡ (decided_from line (rule ∷ rules) address asked).allow)
    by_match true e rest = rw e (refl, refl)
    by_match false e rest = rw e rest

-- the same place by the parts of an address
pub same_place : (rules : List Rule) (asked : SocketAddrUse) (address : IpSocketAddress) (ip : IpAddress) (number port : ℕ) → ip ≡ canonical (ip_of address) → number ≡ ip_number ip → port ≡ port_of address → first_of (reaches_from 0 rules asked (family_of ip)) number port ≡ first_of (reaches_from 0 rules asked (family_of (canonical (ip_of address)))) (ip_number (canonical (ip_of address))) (port_of address)
same_place rules asked address ip number port e f g = rw (g, f, e) refl
