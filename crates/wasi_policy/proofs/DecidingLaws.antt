-- What a look says of the addresses behind it.
use Rattle.std.specs.Prelude.{nat_le, nat_lt, min, ◌&&◌, ◌-◌, ◌^◌}
use Rattle.std.proofs.Common.{◌≡◌, ℕ, zero, suc, ◌+◌, ◌≤◌, ◌<◌, ◌⊎◌, inl, inr, Bool, true, false, List, [], ◌∷◌, Option, Some, None, length, get_or, arith, ap, sym, ◌∙◌, refl, subst}
use Rattle.std.specs.List.{slice_get, Contains}
use Rattle.std.proofs.lemmas.Bool.{false≢true, cases_lt}
use Rattle.std.proofs.lemmas.Bool.Decides.{nat_tests}
use Rattle.std.proofs.lemmas.List.{get_or_default}
use Rattle.wasi_addr.specs.declared.address.IpSocketAddress.{IpSocketAddress}
use Rattle.wasi_addr.specs.declared.address.SocketAddressFamily.{SocketAddressFamily}
use Rattle.wasi_addr.specs.declared.address.SocketAddressFamily.TheVariants as family
use Rattle.wasi_addr.specs.declared.address.SocketAddrUse.{SocketAddrUse}
use Rattle.wasi_addr.specs.declared.address.SocketAddrUse.TheVariants as usage
use Rattle.wasi_addr.specs.Address.{canonical, ip_of, port_of}
use Rattle.wasi_policy.specs.declared.deciding.TheConstants.{USES}
use Rattle.wasi_policy.specs.declared.rule.Rule.{Rule}
use Rattle.wasi_policy.specs.declared.rule.Explanation.{Explanation}
use Rattle.wasi_policy.specs.Decision.{is_about, matches, decided_from, decision}
use Rattle.wasi_policy.specs.Explained.{explained_from, explanation}
use Rattle.wasi_policy.specs.Reach.{family_of, ip_number, range_of}
use Rattle.wasi_policy.specs.Points.{is_canonical, in_range, IsAt}
use Rattle.wasi_policy.specs.Overlaps.{after_mapped, canonical_from}
use Rattle.wasi_policy.specs.Findings.{Decides}
use Rattle.wasi_policy.specs.Deciding.{last_of, matches_there, DecidesNone, canonical_behind, NeverBefore, NeverIn, NeverOf}
use Rattle.wasi_policy.proofs.PointLaws.{has_number, matches_at}
use Rattle.wasi_policy.proofs.OverlapLaws.{from_there, IsMatched, parts_of, from_parts}

-- == the line that decides isn't behind one that matches
pub record IsFirst (line k found : ℕ) : Type 0 where
  pub low : line ≤ found
  pub high : found ≤ line + k

same_rule : (a b : Rule) → Some a ≡ Some b → a ≡ b
same_rule a b e = cc

nothing : (rule : Rule) → None ≡ Some rule → ⊥
nothing rule e = cc

pub first_line : (rules : List Rule) (line k : ℕ) (rule : Rule) (address : IpSocketAddress) (asked : SocketAddrUse) → slice_get rules k ≡ Some rule → matches rule address asked ≡ true → IsFirst line k (decided_from line rules address asked).rule
first_line [] line k rule address asked is matched = absurd (nothing rule is)
first_line (r ∷ rules) line k rule address asked is matched = by_match (matches r address asked) refl (λ j there. first_line rules (line + 1) j rule address asked there matched) where
  by_match : (b : Bool) → matches r address asked ≡ b → ((j : ℕ) → slice_get rules j ≡ Some rule → IsFirst (line + 1) j (decided_from (line + 1) rules address asked).rule) → IsFirst line k (decided_from line (r ∷ rules) address asked).rule
  by_match true e rest = rw e (record { low = omega arith; high = omega arith })
  by_match false e rest = rw e (by_place k is) where
    by_place : (j : ℕ) → slice_get (r ∷ rules) j ≡ Some rule → IsFirst line j (decided_from (line + 1) rules address asked).rule
    by_place zero there = absurd (false≢true (sym e ∙ (ap (λ x. matches x address asked) (same_rule r rule there) ∙ matched)))
    by_place (suc j) there =
        let more = rest j there in
        record { low = omega (arith, more.low); high = omega (arith, more.high) }

-- == the rule that is named matches, and stands at its line
pub record IsNamed (rules : List Rule) (line : ℕ) (address : IpSocketAddress) (asked : SocketAddrUse) (e : Explanation) : Type 0 where
  pub matched : matches e.rule address asked ≡ true
  pub there : (e.line ≡ 0) ⊎ ((line ≤ e.line) × (slice_get rules (e.line - line) ≡ Some e.rule))

pub named : (rules : List Rule) (line : ℕ) (address : IpSocketAddress) (asked : SocketAddrUse) → port_of address ≤ 65535 → IsNamed rules line address asked (explained_from line rules address asked)
named [] line address asked fits = record { matched = last (port_of address) fits; there = inl refl } where
  last : (p : ℕ) → p ≤ 65535 → (true && nat_le 0 p && nat_le p 65535 && true) ≡ true
  last p h = grind (arith, nat_tests)
named (r ∷ rules) line address asked fits = by_match (matches r address asked) refl (named rules (line + 1) address asked fits) where
  by_match : (b : Bool) → matches r address asked ≡ b → IsNamed rules (line + 1) address asked (explained_from (line + 1) rules address asked) → IsNamed (r ∷ rules) line address asked (explained_from line (r ∷ rules) address asked)
  by_match true e rest =
      let none : line - line ≡ 0 = omega arith in
      let here : IsNamed (r ∷ rules) line address asked (record { line = line; rule = r }) = record { matched = e; there = inr (omega arith, rw none refl) } in
      let is : explained_from line (r ∷ rules) address asked ≡ record { line = line; rule = r } = rw e refl in
      subst (λ x. IsNamed (r ∷ rules) line address asked x) (sym is) here
  by_match false e rest =
      let more : IsNamed (r ∷ rules) line address asked (explained_from (line + 1) rules address asked) = record { matched = rest.matched; there = by_line rest.there } in
      let is : explained_from line (r ∷ rules) address asked ≡ explained_from (line + 1) rules address asked = rw e refl in
      subst (λ x. IsNamed (r ∷ rules) line address asked x) (sym is) more
    where
      by_line : ((explained_from (line + 1) rules address asked).line ≡ 0) ⊎ ((line + 1 ≤ (explained_from (line + 1) rules address asked).line) × (slice_get rules ((explained_from (line + 1) rules address asked).line - (line + 1)) ≡ Some (explained_from (line + 1) rules address asked).rule)) → ((explained_from (line + 1) rules address asked).line ≡ 0) ⊎ ((line ≤ (explained_from (line + 1) rules address asked).line) × (slice_get (r ∷ rules) ((explained_from (line + 1) rules address asked).line - line) ≡ Some (explained_from (line + 1) rules address asked).rule))
      by_line (inl none) = inl none
      by_line (inr (low, is)) =
          let next : (explained_from (line + 1) rules address asked).line - line ≡ suc ((explained_from (line + 1) rules address asked).line - (line + 1)) = omega (arith, low) in
          inr (omega (arith, low), rw next is)

-- == ranges from a number on
last_over : (r : Option (ℕ × ℕ)) (n : ℕ) → in_range r n ≡ true → n ≤ last_of r n
last_over None n e = absurd (false≢true e)
last_over (Some (low, high)) n e = grind (arith, nat_tests)

in_more : (r : Option (ℕ × ℕ)) (n m : ℕ) → in_range r n ≡ true → n ≤ m → m ≤ last_of r n → in_range r m ≡ true
in_more None n m e h k = absurd (false≢true e)
in_more (Some (low, high)) n m e h k = grind (arith, nat_tests)

port_over : (p high : ℕ) → nat_le p high ≡ true → p ≤ high
port_over p high e = grind (arith, nat_tests)

port_more : (low p q : ℕ) → nat_le low p ≡ true → p ≤ q → nat_le low q ≡ true
port_more low p q e h = grind (arith, nat_tests)

port_below : (p high : ℕ) → p ≤ high → nat_le p high ≡ true
port_below p high h = grind (arith, nat_tests)

-- == what a look says
module _ (rules : List Rule) (asked : SocketAddrUse) (f : SocketAddressFamily) (number port : ℕ) (address : IpSocketAddress) (e : Explanation) (at : IsAt f number port address) (is : e ≡ explanation rules address asked) where
  is_named : IsNamed rules 1 address asked e
  is_named = subst (λ x. IsNamed rules 1 address asked x) (sym is) (named rules 1 address asked (has_number address at.fits).port)

  parts : IsMatched e.rule asked f number port
  parts = parts_of e.rule asked f number port address at is_named.matched

  pub look_number : number ≤ last_of (range_of e.rule.net f) number
  look_number = last_over (range_of e.rule.net f) number parts.within

  pub look_port : port ≤ e.rule.high
  look_port = port_over port e.rule.high parts.high

  pub look_decides : e.line ≡ (decision rules address asked).rule → Decides rules e.line
  look_decides line = record { address = address; asked = asked; fits = at.fits; decided = sym line }

  pub look_taken : 0 < e.line → (later : ℕ) → e.line < later → DecidesNone rules later asked f number (last_of (range_of e.rule.net f) number) port e.rule.high
  look_taken some later behind n p other there low high least greatest decided = by_line is_named.there where
    matched : matches e.rule other asked ≡ true
    matched = from_parts e.rule asked f n p other there (record {
      about = parts.about;
      low = port_more e.rule.low port p parts.low least;
      high = port_below p e.rule.high greatest;
      within = in_more (range_of e.rule.net f) number n parts.within low high;
    })

    by_line : (e.line ≡ 0) ⊎ ((1 ≤ e.line) × (slice_get rules (e.line - 1) ≡ Some e.rule)) → ⊥
    by_line (inl none) = omega (arith, none, some)
    by_line (inr (begins, stands)) =
        let first = first_line rules 1 (e.line - 1) e.rule other asked stands matched in
        omega (arith, begins, first.high, behind, decided)

  pub look_first : e.line ≡ (decision rules address asked).rule → (line : ℕ) (rule : Rule) → 0 < line → slice_get rules (line - 1) ≡ Some rule → matches_there rule asked f number port ≡ true → (0 < e.line) × (e.line ≤ line)
  look_first same line rule begins stands matched =
      let first = first_line rules 1 (line - 1) rule address asked stands (matches_at rule asked f number port address at ∙ matched) in
      (omega (arith, first.low, same), omega (arith, first.high, same, begins))

-- == the ports of a rule, one look after another
-- the rule matches at a port of its own
pub there_is : (rule : Rule) (asked : SocketAddrUse) (f : SocketAddressFamily) (number port : ℕ) → is_about rule.usage asked ≡ true → in_range (range_of rule.net f) number ≡ true → rule.low ≤ port → port ≤ rule.high → matches_there rule asked f number port ≡ true
there_is rule asked f number port about within low high =
    all (is_about rule.usage asked) (nat_le rule.low port) (nat_le port rule.high) (in_range (range_of rule.net f) number) about (port_below rule.low port low) (port_below port rule.high high) within
  where
    all : (a b c d : Bool) → a ≡ true → b ≡ true → c ≡ true → d ≡ true → (a && b && c && d) ≡ true
    all a b c d h k l m = rw (h, k, l, m) refl

-- What holds before a port: rules before it take all from the number on to the last one.
pub record IsTaken (rules : List Rule) (line : ℕ) (asked : SocketAddrUse) (f : SocketAddressFamily) (number last low port : ℕ) : Type 0 where
  pub over : number ≤ last
  pub begun : low ≤ port
  pub small : port ≤ 65536
  pub none : (n p : ℕ) (address : IpSocketAddress) → IsAt f n p address → number ≤ n → n ≤ last → low ≤ p → p < port → (decision rules address asked).rule ≡ line → ⊥

pub taken_none : (rules : List Rule) (line : ℕ) (asked : SocketAddrUse) (f : SocketAddressFamily) (number last low : ℕ) → number ≤ last → low ≤ 65535 → IsTaken rules line asked f number last low low
taken_none rules line asked f number last low over most = record {
  over = over;
  begun = omega arith;
  small = omega (arith, most);
  none = λ n p address at h k l m. absurd (omega (arith, l, m));
}

pub taken_more : (rules : List Rule) (line : ℕ) (asked : SocketAddrUse) (f : SocketAddressFamily) (number last low port next corner : ℕ) → IsTaken rules line asked f number last low port → number ≤ next → port ≤ corner → corner ≤ 65535 → DecidesNone rules line asked f number next port corner → IsTaken rules line asked f number (min last next) low (corner + 1)
taken_more rules line asked f number last low port next corner taken over there most none = record {
  over = omega (arith, over, taken.over);
  begun = omega (arith, taken.begun, there);
  small = omega (arith, most);
  none = more;
} where
  more : (n p : ℕ) (address : IpSocketAddress) → IsAt f n p address → number ≤ n → n ≤ min last next → low ≤ p → p < corner + 1 → (decision rules address asked).rule ≡ line → ⊥
  more n p address at h k l m = by_port (cases_lt p port) where
    by_port : (p < port) ⊎ (port ≤ p) → (decision rules address asked).rule ≡ line → ⊥
    by_port (inl before) = taken.none n p address at h (omega (arith, k)) l before
    by_port (inr behind) = none n p address at h (omega (arith, k)) behind (omega (arith, m))

pub taken_all : (rules : List Rule) (line : ℕ) (asked : SocketAddrUse) (f : SocketAddressFamily) (number last low high port : ℕ) → IsTaken rules line asked f number last low port → high < port → DecidesNone rules line asked f number last low high
taken_all rules line asked f number last low high port taken over n p address at h k l m = taken.none n p address at h k l (omega (arith, m, over))

-- == the numbers of a rule, one look after another
-- a rule decides only what it matches
decides_own : (rules : List Rule) (line k : ℕ) (rule : Rule) (address : IpSocketAddress) (asked : SocketAddrUse) → slice_get rules k ≡ Some rule → (decided_from (line + 1) rules address asked).rule ≡ line + 1 + k → matches rule address asked ≡ true
decides_own [] line k rule address asked is decided = absurd (nothing rule is)
decides_own (r ∷ rules) line k rule address asked is decided = by_match (matches r address asked) refl k is decided (λ j there more. decides_own rules (line + 1) j rule address asked there more) where
  by_match : (b : Bool) → matches r address asked ≡ b → (j : ℕ) → slice_get (r ∷ rules) j ≡ Some rule → (decided_from (line + 1) (r ∷ rules) address asked).rule ≡ line + 1 + j → ((i : ℕ) → slice_get rules i ≡ Some rule → (decided_from (line + 1 + 1) rules address asked).rule ≡ line + 1 + 1 + i → matches rule address asked ≡ true) → matches rule address asked ≡ true
  by_match true e zero there decided rest = sym (ap (λ x. matches x address asked) (same_rule r rule there)) ∙ e
  by_match true e (suc j) there decided rest =
      let line_is : (decided_from (line + 1) (r ∷ rules) address asked).rule ≡ line + 1 = rw e refl in
      absurd (omega (arith, line_is, decided))
  by_match false e zero there decided rest =
      let more : (decided_from (line + 1) (r ∷ rules) address asked).rule ≡ (decided_from (line + 1 + 1) rules address asked).rule = rw e refl in
      absurd (behind rules (line + 1 + 1) (omega arith) (sym more ∙ decided))
    where
      behind : (rules : List Rule) (from : ℕ) → line + 1 < from → (decided_from from rules address asked).rule ≡ line + 1 + 0 → ⊥
      behind [] from h is = omega (arith, is)
      behind (x ∷ xs) from h is = by_test (matches x address asked) refl (behind xs (from + 1) (omega (arith, h))) where
        by_test : (b : Bool) → matches x address asked ≡ b → ((decided_from (from + 1) xs address asked).rule ≡ line + 1 + 0 → ⊥) → ⊥
        by_test true t rest = let here : (decided_from from (x ∷ xs) address asked).rule ≡ from = rw t refl in omega (arith, here, is, h)
        by_test false t rest = let more : (decided_from from (x ∷ xs) address asked).rule ≡ (decided_from (from + 1) xs address asked).rule = rw t refl in rest (sym more ∙ is)
  by_match false e (suc j) there decided rest =
      let more : (decided_from (line + 1) (r ∷ rules) address asked).rule ≡ (decided_from (line + 1 + 1) rules address asked).rule = rw e refl in
      rest j there (omega (arith, more, decided))

pub owns : (rules : List Rule) (line : ℕ) (rule : Rule) (address : IpSocketAddress) (asked : SocketAddrUse) → 0 < line → slice_get rules (line - 1) ≡ Some rule → (decision rules address asked).rule ≡ line → matches rule address asked ≡ true
owns rules line rule address asked begins is decided =
    let same : line ≡ 0 + 1 + (line - 1) = omega (arith, begins) in
    decides_own rules 0 (line - 1) rule address asked is (decided ∙ same)

-- no range: nothing is decided
pub never_none : (rules : List Rule) (line : ℕ) (rule : Rule) (asked : SocketAddrUse) (f : SocketAddressFamily) → 0 < line → slice_get rules (line - 1) ≡ Some rule → range_of rule.net f ≡ None → NeverIn rules line asked f
never_none rules line rule asked f begins is none n p address at decided =
    let own = parts_of rule asked f n p address at (owns rules line rule address asked begins is decided) in
    false≢true (rw none at own.within)

-- another use: nothing is decided
pub never_about : (rules : List Rule) (line : ℕ) (rule : Rule) (asked : SocketAddrUse) → 0 < line → slice_get rules (line - 1) ≡ Some rule → is_about rule.usage asked ≡ false → NeverOf rules line asked
never_about rules line rule asked begins is none n p f address at decided =
    let own = parts_of rule asked f n p address at (owns rules line rule address asked begins is decided) in
    false≢true (sym none ∙ own.about)

-- before the first number nothing is decided
pub before_first : (rules : List Rule) (line : ℕ) (rule : Rule) (asked : SocketAddrUse) (f : SocketAddressFamily) (low high : ℕ) → 0 < line → slice_get rules (line - 1) ≡ Some rule → range_of rule.net f ≡ Some (low, high) → NeverBefore rules line asked f (canonical_from f low)
before_first rules line rule asked f low high begins is range n p address at before decided =
    let own = parts_of rule asked f n p address at (owns rules line rule address asked begins is decided) in
    let from : low ≤ n = lower (rw range at own.within) in
    let found = from_there f low n (canon f n p address at) from in
    past found.first (rw found.is at before) found.below
  where
    lower : (nat_le low n && nat_le n high) ≡ true → low ≤ n
    lower e = grind (arith, nat_tests)

    past : (m : ℕ) → n < m → m ≤ n → ⊥
    past m h k = omega (arith, h, k)

    canon : (f : SocketAddressFamily) (n p : ℕ) (address : IpSocketAddress) → IsAt f n p address → is_canonical f n ≡ true
    canon f n p address at = subst (λ g. is_canonical g n ≡ true) at.family_is (subst (λ k. is_canonical (family_of (canonical (ip_of address))) k ≡ true) at.number_is (has_number address at.fits).canon)

-- behind the numbers that were taken nothing is left before the next one
pub before_next : (rules : List Rule) (line : ℕ) (rule : Rule) (asked : SocketAddrUse) (f : SocketAddressFamily) (number last : ℕ) → 0 < line → slice_get rules (line - 1) ≡ Some rule → NeverBefore rules line asked f (Some number) → DecidesNone rules line asked f number last rule.low rule.high → NeverBefore rules line asked f (canonical_behind f last)
before_next rules line rule asked f number last begins is never none n p address at before decided = by_number (cases_lt n number) (cases_lt last n) where
  own : IsMatched rule asked f n p
  own = parts_of rule asked f n p address at (owns rules line rule address asked begins is decided)

  small : n < 2 ^ 128
  small = subst (λ k. k < 2 ^ 128) at.number_is (has_number address at.fits).small

  canon : is_canonical f n ≡ true
  canon = subst (λ g. is_canonical g n ≡ true) at.family_is (subst (λ k. is_canonical (family_of (canonical (ip_of address))) k ≡ true) at.number_is (has_number address at.fits).canon)

  at_least : nat_le rule.low p ≡ true → rule.low ≤ p
  at_least e = grind (arith, nat_tests)

  inside : last + 1 ≤ n → nat_lt (last + 1) (2 ^ 128) ≡ true
  inside h = grind (arith, nat_tests)

  past : (m : ℕ) → n < m → m ≤ n → ⊥
  past m h k = omega (arith, h, k)

  by_number : (n < number) ⊎ (number ≤ n) → (last < n) ⊎ (n ≤ last) → ⊥
  by_number (inl h) k = never n p address at h decided
  by_number (inr h) (inr k) = none n p address at h k (at_least own.low) (port_over p rule.high own.high) decided
  by_number (inr h) (inl k) =
      let next : last + 1 ≤ n = omega (arith, k) in
      let found = from_there f (last + 1) n canon next in
      past found.first (rw (inside next, found.is) at before) found.below

pub past_last : (rules : List Rule) (line : ℕ) (rule : Rule) (asked : SocketAddrUse) (f : SocketAddressFamily) (low high number : ℕ) → 0 < line → slice_get rules (line - 1) ≡ Some rule → range_of rule.net f ≡ Some (low, high) → high < number → NeverBefore rules line asked f (Some number) → NeverIn rules line asked f
past_last rules line rule asked f low high number begins is range over never n p address at decided =
    let own = parts_of rule asked f n p address at (owns rules line rule address asked begins is decided) in
    never n p address at (below (rw range at own.within)) decided
  where
    below : (nat_le low n && nat_le n high) ≡ true → n < number
    below e = grind (arith, nat_tests)

pub none_left : (rules : List Rule) (line : ℕ) (asked : SocketAddrUse) (f : SocketAddressFamily) → NeverBefore rules line asked f None → NeverIn rules line asked f
none_left rules line asked f never n p address at decided = never n p address at (omega arith) decided

-- the next number to look at is canonical, and isn't below the first
abbrev pub IsNext : SocketAddressFamily → ℕ → Option ℕ → Type 0
IsNext f low None = 0 ≤ low
IsNext f low (Some number) = (is_canonical f number ≡ true) × (low ≤ number)

is_next : (f : SocketAddressFamily) (low n : ℕ) → low ≤ n → IsNext f low (canonical_from f n)
is_next f low n h = by_test (is_canonical f n) refl where
  behind : (f : SocketAddressFamily) → is_canonical f n ≡ false → IsNext f low (after_mapped f)
  behind family.Ipv4 e = omega arith
  behind family.Ipv6 e = (refl, over e) where
    over : is_canonical family.Ipv6 n ≡ false → low ≤ 281474976710656
    over e = grind (arith, nat_tests)

  by_test : (t : Bool) → is_canonical f n ≡ t → IsNext f low (canonical_from f n)
  by_test true e = rw e (e, h)
  by_test false e = rw e (behind f e)

pub next_first : (f : SocketAddressFamily) (low : ℕ) → IsNext f low (canonical_from f low)
next_first f low = is_next f low low (omega arith)

pub next_behind : (f : SocketAddressFamily) (low last : ℕ) → low ≤ last → IsNext f low (canonical_behind f last)
next_behind f low last h = by_test (nat_lt (last + 1) (2 ^ 128)) refl where
  by_test : (t : Bool) → nat_lt (last + 1) (2 ^ 128) ≡ t → IsNext f low (canonical_behind f last)
  by_test true e = rw e (is_next f low (last + 1) (omega (arith, h)))
  by_test false e = rw e (omega arith)

-- how many numbers are left
abbrev pub left : Option ℕ → ℕ
left None = 0
left (Some number) = 2 ^ 128 - number

pub fewer_left : (f : SocketAddressFamily) (number last : ℕ) → number ≤ last → number < 2 ^ 128 → left (canonical_behind f last) < left (Some number)
fewer_left f number last h small = by_next (canonical_behind f last) (behind (nat_lt (last + 1) (2 ^ 128)) refl) where
  behind : (t : Bool) → nat_lt (last + 1) (2 ^ 128) ≡ t → IsNext f (last + 1) (canonical_behind f last)
  behind true e = rw e (is_next f (last + 1) (last + 1) (omega arith))
  behind false e = rw e (omega arith)

  by_next : (next : Option ℕ) → IsNext f (last + 1) next → left next < left (Some number)
  by_next None is = omega (arith, small)
  by_next (Some m) is = omega (arith, small, h, is.1)

-- a number of a range
pub within_range : (r : Option (ℕ × ℕ)) (low high n : ℕ) → r ≡ Some (low, high) → low ≤ n → n ≤ high → in_range r n ≡ true
within_range r low high n is h k = rw is (inside h k) where
  inside : low ≤ n → n ≤ high → (nat_le low n && nat_le n high) ≡ true
  inside h k = grind (arith, nat_tests)

-- == every use
pub each_use : (asked : SocketAddrUse) → Contains USES asked
each_use usage.TcpBind = (0, omega arith, refl)
each_use usage.TcpListen = (1, omega arith, refl)
each_use usage.TcpAccept = (2, omega arith, refl)
each_use usage.TcpConnect = (3, omega arith, refl)
each_use usage.UdpBind = (4, omega arith, refl)
each_use usage.UdpSend = (5, omega arith, refl)
each_use usage.UdpReceive = (6, omega arith, refl)

pub both_families : (rules : List Rule) (line : ℕ) (asked : SocketAddrUse) → NeverIn rules line asked family.Ipv4 → NeverIn rules line asked family.Ipv6 → NeverOf rules line asked
both_families rules line asked ipv4 ipv6 n p family.Ipv4 address at = ipv4 n p address at
both_families rules line asked ipv4 ipv6 n p family.Ipv6 address at = ipv6 n p address at

-- one more use, behind the first so many
pub uses_more : (rules : List Rule) (line : ℕ) (uses : List SocketAddrUse) (i : ℕ) (e : SocketAddrUse) → i < length uses → ((k : ℕ) (d : SocketAddrUse) → k < i → NeverOf rules line (get_or uses k d)) → NeverOf rules line (get_or uses i e) → (k : ℕ) (d : SocketAddrUse) → k < i + 1 → NeverOf rules line (get_or uses k d)
uses_more rules line uses i e inside before never k d h = by_place (cases_lt k i) where
  by_place : (k < i) ⊎ (i ≤ k) → NeverOf rules line (get_or uses k d)
  by_place (inl f) = before k d f
  by_place (inr f) =
      let here : k ≡ i = omega (arith, f, h) in
      let same : get_or uses k d ≡ get_or uses i e = ap (λ j. get_or uses j d) here ∙ get_or_default uses i d e inside in
      subst (λ u. NeverOf rules line u) (sym same) never

pub never_decides : (rules : List Rule) (line : ℕ) → ((asked : SocketAddrUse) → NeverOf rules line asked) → Decides rules line → ⊥
never_decides rules line never d =
    never d.asked (ip_number (canonical (ip_of d.address))) (port_of d.address) (family_of (canonical (ip_of d.address))) d.address (record { fits = d.fits; family_is = refl; number_is = refl; port_is = refl }) d.decided
