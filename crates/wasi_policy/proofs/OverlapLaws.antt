-- Two rules overlap where both match the first address that both may match.
use Rattle.std.specs.Prelude.{nat_le, nat_lt, max, min, ◌&&◌, ◌==◌}
use Rattle.std.proofs.Common.{◌≡◌, ℕ, ◌≤◌, Bool, true, false, Option, Some, None, arith, ap, sym, ◌∙◌, refl, subst}
use Rattle.std.proofs.lemmas.Bool.{false≢true, and_parts}
use Rattle.std.proofs.lemmas.Bool.Decides.{nat_tests}
use Rattle.wasi_addr.specs.declared.address.IpSocketAddress.{IpSocketAddress}
use Rattle.wasi_addr.specs.declared.address.SocketAddressFamily.{SocketAddressFamily}
use Rattle.wasi_addr.specs.declared.address.SocketAddressFamily.TheVariants as family
use Rattle.wasi_addr.specs.declared.address.SocketAddrUse.{SocketAddrUse}
use Rattle.wasi_addr.specs.Address.{canonical, ip_of, port_of}
use Rattle.wasi_policy.specs.declared.rule.Rule.{Rule}
use Rattle.wasi_policy.specs.Decision.{is_about, matches, use_place}
use Rattle.wasi_policy.specs.Reach.{family_of, ip_number, range_of}
use Rattle.wasi_policy.specs.Points.{is_canonical, in_range, IsAt}
use Rattle.wasi_policy.specs.Findings.{Overlap}
use Rattle.wasi_policy.specs.Overlaps.{after_mapped, canonical_from, at_most, first_common, common_use}
use Rattle.wasi_policy.proofs.PointLaws.{has_number, matches_at}

-- == the first canonical number
-- a canonical number from another on is at the first such one, or behind it
pub record FoundFrom (f : SocketAddressFamily) (n k : ℕ) : Type 0 where
  pub first : ℕ
  pub is : canonical_from f n ≡ Some first
  pub over : n ≤ first
  pub below : first ≤ k

pub from_there : (f : SocketAddressFamily) (n k : ℕ) → is_canonical f k ≡ true → n ≤ k → FoundFrom f n k
from_there f n k canon h = by_test (is_canonical f n) refl where
  behind : (f : SocketAddressFamily) → is_canonical f n ≡ false → is_canonical f k ≡ true → is_canonical f n ≡ false → FoundFrom f n k
  behind family.Ipv4 e canon' d = absurd (small e canon') where
    small : nat_lt n 4294967296 ≡ false → nat_lt k 4294967296 ≡ true → ⊥
    small e canon' = grind (arith, nat_tests)
  behind family.Ipv6 e canon' d = record { first = 281474976710656; is = rw d refl; over = inside e; below = past e canon' } where
    inside : is_canonical family.Ipv6 n ≡ false → n ≤ 281474976710656
    inside e = grind (arith, nat_tests)

    past : is_canonical family.Ipv6 n ≡ false → is_canonical family.Ipv6 k ≡ true → 281474976710656 ≤ k
    past e canon' = grind (arith, nat_tests)

  by_test : (t : Bool) → is_canonical f n ≡ t → FoundFrom f n k
  by_test true e = record { first = n; is = rw e refl; over = omega arith; below = h }
  by_test false e = behind f e canon e

pub from_canonical : (f : SocketAddressFamily) (n m : ℕ) → canonical_from f n ≡ Some m → is_canonical f m ≡ true
from_canonical f n m is = by_test (is_canonical f n) refl where
  some_is : (a b : ℕ) → Some a ≡ Some b → a ≡ b
  some_is a b e = cc

  behind : (f : SocketAddressFamily) → after_mapped f ≡ Some m → is_canonical f m ≡ true
  behind family.Ipv4 e = absurd (none e) where
    none : after_mapped family.Ipv4 ≡ Some m → ⊥
    none e = cc
  behind family.Ipv6 e = rw (← some_is 281474976710656 m e) refl

  by_test : (t : Bool) → is_canonical f n ≡ t → is_canonical f m ≡ true
  by_test true e = rw (← some_is n m (rw e at is)) e
  by_test false e = behind f (rw e at is)

-- a number that isn't above another is the one that it was
most_is : (most m : ℕ) (number : Option ℕ) → at_most most number ≡ Some m → number ≡ Some m
most_is most m None is = is
most_is most m (Some n) is = by_test (nat_le n most) refl where
  none : None ≡ Some m → ⊥
  none e = cc

  by_test : (t : Bool) → nat_le n most ≡ t → Some n ≡ Some m
  by_test true e = rw e at is
  by_test false e = absurd (none (rw e at is))

pub common_canonical : (a b : Option (ℕ × ℕ)) (f : SocketAddressFamily) (m : ℕ) → first_common a b f ≡ Some m → is_canonical f m ≡ true
common_canonical None b f m is = absurd (none is) where
  none : None ≡ Some m → ⊥
  none e = cc
common_canonical (Some a) None f m is = absurd (none is) where
  none : None ≡ Some m → ⊥
  none e = cc
common_canonical (Some (low, high)) (Some (least, greatest)) f m is = from_canonical f (max low least) m (most_is (min high greatest) m (canonical_from f (max low least)) is)

record FoundCommon (a b : Option (ℕ × ℕ)) (f : SocketAddressFamily) : Type 0 where
  first : ℕ
  is : first_common a b f ≡ Some first
  one : in_range a first ≡ true
  other : in_range b first ≡ true

common_found : (a b : Option (ℕ × ℕ)) (f : SocketAddressFamily) (k : ℕ) → is_canonical f k ≡ true → in_range a k ≡ true → in_range b k ≡ true → FoundCommon a b f
common_found None b f k canon one other = absurd (false≢true one)
common_found (Some a) None f k canon one other = absurd (false≢true other)
common_found (Some (low, high)) (Some (least, greatest)) f k canon one other =
    let found = from_there f (max low least) k canon (highest one other) in
    let here = within one found.over found.below in
    let there = within_other other found.over found.below in
    record { first = found.first; is = rw found.is (not_above here there); one = here; other = there }
  where
    not_above : {m : ℕ} → (nat_le low m && nat_le m high) ≡ true → (nat_le least m && nat_le m greatest) ≡ true → at_most (min high greatest) (Some m) ≡ Some m
    not_above {m} here there = let below : nat_le m (min high greatest) ≡ true = grind (arith, nat_tests) in rw below refl

    highest : (nat_le low k && nat_le k high) ≡ true → (nat_le least k && nat_le k greatest) ≡ true → max low least ≤ k
    highest one other = grind (arith, nat_tests)

    within : {m : ℕ} → (nat_le low k && nat_le k high) ≡ true → max low least ≤ m → m ≤ k → (nat_le low m && nat_le m high) ≡ true
    within one over below = grind (arith, nat_tests)

    within_other : {m : ℕ} → (nat_le least k && nat_le k greatest) ≡ true → max low least ≤ m → m ≤ k → (nat_le least m && nat_le m greatest) ≡ true
    within_other other over below = grind (arith, nat_tests)

-- == a common use
about_self : (asked : SocketAddrUse) → (use_place asked == use_place asked) ≡ true
about_self asked = self (use_place asked) where
  self : (n : ℕ) → (n == n) ≡ true
  self n = grind (arith, nat_tests)

use_about : (one other : Option SocketAddrUse) (asked : SocketAddrUse) → is_about one asked ≡ true → is_about other asked ≡ true → (is_about one (common_use one other) ≡ true) × (is_about other (common_use one other) ≡ true)
use_about None None asked h k = (refl, refl)
use_about None (Some b) asked h k = (refl, about_self b)
use_about (Some a) None asked h k = (about_self a, refl)
use_about (Some a) (Some b) asked h k = (about_self a, both (use_place a) (use_place b) (use_place asked) h k) where
  both : (x y z : ℕ) → (x == z) ≡ true → (y == z) ≡ true → (y == x) ≡ true
  both x y z e f = grind (arith, nat_tests)

-- == what both match
four : (a b c d : Bool) → (a && b && c && d) ≡ true → (a ≡ true) × (b ≡ true) × (c ≡ true) × (d ≡ true)
four true true true true h = (refl, refl, refl, refl)
four true true true false h = absurd (false≢true h)
four true true false d h = absurd (false≢true h)
four true false c d h = absurd (false≢true h)
four false b c d h = absurd (false≢true h)

all_four : (a b c d : Bool) → a ≡ true → b ≡ true → c ≡ true → d ≡ true → (a && b && c && d) ≡ true
all_four a b c d h k l m = rw (h, k, l, m) refl

-- the rule matches at the number, the port and the use that were found
pub record IsMatched (rule : Rule) (asked : SocketAddrUse) (f : SocketAddressFamily) (number port : ℕ) : Type 0 where
  pub about : is_about rule.usage asked ≡ true
  pub low : nat_le rule.low port ≡ true
  pub high : nat_le port rule.high ≡ true
  pub within : in_range (range_of rule.net f) number ≡ true

pub parts_of : (rule : Rule) (asked : SocketAddrUse) (f : SocketAddressFamily) (number port : ℕ) (address : IpSocketAddress) → IsAt f number port address → matches rule address asked ≡ true → IsMatched rule asked f number port
parts_of rule asked f number port address at is =
    let parts = four (is_about rule.usage asked) (nat_le rule.low port) (nat_le port rule.high) (in_range (range_of rule.net f) number) (sym (matches_at rule asked f number port address at) ∙ is) in
    record { about = parts.0; low = parts.1; high = parts.2; within = parts.3 }

pub from_parts : (rule : Rule) (asked : SocketAddrUse) (f : SocketAddressFamily) (number port : ℕ) (address : IpSocketAddress) → IsAt f number port address → IsMatched rule asked f number port → matches rule address asked ≡ true
from_parts rule asked f number port address at m =
    matches_at rule asked f number port address at
    ∙ all_four (is_about rule.usage asked) (nat_le rule.low port) (nat_le port rule.high) (in_range (range_of rule.net f) number) m.about m.low m.high m.within

ports : (low high least greatest p : ℕ) → nat_le low p ≡ true → nat_le p high ≡ true → nat_le least p ≡ true → nat_le p greatest ≡ true → (nat_le low (max low least) ≡ true) × (nat_le (max low least) high ≡ true) × (nat_le least (max low least) ≡ true) × (nat_le (max low least) greatest ≡ true)
ports low high least greatest p h k l m = (lower low least, below low least high p h k l, upper low least, below low least greatest p h m l) where
  lower : (a b : ℕ) → nat_le a (max a b) ≡ true
  lower a b = grind (arith, nat_tests)

  upper : (a b : ℕ) → nat_le b (max a b) ≡ true
  upper a b = grind (arith, nat_tests)

  below : (a b c p : ℕ) → nat_le a p ≡ true → nat_le p c ≡ true → nat_le b p ≡ true → nat_le (max a b) c ≡ true
  below a b c p h k l = grind (arith, nat_tests)

-- Where both match something of the family, there is a first number, and both match it at the first port.
pub record BothMatch (one other : Rule) (f : SocketAddressFamily) : Type 0 where
  pub first : ℕ
  pub is : first_common (range_of one.net f) (range_of other.net f) f ≡ Some first
  pub match : (address : IpSocketAddress) → IsAt f first (max one.low other.low) address → (matches one address (common_use one.usage other.usage) && matches other address (common_use one.usage other.usage)) ≡ true

both_match : (one other : Rule) (f : SocketAddressFamily) (number port : ℕ) (asked : SocketAddrUse) → is_canonical f number ≡ true → IsMatched one asked f number port → IsMatched other asked f number port → BothMatch one other f
both_match one other f number port asked canon m k =
    let found = common_found (range_of one.net f) (range_of other.net f) f number canon m.within k.within in
    let about = use_about one.usage other.usage asked m.about k.about in
    let at_port = ports one.low one.high other.low other.high port m.low m.high k.low k.high in
    record {
      first = found.first;
      is = found.is;
      match = λ address at. both (matches one address (common_use one.usage other.usage)) (matches other address (common_use one.usage other.usage))
          (from_parts one (common_use one.usage other.usage) f found.first (max one.low other.low) address at (record { about = about.0; low = at_port.0; high = at_port.1; within = found.one }))
          (from_parts other (common_use one.usage other.usage) f found.first (max one.low other.low) address at (record { about = about.1; low = at_port.2; high = at_port.3; within = found.other }));
    }
  where
    both : (a b : Bool) → a ≡ true → b ≡ true → (a && b) ≡ true
    both a b e d = rw (e, d) refl

pub overlap_found : (one other : Rule) (f : SocketAddressFamily) (o : Overlap one other) → family_of (canonical (ip_of o.address)) ≡ f → BothMatch one other f
overlap_found one other f o is =
    let number = has_number o.address o.fits in
    let at : IsAt f (ip_number (canonical (ip_of o.address))) (port_of o.address) o.address = record { fits = o.fits; family_is = is; number_is = refl; port_is = refl } in
    both_match one other f (ip_number (canonical (ip_of o.address))) (port_of o.address) o.asked (ap (λ g. is_canonical g (ip_number (canonical (ip_of o.address)))) (sym is) ∙ number.canon)
    (parts_of one o.asked f (ip_number (canonical (ip_of o.address))) (port_of o.address) o.address at o.one_matches)
    (parts_of other o.asked f (ip_number (canonical (ip_of o.address))) (port_of o.address) o.address at o.other_matches)

-- no use is one of both
pub no_use : (one other : Rule) → is_about other.usage (common_use one.usage other.usage) ≡ false → Overlap one other → ⊥
no_use one other none o =
    let at : IsAt (family_of (canonical (ip_of o.address))) (ip_number (canonical (ip_of o.address))) (port_of o.address) o.address = record { fits = o.fits; family_is = refl; number_is = refl; port_is = refl } in
    let here = parts_of one o.asked (family_of (canonical (ip_of o.address))) (ip_number (canonical (ip_of o.address))) (port_of o.address) o.address at o.one_matches in
    let there = parts_of other o.asked (family_of (canonical (ip_of o.address))) (ip_number (canonical (ip_of o.address))) (port_of o.address) o.address at o.other_matches in
    false≢true (sym none ∙ (use_about one.usage other.usage o.asked here.about there.about).1)

-- no port is one of both
pub no_port : (one other : Rule) → nat_le (max one.low other.low) (min one.high other.high) ≡ false → Overlap one other → ⊥
no_port one other none o =
    let at : IsAt (family_of (canonical (ip_of o.address))) (ip_number (canonical (ip_of o.address))) (port_of o.address) o.address = record { fits = o.fits; family_is = refl; number_is = refl; port_is = refl } in
    let here = parts_of one o.asked (family_of (canonical (ip_of o.address))) (ip_number (canonical (ip_of o.address))) (port_of o.address) o.address at o.one_matches in
    let there = parts_of other o.asked (family_of (canonical (ip_of o.address))) (ip_number (canonical (ip_of o.address))) (port_of o.address) o.address at o.other_matches in
    apart one.low one.high other.low other.high (port_of o.address) here.low here.high there.low there.high none
  where
    apart : (low high least greatest p : ℕ) → nat_le low p ≡ true → nat_le p high ≡ true → nat_le least p ≡ true → nat_le p greatest ≡ true → nat_le (max low least) (min high greatest) ≡ false → ⊥
    apart low high least greatest p h k l m none = grind (arith, nat_tests)

-- the answers of overlap_in
pub none_common : (one other : Rule) (f : SocketAddressFamily) → first_common (range_of one.net f) (range_of other.net f) f ≡ None → (o : Overlap one other) → family_of (canonical (ip_of o.address)) ≡ f → ⊥
none_common one other f none o is = let found = overlap_found one other f o is in differ found.first (sym none ∙ found.is) where
  differ : (m : ℕ) → None ≡ Some m → ⊥
  differ m e = cc

pub some_common : (one other : Rule) (f : SocketAddressFamily) (number : ℕ) (address : IpSocketAddress) → first_common (range_of one.net f) (range_of other.net f) f ≡ Some number → IsAt f number (max one.low other.low) address → (o : Overlap one other) → family_of (canonical (ip_of o.address)) ≡ f → (matches one address (common_use one.usage other.usage) && matches other address (common_use one.usage other.usage)) ≡ true
some_common one other f number address some at o is =
    let found = overlap_found one other f o is in
    let same : number ≡ found.first = some_is number found.first (sym some ∙ found.is) in
    found.match address (subst (λ n. IsAt f n (max one.low other.low) address) same at)
  where
    some_is : (a b : ℕ) → Some a ≡ Some b → a ≡ b
    some_is a b e = cc

pub does_overlap : (one other : Rule) (f : SocketAddressFamily) (number port : ℕ) (asked : SocketAddrUse) (address : IpSocketAddress) → IsAt f number port address → (matches one address asked && matches other address asked) ≡ true → Overlap one other
does_overlap one other f number port asked address at both =
    let parts = and_parts (matches one address asked) _ both in
    record { address = address; asked = asked; fits = at.fits; one_matches = parts.0; other_matches = parts.1 }

pub either_family : (one other : Rule) (a b : Bool) → ((o : Overlap one other) → family_of (canonical (ip_of o.address)) ≡ family.Ipv4 → a ≡ true) → ((o : Overlap one other) → family_of (canonical (ip_of o.address)) ≡ family.Ipv6 → b ≡ true) → a ≡ false → Overlap one other → b ≡ true
either_family one other a b ipv4 ipv6 not o = by_family (family_of (canonical (ip_of o.address))) refl where
  by_family : (f : SocketAddressFamily) → family_of (canonical (ip_of o.address)) ≡ f → b ≡ true
  by_family family.Ipv4 is = absurd (false≢true (sym not ∙ ipv4 o is))
  by_family family.Ipv6 is = ipv6 o is
