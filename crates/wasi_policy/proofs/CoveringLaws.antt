-- A rule that matches all that a later one does leaves nothing to it.
use Rattle.std.specs.Prelude.{nat_le, ◌&&◌, ◌-◌, ◌==◌}
use Rattle.std.proofs.Common.{◌≡◌, ℕ, ◌<◌, Bool, true, false, List, Option, Some, None, arith, refl}
use Rattle.std.specs.List.{slice_get}
use Rattle.std.proofs.lemmas.Bool.{false≢true}
use Rattle.std.proofs.lemmas.Bool.Decides.{nat_tests}
use Rattle.wasi_addr.specs.declared.address.SocketAddressFamily.{SocketAddressFamily}
use Rattle.wasi_addr.specs.declared.address.SocketAddressFamily.TheVariants as family
use Rattle.wasi_addr.specs.declared.address.SocketAddrUse.{SocketAddrUse}
use Rattle.wasi_addr.specs.Address.{canonical, ip_of, port_of}
use Rattle.wasi_policy.specs.declared.rule.Rule.{Rule}
use Rattle.wasi_policy.specs.Decision.{is_about, use_place}
use Rattle.wasi_policy.specs.Reach.{family_of, ip_number, range_of}
use Rattle.wasi_policy.specs.Points.{in_range, IsAt}
use Rattle.wasi_policy.specs.Findings.{Decides}
use Rattle.wasi_policy.specs.Deciding.{holds_use, holds_range, covers}
use Rattle.wasi_policy.proofs.OverlapLaws.{IsMatched, parts_of, from_parts}
use Rattle.wasi_policy.proofs.DecidingLaws.{first_line, owns}

about_more : (one other : Option SocketAddrUse) (asked : SocketAddrUse) → holds_use one other ≡ true → is_about other asked ≡ true → is_about one asked ≡ true
about_more None None asked h k = refl
about_more (Some a) None asked h k = absurd (false≢true h)
about_more None (Some b) asked h k = refl
about_more (Some a) (Some b) asked h k = then_same (use_place a) (use_place b) (use_place asked) h k where
  then_same : (x y z : ℕ) → (x == y) ≡ true → (y == z) ≡ true → (x == z) ≡ true
  then_same x y z e f = grind (arith, nat_tests)

range_more : (a b : Option (ℕ × ℕ)) (n : ℕ) → holds_range a b ≡ true → in_range b n ≡ true → in_range a n ≡ true
range_more None None n h k = k
range_more (Some a) None n h k = absurd (false≢true k)
range_more None (Some b) n h k = absurd (false≢true h)
range_more (Some (low, high)) (Some (least, greatest)) n h k = grind (arith, nat_tests)

-- What one rule has of another that it covers.
record IsCovered (one other : Rule) : Type 0 where
  low : nat_le one.low other.low ≡ true
  high : nat_le other.high one.high ≡ true
  about : holds_use one.usage other.usage ≡ true
  within : (f : SocketAddressFamily) → holds_range (range_of one.net f) (range_of other.net f) ≡ true

five : (a b c d e : Bool) → (a && b && c && d && e) ≡ true → (a ≡ true) × (b ≡ true) × (c ≡ true) × (d ≡ true) × (e ≡ true)
five true true true true e h = (refl, refl, refl, refl, h)
five true true true false e h = absurd (false≢true h)
five true true false d e h = absurd (false≢true h)
five true false c d e h = absurd (false≢true h)
five false b c d e h = absurd (false≢true h)

covered_parts : (one other : Rule) → covers one other ≡ true → IsCovered one other
covered_parts one other h =
    let parts = five (nat_le one.low other.low) (nat_le other.high one.high) (holds_use one.usage other.usage) (holds_range (range_of one.net family.Ipv4) (range_of other.net family.Ipv4)) (holds_range (range_of one.net family.Ipv6) (range_of other.net family.Ipv6)) h in
    record { low = parts.0; high = parts.1; about = parts.2; within = by_family parts.3 parts.4 }
  where
    by_family : holds_range (range_of one.net family.Ipv4) (range_of other.net family.Ipv4) ≡ true → holds_range (range_of one.net family.Ipv6) (range_of other.net family.Ipv6) ≡ true → (f : SocketAddressFamily) → holds_range (range_of one.net f) (range_of other.net f) ≡ true
    by_family ipv4 ipv6 family.Ipv4 = ipv4
    by_family ipv4 ipv6 family.Ipv6 = ipv6

matched_too : (one other : Rule) (asked : SocketAddrUse) (f : SocketAddressFamily) (number port : ℕ) → IsCovered one other → IsMatched other asked f number port → IsMatched one asked f number port
matched_too one other asked f number port c m = record {
  about = about_more one.usage other.usage asked c.about m.about;
  low = lower one.low other.low port c.low m.low;
  high = lower port other.high one.high m.high c.high;
  within = range_more (range_of one.net f) (range_of other.net f) number (c.within f) m.within;
} where
  lower : (x y z : ℕ) → nat_le x y ≡ true → nat_le y z ≡ true → nat_le x z ≡ true
  lower x y z e d = grind (arith, nat_tests)

pub covered_never : (rules : List Rule) (line k : ℕ) (one rule : Rule) → 0 < line → slice_get rules (line - 1) ≡ Some rule → k < line - 1 → slice_get rules k ≡ Some one → covers one rule ≡ true → Decides rules line → ⊥
covered_never rules line k one rule begins is before there covered d =
    let at : IsAt (family_of (canonical (ip_of d.address))) (ip_number (canonical (ip_of d.address))) (port_of d.address) d.address = record { fits = d.fits; family_is = refl; number_is = refl; port_is = refl } in
    let own = parts_of rule d.asked (family_of (canonical (ip_of d.address))) (ip_number (canonical (ip_of d.address))) (port_of d.address) d.address at (owns rules line rule d.address d.asked begins is d.decided) in
    let too = from_parts one d.asked (family_of (canonical (ip_of d.address))) (ip_number (canonical (ip_of d.address))) (port_of d.address) d.address at (matched_too one rule d.asked (family_of (canonical (ip_of d.address))) (ip_number (canonical (ip_of d.address))) (port_of d.address) (covered_parts one rule covered) own) in
    let first = first_line rules 1 k one d.address d.asked there too in
    omega (arith, first.high, d.decided, before)
