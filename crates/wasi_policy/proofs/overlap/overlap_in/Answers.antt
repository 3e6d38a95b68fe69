use Rattle.std.proofs.Common.{◌≡◌, Some, None, rules, sym, ◌∙◌}
use Rattle.wasi_policy.specs.Reach.{range_of}
use Rattle.wasi_policy.specs.Overlaps.{first_common}
use Rattle.wasi_policy.proofs.OverlapLaws.{common_canonical, none_common, some_common, does_overlap}
use Rattle.wasi_policy.proofs.overlap.overlap_in.Goals as goal

pub address_at-address-requires : goal.address_at-address-requires
address_at-address-requires c =
    let some : first_common (range_of c.args.one.now.net c.args.family) (range_of c.args.other.now.net c.args.family) c.args.family ≡ Some c.in-Some.number = search rules in
    common_canonical (range_of c.args.one.now.net c.args.family) (range_of c.args.other.now.net c.args.family) c.args.family c.in-Some.number some

pub returns-in_default-clause-complete : goal.returns-in_default-clause-complete
returns-in_default-clause-complete c = λ both is.
    let none : first_common (range_of c.args.one.now.net c.args.family) (range_of c.args.other.now.net c.args.family) c.args.family ≡ None = search rules in
    absurd (none_common c.args.one.now c.args.other.now c.args.family none both is)

pub returns-clause-sound : goal.returns-clause-sound
returns-clause-sound c = λ yes. does_overlap c.args.one.now c.args.other.now c.args.family c.in-Some.number _ _ c.address_at-address.result c.address_at-address.ensures (sym c.both_match.ensures ∙ yes)

pub returns-clause-complete : goal.returns-clause-complete
returns-clause-complete c = λ both is.
    let some : first_common (range_of c.args.one.now.net c.args.family) (range_of c.args.other.now.net c.args.family) c.args.family ≡ Some c.in-Some.number = search rules in
    c.both_match.ensures ∙ rw c.common_use.ensures (some_common c.args.one.now c.args.other.now c.args.family c.in-Some.number c.address_at-address.result some (rw c.max.ensures at c.address_at-address.ensures) both is)
