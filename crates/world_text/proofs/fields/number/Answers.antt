use Rattle.std.proofs.Common.{arith, refl, sym, ◌∙◌}
use Rattle.world_text.proofs.Numbers.{begins_otherwise, no_text, not_parsed, parsed_within, within, number_exact}
use Rattle.world_text.proofs.fields.number.Goals as goal

pub returns-in-Some-clause-value : goal.returns-in-Some-clause-value
returns-in-Some-clause-value c =
    let digit = rw c.in-Some.is at c.one_digit.ensures in
    c.then_some.ensures ∙ within _ _ _ c.ranges.most.fits (omega (arith, digit.0)) digit.1 _ refl

pub returns-in-Some-clause-exact : goal.returns-in-Some-clause-exact
returns-in-Some-clause-exact c = number_exact _ _ _ c.ranges.most.fits (returns-in-Some-clause-value c)

pub returns-then-not-begins_plain-clause-value : goal.returns-then-not-begins_plain-clause-value
returns-then-not-begins_plain-clause-value c =
    sym (begins_otherwise _ _ c.ranges.most.fits (λ begins. let e = c.begins_plain.ensures.1 begins in cc))

pub returns-then-not-begins_plain-clause-exact : goal.returns-then-not-begins_plain-clause-exact
returns-then-not-begins_plain-clause-exact c = number_exact _ _ _ c.ranges.most.fits (returns-then-not-begins_plain-clause-value c)

pub returns-in_default-from_utf8-clause-value : goal.returns-in_default-from_utf8-clause-value
returns-in_default-from_utf8-clause-value c = sym (no_text _ _ c.ranges.most.fits c.in_default-from_utf8.ensures.cases.0)

pub returns-in_default-from_utf8-clause-exact : goal.returns-in_default-from_utf8-clause-exact
returns-in_default-from_utf8-clause-exact c = number_exact _ _ _ c.ranges.most.fits (returns-in_default-from_utf8-clause-value c)

pub returns-in_default-parse-clause-value : goal.returns-in_default-parse-clause-value
returns-in_default-parse-clause-value c =
    let parsed = rw c.in-Ok.ensures.cases.0 at c.in_default-parse.ensures.value.0 in
    sym (not_parsed c.args.field.now c.args.most c.in_default-parse.field-0 c.ranges.most.fits parsed)

pub returns-in_default-parse-clause-exact : goal.returns-in_default-parse-clause-exact
returns-in_default-parse-clause-exact c = number_exact _ _ _ c.ranges.most.fits (returns-in_default-parse-clause-value c)

pub returns-clause-value : goal.returns-clause-value
returns-clause-value c =
    let parsed = rw c.in-Ok.ensures.cases.0 at c.in-Ok-parse.ensures.value.0 in
    c.then_some-2.ensures ∙ parsed_within c.args.field.now c.args.most c.in-Ok-parse.number c.ranges.most.fits (c.begins_plain.ensures.0 c.if-not-begins_plain.false) parsed.0 parsed.1

pub returns-clause-exact : goal.returns-clause-exact
returns-clause-exact c = number_exact _ _ _ c.ranges.most.fits (returns-clause-value c)
