use Rattle.world_text.specs.Fields.{number_in}
use Rattle.wasi_steps.specs.Steps.{after_first, step_reader}
use Rattle.wasi_steps.proofs.FieldWords.{by_first, no_field}
use Rattle.wasi_steps.proofs.parse.step.Goals as goal

pub returns-in_default : goal.returns-in_default
unfolding step_reader
returns-in_default c = no_field (λ first. after_first c.args.contexts first (number_in first 4294967295)) _ c.in_default.ensures.end.0

pub returns-in-Some-context_number : goal.returns-in-Some-context_number
returns-in-Some-context_number c =
    rw (by_first c.args.contexts c.args.fields.now c.next.new.self c.in-Some.first.now c.in-Some.ensures.first, ← c.context_number.ensures, c.in-Some-context_number.is) c.call_of.ensures

pub returns-in-None : goal.returns-in-None
returns-in-None c =
    rw (by_first c.args.contexts c.args.fields.now c.next.new.self c.in-Some.first.now c.in-Some.ensures.first, ← c.context_number.ensures, c.in-None.is) c.bare_arguments.ensures
