use Rattle.std.proofs.Common.{refl}
use Rattle.world_text.specs.Fields.{after_word}
use Rattle.wasi_steps.specs.Steps.{rows_of, guest_calls, call_at}
use Rattle.wasi_steps.proofs.FieldWords.{by_word, no_field}
use Rattle.wasi_steps.proofs.parse.guest_call.Goals as goal

pub returns-in_default : goal.returns-in_default
unfolding call_at
returns-in_default c = no_field (after_word (rows_of guest_calls)) _ c.in_default.ensures.end.0

pub returns : goal.returns
unfolding call_at
returns c = rw (by_word (rows_of guest_calls) c.args.fields.now c.next.new.self c.in-Some.word.now refl c.in-Some.ensures.first) c.arguments.ensures
