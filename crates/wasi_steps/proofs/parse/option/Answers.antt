use Rattle.std.proofs.Common.{refl}
use Rattle.world_text.specs.Fields.{after_word}
use Rattle.wasi_steps.specs.Settings.{option_words, option_at}
use Rattle.wasi_steps.proofs.FieldWords.{by_word, no_field}
use Rattle.wasi_steps.proofs.parse.option.Goals as goal

pub returns-in_err-word : goal.returns-in_err-word
unfolding option_at
returns-in_err-word c = rw c.from_residual.ensures (no_field (after_word option_words) _ c.in_err-word.ensures.end.0)

pub returns : goal.returns
unfolding option_at
returns c = rw (by_word option_words c.args.fields.now c.next.new.self c.in_ok-word.word.now refl c.in_ok-word.ensures.first) (c.option_of.ensures c.next.new.self)
