use Rattle.std.specs.String.{string_bytes}
use Rattle.wasi_transcript.proofs.WordsRead.{is_check}
use Rattle.wasi_transcript.proofs.program.words_in.Goals as goal

pub returns : goal.returns
returns c =
    is_check (λ w. string_bytes w) c.args.words.now c.in_ok-first.files.now c.in_ok-first.first.now c.in_ok-first.ensures.cases.0 (rw c.as_str.ensures.value at c.if-ne.ensures) c.if-is_empty.ensures
