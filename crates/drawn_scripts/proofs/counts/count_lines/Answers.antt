use Rattle.wasi_run.proofs.Words.{◌==◌, count_by, ◌∙◌, sym, ap, take_all}
use Rattle.drawn_scripts.proofs.Newlines.{newlines}
use Rattle.drawn_scripts.proofs.counts.count_lines.Goals as goal

pub returns : goal.returns
returns c = c.loop-byte.invariant.lines ∙ ap (λ text. count_by (λ b. b == 10) text) (take_all c.loop-byte.byte-index c.args.text.now c.loop-byte-test.false) ∙ sym (newlines c.args.text.now)
