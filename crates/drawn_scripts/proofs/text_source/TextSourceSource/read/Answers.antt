use Rattle.wasi_run.proofs.Words.{◌+◌, ◌∙◌, ap, sym, take, length, arith, drop-drop}
use Rattle.world_io.proofs.Pieces.{gives_piece}
use Rattle.drawn_scripts.proofs.text_source.TextSourceSource.read.Goals as goal

pub returns : goal.returns
returns c =
    gives_piece (length c.args.buf.now + 1) c.min-count.result 0 _ c.args.buf.now c.copy_from_slice.new.self _ c.args.self.now.ended c.ended_after-self.result
    (omega arith)
    (omega (arith, rw c.left-left.ensures at c.min-count.ensures))
    (c.copy_from_slice.ensures.after ∙ ap (λ left. take c.min-count.result left) c.left-left.ensures)
    (sym (drop-drop c.min-count.result c.args.self.now.given c.args.self.now.text.items))
    c.ended_after-self.ensures
