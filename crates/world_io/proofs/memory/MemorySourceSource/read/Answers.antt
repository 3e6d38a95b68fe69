use Rattle.std.proofs.Common.{◌∙◌, ap, sym, take}
use Rattle.std.proofs.lemmas.List.{drop-drop}
use Rattle.world_io.proofs.Pieces.{gives_piece}
use Rattle.world_io.proofs.memory.MemorySourceSource.read.Goals as goal

pub returns-clause-read : goal.returns-clause-read
returns-clause-read c =
    rw (← c.self.view_is) (gives_piece c.self.inside.most c.min-count.result c.self.inside.faults _ c.args.buf.now c.copy_from_slice.new.self _ c.self.inside.ended c.ended_after-self-inside.result
    c.self.invariant.1
    (rw (c.min.ensures, c.left-left.ensures) at c.min-count.ensures)
    (c.copy_from_slice.ensures.after ∙ ap (λ left. take c.min-count.result left) c.left-left.ensures)
    (sym (drop-drop c.min-count.result c.self.inside.given c.self.inside.bytes.items))
    c.ended_after-self-inside.ensures)
