use Rattle.std.proofs.Common.{arith}
use Rattle.wasi_transcript.proofs.LinesTaken.{takes_whole, takes_front, nothing_after}
use Rattle.wasi_transcript.proofs.lines.LineReader.take_line.Goals as goal

pub returns-in_ok-extend_from_slice-in-Some-clause-whole : goal.returns-in_ok-extend_from_slice-in-Some-clause-whole
returns-in_ok-extend_from_slice-in-Some-clause-whole c =
    rw (← c.self.view_is) (takes_whole c.args.line.now.items c.self.inside.piece.items c.self.inside.start c.in-Some.end c.extend_from_slice.new.self.items (rw c.deref.ensures.value at c.in-Some.ensures) (rw c.deref.ensures.value at c.in_ok-extend_from_slice-in-Some.ensures.items))

pub returns-in_ok-extend_from_slice-in-None-clause-whole : goal.returns-in_ok-extend_from_slice-in-None-clause-whole
returns-in_ok-extend_from_slice-in-None-clause-whole c =
    let t = takes_front c.args.line.now.items c.self.inside.piece.items c.self.inside.start c.extend_from_slice-in-None.new.self.items (rw c.deref.ensures.value at c.in-None.ensures) (rw c.deref.ensures.value at c.in_ok-extend_from_slice-in-None.ensures.items) in
    rw (← c.self.view_is) (t.0, t.1, nothing_after c.len-self-inside.result c.self.inside.piece.items (omega (arith, c.len-self-inside.ensures, c.self.inside.piece.ok.0)))
