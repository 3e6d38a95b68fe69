use Rattle.std.proofs.Common.{subst, sym}
use Rattle.wasi_writer.specs.Stream.{WriteStream}
use Rattle.wasi_pump.specs.Copying.{Appended}
use Rattle.wasi_pump.proofs.Copies.{appended}
use Rattle.wasi_pump.proofs.copying.write_piece.Goals as goal

pub returns-in-Ok-clause-written : goal.returns-in-Ok-clause-written
returns-in-Ok-clause-written g c = let F : WriteStream → Type 0 = λ w. Appended c.args.writer.now c.args.bytes w in
    (subst F (sym c.in-Ok.ensures.stream) (appended c.args.writer.now c.args.bytes), c.len-count.ensures.value)
