use Rattle.std.proofs.Common.{◌∙◌}
use Rattle.wasi_writer.proofs.Writes.{line_kept, knows_kept}
use Rattle.wasi_writer.proofs.stream.AsyncWriteStream.write_chunk.Goals as goal

pub invariant_of-self : goal.invariant_of-self
invariant_of-self g c = (
  line_kept c.self.inside.push c.write.new.push c.args.chunk c.write.result c.write.ensures.pushed ∙ c.self.invariant.0,
  knows_kept c.self.inside.keys c.write.new.keys c.self.inside.push c.write.new.push c.args.chunk c.write.result c.self.invariant.1 c.write.ensures.knows c.write.ensures.pushed,
)
