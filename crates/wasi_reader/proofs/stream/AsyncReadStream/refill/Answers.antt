use Rattle.std.proofs.Common.{subst, ◌∙◌, ap}
use Rattle.wasi_spawn.specs.Handles.{started_with}
use Rattle.wasi_reader.specs.Stream.{ReadStream, Refilled}
use Rattle.wasi_reader.proofs.Handed.{stream_of, owned_chunk, refilled}
use Rattle.wasi_reader.proofs.stream.AsyncReadStream.refill.Goals as goal

pub invariant_of-self : goal.invariant_of-self
invariant_of-self g c = let took = c.in-Chunk.ensures in
    owned_chunk _ _ _ _ _ _ _ _ c.self.invariant (ap (λ (s : ReadStream). s.kept) c.self.view_is ∙ c.requires) c.if-self.false took.1 took.0

pub returns-in-Chunk-clause-ok : goal.returns-in-Chunk-clause-ok
returns-in-Chunk-clause-ok g c = let took = c.in-Chunk.ensures in
    let began = g.S.Source.reading (started_with c.self.inside.handle).source in
    let F : ReadStream → Type 0 = λ s. Refilled s (stream_of began c.take.new.pop c.take.new.keys c.in-Chunk.chunk c.self.inside.closed) in
    subst F c.self.view_is (refilled _ _ _ _ _ _ _ _ began c.self.invariant (ap (λ (s : ReadStream). s.kept) c.self.view_is ∙ c.requires) took.1 took.0 took.2)
