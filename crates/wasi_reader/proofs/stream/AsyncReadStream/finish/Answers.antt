use Rattle.std.proofs.Common.{subst}
use Rattle.wasi_spawn.specs.Handles.{started_with}
use Rattle.wasi_reader.specs.Stream.{ReadStream, HasFinished}
use Rattle.wasi_reader.proofs.Finished.{finished}
use Rattle.wasi_reader.proofs.stream.AsyncReadStream.finish.Goals as goal

pub returns-clause-finished : goal.returns-clause-finished
returns-clause-finished g c = let F : ReadStream → Type 0 = λ s. HasFinished s (g.S.Source.reading c.join-source.result.source) c.outcome_of.result in
    subst F c.self.view_is (finished _ c.self.inside.pop c.self.inside.keys c.stop.new.keys c.self.inside.rest c.self.inside.closed (g.S.Source.reading (started_with c.self.inside.handle).source) _ _ _ _
    c.outcome_of.ensures c.self.invariant c.stop.ensures c.join-source.ensures.given c.join-source.result.at c.join-source.result.side.counted c.settle.ensures.knows c.settle.ensures.chunks)
