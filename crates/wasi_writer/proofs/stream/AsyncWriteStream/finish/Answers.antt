use Rattle.std.proofs.Common.{◌∙◌, ap, subst, not, ◌||◌}
use Rattle.wasi_writer.specs.Knows.{OwnerKnows}
use Rattle.wasi_writer.specs.Stream.{WriteStream, HasFinished}
use Rattle.wasi_writer.proofs.Ends.{finished}
use Rattle.wasi_writer.proofs.stream.AsyncWriteStream.finish.Goals as goal

pub returns-clause-finished : goal.returns-clause-finished
returns-clause-finished g c =
    let knows = c.close-cancelled.ensures.knows in
    let F : WriteStream → Type 0 = λ s. HasFinished s (g.K.Sink.writing c.join-sink.result.sink) c.outcome_of.result in
    subst F c.self.view_is (finished _ _ c.outcome_of.ensures c.join-sink.result.met c.close-cancelled.ensures.was
    c.join-sink.ensures.given
    (ap (λ (k : OwnerKnows). k.told) knows)
    (ap (λ (k : OwnerKnows). k.flush) knows)
    (ap (λ (k : OwnerKnows). k.done) knows ∙ ap (λ d. not c.self.inside.keys.stopped || d) (ap (λ (k : OwnerKnows). k.done) c.self.invariant.1))
    c.settle.ensures.knows c.settle.ensures.chunks)
