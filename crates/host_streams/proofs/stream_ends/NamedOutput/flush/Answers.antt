use Rattle.host_store.specs.Views.{state_of}
use Rattle.host_streams.proofs.StreamCalls.{answered_after}
use Rattle.host_store.specs.Machine.{own_of}
use Rattle.host_streams.proofs.stream_ends.NamedOutput.flush.Goals as goal

pub returns-in-Connection-clause-asked : goal.returns-in-Connection-clause-asked
returns-in-Connection-clause-asked g c =
    rw (c.requires.named, c.in-Connection.is, c.requires.named, c.in-Connection.is)
    (answered_after (state_of c.args.view.now) (own_of c.args.ids.now.line) c.args.self.handle c.in-Connection.place
    c.flush-answer.result c.answered.result c.flush-answer.ensures.asked c.answered.ensures.asked
    c.answered.ensures.memory)
