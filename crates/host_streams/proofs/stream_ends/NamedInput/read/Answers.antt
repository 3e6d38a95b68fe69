use Rattle.host_store.specs.Views.{state_of}
use Rattle.host_streams.proofs.Pipes.{plain_asks}
use Rattle.host_streams.proofs.StreamCalls.{answered_after}
use Rattle.host_store.specs.Machine.{own_of}
use Rattle.host_streams.proofs.stream_ends.NamedInput.read.Goals as goal

pub returns-in-Plain-clause-asked : goal.returns-in-Plain-clause-asked
returns-in-Plain-clause-asked g c =
    rw (c.requires.named, c.in-Plain.is) (plain_asks (state_of c.args.view.now) _ _ c.read_plain.result c.plain.result
    c.plain.ensures c.read_plain.ensures.given)

pub returns-in-Connection-clause-asked : goal.returns-in-Connection-clause-asked
returns-in-Connection-clause-asked g c =
    rw (c.requires.named, c.in-Connection.is, c.requires.named, c.in-Connection.is)
    (answered_after (state_of c.args.view.now) (own_of c.args.ids.now.line) c.args.self.handle c.in-Connection.place
    c.read-answer.result c.answered.result (rw c.own.ensures at c.read-answer.ensures.asked)
    c.answered.ensures.asked c.answered.ensures.memory)
