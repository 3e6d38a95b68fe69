use Rattle.wasi_relay.specs.Turns.{course_of}
use Rattle.wasi_relay.proofs.Relaying.{relays, closes}
use Rattle.wasi_relay.proofs.service.relay.Goals as goal

pub returns-clause-went : goal.returns-clause-went
returns-clause-went g c =
    rw c.into_vec.ensures (relays c.args.order c.args.contexts.items (course_of c.serve-end.new.at) c.new-session.ensures.contexts c.new-session.ensures.did c.finish.ensures.quiet c.serve-end.result c.serve-end.ensures)

pub returns-clause-closed : goal.returns-clause-closed
returns-clause-closed g c =
    closes c.args.order c.args.contexts.items (course_of c.serve-end.new.at) c.new-session.ensures.contexts c.new-session.ensures.did c.finish.ensures.quiet c.serve-end.result c.serve-end.ensures c.finish.ensures.closed
