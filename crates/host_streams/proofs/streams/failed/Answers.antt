use Rattle.host_store.specs.Machine.{own_of}
use Rattle.host_store.specs.Views.{state_of}
use Rattle.host_streams.proofs.StreamCalls.{made_failed}
use Rattle.host_streams.proofs.streams.failed.Goals as goal

pub returns-clause-asked : goal.returns-clause-asked
returns-clause-asked g c =
    rw c.failed_with.ensures (made_failed (state_of c.args.view.now) (own_of c.args.ids.now.line) c.args.this
    c.args.place c.args.code c.make-made.result c.side-side.ensures (rw c.own.ensures at c.make-made.ensures.asked))
