use Rattle.host_store.specs.Machine.{own_of}
use Rattle.host_store.specs.Views.{state_of}
use Rattle.host_streams.proofs.StreamCalls.{answer_err, answer_memory}
use Rattle.host_streams.proofs.stream_ends.answered.Goals as goal

pub returns-in-Err-clause-asked : goal.returns-in-Err-clause-asked
returns-in-Err-clause-asked g c =
    rw c.in-Err.is (answer_err (state_of c.args.view.now) (own_of c.args.ids.now.line) c.args.this c.args.place _ _ _ _
    c.in-Err.error c.convert_stream_error.result c.convert_stream_error.ensures.asked)

pub returns-in-Err-clause-memory : goal.returns-in-Err-clause-memory
returns-in-Err-clause-memory g c =
    rw c.in-Err.is (answer_memory _ _ _ _ _ c.in-Err.error c.convert_stream_error.result
    c.convert_stream_error.ensures.memory)
