use Rattle.wasi_streams.specs.StreamStop.{stream_outcome}
use Rattle.wasi_world.proofs.Walks.{asks_answered}
use Rattle.wasi_tcp.specs.Waiting.{is_told}
use Rattle.wasi_tcp.proofs.Writers.{none_asked}
use Rattle.wasi_tcp.proofs.streams.WriteStatePollable.poll_ready.Goals as goal

pub returns-clause-asked : goal.returns-clause-asked
returns-clause-asked g c = asks_answered is_told (stream_outcome c.poll_ready.result) c.told.result c.poll_ready.ensures.asked c.told.ensures.told

pub returns-clause-unasked : goal.returns-clause-unasked
returns-clause-unasked g c = none_asked _ c.told.result (stream_outcome c.poll_ready.result) c.told.ensures.memory c.poll_ready.ensures.err
