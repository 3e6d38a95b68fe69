use Rattle.wasi_causes.proofs.p3_streams.slots_are_filled_once.Goals as goal
use Rattle.wasi_causes.proofs.streams.EndsClosed.{slot_fills, slot_once}

pub returns : goal.returns
returns c = record {
  fills = λ m how slot place r ended at e. slot_fills m how slot place r ended at e;
  once = λ m how slot place k r ended before at e. slot_once m how slot place r ended at k before e;
}
