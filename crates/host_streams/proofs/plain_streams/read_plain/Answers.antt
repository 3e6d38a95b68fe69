use Rattle.std.proofs.Common.{◌∙◌}
use Rattle.wasi_streams.specs.StreamStop.{stream_outcome}
use Rattle.host_store.specs.Store.{Records}
use Rattle.host_streams.proofs.Pipes.{input_back, knows_input, on_err}
use Rattle.host_store.specs.declared.store.Store.TheView.{view}
use Rattle.host_streams.proofs.plain_streams.read_plain.Goals as goal

pub returns-clause-memory : goal.returns-clause-memory
returns-clause-memory c =
    let store : Records = view c.store.inside in
    on_err (stream_outcome c.read_octets.result) (λ same. input_back store c.in-Pipe.place c.in-Some.pipe c.read_octets.new.self c.in-Some.ensures.item same ∙ c.store.view_is) c.read_octets.ensures.memory

pub returns-clause-sides : goal.returns-clause-sides
returns-clause-sides c = λ s k.
    let store : Records = view c.store.inside in
    knows_input store c.in-Pipe.place c.in-Some.pipe _ c.in-Some.ensures.item (rw (← c.store.view_is) at k)
