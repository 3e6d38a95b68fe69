use Rattle.std.proofs.Common.{refl}
use Rattle.wasi_world.proofs.Walks.{asks_end}
use Rattle.host_store.specs.Views.{state_of}
use Rattle.host_streams.proofs.Blocks.{look_failed}
use Rattle.host_streams.proofs.stream_ends.NamedInput.is_ready.Goals as goal

pub returns-in_err-ready-in-Connection-clause-asked : goal.returns-in_err-ready-in-Connection-clause-asked
returns-in_err-ready-in-Connection-clause-asked g c =
    rw (c.requires.named, c.in-Connection.is, c.requires.named, c.in-Connection.is)
    (look_failed (state_of c.args.view.now) c.in_err-ready-in-Connection.field-0.0 c.from_residual.result
    c.from_residual.ensures.1 (rw c.own.ensures at c.in_err-ready-in-Connection.ensures.asked))

pub returns-in_ok-ready-in-Connection-clause-asked : goal.returns-in_ok-ready-in-Connection-clause-asked
returns-in_ok-ready-in-Connection-clause-asked g c =
    rw (c.requires.named, c.in-Connection.is, c.requires.named, c.in-Connection.is) (asks_end _
    (rw c.own.ensures at c.in_ok-ready-in-Connection.ensures.asked).ok refl)
