use Rattle.std.proofs.Common.{◌≡◌, [], refl}
use Rattle.wasi_world.proofs.Walks.{asks_end}
use Rattle.wasi_streams.proofs.Streams.{stream_exit}
use Rattle.wasi_tcp.proofs.Readers.{read_ended}
use Rattle.wasi_tcp.proofs.reader.ReadState.after_read.Goals as goal

pub returns-in_err-shutdown-in-Ok-Ready-clause-asked : goal.returns-in_err-shutdown-in-Ok-Ready-clause-asked
returns-in_err-shutdown-in-Ok-Ready-clause-asked g c =
    let none : c.in-Ok-Ready.bytes ≡ [] = c.if-is_empty.ensures.0 refl in
    read_ended _ _ _ _ _ c.in-Ok-Ready.is c.in-Ok-Ready.field-0-is none (stream_exit _ c.from_residual.result c.from_residual.ensures.1 c.in_err-shutdown-in-Ok-Ready.ensures.asked.err)

pub returns-then-is_empty-clause-asked : goal.returns-then-is_empty-clause-asked
returns-then-is_empty-clause-asked g c =
    let none : c.in-Ok-Ready.bytes ≡ [] = c.if-is_empty.ensures.0 refl in
    read_ended _ _ _ _ _ c.in-Ok-Ready.is c.in-Ok-Ready.field-0-is none (asks_end _ c.in_ok-shutdown-in-Ok-Ready.ensures.asked.ok refl)

pub returns-in_err-shutdown-in-Err-clause-asked : goal.returns-in_err-shutdown-in-Err-clause-asked
returns-in_err-shutdown-in-Err-clause-asked g c = rw c.in-Err.is (stream_exit _ c.from_residual-in_err-shutdown-in-Err.result c.from_residual-in_err-shutdown-in-Err.ensures.1 c.in_err-shutdown-in-Err.ensures.asked.err)

pub returns-in_ok-shutdown-in-Err-clause-asked : goal.returns-in_ok-shutdown-in-Err-clause-asked
returns-in_ok-shutdown-in-Err-clause-asked g c = rw c.in-Err.is (asks_end _ c.in_ok-shutdown-in-Err.ensures.asked.ok refl)
