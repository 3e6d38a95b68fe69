use Rattle.std.proofs.Common.{refl}
use Rattle.wasi_world.proofs.Walks.{asks_end}
use Rattle.host_streams.proofs.Blocks.{call_passed}
use Rattle.host_streams.proofs.stream_ends.NamedInput.skip.Goals as goal

pub returns-in_err-bytes-clause-asked : goal.returns-in_err-bytes-clause-asked
returns-in_err-bytes-clause-asked g c =
    call_passed _ _ c.from_residual.result c.from_residual.ensures.1 c.in_err-bytes.ensures.asked (λ stop. refl)

pub returns-clause-asked : goal.returns-clause-asked
returns-clause-asked g c = asks_end _ c.in_ok-bytes.ensures.asked.ok (rw c.len.ensures refl)
