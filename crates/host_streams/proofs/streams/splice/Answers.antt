use Rattle.std.proofs.Common.{refl}
use Rattle.wasi_world.proofs.Walks.{asks_then}
use Rattle.host_streams.proofs.Blocks.{call_passed}
use Rattle.host_streams.proofs.streams.splice.Goals as goal

pub returns-in_err-permit-clause-asked : goal.returns-in_err-permit-clause-asked
returns-in_err-permit-clause-asked g c =
    rw (
      c.in_ok-to.ensures.some,
      c.in_ok-from.ensures.some,
      ← c.in_ok-to.ensures.named.0,
      ← c.in_ok-from.ensures.named.0,
    ) (call_passed _ _ c.from_residual-in_err-permit.result
    c.from_residual-in_err-permit.ensures.1 c.in_err-permit.ensures.asked (λ stop. refl))

pub returns-clause-asked : goal.returns-clause-asked
returns-clause-asked g c =
    rw (
      c.in_ok-to.ensures.some,
      c.in_ok-from.ensures.some,
      ← c.in_ok-to.ensures.named.0,
      ← c.in_ok-from.ensures.named.0,
    ) (asks_then _ c.in_ok-permit.ensures.asked.ok (rw
    (c.min.ensures, c.in_ok-permit.ensures.kept.ids) at c.splice_some.ensures.asked))
