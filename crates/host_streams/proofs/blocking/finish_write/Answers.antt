use Rattle.std.proofs.Common.{refl}
use Rattle.wasi_world.proofs.Walks.{asks_then}
use Rattle.host_store.specs.Views.{state_of}
use Rattle.host_streams.proofs.Blocks.{call_ended}
use Rattle.host_streams.proofs.blocking.finish_write.Goals as goal

pub returns-in-Ok-clause-asked : goal.returns-in-Ok-clause-asked
returns-in-Ok-clause-asked g c = asks_then _ (rw c.in-Ok.is at c.flush.ensures.asked).ok (rw c.in-Ok.ensures.kept.ids at c.last_check.ensures.asked)

pub returns-in-Err-clause-asked : goal.returns-in-Err-clause-asked
returns-in-Err-clause-asked g c = call_ended _ (state_of c.flush.new.view) c.in-Err.error c.write_end.result c.write_end.ensures (rw c.in-Err.is at c.flush.ensures.asked) (λ stop. refl)
