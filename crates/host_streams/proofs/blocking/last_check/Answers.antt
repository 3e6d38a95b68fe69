use Rattle.std.proofs.Common.{refl}
use Rattle.wasi_world.proofs.Walks.{asks_end}
use Rattle.host_store.specs.Views.{state_of}
use Rattle.host_streams.proofs.Blocks.{call_ended, last_gives}
use Rattle.host_streams.proofs.blocking.last_check.Goals as goal

pub returns-in-Ok-eq0-clause-asked : goal.returns-in-Ok-eq0-clause-asked
returns-in-Ok-eq0-clause-asked g c = rw (c.block_as.ensures.answer, c.block_as.ensures.state, c.in-Ok-eq0.ensures.kept.ids) (asks_end _ (rw c.in-Ok-eq0.is at c.check_write.ensures.asked).ok (rw c.in-Ok-eq0.field-0-test refl))

pub returns-in-Ok-clause-asked : goal.returns-in-Ok-clause-asked
returns-in-Ok-clause-asked g c =
    asks_end _ (rw c.in-Ok.is at c.check_write.ensures.asked).ok (rw (last_gives c.args.ids.now c.args.to.handle
    c.in-Ok.field-0 (state_of c.check_write.new.view) c.in-Ok.field-0-test.1) refl)

pub returns-in-Err-clause-asked : goal.returns-in-Err-clause-asked
returns-in-Err-clause-asked g c = call_ended _ (state_of c.check_write.new.view) c.in-Err.error c.write_end.result c.write_end.ensures (rw c.in-Err.is at c.check_write.ensures.asked) (λ stop. refl)
