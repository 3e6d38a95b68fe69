use Rattle.std.proofs.Common.{refl}
use Rattle.wasi_host.specs.declared.pending.Outcome.TheVariants.{Bytes, Count}
use Rattle.wasi_host.specs.Pending.{nothing_given}
use Rattle.host_store.specs.Views.{state_of}
use Rattle.wasi_world.proofs.Walks.{asks_end}
use Rattle.wasi_host.proofs.Outcomes.{call_outcome_of}
use Rattle.record_common.proofs.Hosts.{host_fault}
use Rattle.wasi_host.proofs.pending.unblock.Goals as goal

pub returns-in-Read-clause-asked : goal.returns-in-Read-clause-asked
returns-in-Read-clause-asked g c = rw c.in-Read.is (call_outcome_of Bytes (state_of c.blocking_read.new.view) c.blocking_read.result c.of_bytes.ensures c.blocking_read.ensures.asked)

pub returns-in-Skip-clause-asked : goal.returns-in-Skip-clause-asked
returns-in-Skip-clause-asked g c = rw c.in-Skip.is (call_outcome_of Count (state_of c.blocking_skip.new.view) c.blocking_skip.result c.of_count.ensures c.blocking_skip.ensures.asked)

pub returns-in-Write-clause-asked : goal.returns-in-Write-clause-asked
returns-in-Write-clause-asked g c =
    rw c.in-Write.is (call_outcome_of nothing_given (state_of c.write_rest.new.view) c.write_rest.result
    c.of_nothing.ensures c.write_rest.ensures.asked)

pub returns-in-Finish-clause-asked : goal.returns-in-Finish-clause-asked
returns-in-Finish-clause-asked g c =
    rw c.in-Finish.is (call_outcome_of nothing_given (state_of c.finish_rest.new.view) c.finish_rest.result
    c.of_nothing-in-Finish.ensures c.finish_rest.ensures.asked)

pub returns-in-Flush-clause-asked : goal.returns-in-Flush-clause-asked
returns-in-Flush-clause-asked g c = rw c.in-Flush.is (call_outcome_of nothing_given (state_of c.blocking_flush.new.view) c.blocking_flush.result c.of_nothing-in-Flush.ensures c.blocking_flush.ensures.asked)

pub returns-in-Splice-clause-asked : goal.returns-in-Splice-clause-asked
returns-in-Splice-clause-asked g c = rw c.in-Splice.is (call_outcome_of Count (state_of c.blocking_splice.new.view) c.blocking_splice.result c.of_count-in-Splice.ensures c.blocking_splice.ensures.asked)

pub returns-in_err-answer-in-Block-clause-asked : goal.returns-in_err-answer-in-Block-clause-asked
returns-in_err-answer-in-Block-clause-asked g c = rw c.in-Block.is (host_fault _ _ c.from_residual.result c.from_residual.ensures.1 c.in_err-answer-in-Block.ensures.asked (λ stop. refl))

pub returns-in_ok-answer-in-Block-clause-asked : goal.returns-in_ok-answer-in-Block-clause-asked
returns-in_ok-answer-in-Block-clause-asked g c = rw c.in-Block.is (asks_end _ c.in_ok-answer-in-Block.ensures.asked.ok (rw c.of_nothing-in-Block.ensures refl))

pub returns-in_err-answer-in-Poll-clause-asked : goal.returns-in_err-answer-in-Poll-clause-asked
returns-in_err-answer-in-Poll-clause-asked g c = rw c.in-Poll.is (host_fault _ _ c.from_residual-in_err-answer-in-Poll.result c.from_residual-in_err-answer-in-Poll.ensures.1 c.in_err-answer-in-Poll.ensures.asked (λ stop. refl))

pub returns-in_ok-answer-in-Poll-clause-asked : goal.returns-in_ok-answer-in-Poll-clause-asked
returns-in_ok-answer-in-Poll-clause-asked g c = rw c.in-Poll.is (asks_end _ c.in_ok-answer-in-Poll.ensures.asked.ok (rw c.of_places.ensures refl))
