use Rattle.std.proofs.Common.{refl, ap}
use Rattle.wasi_world.specs.Asks.{Give}
use Rattle.wasi_world.proofs.Walks.{asks_end, reaches_all, asks_err}
use Rattle.wasi_host.specs.Polling.{poll_by, polled_each}
use Rattle.host_store.specs.Views.{state_of}
use Rattle.record_common.proofs.Hosts.{fault_on, fault_passed}
use Rattle.host_streams.proofs.Blocks.{never}
use Rattle.wasi_host.proofs.PollLists.{none_ready, some_ready}
use Rattle.wasi_host.proofs.polling.poll_by.Goals as goal

pub returns-then-len-clause-asked : goal.returns-then-len-clause-asked
returns-then-len-clause-asked g c = asks_err (poll_by c.args.look (state_of c.args.view.now) c.args.ids.now c.args.pollables) (reaches_all _ _)

pub returns-in_err-found-clause-asked : goal.returns-in_err-found-clause-asked
returns-in_err-found-clause-asked g c =
    fault_passed (λ done. Give (polled_each c.args.ids.now c.args.pollables done)) c.in_err-found.field-0.0 c.from_residual.result c.from_residual.ensures.1 (rw c.as_slice.ensures at c.in_err-found.ensures.asked) (λ stop. refl)

pub returns-in_err-places-clause-asked : goal.returns-in_err-places-clause-asked
returns-in_err-places-clause-asked g c =
    fault_on (λ done. Give (polled_each c.args.ids.now c.args.pollables done)) c.from_residual-in_err-places.result c.from_residual-in_err-places.ensures.1 (rw c.as_slice.ensures at c.in_ok-found.ensures.asked.ok)

pub returns-then-is_empty-clause-asked : goal.returns-then-is_empty-clause-asked
returns-then-is_empty-clause-asked g c =
    asks_end (λ done. Give (polled_each c.args.ids.now c.args.pollables done)) (rw c.as_slice.ensures at c.in_ok-found.ensures.asked.ok)
    (rw (c.block_as.ensures.answer, c.block_as.ensures.state) (ap Give (none_ready c.args.ids.now c.args.pollables c.in_ok-places.places _ c.in_ok-found.found (rw c.as_slice-2.ensures at c.in_ok-places.ensures) (c.is_empty.ensures.0 c.if-is_empty.true))))

pub returns-clause-asked : goal.returns-clause-asked
returns-clause-asked g c =
    asks_end (λ done. Give (polled_each c.args.ids.now c.args.pollables done)) (rw c.as_slice.ensures at c.in_ok-found.ensures.asked.ok)
    (ap Give (some_ready c.args.ids.now c.args.pollables c.in_ok-places.places _ c.in_ok-found.found (rw c.as_slice-2.ensures at c.in_ok-places.ensures) (λ e. never _ (c.is_empty.ensures.1 e) c.if-is_empty.false)))
