use Rattle.host_store.specs.BaseStops.{ends_as}
use Rattle.host_store.specs.Views.{state_of}
use Rattle.wasi_p3.proofs.Ends.{given_if, stored_goes_on, stored_stops}
use Rattle.wasi_p3.proofs.streams.send.Goals as goal

pub returns-in_err-end-clause-asked : goal.returns-in_err-end-clause-asked
returns-in_err-end-clause-asked g c =
    rw c.in_ok-place.ensures
    (stored_stops (state_of c.args.view.now) _ _ c.take_send_end.result c.from_residual-in_err-end.result c.from_residual-in_err-end.ensures.1 c.in_err-end.ensures (given_if _ (ends_as c.take_send_end.result) c.take_send_end.ensures.taken))

pub returns-clause-asked : goal.returns-clause-asked
returns-clause-asked g c =
    rw c.in_ok-place.ensures
    (stored_goes_on (state_of c.args.view.now) _ _ c.take_send_end.result c.in_ok-end.end c.in_ok-end.ensures c.take_send_end.ensures.taken (rw c.side-side.ensures at c.make_ends.ensures.asked))
