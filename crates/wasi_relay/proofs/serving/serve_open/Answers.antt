use Rattle.std.proofs.Common.{rules, arith, ◌<◌, length, slice_index_or}
use Rattle.std.proofs.lemmas.List.{drop_all}
use Rattle.wasi_relay.proofs.Each.{each_first, each_keeps, each_last, each_next, each_stops, it_is, reached, within}
use Rattle.wasi_relay.proofs.serving.serve_open.Goals as goal

pub loop-place-init : goal.loop-place-init
loop-place-init g c = each_first c.args.pairs.now c.args.places.now c.requires

pub slice_copy_out-pair : goal.slice_copy_out-pair
slice_copy_out-pair g c = within c.args.places.now c.loop-place.place-index c.loop-place-test.true c.loop-place.invariant

pub bounds-pairs-place : goal.bounds-pairs-place
bounds-pairs-place g c = within c.args.places.now c.loop-place.place-index c.loop-place-test.true c.loop-place.invariant

pub offset_bounds-pairs-place : goal.offset_bounds-pairs-place
offset_bounds-pairs-place g c =
    let there : slice_index_or c.args.places.now c.loop-place.place-index 0 < length c.loop-place.pairs = within c.args.places.now c.loop-place.place-index c.loop-place-test.true c.loop-place.invariant in
    search rules

pub offset_bounds-pairs-place-in-loop-place : goal.offset_bounds-pairs-place-in-loop-place
offset_bounds-pairs-place-in-loop-place g c =
    let there : slice_index_or c.args.places.now c.loop-place.place-index 0 < length c.loop-place.pairs = within c.args.places.now c.loop-place.place-index c.loop-place-test.true c.loop-place.invariant in
    search rules

pub loop-place-preserved : goal.loop-place-preserved
loop-place-preserved g c =
    let at = reached c.args.places.now c.loop-place.place-index c.loop-place-test.true c.loop-place.invariant in
    each_next at c.in_ok-served.served (rw (it_is at _) at c.in_ok-served.ensures)

pub returns-in_err-served-clause-went : goal.returns-in_err-served-clause-went
returns-in_err-served-clause-went g c =
    let at = reached c.args.places.now c.loop-place.place-index c.loop-place-test.true c.loop-place.invariant in
    each_stops at _ c.from_residual.result c.from_residual.ensures.0 (rw (it_is at _) at c.in_err-served.ensures)

pub returns-in_err-served-clause-open : goal.returns-in_err-served-clause-open
returns-in_err-served-clause-open g c = rw c.requires (each_keeps c.loop-place.invariant)

pub returns-clause-went : goal.returns-clause-went
returns-clause-went g c = each_last (drop_all c.loop-place.place-index c.args.places.now (omega arith)) c.loop-place.invariant

pub returns-clause-open : goal.returns-clause-open
returns-clause-open g c = rw c.requires (each_keeps c.loop-place.invariant)
