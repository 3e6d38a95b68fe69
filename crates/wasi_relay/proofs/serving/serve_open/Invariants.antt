use Rattle.std.proofs.Common.{drop}
use Rattle.wasi_relay.proofs.Each.{EachServed}
use Rattle.wasi_relay.proofs.serving.serve_open.Given as goal

abbrev pub invariant-loop-place : goal.invariant-loop-place
invariant-loop-place g l = EachServed l.initial.pairs l.pairs (drop l.place-index l.places) l.initial.session l.session
