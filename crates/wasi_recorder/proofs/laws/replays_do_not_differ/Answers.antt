use Rattle.wasi_recorder.proofs.Comparing.{not_both, once}
use Rattle.wasi_recorder.proofs.laws.replays_do_not_differ.Goals as goal

pub returns-clause-same : goal.returns-clause-same
returns-clause-same c = λ asks given recorded place w h d. not_both asks given recorded place w h d

pub returns-clause-once : goal.returns-clause-once
returns-clause-once c = λ asks recorded one other w h k. once asks recorded one other w h k
