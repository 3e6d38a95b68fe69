use Rattle.wasi_tcp.proofs.Bounds.{poll_is_bounded, turn_is_bounded}
use Rattle.wasi_tcp.proofs.laws.write_jobs_are_bounded.Goals as goal

pub returns : goal.returns
returns c = record { poll = poll_is_bounded; turn = turn_is_bounded }
