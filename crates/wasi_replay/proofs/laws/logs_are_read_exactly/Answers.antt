use Rattle.wasi_replay.proofs.LineLaws.{entry_exactly}
use Rattle.wasi_replay.proofs.LogLaws.{log_exactly}
use Rattle.wasi_replay.proofs.laws.logs_are_read_exactly.Goals as goal

pub returns : goal.returns
returns c = record { logs = log_exactly 4294967294; entries = entry_exactly }
