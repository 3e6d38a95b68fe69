use Rattle.wasi_replay.proofs.CutTexts.{cut_text}
use Rattle.wasi_replay.proofs.laws.cut_logs_are_read.Goals as goal

pub returns : goal.returns
returns c = λ contexts log part is one. cut_text contexts log is part one
