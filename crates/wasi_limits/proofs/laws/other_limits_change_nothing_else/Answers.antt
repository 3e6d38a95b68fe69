use Rattle.std.proofs.Common.{[]}
use Rattle.wasi_limits.proofs.Buts.{run_is, plain_alike}
use Rattle.wasi_limits.proofs.Logs.{follows}
use Rattle.wasi_limits.proofs.Runs.{runs_alike}
use Rattle.wasi_limits.specs.Runs.{NoReplies}
use Rattle.host_store.specs.Machine.{first_state}
use Rattle.wasi_limits.proofs.laws.other_limits_change_nothing_else.Goals as goal

pub returns : goal.returns
returns c = record {
  calls = λ c contexts others steps h tcp. plain_alike c contexts others h steps tcp;
  replies = λ c contexts others steps h tcp. runs_alike c contexts others h steps tcp;
  is_run = λ c contexts steps. run_is c contexts steps [] [] first_state 1 NoReplies;
  logs = λ c contexts others steps log rest h tcp w. follows log rest (plain_alike c contexts others h steps tcp) w;
}
