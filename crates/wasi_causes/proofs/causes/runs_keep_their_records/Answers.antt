use Rattle.wasi_causes.proofs.Runs.{runs_have_inputs, runs_have_records, runs_miss_no_record, runs_stand_on_records, runs_may_finish, runs_listen_late}
use Rattle.wasi_causes.proofs.Watching.{runs_have_what_is_watched}
use Rattle.wasi_causes.proofs.causes.runs_keep_their_records.Goals as goal

pub returns : goal.returns
returns c = record {
  handles = λ contexts steps log replies m handle kind w. runs_have_records contexts steps log replies m w handle kind;
  missing = λ contexts steps log replies m handle w. runs_miss_no_record contexts steps log replies m w handle;
  inputs = λ contexts steps log replies m handle w. runs_have_inputs contexts steps log replies m w handle;
  pollables = λ contexts steps log replies m pollable w. runs_have_what_is_watched contexts steps log replies m w pollable;
  stands = λ contexts steps log replies m number w. runs_stand_on_records contexts steps log replies m w number;
  connects = λ contexts steps log replies m place r w. runs_may_finish contexts steps log replies m w place r;
  listens = λ contexts steps log replies m place r w. runs_listen_late contexts steps log replies m w place r;
}
