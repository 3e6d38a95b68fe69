use Rattle.wasi_causes.proofs.NamedRecords.{calls_name, handles_name, jobs_name}
use Rattle.wasi_causes.proofs.records.what_is_given_back_has_no_name.Goals as goal

pub returns : goal.returns
returns c = record {
  handles = λ contexts steps log replies m handle place kind w. handles_name contexts steps log replies m w handle place kind;
  calls = λ contexts steps log replies m place s w. calls_name contexts steps log replies m w s place;
  jobs = λ contexts steps log replies m job w. jobs_name contexts steps log replies m w job;
}
