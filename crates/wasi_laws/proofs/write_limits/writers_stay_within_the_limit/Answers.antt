use Rattle.wasi_laws.proofs.limits.Kept.{runs_within_own}
use Rattle.wasi_laws.proofs.limits.Law.{runs_within}
use Rattle.wasi_laws.proofs.write_limits.writers_stay_within_the_limit.Goals as goal

pub returns : goal.returns
returns c = record {
  within = λ contexts steps log replies m context w. runs_within contexts steps log replies m w context;
  own = λ contexts steps log replies m n ctx numbered there w at. runs_within_own contexts numbered steps there log replies m w n ctx at;
}
