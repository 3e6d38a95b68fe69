use Rattle.std.proofs.Common.{◌+◌, length}
use Rattle.wasi_laws.proofs.permits.Marked.{writes_to}
use Rattle.wasi_laws.proofs.permits.Runs.{runs_take_all}
use Rattle.wasi_laws.proofs.writes.permits_of_marked_outputs_mean_all_is_taken.Goals as goal

pub returns : goal.returns
returns c = λ contexts side steps log permitted replies m ctx output n entries after did w its a some.
    runs_take_all contexts side steps log permitted m ctx output n entries after did (writes_to contexts steps log replies m w output side its (1 + length steps) ctx n entries after a some) a some
