use Rattle.wasi_causes.proofs.records.what_is_not_watched_has_no_children.Goals as goal
use Rattle.wasi_causes.proofs.Children.{childless}

pub returns : goal.returns
returns c = record {
  none = λ contexts steps log replies m handle kind w is plain. childless contexts steps log replies m w handle kind is plain;
}
