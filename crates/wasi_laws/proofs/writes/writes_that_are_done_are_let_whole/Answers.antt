use Rattle.wasi_laws.proofs.permits.Replied.{its_let, none_let, write_front}
use Rattle.wasi_laws.proofs.writes.writes_that_are_done_are_let_whole.Goals as goal

pub returns : goal.returns
returns c = record {
  done = λ contexts steps log replies m line ctx output bytes side entries fields after w its a. its_let contexts steps log replies m w line ctx output bytes side its entries fields after a;
  others = λ contexts steps log replies m line ctx output bytes side entries w n. none_let contexts steps log replies m w line ctx output bytes side entries n;
  front = λ m line ctx output bytes side entries. write_front m side line ctx output bytes entries;
}
