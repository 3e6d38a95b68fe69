use Rattle.wasi_laws.proofs.sockets.Law.{runs_open, nothing_follows}
use Rattle.wasi_laws.proofs.sockets_are_asked_while_open.Goals as goal

pub returns : goal.returns
returns c = record {
  asked = runs_open;
  ends = λ contexts steps log rest before op side told after e w cut has s. nothing_follows log (runs_open contexts steps log rest w) before op side told after e cut has s;
}
