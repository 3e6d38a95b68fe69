use Rattle.wasi_causes.proofs.ListensClosed.{begins_closed, cancels_closed, fails_closed}
use Rattle.wasi_causes.proofs.listens.listens_leave_a_closed_socket.Goals as goal

pub returns : goal.returns
returns c = record {
  begins = λ contexts steps log replies m place r w. begins_closed contexts steps log replies m w place r;
  fails = λ contexts steps log replies m line place marks ids entries word after w. fails_closed contexts steps log replies m w line place marks ids entries word after;
  cancelled = λ contexts steps log replies m line place marks ids fields entries after w stands. cancels_closed contexts steps log replies m w line place marks ids entries fields after stands;
}
