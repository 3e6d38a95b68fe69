use Rattle.wasi_causes.proofs.p3_listens.polls_of_p3_listens.Goals as goal
use Rattle.wasi_causes.proofs.sockets.P3ListenPolls.{listen_polled_so}
use Rattle.wasi_causes.proofs.Runs.{listens_polled_in_runs}

pub returns : goal.returns
returns c = record {
  polled = λ contexts m line place handle ids r op entries reply after stands names at is its w.
      listen_polled_so contexts m line ids place handle stands names r at op is its entries reply after w;
  in_runs = λ contexts steps log replies m line place handle ids r op entries reply after ran stands at is w.
      listens_polled_in_runs contexts steps log replies m ran line place handle ids r op entries reply after stands at is w;
}
