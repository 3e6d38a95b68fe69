use Rattle.wasi_causes.proofs.ReceivesGo.{runs_go}
use Rattle.wasi_causes.proofs.streams.TurnPolls.{sends_told, turns_polled}
use Rattle.wasi_causes.proofs.tables.Meets.{met}
use Rattle.wasi_causes.proofs.turns.turns_poll_each_job_once.Goals as goal

pub returns : goal.returns
returns c = record {
  each = λ contexts steps log replies m line entries reply after w a.
      met {a = (reply, after)} (turns_polled contexts m line (runs_go contexts steps log replies m w) m.store.standing)
      a;
  sends = λ op entries ended its w. sends_told op its entries ended w;
}
