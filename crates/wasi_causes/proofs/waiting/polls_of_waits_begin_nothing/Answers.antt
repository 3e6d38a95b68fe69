use Rattle.wasi_causes.proofs.Words.{false, refl, true}
use Rattle.host_store.specs.declared.store.BlockingCall.TheVariants as blocking
use Rattle.wasi_steps.specs.declared.step.Step.TheVariants as step
use Rattle.wasi_causes.proofs.pollables.Places.{takes_so}
use Rattle.wasi_causes.proofs.Runs.{waits_never_trap}
use Rattle.wasi_causes.proofs.pollables.Unnamed.{same_asks}
use Rattle.host_store.specs.declared.store.StandingCall.TheVariants.{Blocking}
use Rattle.wasi_causes.proofs.tables.Steps.{own_free, unheld}
use Rattle.wasi_causes.proofs.waiting.polls_of_waits_begin_nothing.Goals as goal

pub returns : goal.returns
returns c = record {
  one = λ contexts m line ctx pollable ids entries reply after stands w. (unheld contexts m line (step.Poll ids.line) (own_free contexts m line ids (Blocking (blocking.Block pollable)) stands) entries reply after w).0.2 ctx ids (blocking.Block pollable) stands refl tt;
  several = λ contexts m line pollables ids entries reply after stands w. (unheld contexts m line (step.Poll ids.line) (own_free contexts m line ids (Blocking (blocking.Poll pollables)) stands) entries reply after w).0.2 0 ids (blocking.Poll pollables) stands refl tt;
  begins = λ m ids pollable e. takes_so ids m pollable true e;
  begins_none = λ m ids pollable e. takes_so ids m pollable false e;
  asks_the_same = λ m ids part pollable e. same_asks ids part m pollable e;
  in_runs = λ contexts steps log replies m line ids call entries kind after w stands wait a. waits_never_trap contexts steps log replies m w line ids call stands wait entries kind after a;
}
