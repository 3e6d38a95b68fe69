use Rattle.wasi_steps.specs.declared.step.Step.TheVariants as step
use Rattle.wasi_steps.specs.declared.reply.Reply.TheVariants as reply
use Rattle.wasi_causes.proofs.Words.{refl}
use Rattle.host_store.specs.declared.store.StandingCall.TheVariants.{Blocking}
use Rattle.wasi_causes.proofs.tables.Steps.{its_own, own_free, unheld}
use Rattle.wasi_causes.proofs.blocking.polls_continue_calls_of_streams.Goals as goal

pub returns : goal.returns
returns c = record {
  goes_on = λ contexts m line ctx ids call entries reply after stands short w. (unheld contexts m line (step.Poll ids.line) (own_free contexts m line ids (Blocking call) stands) entries reply after w).0.2 ctx ids call stands refl short;
  closed = λ contexts m line n entries after w. (its_own contexts m line (step.Poll n) entries reply.Closed after w (λ e. cc)).1.1;
  failed = λ contexts m line n entries word handle after w. (its_own contexts m line (step.Poll n) entries (reply.Failed word handle) after w (λ e. cc)).1.1;
}
