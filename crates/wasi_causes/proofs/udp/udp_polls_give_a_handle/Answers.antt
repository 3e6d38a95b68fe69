use Rattle.wasi_steps.specs.declared.step.Step.TheVariants as step
use Rattle.wasi_steps.specs.declared.reply.Reply.TheVariants as reply
use Rattle.wasi_world.specs.declared.outcome.TrapKind.TheVariants.{Full}
use Rattle.wasi_causes.proofs.tables.Steps.{its_own}
use Rattle.wasi_causes.proofs.udp.udp_polls_give_a_handle.Goals as goal

pub returns : goal.returns
returns c = record {
  done = λ contexts m line n fields entries after w. (its_own contexts m line (step.Poll n) entries (reply.Ok fields) after w (λ e. cc)).1.1;
  none = λ contexts m line n entries word after w. (its_own contexts m line (step.Poll n) entries (reply.Err word) after w (λ e. cc)).1.1.1;
  full = λ contexts m line n entries after w. (its_own contexts m line (step.Poll n) entries (reply.Trap Full) after w (λ e. cc)).1.2;
}
