use Rattle.wasi_steps.specs.declared.guest_call.GuestCall.TheVariants as guest
use Rattle.wasi_steps.specs.declared.guest_call.TcpCall.TheVariants as tcp_call
use Rattle.wasi_steps.specs.declared.step.Step.TheVariants as step
use Rattle.wasi_steps.specs.declared.reply.Reply.TheVariants as reply
use Rattle.wasi_world.specs.declared.outcome.TrapKind.TheVariants.{Full}
use Rattle.wasi_causes.proofs.tables.Steps.{its_own}
use Rattle.wasi_causes.proofs.tcp.create_full.Goals as goal

pub returns : goal.returns
returns c = record {
  full = λ contexts m line ctx family entries after w. (its_own contexts m line (step.Call ctx (guest.Tcp (tcp_call.Create family))) entries (reply.Trap Full) after w (λ e. cc)).1.2.0;
  asked = λ contexts m line ctx family entries after w. (its_own contexts m line (step.Call ctx (guest.Tcp (tcp_call.Create family))) entries (reply.Trap Full) after w (λ e. cc)).1.2.1;
  left = λ contexts m line ctx family entries after w. (its_own contexts m line (step.Call ctx (guest.Tcp (tcp_call.Create family))) entries (reply.Trap Full) after w (λ e. cc)).1.2.2;
}
