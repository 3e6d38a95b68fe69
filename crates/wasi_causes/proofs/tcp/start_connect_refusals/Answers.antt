use Rattle.wasi_steps.specs.declared.guest_call.GuestCall.TheVariants as guest
use Rattle.wasi_steps.specs.declared.guest_call.TcpCall.TheVariants as tcp_call
use Rattle.wasi_steps.specs.declared.step.Step.TheVariants as step
use Rattle.wasi_steps.specs.declared.reply.Reply.TheVariants as reply
use Rattle.wasi_causes.proofs.tables.Steps.{its_own, while_free}
use Rattle.wasi_causes.proofs.tcp.start_connect_refusals.Goals as goal

pub returns : goal.returns
returns c = record {
  exactly = λ contexts m line ctx handle network a entries reply after free is w. (while_free contexts m line (step.Call ctx (guest.Tcp (tcp_call.StartConnect handle network a))) free entries reply after w).0 is;
  cause = λ contexts m line ctx handle network a entries word after w. (its_own contexts m line (step.Call ctx (guest.Tcp (tcp_call.StartConnect handle network a))) entries (reply.Err word) after w (λ e. cc)).1.1.0;
  stays = λ contexts m line ctx handle network a entries word after w. (its_own contexts m line (step.Call ctx (guest.Tcp (tcp_call.StartConnect handle network a))) entries (reply.Err word) after w (λ e. cc)).1.1.1;
}
