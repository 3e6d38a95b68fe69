use Rattle.wasi_steps.specs.declared.guest_call.GuestCall.TheVariants as guest
use Rattle.wasi_steps.specs.declared.guest_call.TcpCall.TheVariants as tcp_call
use Rattle.wasi_steps.specs.declared.step.Step.TheVariants as step
use Rattle.wasi_steps.specs.declared.reply.Reply.TheVariants as reply
use Rattle.wasi_causes.proofs.tables.Steps.{its_own}
use Rattle.wasi_causes.proofs.tcp.local_address_refusals.Goals as goal

pub returns : goal.returns
returns c = record {
  cause = λ contexts m line ctx handle entries word after w. (its_own contexts m line (step.Call ctx (guest.Tcp (tcp_call.LocalAddress handle))) entries (reply.Err word) after w (λ e. cc)).1.1.0;
  stays = λ contexts m line ctx handle entries word after w. (its_own contexts m line (step.Call ctx (guest.Tcp (tcp_call.LocalAddress handle))) entries (reply.Err word) after w (λ e. cc)).1.1.1;
}
