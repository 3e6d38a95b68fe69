use Rattle.wasi_causes.proofs.p3.p3_address_refusals.Goals as goal
use Rattle.wasi_causes.proofs.tables.Steps.{its_own}
use Rattle.wasi_steps.specs.declared.guest_call.GuestCall.TheVariants as guest
use Rattle.wasi_steps.specs.declared.guest_call.P3TcpCall.TheVariants as p3_tcp_call
use Rattle.wasi_steps.specs.declared.reply.Reply.TheVariants as reply
use Rattle.wasi_steps.specs.declared.step.Step.TheVariants as step

pub returns : goal.returns
returns c = record {
  local = λ contexts m line ctx handle entries word after w.
      (its_own contexts m line (step.Call ctx (guest.P3Tcp (p3_tcp_call.LocalAddress handle))) entries (reply.Err word) after w
      (λ e. cc)).1.1.0;
  local_stays = λ contexts m line ctx handle entries word after w.
      (its_own contexts m line (step.Call ctx (guest.P3Tcp (p3_tcp_call.LocalAddress handle))) entries (reply.Err word) after w
      (λ e. cc)).1.1.1;
  remote = λ contexts m line ctx handle entries word after w.
      (its_own contexts m line (step.Call ctx (guest.P3Tcp (p3_tcp_call.RemoteAddress handle))) entries (reply.Err word) after w
      (λ e. cc)).1.1.0;
  remote_stays = λ contexts m line ctx handle entries word after w.
      (its_own contexts m line (step.Call ctx (guest.P3Tcp (p3_tcp_call.RemoteAddress handle))) entries (reply.Err word) after w
      (λ e. cc)).1.1.1;
}
