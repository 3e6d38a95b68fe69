use Rattle.wasi_causes.proofs.p3.p3_options_are_read_and_set.Goals as goal
use Rattle.wasi_causes.proofs.tables.Steps.{its_own}
use Rattle.wasi_steps.specs.declared.guest_call.GuestCall.TheVariants as guest
use Rattle.wasi_steps.specs.declared.guest_call.P3TcpCall.TheVariants as p3_tcp_call
use Rattle.wasi_steps.specs.declared.reply.Reply.TheVariants as reply
use Rattle.wasi_steps.specs.declared.step.Step.TheVariants as step

pub returns : goal.returns
returns c = record {
  read = λ contexts m line ctx handle option fields entries after w.
      (its_own contexts m line (step.Call ctx (guest.P3Tcp (p3_tcp_call.Get handle option))) entries (reply.Ok fields) after w
      (λ e. cc)).1.1;
  nothing = λ contexts m line ctx handle setting fields entries after w.
      (its_own contexts m line (step.Call ctx (guest.P3Tcp (p3_tcp_call.Set handle setting))) entries (reply.Ok fields) after w
      (λ e. cc)).1.1.0;
  written = λ contexts m line ctx handle setting fields entries after w.
      (its_own contexts m line (step.Call ctx (guest.P3Tcp (p3_tcp_call.Set handle setting))) entries (reply.Ok fields) after w
      (λ e. cc)).1.1.1;
}
