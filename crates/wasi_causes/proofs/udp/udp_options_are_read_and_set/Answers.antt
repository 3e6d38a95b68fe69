use Rattle.wasi_steps.specs.declared.guest_call.GuestCall.TheVariants as guest
use Rattle.wasi_steps.specs.declared.guest_call.UdpCall.TheVariants as udp_call
use Rattle.wasi_steps.specs.declared.step.Step.TheVariants as step
use Rattle.wasi_steps.specs.declared.reply.Reply.TheVariants as reply
use Rattle.wasi_causes.proofs.tables.Steps.{its_own}
use Rattle.wasi_causes.proofs.udp.udp_options_are_read_and_set.Goals as goal

pub returns : goal.returns
returns c = record {
  read = λ contexts m line ctx handle option fields entries after w. (its_own contexts m line (step.Call ctx (guest.Udp (udp_call.Get handle option))) entries (reply.Ok fields) after w (λ e. cc)).1.1;
  written = λ contexts m line ctx handle setting fields entries after w. (its_own contexts m line (step.Call ctx (guest.Udp (udp_call.Set handle setting))) entries (reply.Ok fields) after w (λ e. cc)).1.1;
}
