use Rattle.wasi_steps.specs.declared.guest_call.GuestCall.TheVariants as guest
use Rattle.wasi_steps.specs.declared.guest_call.UdpCall.TheVariants as udp_call
use Rattle.wasi_steps.specs.declared.step.Step.TheVariants as step
use Rattle.wasi_steps.specs.declared.reply.Reply.TheVariants as reply
use Rattle.wasi_causes.proofs.tables.Steps.{its_own}
use Rattle.wasi_causes.proofs.udp.udp_binds_are_checked.Goals as goal

pub returns : goal.returns
returns c = record {
  done = λ contexts m line ctx handle network a fields entries after w. (its_own contexts m line (step.Call ctx (guest.Udp (udp_call.StartBind handle network a))) entries (reply.Ok fields) after w (λ e. cc)).1.1;
  pending = λ contexts m line ctx handle network a entries number after w. (its_own contexts m line (step.Call ctx (guest.Udp (udp_call.StartBind handle network a))) entries (reply.Pending number) after w (λ e. cc)).1.1;
}
