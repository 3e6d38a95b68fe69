use Rattle.wasi_steps.specs.declared.guest_call.GuestCall.TheVariants as guest
use Rattle.wasi_steps.specs.declared.guest_call.UdpCall.TheVariants as udp_call
use Rattle.wasi_steps.specs.declared.step.Step.TheVariants as step
use Rattle.wasi_steps.specs.declared.reply.Reply.TheVariants as reply
use Rattle.wasi_world.specs.declared.outcome.TrapKind.TheVariants.{Full}
use Rattle.wasi_causes.proofs.tables.Steps.{its_own}
use Rattle.wasi_causes.proofs.udp.udp_creates_make_a_handle.Goals as goal

pub returns : goal.returns
returns c = record {
  done = λ contexts m line ctx family fields entries after w. (its_own contexts m line (step.Call ctx (guest.Udp (udp_call.Create family))) entries (reply.Ok fields) after w (λ e. cc)).1.1;
  pending = λ contexts m line ctx family entries number after w. (its_own contexts m line (step.Call ctx (guest.Udp (udp_call.Create family))) entries (reply.Pending number) after w (λ e. cc)).1.1;
  full = λ contexts m line ctx family entries after w. (its_own contexts m line (step.Call ctx (guest.Udp (udp_call.Create family))) entries (reply.Trap Full) after w (λ e. cc)).1.2.0;
  asked = λ contexts m line ctx family entries after w. (its_own contexts m line (step.Call ctx (guest.Udp (udp_call.Create family))) entries (reply.Trap Full) after w (λ e. cc)).1.2.1;
  left = λ contexts m line ctx family entries after w. (its_own contexts m line (step.Call ctx (guest.Udp (udp_call.Create family))) entries (reply.Trap Full) after w (λ e. cc)).1.2.2;
}
