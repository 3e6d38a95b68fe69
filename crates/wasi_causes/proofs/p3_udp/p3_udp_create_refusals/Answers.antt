use Rattle.wasi_causes.proofs.p3_udp.p3_udp_create_refusals.Goals as goal
use Rattle.wasi_steps.specs.declared.guest_call.GuestCall.TheVariants as guest
use Rattle.wasi_steps.specs.declared.guest_call.P3UdpCall.TheVariants as p3_udp_call
use Rattle.wasi_steps.specs.declared.step.Step.TheVariants as step
use Rattle.wasi_steps.specs.declared.reply.Reply.TheVariants as reply
use Rattle.wasi_causes.proofs.tables.Steps.{its_own}

pub returns : goal.returns
returns c = record {
  cause = λ contexts m line ctx family entries word after w.
      (its_own contexts m line (step.Call ctx (guest.P3Udp (p3_udp_call.Create family))) entries (reply.Err word) after w
      (λ e. cc)).1.1;
}
