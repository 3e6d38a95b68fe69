use Rattle.wasi_causes.proofs.p3_udp.p3_udp_creates_make_a_handle.Goals as goal
use Rattle.wasi_steps.specs.declared.guest_call.GuestCall.TheVariants as guest
use Rattle.wasi_steps.specs.declared.guest_call.P3UdpCall.TheVariants as p3_udp_call
use Rattle.wasi_steps.specs.declared.step.Step.TheVariants as step
use Rattle.wasi_steps.specs.declared.reply.Reply.TheVariants as reply
use Rattle.wasi_causes.proofs.tables.Steps.{its_own}
use Rattle.wasi_world.specs.declared.outcome.TrapKind.TheVariants.{Full}

pub returns : goal.returns
returns c = record {
  done = λ contexts m line ctx family entries fields after w.
      (its_own contexts m line (step.Call ctx (guest.P3Udp (p3_udp_call.Create family))) entries (reply.Ok fields) after w
      (λ e. cc)).1.1;
  pending = λ contexts m line ctx family entries number after w.
      (its_own contexts m line (step.Call ctx (guest.P3Udp (p3_udp_call.Create family))) entries (reply.Pending number) after w
      (λ e. cc)).1.1;
  full = λ contexts m line ctx family entries after w.
      (its_own contexts m line (step.Call ctx (guest.P3Udp (p3_udp_call.Create family))) entries (reply.Trap Full) after w
      (λ e. cc)).1.2;
}
