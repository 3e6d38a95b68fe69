use Rattle.wasi_causes.proofs.p3_datagrams.p3_udp_sends.Goals as goal
use Rattle.wasi_steps.specs.declared.guest_call.GuestCall.TheVariants as guest
use Rattle.wasi_steps.specs.declared.guest_call.P3UdpCall.TheVariants as p3_udp_call
use Rattle.wasi_steps.specs.declared.step.Step.TheVariants as step
use Rattle.wasi_steps.specs.declared.reply.Reply.TheVariants as reply
use Rattle.wasi_causes.proofs.tables.Steps.{its_own}

pub returns : goal.returns
returns c = record {
  refused = λ contexts m line ctx handle d entries word after w.
      (its_own contexts m line (step.Call ctx (guest.P3Udp (p3_udp_call.Send handle d))) entries (reply.Err word) after w
      (λ e. cc)).1.1;
  done = λ contexts m line ctx handle d entries fields after w.
      (its_own contexts m line (step.Call ctx (guest.P3Udp (p3_udp_call.Send handle d))) entries (reply.Ok fields) after w
      (λ e. cc)).1.1;
  pending = λ contexts m line ctx handle d entries number after w.
      (its_own contexts m line (step.Call ctx (guest.P3Udp (p3_udp_call.Send handle d))) entries (reply.Pending number) after w
      (λ e. cc)).1.1;
}
