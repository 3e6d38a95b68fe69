use Rattle.wasi_causes.proofs.p3_udp.p3_udp_options_are_read_and_set.Goals as goal
use Rattle.wasi_steps.specs.declared.guest_call.GuestCall.TheVariants as guest
use Rattle.wasi_steps.specs.declared.guest_call.P3UdpCall.TheVariants as p3_udp_call
use Rattle.wasi_steps.specs.declared.step.Step.TheVariants as step
use Rattle.wasi_steps.specs.declared.reply.Reply.TheVariants as reply
use Rattle.wasi_causes.proofs.tables.Steps.{its_own}

pub returns : goal.returns
returns c = record {
  read = λ contexts m line ctx handle option entries fields after w.
      (its_own contexts m line (step.Call ctx (guest.P3Udp (p3_udp_call.Get handle option))) entries (reply.Ok fields) after w
      (λ e. cc)).1.1;
  written = λ contexts m line ctx handle setting entries fields after w.
      (its_own contexts m line (step.Call ctx (guest.P3Udp (p3_udp_call.Set handle setting))) entries (reply.Ok fields) after w
      (λ e. cc)).1.1;
}
