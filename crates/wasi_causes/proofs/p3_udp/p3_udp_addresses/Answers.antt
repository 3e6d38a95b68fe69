use Rattle.wasi_causes.proofs.p3_udp.p3_udp_addresses.Goals as goal
use Rattle.wasi_steps.specs.declared.guest_call.GuestCall.TheVariants as guest
use Rattle.wasi_steps.specs.declared.guest_call.P3UdpCall.TheVariants as p3_udp_call
use Rattle.wasi_steps.specs.declared.step.Step.TheVariants as step
use Rattle.wasi_steps.specs.declared.reply.Reply.TheVariants as reply
use Rattle.wasi_causes.proofs.tables.Steps.{its_own, of_answer}
use Rattle.wasi_causes.specs.Outcomes.{Quiet}
use Rattle.wasi_causes.proofs.Words.{refl}

pub returns : goal.returns
returns c = record {
  local = λ contexts m line ctx handle entries word after w.
      (its_own contexts m line (step.Call ctx (guest.P3Udp (p3_udp_call.LocalAddress handle))) entries (reply.Err word) after w
      (λ e. cc)).1.1.0;
  local_stays = λ contexts m line ctx handle entries word after w.
      (its_own contexts m line (step.Call ctx (guest.P3Udp (p3_udp_call.LocalAddress handle))) entries (reply.Err word) after w
      (λ e. cc)).1.1.1;
  local_told = λ contexts m line ctx handle entries fields after w.
      (its_own contexts m line (step.Call ctx (guest.P3Udp (p3_udp_call.LocalAddress handle))) entries (reply.Ok fields) after w
      (λ e. cc)).1.1;
  remote = λ contexts m line ctx handle entries word after w.
      (its_own contexts m line (step.Call ctx (guest.P3Udp (p3_udp_call.RemoteAddress handle))) entries (reply.Err word) after w
      (λ e. cc)).1;
  remote_is_quiet = λ contexts m line ctx handle. of_answer contexts m line
      (step.Call ctx (guest.P3Udp (p3_udp_call.RemoteAddress handle))) (λ es r after. Quiet m es after) (refl, refl)
      (λ es r after row. row.0);
  remote_told = λ contexts m line ctx handle entries fields after w.
      (its_own contexts m line (step.Call ctx (guest.P3Udp (p3_udp_call.RemoteAddress handle))) entries (reply.Ok fields) after w
      (λ e. cc)).1.1;
}
