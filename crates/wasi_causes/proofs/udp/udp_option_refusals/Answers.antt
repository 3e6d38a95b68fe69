use Rattle.wasi_steps.specs.declared.guest_call.GuestCall.TheVariants as guest
use Rattle.wasi_steps.specs.declared.guest_call.UdpCall.TheVariants as udp_call
use Rattle.wasi_steps.specs.declared.step.Step.TheVariants as step
use Rattle.wasi_steps.specs.declared.reply.Reply.TheVariants as reply
use Rattle.std.proofs.Common.{◌≡◌, refl}
use Rattle.wasi_causes.proofs.tables.Steps.{its_own, of_answer}
use Rattle.wasi_causes.proofs.udp.udp_option_refusals.Goals as goal

pub returns : goal.returns
returns c = record {
  get = λ contexts m line ctx handle option entries word after w. (its_own contexts m line (step.Call ctx (guest.Udp (udp_call.Get handle option))) entries (reply.Err word) after w (λ e. cc)).1.1;
  get_stays = λ contexts m line ctx handle option. of_answer contexts m line (step.Call ctx (guest.Udp (udp_call.Get handle option))) (λ es r after. after ≡ m) refl (λ es r after row. row.0);
  set = λ contexts m line ctx handle setting entries word after w. (its_own contexts m line (step.Call ctx (guest.Udp (udp_call.Set handle setting))) entries (reply.Err word) after w (λ e. cc)).1.1;
  set_stays = λ contexts m line ctx handle setting. of_answer contexts m line (step.Call ctx (guest.Udp (udp_call.Set handle setting))) (λ es r after. after ≡ m) refl (λ es r after row. row.0);
}
