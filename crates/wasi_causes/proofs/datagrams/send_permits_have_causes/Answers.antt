use Rattle.wasi_causes.proofs.Words.{[], refl, ◌≡◌}
use Rattle.wasi_causes.proofs.datagrams.send_permits_have_causes.Goals as goal
use Rattle.wasi_causes.proofs.tables.Steps.{its_own, may_be, of_answer}
use Rattle.wasi_steps.specs.declared.reply.Reply.TheVariants as reply
use Rattle.wasi_steps.specs.declared.guest_call.GuestCall.TheVariants as guest
use Rattle.wasi_steps.specs.declared.guest_call.UdpCall.TheVariants as udp_call
use Rattle.wasi_steps.specs.declared.step.Step.TheVariants as step

pub returns : goal.returns
returns c = record {
  asks_nothing = λ contexts m line ctx outgoing entries reply after. of_answer contexts m line (step.Call ctx (guest.Udp (udp_call.CheckSend outgoing))) (λ es r after. es ≡ []) refl (λ es r after row. row.0) entries reply after;
  permit = λ contexts m line ctx outgoing fields entries after w. (its_own contexts m line (step.Call ctx (guest.Udp (udp_call.CheckSend outgoing))) entries (reply.Ok fields) after w (λ e. cc)).1.1;
  never = λ contexts m line ctx outgoing entries word after w. may_be contexts m line (step.Call ctx (guest.Udp (udp_call.CheckSend outgoing))) entries (reply.Err word) after w;
}
